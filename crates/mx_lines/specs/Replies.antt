-- What is replied: JSON objects, and their texts. Ours.
use Rattle.std.specs.Prelude.{ℕ, pos, List, [], ◌∷◌, ◌++◌, map, codes, Option, None, Some}
use Rattle.std.specs.Cmp.Lexicographic.{slice_cmp}
use Rattle.std.specs.FinMap.{FinMap, entries, from_entries}
use Rattle.std.specs.List.{filter_map}
use Rattle.std.specs.Ordering.{nat_cmp}
use Rattle.mx_json.specs.declared.value.Json.{Json, Whole, Text, Object}
use Rattle.mx_json.specs.Canonical.{canonical}
use Rattle.mx_rows.specs.declared.counts.Counts.{Counts}
use Rattle.mx_rows.specs.declared.thread_key.ThreadKey.{ThreadKey}
use Rattle.mx_rows.specs.declared.thread_key.ThreadKey.TheVariants.{Main, Root}
use Rattle.mx_records.specs.declared.refusal.Refusal.{Refusal}
use Rattle.mx_records.specs.declared.refusal.Refusal.TheVariants.{NotLocal, KnownEvent, UnknownEvent, NotInThread}
use Rattle.mx_records.specs.declared.refusal.Refusal.TheVariants.{RuleReserved, BadRule, RuleUnknown, AnchorUnknown}
use Rattle.mx_records.specs.declared.refusal.Refusal.TheVariants.{RulesFull, EntryTooLong, Full}
use Rattle.mx_records.specs.FieldNames.{field_of_part, name_of}
use Rattle.mx_records.specs.Refusing.{most_inputs, NamesAPosition}
use Rattle.mx_lines.specs.declared.command.Denial.{Denial}
use Rattle.mx_lines.specs.declared.command.Denial.TheVariants.{TooLong, Line, Input}
use Rattle.mx_lines.specs.declared.command.LineRefusal.{LineRefusal}
use Rattle.mx_lines.specs.declared.command.LineRefusal.TheVariants.{BadLine, NotWhole, BadField, NotBuilt}

-- The text of a reply, without its line feed: `= ` and the canonical text of its object.
unfoldable pub reply_text : Json → List ℕ
reply_text value = codes "= " ++ canonical value

-- an object of these members
abbrev pub object_of : List (List ℕ × Json) → Json
object_of members = Object record { pairs = members }

-- a number that isn't negative
abbrev pub number_of : ℕ → Json
number_of n = Whole (pos n)

-- the input at this position was accepted
unfoldable pub ok_value : ℕ → Json
ok_value position = object_of ((codes "ok", number_of position) ∷ [])

-- ---- refusals

-- the name of a refusal, and what is told beside it
abbrev pub error_value : List ℕ → List (List ℕ × Json) → Json
error_value name beside = object_of ((codes "error", Text name) ∷ beside)

-- why a line has no command
abbrev pub line_refusal_value : LineRefusal → Json
line_refusal_value BadLine = error_value (codes "BadLine") []
line_refusal_value NotWhole = error_value (codes "NotWhole") []
line_refusal_value (BadField field) =
    error_value (codes "BadField") ((codes "field", Text (name_of field)) ∷ [])
line_refusal_value NotBuilt = error_value (codes "NotBuilt") []

-- why a history refuses what a line asks for
abbrev pub refusal_value : Refusal → Json
refusal_value NotLocal = error_value (codes "NotLocal") []
refusal_value (KnownEvent position) =
    error_value (codes "KnownEvent") ((codes "position", number_of position) ∷ [])
refusal_value UnknownEvent = error_value (codes "UnknownEvent") []
refusal_value NotInThread = error_value (codes "NotInThread") []
refusal_value RuleReserved = error_value (codes "RuleReserved") []
refusal_value (BadRule part) =
    error_value (codes "BadRule") ((codes "part", Text (name_of (field_of_part part))) ∷ [])
refusal_value RuleUnknown = error_value (codes "RuleUnknown") []
refusal_value AnchorUnknown = error_value (codes "AnchorUnknown") []
refusal_value RulesFull =
    error_value (codes "RulesFull") ((codes "limit", number_of 1000) ∷ [])
refusal_value EntryTooLong = error_value (codes "EntryTooLong") []
refusal_value Full = error_value (codes "Full") ((codes "limit", number_of most_inputs) ∷ [])

-- why a line is refused
unfoldable pub denied_value : Denial → Json
denied_value TooLong = error_value (codes "LineTooLong") []
denied_value (Line refusal) = line_refusal_value refusal
denied_value (Input refusal) = refusal_value refusal

-- a number that a refusal names is a position
abbrev pub NamesInRange : Denial → Type 0
NamesInRange TooLong = Unit {0}
NamesInRange (Line refusal) = Unit {0}
NamesInRange (Input refusal) = NamesAPosition refusal

-- ---- counts

-- the two numbers
abbrev pub numbers_of : Counts → List (List ℕ × Json)
numbers_of counts =
    (codes "highlight_count", number_of counts.highlight)
    ∷ (codes "notification_count", number_of counts.notify) ∷ []

-- the counts as an object
abbrev pub counts_value : Counts → Json
counts_value counts = object_of (numbers_of counts)

-- the counts of a thread by its root's id; the main thread has no root
abbrev pub under_root : (ThreadKey → Counts) → ThreadKey → Option (List ℕ × Counts)
under_root counts Main = None
under_root counts (Root id) = Some (id, counts (Root id))

-- the counts of each of these threads that has a root, by the root's id
abbrev pub by_root : (ThreadKey → Counts) → List ThreadKey → FinMap (slice_cmp nat_cmp) Counts
by_root counts threads = from_entries (filter_map (under_root counts) threads)

-- the counts under a root's id
abbrev pub root_member : List ℕ × Counts → List ℕ × Json
root_member entry = (entry.0, counts_value entry.1)

-- the counts under each root's id, the ids rising
abbrev pub roots_value : FinMap (slice_cmp nat_cmp) Counts → Json
roots_value roots = object_of (map root_member (entries roots))

-- The counts thread by thread: the numbers of the main thread, and under `threads` those of each
-- other one of these threads.
abbrev pub by_thread : (ThreadKey → Counts) → List ThreadKey → Json
by_thread counts threads =
    object_of
    (numbers_of (counts Main) ++ (codes "threads", roots_value (by_root counts threads)) ∷ [])
