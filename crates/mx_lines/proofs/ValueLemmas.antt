-- What is replied is a valid value.
use Rattle.std.proofs.Common.{◌≡◌, ℕ, ◌≤◌, pos, Bool, true, false, List, [], ◌∷◌, ◌++◌, codes, refl, ap, ap₂, ◌∙◌}
use Rattle.std.proofs.Common.{arith, rules}
use Rattle.std.proofs.lemmas.Bool.{and_from, le-leb}
use Rattle.mx_json.specs.declared.value.Json.{Json, Text, Object, the_lemmas}
use Rattle.mx_json.specs.declared.value.JsonObject.{JsonObject}
use Rattle.mx_json.specs.Json.{depth_of, is_valid, is_whole, largest_whole}
use Rattle.mx_json.proofs.JsonLemmas.{depth_of-Object}
use Rattle.mx_json.proofs.ObjectLemmas.{is_ascii, is_fit, is_fit-Whole, is_fit-Text, is_fit_from, is_utf8-ascii}
use Rattle.mx_json.proofs.ObjectLemmas.{is_valid-Object}
use Rattle.mx_records.specs.FieldNames.{field_of_part, name_of}
use Rattle.mx_records.specs.Refusing.{most_inputs, NamesAPosition}
use Rattle.mx_rows.specs.declared.counts.Counts.{Counts}
use Rattle.mx_records.specs.declared.field_name.FieldName.{FieldName}
use Rattle.mx_records.specs.declared.field_name.FieldName.TheVariants.{Cmd}
use Rattle.mx_records.specs.declared.refusal.Refusal.{Refusal}
use Rattle.mx_records.specs.declared.refusal.Refusal.TheVariants.{NotLocal, KnownEvent, UnknownEvent, NotInThread}
use Rattle.mx_records.specs.declared.refusal.Refusal.TheVariants.{RuleReserved, BadRule, RuleUnknown, AnchorUnknown}
use Rattle.mx_records.specs.declared.refusal.Refusal.TheVariants.{RulesFull, EntryTooLong, Full}
use Rattle.mx_lines.specs.declared.command.Denial.{Denial}
use Rattle.mx_lines.specs.declared.command.Denial.TheVariants.{TooLong, Line, Input}
use Rattle.mx_lines.specs.declared.command.LineRefusal.{LineRefusal}
use Rattle.mx_lines.specs.declared.command.LineRefusal.TheVariants.{BadLine, NotWhole, BadField, NotBuilt}
use Rattle.mx_lines.specs.Replies.{object_of, number_of, ok_value, error_value, line_refusal_value, refusal_value}
use Rattle.mx_lines.specs.Replies.{denied_value, numbers_of, counts_value, NamesInRange}

-- the object of these members
abbrev members_of : List (List ℕ × Json) → JsonObject
members_of members = record { pairs = members }

-- an object is told by its members
pub object_from : {members : List (List ℕ × Json)} (object : JsonObject) → object.pairs ≡ members
    → Object object ≡ object_of members
object_from object is = ap object_of is

whole : (n : ℕ) → n ≤ largest_whole → is_whole (pos n) ≡ true
whole n within = le-leb n largest_whole within

-- a number under a key
fit_number : (key : List ℕ) (n : ℕ) → is_ascii key ≡ true → n ≤ largest_whole → is_fit (key, number_of n) ≡ true
fit_number key n ascii within = is_fit-Whole key (pos n) (is_utf8-ascii key ascii) (whole n within)

-- a text under a key
fit_text : (key text : List ℕ) → is_ascii key ≡ true → is_ascii text ≡ true → is_fit (key, Text text) ≡ true
fit_text key text ascii text_ascii = is_fit-Text key text (is_utf8-ascii key ascii) (is_utf8-ascii text text_ascii)

pub valid-ok : (position : ℕ) → position ≤ largest_whole → is_valid (ok_value position) ≡ true
unfolding ok_value
valid-ok position within =
    is_valid-Object (members_of ((codes "ok", number_of position) ∷ [])) refl
    (and_from _ _ (fit_number (codes "ok") position refl within) refl)

valid-error : (name : List ℕ) → is_ascii name ≡ true → is_valid (error_value name []) ≡ true
valid-error name ascii =
    is_valid-Object (members_of ((codes "error", Text name) ∷ [])) refl
    (and_from _ _ (fit_text (codes "error") name refl ascii) refl)

valid-field : (field : FieldName) → is_ascii (name_of field) ≡ true
valid-field Cmd = refl
valid-field other = refl

valid-line_refusal : (refusal : LineRefusal) → is_valid (line_refusal_value refusal) ≡ true
valid-line_refusal BadLine = valid-error (codes "BadLine") refl
valid-line_refusal NotWhole = valid-error (codes "NotWhole") refl
valid-line_refusal (BadField field) =
    is_valid-Object (members_of ((codes "error", Text (codes "BadField")) ∷ (codes "field", Text (name_of field))
    ∷ [])) refl
    (and_from _ _ (fit_text (codes "error") (codes "BadField") refl refl)
    (and_from _ _ (fit_text (codes "field") (name_of field) refl (valid-field field)) refl))
valid-line_refusal NotBuilt = valid-error (codes "NotBuilt") refl

valid-refusal : (refusal : Refusal) → NamesAPosition refusal → is_valid (refusal_value refusal) ≡ true
valid-refusal NotLocal names = valid-error (codes "NotLocal") refl
valid-refusal (KnownEvent position) names =
    is_valid-Object (members_of ((codes "error", Text (codes "KnownEvent")) ∷ (codes "position", number_of position)
    ∷ [])) refl
    (and_from _ _ (fit_text (codes "error") (codes "KnownEvent") refl refl)
    (and_from _ _ (fit_number (codes "position") position refl (omega arith)) refl))
valid-refusal UnknownEvent names = valid-error (codes "UnknownEvent") refl
valid-refusal NotInThread names = valid-error (codes "NotInThread") refl
valid-refusal RuleReserved names = valid-error (codes "RuleReserved") refl
valid-refusal (BadRule part) names =
    let name = name_of (field_of_part part) in
    is_valid-Object (members_of ((codes "error", Text (codes "BadRule")) ∷ (codes "part", Text name) ∷ [])) refl
    (and_from _ _ (fit_text (codes "error") (codes "BadRule") refl refl)
    (and_from _ _ (fit_text (codes "part") name refl (valid-field (field_of_part part))) refl))
valid-refusal RuleUnknown names = valid-error (codes "RuleUnknown") refl
valid-refusal AnchorUnknown names = valid-error (codes "AnchorUnknown") refl
valid-refusal RulesFull names =
    is_valid-Object (members_of ((codes "error", Text (codes "RulesFull")) ∷ (codes "limit", number_of 1000) ∷ [])) refl
    (and_from _ _ (fit_text (codes "error") (codes "RulesFull") refl refl)
    (and_from _ _ (fit_number (codes "limit") 1000 refl (omega arith)) refl))
valid-refusal EntryTooLong names = valid-error (codes "EntryTooLong") refl
valid-refusal Full names =
    is_valid-Object (members_of ((codes "error", Text (codes "Full")) ∷ (codes "limit", number_of most_inputs) ∷ []))
    refl
    (and_from _ _ (fit_text (codes "error") (codes "Full") refl refl)
    (and_from _ _ (fit_number (codes "limit") most_inputs refl (omega arith)) refl))

pub valid-denied : (denial : Denial) → NamesInRange denial → is_valid (denied_value denial) ≡ true
unfolding denied_value
valid-denied TooLong names = valid-error (codes "LineTooLong") refl
valid-denied (Line refusal) names = valid-line_refusal refusal
valid-denied (Input refusal) names = valid-refusal refusal names

-- ---- counts

pub valid-counts_value : (counts : Counts) → counts.notify ≤ most_inputs → counts.highlight ≤ most_inputs
    → is_valid (counts_value counts) ≡ true
valid-counts_value counts notify highlight =
    is_valid-Object (members_of ((codes "highlight_count", number_of counts.highlight)
    ∷ (codes "notification_count", number_of counts.notify) ∷ [])) refl
    (and_from _ _ (fit_number (codes "highlight_count") counts.highlight refl (omega arith))
    (and_from _ _ (fit_number (codes "notification_count") counts.notify refl (omega arith)) refl))

flat-number : (n : ℕ) → depth_of (number_of n) ≡ 0
flat-number n = search (rules, the_lemmas)

pub flat-counts_value : (counts : Counts) → depth_of (counts_value counts) ≤ 1
flat-counts_value counts =
    omega (
      arith,
      depth_of-Object (members_of (numbers_of counts)),
      flat-number counts.highlight,
      flat-number
          counts.notify,
    )

-- the numbers with a value under `threads` behind them
pub valid-with_threads : (counts : Counts) (value : Json) → counts.notify ≤ most_inputs → counts.highlight ≤ most_inputs
    → is_valid value ≡ true → depth_of value ≤ 2
    → is_valid (object_of (numbers_of counts ++ (codes "threads", value) ∷ [])) ≡ true
valid-with_threads counts value notify highlight valid shallow =
    is_valid-Object (members_of (numbers_of counts ++ (codes "threads", value) ∷ [])) refl
    (and_from _ _ (fit_number (codes "highlight_count") counts.highlight refl (omega arith))
    (and_from _ _ (fit_number (codes "notification_count") counts.notify refl (omega arith))
    (and_from _ _ (is_fit_from (codes "threads") value (is_utf8-ascii (codes "threads") refl) valid (omega arith))
    refl)))

pub with_threads-from : (counts : Counts) (main members : JsonObject) (value expected : Json)
    → main.pairs ≡ numbers_of counts
    → members.pairs ≡ main.pairs ++ (codes "threads", value) ∷ [] → value ≡ expected
    → Object members ≡ object_of (numbers_of counts ++ (codes "threads", expected) ∷ [])
with_threads-from counts main members value expected numbers put_behind is =
    object_from members
    (put_behind ∙ ap₂ (λ (front : List (List ℕ × Json)) (threads : Json). front ++ (codes "threads", threads) ∷ [])
    numbers is)
