-- What the head of a response means: RFC 9112, 'Message Body', in our profile.
use Rattle.std.specs.Prelude.{◌≡◌, ℕ, ◌≤◌, Bool, ◌==◌, ◌&&◌, ◌||◌, ◌⊎◌, nat_lt, nat_le, List, [], ◌∷◌, length, map}
use Rattle.std.specs.Prelude.{codes, Option, Some, None, option_map, if◌then◌else◌}
use Rattle.std.specs.List.{list_all}
use Rattle.std.specs.Char.{is_ascii_digit}
use Rattle.std.specs.Str.{str_eq_ignore_ascii_case}
use Rattle.std.specs.Str.Parse.{digits_value}
use Rattle.httparse.specs.Grammar.{ResponseHead, ReadsResponse, status_code}
use Rattle.httparse.specs.Spans.{name_and_value}
use Rattle.mx_wire.specs.declared.head.Framing.{Framing}
use Rattle.mx_wire.specs.declared.head.Framing.TheVariants as framing
use Rattle.mx_wire.specs.declared.head.Meaning.{Meaning}
use Rattle.mx_wire.specs.declared.head.Meaning.TheVariants as meaning

-- A head is a block that is read whole, to its last byte, and has at most 64 fields.
abbrev pub IsHead : List ℕ → ResponseHead → Type 0
IsHead block head = ReadsResponse block head [] × (length head.fields ≤ 64)

-- The values of the fields of this name, which is compared without regard to case.
abbrev pub values_of : List ℕ → List (List ℕ × List ℕ) → List (List ℕ)
values_of name [] = []
values_of name (field ∷ fields) =
    if str_eq_ignore_ascii_case field.0 name then field.1 ∷ values_of name fields
    else values_of name fields

-- Whether a field is absent, stands there once with this value, or stands there repeatedly.
pub data Once : Type 0 where
  absent : Once
  one : List ℕ → Once
  repeated : Once

-- How often a field stands there that has these values.
abbrev pub once : List (List ℕ) → Once
once [] = absent
once (value ∷ []) = one value
once (value ∷ other ∷ values) = repeated

-- Once more, with this value.
abbrev pub once_more : Once → List ℕ → Once
once_more absent value = one value
once_more (one other) value = repeated
once_more repeated value = repeated

-- The number that 1 to 10 digits give.
abbrev pub short_number : List ℕ → Option ℕ
short_number text =
    if list_all is_ascii_digit text && nat_lt 0 (length text) && nat_lt (length text) 11
    then Some (digits_value 10 text) else None

-- The body's framing by the fields Transfer-Encoding and Content-Length; none where bytes are no
-- reply.
abbrev pub framing_by : Once → Once → Option Framing
framing_by absent absent = Some framing.ToEnd
framing_by (one coding) absent =
    if str_eq_ignore_ascii_case coding (codes "chunked") then Some framing.Chunked else None
framing_by absent (one count) = option_map framing.Counted (short_number count)
framing_by absent repeated = None
framing_by (one coding) (one count) = None
framing_by (one coding) repeated = None
framing_by repeated absent = None
framing_by repeated (one count) = None
framing_by repeated repeated = None

-- The body's framing by the names and values of all fields.
unfoldable pub framing_of : List (List ℕ × List ℕ) → Option Framing
framing_of fields =
    framing_by (once (values_of (codes "transfer-encoding") fields)) (once (values_of (codes "content-length") fields))

-- The final head of this status, where its framing is told.
abbrev pub final_by : ℕ → Option Framing → Meaning
final_by code None = meaning.Refuse
final_by code (Some framed) = meaning.Final code framed

-- A reply of this status has no body, whatever its fields say.
abbrev pub is_bodiless : ℕ → Bool
is_bodiless code = code == 204 || code == 304

-- What a head of this status and framing means: below 100 and from 600 on it is none of a reply, and
-- up to 199 it stands before another head.
abbrev pub meaning_by : ℕ → Option Framing → Meaning
meaning_by code framed =
    if nat_lt code 100 then meaning.Refuse
    else if nat_lt code 200 then meaning.Interim
    else if nat_le 600 code then meaning.Refuse
    else if is_bodiless code then meaning.Final code framing.Nothing
    else final_by code framed

-- What a head means.
abbrev pub meaning_of : ResponseHead → Meaning
meaning_of head = meaning_by (status_code head) (framing_of (map name_and_value head.fields))

-- What a block means: what the head means that it is, and where it is none it is refused.
abbrev pub HasMeaning : List ℕ → Meaning → Type 0
HasMeaning block meant =
    ((head : ResponseHead) × IsHead block head × (meant ≡ meaning_of head))
    ⊎ (((head : ResponseHead) → IsHead block head → ⊥) × (meant ≡ meaning.Refuse))
