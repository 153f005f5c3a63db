-- What `serde_json` tells of the reading of some bytes.
use Rattle.std.proofs.Common.{◌≡◌, List, ℕ, Bool, true, false, cond, nat_le, ◌≤◌, IfOk, Option, Some, None, Result, Ok}
use Rattle.std.proofs.Common.{Err, ◌⊎◌, inl, inr, subst, sym, ap, ◌∙◌, arith}
use Rattle.std.proofs.lemmas.Bool.{cases_Bool, leb-true}
use Rattle.std.proofs.lemmas.Str.{IsUtf8-from_is_utf8, is_utf8-from_IsUtf8}
use Rattle.std.specs.Str.{IsUtf8, is_utf8}
use Rattle.serde_json.specs.Data.{Data, depth}
use Rattle.serde_json.specs.Read.{read}
use Rattle.mx_json.specs.declared.reading.JsonError.{JsonError}
use Rattle.mx_json.specs.declared.reading.JsonError.TheVariants.{BadJson, OutOfMemory}
use Rattle.mx_json.specs.declared.value.Json.{Json}
use Rattle.mx_json.specs.Gives.{Gives}
use Rattle.mx_json.specs.Json.{is_valid}
use Rattle.mx_json.proofs.ValidLemmas.{is_valid-json_of}
use Rattle.mx_json.proofs.WholeLemmas.{whole_json-ok}
use Rattle.mx_json.specs.Reading.{json_of, json_within, read_json, reading, whole_json}
use Rattle.mx_json.specs.Utf8.{has_utf8}

cond_some_of : {A : Type 0} (b : Bool) (o : Option A) (a : A) → cond b o None ≡ Some a → o ≡ Some a
cond_some_of true o a is = is
cond_some_of false o a is = absurd cc

pub reading-of : (bytes : List ℕ) (d : Data) → IsUtf8 bytes → read bytes ≡ Some d → reading bytes ≡ Some d
unfolding reading
reading-of bytes d utf8 is = let holds = is_utf8-from_IsUtf8 bytes utf8 in rw (holds, is)

pub reading-refused : (bytes : List ℕ) → (IsUtf8 bytes → read bytes ≡ None) → reading bytes ≡ None
unfolding reading
reading-refused bytes refused =
    elim (cases_Bool (is_utf8 bytes)) [
      | inl holds ↦ rw holds (refused (IsUtf8-from_is_utf8 bytes holds))
      | inr fails ↦ rw fails
    ]

reading-some : (bytes : List ℕ) (d : Data) → reading bytes ≡ Some d → read bytes ≡ Some d
unfolding reading
reading-some bytes d is = (cond_some_of (is_utf8 bytes) (read bytes) d is)

-- ---- what is answered, by what was read

pub read_json-none : (bytes : List ℕ) (deepest : ℕ) → reading bytes ≡ None → read_json bytes deepest ≡ Err BadJson
unfolding read_json
read_json-none bytes deepest is = rw is

pub read_json-too_deep : (bytes : List ℕ) (deepest : ℕ) (d : Data) → reading bytes ≡ Some d
    → nat_le (depth d) deepest ≡ false → read_json bytes deepest ≡ Err BadJson
unfolding read_json json_within
read_json-too_deep bytes deepest d is deep = rw (is, deep)

pub read_json-within : (bytes : List ℕ) (deepest : ℕ) (d : Data) → reading bytes ≡ Some d
    → nat_le (depth d) deepest ≡ true → read_json bytes deepest ≡ whole_json d
unfolding read_json json_within
read_json-within bytes deepest d is within = rw (is, within)

-- what is answered is valid
pub is_valid-answer : (bytes : List ℕ) (deepest : ℕ) (d : Data) (answer : Result Json JsonError)
    → reading bytes ≡ Some d → has_utf8 (json_of d) ≡ true → nat_le (depth d) deepest ≡ true → deepest ≤ 127
    → Gives OutOfMemory answer (whole_json d) → IfOk answer (λ json. is_valid json ≡ true)
is_valid-answer bytes deepest d (Err error) is utf8 within small gives = tt
is_valid-answer bytes deepest d (Ok json) is utf8 within small gives =
    let told = whole_json-ok d json gives in
    let deep = leb-true (depth d) deepest within in
    subst (λ j. is_valid j ≡ true) told.1 (is_valid-json_of bytes d (reading-some bytes d is) told.0 utf8 (omega arith))

-- a refusal of the bytes is a refusal of the value
pub tells_read : (bytes : List ℕ) (deepest : ℕ) (error : JsonError) → ((reading bytes ≡ None) × (error ≡ BadJson))
    ⊎ (error ≡ OutOfMemory) → (read_json bytes deepest ≡ Err error) ⊎ (error ≡ OutOfMemory)
tells_read bytes deepest error (inr memory) = inr memory
tells_read bytes deepest error (inl refused) =
    inl (read_json-none bytes deepest refused.0 ∙ ap (λ e. Err e) (sym refused.1))
