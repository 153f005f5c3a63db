-- A step down a path, and the object that it goes through.
use Rattle.std.proofs.Common.{◌≡◌, ℕ, ◌+◌, ◌<◌, true, List, [], ◌∷◌, length, get_or, drop, Option, Some, None, is_some}
use Rattle.std.proofs.Common.{MatchOption, option_map, option_and_then, arith, rules, sym, ap, ◌∙◌}
use Rattle.std.proofs.lemmas.List.{at_drop_more}
use Rattle.std.proofs.lemmas.Option.{slice_get-get_or}
use Rattle.mx_json.specs.declared.value.Json.{Json, Object, the_lemmas}
use Rattle.mx_json.specs.declared.value.JsonObject.{JsonObject}
use Rattle.mx_json.specs.Json.{is_canonical, is_valid, are_rising, member, member_in, IsMemberAt}
use Rattle.mx_json.specs.Path.{look}
use Rattle.mx_json.proofs.JsonLemmas.{is_valid_parts}
use Rattle.mx_json.proofs.RisingLemmas.{keys_of, canonical_object}

pub look_step : (path : List (List ℕ)) (i : ℕ) (key : List ℕ) (here next : Json) → i < length path
    → key ≡ get_or path i key → Some next ≡ member key here → look (drop i path) here ≡ look (drop (i + 1) path) next
look_step path i key here next within is found =
    at_drop_more (λ p. look p here) path i key within
    ∙ ap (λ k. option_and_then (look (drop (i + 1) path)) (member k here)) (sym is)
    ∙ ap (option_and_then (look (drop (i + 1) path))) (sym found)

-- the keys of a valid object rise
pub are_rising-valid : (json : Json) (object : JsonObject) → is_valid json ≡ true → json ≡ Object object
    → are_rising (keys_of object.pairs) ≡ true
are_rising-valid json object valid is =
    (canonical_object object (sym (ap is_canonical is) ∙ (is_valid_parts json valid).0)).0

-- the value that stands at a place
pub member_in_place : (key : List ℕ) (pairs : List (List ℕ × Json)) (at : ℕ) (pair : List ℕ × Json)
    → IsMemberAt key pairs at → pair ≡ get_or pairs at pair → member_in key pairs ≡ Some pair.1
member_in_place key pairs at pair found is =
    found.1 ∙ ap (option_map (λ p. p.1)) (slice_get-get_or pairs at pair found.0) ∙ sym (ap (λ p. Some p.1) is)

pub member-Object : (key : List ℕ) (object : JsonObject) → member key (Object object) ≡ member_in key object.pairs
member-Object key object = search (rules, the_lemmas)

-- a place is found exactly where there is a member
pub is_some-place : (key : List ℕ) (pairs : List (List ℕ × Json)) (place : Option ℕ)
    → MatchOption place (member_in key pairs ≡ None) (λ at. IsMemberAt key pairs at)
    → is_some place ≡ is_some (member_in key pairs)
is_some-place key pairs None none = ap is_some (sym none)
is_some-place key [] (Some at) found = absurd (omega (arith, found.0))
is_some-place key (pair ∷ pairs) (Some at) found =
    ap is_some (sym (found.1 ∙ ap (option_map (λ p. p.1)) (slice_get-get_or (pair ∷ pairs) at pair found.0)))
