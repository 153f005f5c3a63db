-- What a condition says of an event, where the text that it looks at is known.
use Rattle.std.proofs.Common.{◌≡◌, ◌≢◌, ℕ, Bool, true, List, [], ◌∷◌, codes, Option, Some, None, option_and_then}
use Rattle.std.proofs.Common.{unwrap_or, IfSome, IsAscii, IsSomeAnd, MatchBool, ◌↔◌, subst, sym}
use Rattle.mx_json.specs.declared.value.Json.{Json}
use Rattle.mx_json.specs.Folded.{folded}
use Rattle.mx_json.specs.Json.{member, text_of}
use Rattle.mx_json.specs.Path.{look}
use Rattle.mx_event.specs.Event.{kind_of}
use Rattle.mx_glob.specs.Glob.{Matches}
use Rattle.mx_glob.specs.Words.{HasWord, WordMatches}
use Rattle.mx_cond.specs.Holds.{HasText, MatchesAt, NamesOwner, body_path, is_body}

-- the type of an event is ASCII where its text at that path is
ascii_found : (text : Option (List ℕ)) → IsAscii (unwrap_or text []) → IfSome text (λ t. IsAscii t)
ascii_found None ascii = tt
ascii_found (Some text) ascii = ascii

ascii_value : (found : Option Json) → IsAscii (unwrap_or (option_and_then text_of found) [])
    → IfSome (option_and_then text_of (option_and_then (look []) found)) (λ t. IsAscii t)
ascii_value None ascii = tt
ascii_value (Some json) ascii = ascii_found (text_of json) ascii

pub ascii_kind : (event : Json) → IsAscii (kind_of event)
    → IfSome (option_and_then text_of (look (codes "type" ∷ []) event)) (λ t. IsAscii t)
ascii_kind event ascii = ascii_value (member (codes "type") event) ascii

pub HasText-body : (path : List (List ℕ)) (event : Json) (pattern text : List ℕ)
    → Some text ≡ option_and_then text_of (look path event)
    → is_body path ≡ true
    → WordMatches pattern (folded text) ↔ HasText path event (MatchesAt path pattern)
HasText-body path event pattern text found at =
    let family : Bool → Type 0 = λ b. MatchBool b (WordMatches pattern (folded text)) (Matches pattern (folded text)) in
    let has : Option (List ℕ) → Type 0 = λ o. IsSomeAnd o (MatchesAt path pattern) in (
      λ matched. subst has found (subst family (sym at) matched),
      λ told. subst family at (subst has (sym found) told),
    )

pub NamesOwner-named : (event : Json) (name body : List ℕ)
    → Some body ≡ option_and_then text_of (look body_path event)
    → name ≢ []
    → HasWord (folded name) (folded body) ↔ NamesOwner (Some name) event
NamesOwner-named event name body found some =
    let has : Option (List ℕ) → Type 0 = λ o. IsSomeAnd o (λ text. HasWord (folded name) (folded text)) in
    (λ word. (some, subst has found word), λ names. subst has (sym found) names.1)
