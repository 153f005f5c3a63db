-- Rules by their ids: a new id goes last.
use Rattle.std.proofs.Common.{◌≡◌, ℕ, Bool, true, false, not, List, [], ◌∷◌, ◌++◌, map, refl, ap, ◌∙◌, String, Global}
use Rattle.std.proofs.Common.{string_bytes}
use Rattle.std.specs.List.{list_any}
use Rattle.std.specs.Str.{bytes_eq}
use Rattle.std.specs.String.{string_eq}
use Rattle.std.specs.Map.{keys_of}
use Rattle.std.proofs.lemmas.Bool.{and_parts, or_parts}
use Rattle.std.proofs.lemmas.List.{map-append}
use Rattle.indexmap.specs.IndexMap.{insert_entry}
use Rattle.mx_rule.specs.Rule.{PushRule}
use Rattle.mx_rule.specs.Ruleset.{are_distinct, ids_of}

abbrev pub Entry : Type 0
Entry = String Global × PushRule

not-true : (b : Bool) → not b ≡ true → b ≡ false
not-true false h = refl
not-true true h = cc

-- no text passes the test, so the last doesn't
last-none : (test : List ℕ → Bool) (rules : List PushRule) (rule : PushRule) (later : List PushRule)
    → list_any test (ids_of (rules ++ rule ∷ later)) ≡ false → test rule.id ≡ false
last-none test [] rule later none = (or_parts (test rule.id) (list_any test (ids_of later)) none).0
last-none test (first ∷ rules) rule later none =
    last-none test rules rule later (or_parts (test first.id) (list_any test (ids_of (rules ++ rule ∷ later))) none).1

-- of distinct ids none equals one before it
pub distinct-new : (rules : List PushRule) (rule : PushRule) (later : List PushRule)
    → are_distinct (ids_of (rules ++ rule ∷ later)) ≡ true → list_any (bytes_eq rule.id) (ids_of rules) ≡ false
distinct-new [] rule later distinct = refl
distinct-new (first ∷ rules) rule later distinct =
    let parts = and_parts (not (list_any (λ id. bytes_eq id first.id) (ids_of (rules ++ rule ∷ later))))
    (are_distinct (ids_of (rules ++ rule ∷ later))) distinct in
    let apart = last-none (λ id. bytes_eq id first.id) rules rule later (not-true _ parts.0) in
    rw apart (distinct-new rules rule later parts.1)

-- a rule whose id is new goes last
pub insert_entry-new_id : (entries : List Entry) (id : String Global) (rule : PushRule)
    → list_any (bytes_eq (string_bytes id)) (map string_bytes (keys_of entries)) ≡ false
    → insert_entry string_eq entries id rule ≡ entries ++ (id, rule) ∷ []
insert_entry-new_id [] id rule new = refl
insert_entry-new_id (first ∷ entries) id rule new =
    let parts = or_parts (bytes_eq (string_bytes id) (string_bytes first.0))
    (list_any (bytes_eq (string_bytes id)) (map string_bytes (keys_of entries))) new in
    rw parts.0 (ap (λ es. first ∷ es) (insert_entry-new_id entries id rule parts.1))

pub map-map : (entries : List Entry)
    → map (λ (e : Entry). string_bytes e.0) entries ≡ map string_bytes (keys_of entries)
map-map [] = refl
map-map (first ∷ entries) = ap (λ ids. string_bytes first.0 ∷ ids) (map-map entries)

module _ (entries : List Entry) (id : String Global) (rule : PushRule) (is : string_bytes id ≡ rule.id)
    (new : list_any (bytes_eq rule.id) (map string_bytes (keys_of entries)) ≡ false) where
  last : insert_entry string_eq entries id rule ≡ entries ++ (id, rule) ∷ []
  last = insert_entry-new_id entries id rule (rw is new)

  -- its id is the last
  pub ids-last : map (λ (e : Entry). string_bytes e.0) (insert_entry string_eq entries id rule)
      ≡ map string_bytes (keys_of entries) ++ rule.id ∷ []
  ids-last =
      ap (map (λ (e : Entry). string_bytes e.0)) last
      ∙ map-append (λ (e : Entry). string_bytes e.0) entries ((id, rule) ∷ [])
      ∙ (λ j. map-map entries j ++ is j ∷ [])

  -- and so is the rule
  pub rules-last : map (λ (e : Entry). e.1) (insert_entry string_eq entries id rule)
      ≡ map (λ (e : Entry). e.1) entries ++ rule ∷ []
  rules-last =
      ap (map (λ (e : Entry). e.1)) last
      ∙ map-append (λ (e : Entry). e.1) entries ((id, rule) ∷ [])
