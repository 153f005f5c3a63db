-- A list of rules in order of importance stands by importance as it is.
use Rattle.std.proofs.Common.{◌≡◌, ℕ, ◌+◌, Bool, true, false, nat_le, ◌&&◌, List, [], ◌∷◌, ◌++◌, filter, refl, ap, ◌∙◌}
use Rattle.std.specs.List.{list_all}
use Rattle.std.proofs.lemmas.Bool.{and_parts}
use Rattle.mx_rule.specs.declared.kind.Kind.{Kind}
use Rattle.mx_rule.specs.Rule.{PushRule}
use Rattle.mx_rule.specs.Ruleset.{Placed, are_distinct, are_ranked, are_rules_of, by_importance, fits, ids_of, is_given}
use Rattle.mx_rule.specs.Ruleset.{is_master, is_own, placed_from, rank_of}

-- which of the three parts a rule is in
data Part (kind : Kind) (rule : PushRule) : Type 0 where
  first : is_master kind rule ≡ true → is_own kind rule ≡ false → is_given kind rule ≡ false → rank_of kind rule ≡ 0
      → Part kind rule
  second : is_master kind rule ≡ false → is_own kind rule ≡ true → is_given kind rule ≡ false → rank_of kind rule ≡ 1
      → Part kind rule
  third : is_master kind rule ≡ false → is_own kind rule ≡ false → is_given kind rule ≡ true → rank_of kind rule ≡ 2
      → Part kind rule

part : (kind : Kind) (rule : PushRule) → Part kind rule
part kind rule = by (is_master kind rule) rule.predefined refl refl
  where
    by : (m p : Bool) → is_master kind rule ≡ m → rule.predefined ≡ p → Part kind rule
    by true p e f = first e (rw e refl) (rw e refl) (rw e refl)
    by false false e f = second e (rw (e, f) refl) (rw (e, f) refl) (rw (e, f) refl)
    by false true e f = third e (rw (e, f) refl) (rw (e, f) refl) (rw (e, f) refl)

taken : (test : Placed → Bool) (x : Placed) (xs : List Placed) → test x ≡ true
    → filter test (x ∷ xs) ≡ x ∷ filter test xs
taken test x xs passes = rw passes refl

left : (test : Placed → Bool) (x : Placed) (xs : List Placed) → test x ≡ false → filter test (x ∷ xs) ≡ filter test xs
left test x xs fails = rw fails refl

abbrev masters : Kind → ℕ → List PushRule → List Placed
masters kind i rules = filter (λ each. is_master kind each.rule) (placed_from kind i rules)

abbrev own : Kind → ℕ → List PushRule → List Placed
own kind i rules = filter (λ each. is_own kind each.rule) (placed_from kind i rules)

-- no rule of these has a lower rank
abbrev from_rank : Kind → ℕ → List PushRule → Bool
from_rank kind rank rules = list_all (λ later. nat_le rank (rank_of kind later)) rules

masters-none : (kind : Kind) (i : ℕ) (rules : List PushRule) (rank : ℕ) → nat_le rank 0 ≡ false
    → from_rank kind rank rules ≡ true → masters kind i rules ≡ []
masters-none kind i [] rank above all = refl
masters-none kind i (rule ∷ rules) rank above all =
    let parts = and_parts (nat_le rank (rank_of kind rule)) (from_rank kind rank rules) all in
    elim (part kind rule) [
      | first m o g r ↦ absurd (let e : nat_le rank 0 ≡ true = rw r at parts.0 in cc)
      | second m o g r ↦ rw m (masters-none kind (i + 1) rules rank above parts.1)
      | third m o g r ↦ rw m (masters-none kind (i + 1) rules rank above parts.1)
    ]

own-none : (kind : Kind) (i : ℕ) (rules : List PushRule) → from_rank kind 2 rules ≡ true → own kind i rules ≡ []
own-none kind i [] all = refl
own-none kind i (rule ∷ rules) all =
    let parts = and_parts (nat_le 2 (rank_of kind rule)) (from_rank kind 2 rules) all in
    elim (part kind rule) [
      | first m o g r ↦ absurd (let e : nat_le 2 0 ≡ true = rw r at parts.0 in cc)
      | second m o g r ↦ absurd (let e : nat_le 2 1 ≡ true = rw r at parts.0 in cc)
      | third m o g r ↦ rw o (own-none kind (i + 1) rules parts.1)
    ]

abbrev master_test : Kind → Placed → Bool
master_test kind each = is_master kind each.rule

abbrev own_test : Kind → Placed → Bool
own_test kind each = is_own kind each.rule

abbrev given_test : Kind → Placed → Bool
given_test kind each = is_given kind each.rule

pub by_importance-ranked : (kind : Kind) (i : ℕ) (rules : List PushRule) → are_ranked kind rules ≡ true
    → by_importance kind (placed_from kind i rules) ≡ placed_from kind i rules
by_importance-ranked kind i [] ranked = refl
by_importance-ranked kind i (rule ∷ rules) ranked =
    let x : Placed = record { place = record { kind = kind; index = i }; rule = rule } in
    let xs : List Placed = placed_from kind (i + 1) rules in
    let parts = and_parts (from_rank kind (rank_of kind rule) rules) (are_ranked kind rules) ranked in
    let rest = by_importance-ranked kind (i + 1) rules parts.1 in
    elim (part kind rule) [
      | first m o g r ↦
          let a = taken (master_test kind) x xs m in
          let b = left (own_test kind) x xs o in
          let d = left (given_test kind) x xs g in
          (λ j. a j ++ (b j ++ d j)) ∙ ap (λ ys. x ∷ ys) rest
      | second m o g r ↦
          let none = masters-none kind (i + 1) rules 1 refl (rw r at parts.0) in
          let a = left (master_test kind) x xs m ∙ none in
          let b = taken (own_test kind) x xs o in
          let d = left (given_test kind) x xs g in
          (λ j. a j ++ (b j ++ d j)) ∙ ap (λ ys. x ∷ ys) (rw none at rest)
      | third m o g r ↦
          let none = masters-none kind (i + 1) rules 2 refl (rw r at parts.0) in
          let no_own = own-none kind (i + 1) rules (rw r at parts.0) in
          let a = left (master_test kind) x xs m ∙ none in
          let b = left (own_test kind) x xs o ∙ no_own in
          let d = taken (given_test kind) x xs g in
          (λ j. a j ++ (b j ++ d j)) ∙ ap (λ ys. x ∷ ys) (rw (none, no_own) at rest)
    ]

-- the rules of a kind stand in order of importance
pub by_importance-placed : (kind : Kind) (rules : List PushRule) → are_rules_of kind rules ≡ true
    → by_importance kind (placed_from kind 0 rules) ≡ placed_from kind 0 rules
by_importance-placed kind rules are =
    let parts = and_parts (list_all (λ rule. fits kind rule.criterion) rules)
    (are_ranked kind rules && are_distinct (ids_of rules)) are in
    by_importance-ranked kind 0 rules (and_parts (are_ranked kind rules) (are_distinct (ids_of rules)) parts.1).0
