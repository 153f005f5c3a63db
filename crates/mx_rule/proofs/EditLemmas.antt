-- An edit that isn't refused makes of a ruleset one: part by part of what the rules of a kind have to be.
use Rattle.std.proofs.Common.{◌≡◌, ℕ, Bool, true, false, not, cond, nat_le, ◌&&◌, ◌||◌, List, [], ◌∷◌, map, filter, inl}
use Rattle.std.proofs.Common.{inr, refl, sym, ap, subst, ◌∙◌, arith}
use Rattle.std.specs.List.{list_all, list_any}
use Rattle.std.specs.Str.{bytes_eq}
use Rattle.std.proofs.lemmas.Bool.{and_from, and_parts, both_ways, cond_both, false_from_ne_true, le-leb, leb-true}
use Rattle.std.proofs.lemmas.Bool.{not-false, not-true, or_cases, or_from, or_left, or_parts, or_right, true≢false}
use Rattle.std.proofs.lemmas.Slice.Eq.{bytes_eq-Decides}
use Rattle.mx_json.specs.declared.value.Json.{Json}
use Rattle.mx_rule.specs.declared.kind.Kind.{Kind}
use Rattle.mx_rule.specs.declared.kind.Kind.TheVariants.{Override, Content, Room, Sender, Underride}
use Rattle.mx_rule.specs.Editing.{has_id, is_own_with, put_after, put_before, put_first_own, put_over, with_actions}
use Rattle.mx_rule.specs.Editing.{with_enabled, without}
use Rattle.mx_rule.specs.Rule.{PushRule}
use Rattle.mx_rule.specs.Ruleset.{are_distinct, are_ranked, are_rules_of, fits, ids_of, is_master, is_own, rank_of}

-- ---- texts and tests

pub same-text : (a b : List ℕ) → bytes_eq a b ≡ true → a ≡ b
same-text a b = (bytes_eq-Decides a b).0

pub itself : (a : List ℕ) → bytes_eq a a ≡ true
itself a = (bytes_eq-Decides a a).1 refl

pub apart-flip : (a b : List ℕ) → bytes_eq a b ≡ false → bytes_eq b a ≡ false
apart-flip a b apart =
    false_from_ne_true (bytes_eq b a)
    (λ is. both_ways (bytes_eq a b) apart ((bytes_eq-Decides a b).1 (sym (same-text b a is))))

or_rest : (x y : Bool) → x ≡ false → (x || y) ≡ true → y ≡ true
or_rest x y e either = rw e at either

-- ---- some rules of a ruleset

list_all-filter : {X : Type 0} (p q : X → Bool) (xs : List X) → list_all p xs ≡ true → list_all p (filter q xs) ≡ true
list_all-filter p q [] all = refl
list_all-filter p q (x ∷ xs) all =
    let parts = and_parts (p x) (list_all p xs) all in
    let rest = list_all-filter p q xs parts.1 in
    cond_both (q x) (x ∷ filter q xs) (filter q xs) (λ ys. list_all p ys ≡ true) (λ _. and_from _ _ parts.0 rest)
    (λ _. rest)

none-filter : (p : List ℕ → Bool) (q : PushRule → Bool) (rules : List PushRule)
    → list_any p (ids_of rules) ≡ false → list_any p (ids_of (filter q rules)) ≡ false
none-filter p q [] none = refl
none-filter p q (rule ∷ rules) none =
    let parts = or_parts (p rule.id) (list_any p (ids_of rules)) none in
    let rest = none-filter p q rules parts.1 in
    cond_both (q rule) (rule ∷ filter q rules) (filter q rules) (λ ys. list_any p (ids_of ys) ≡ false)
    (λ _. or_from _ _ parts.0 rest) (λ _. rest)

distinct-filter : (q : PushRule → Bool) (rules : List PushRule)
    → are_distinct (ids_of rules) ≡ true → are_distinct (ids_of (filter q rules)) ≡ true
distinct-filter q [] distinct = refl
distinct-filter q (rule ∷ rules) distinct =
    let p : List ℕ → Bool = λ later. bytes_eq later rule.id in
    let parts = and_parts (not (list_any p (ids_of rules))) (are_distinct (ids_of rules)) distinct in
    let rest = distinct-filter q rules parts.1 in
    let none = none-filter p q rules (not-true _ parts.0) in
    cond_both (q rule) (rule ∷ filter q rules) (filter q rules) (λ ys. are_distinct (ids_of ys) ≡ true)
    (λ _. and_from _ _ (ap not none) rest) (λ _. rest)

-- no rule of these has a lower rank
abbrev from_rank : Kind → ℕ → List PushRule → Bool
from_rank kind rank rules = list_all (λ later. nat_le rank (rank_of kind later)) rules

ranked-filter : (kind : Kind) (q : PushRule → Bool) (rules : List PushRule)
    → are_ranked kind rules ≡ true → are_ranked kind (filter q rules) ≡ true
ranked-filter kind q [] ranked = refl
ranked-filter kind q (rule ∷ rules) ranked =
    let parts = and_parts (from_rank kind (rank_of kind rule) rules) (are_ranked kind rules) ranked in
    let rest = ranked-filter kind q rules parts.1 in
    let above = list_all-filter (λ later. nat_le (rank_of kind rule) (rank_of kind later)) q rules parts.0 in
    cond_both (q rule) (rule ∷ filter q rules) (filter q rules) (λ ys. are_ranked kind ys ≡ true)
    (λ _. and_from _ _ above rest) (λ _. rest)

-- what the rules of a kind have to be, part by part
pub record AreRules (kind : Kind) (rules : List PushRule) : Type 0 where
  pub fit : list_all (λ rule. fits kind rule.criterion) rules ≡ true
  pub ranked : are_ranked kind rules ≡ true
  pub distinct : are_distinct (ids_of rules) ≡ true

pub AreRules-from : (kind : Kind) (rules : List PushRule) → are_rules_of kind rules ≡ true → AreRules kind rules
AreRules-from kind rules are =
    let parts = and_parts (list_all (λ rule. fits kind rule.criterion) rules)
    (are_ranked kind rules && are_distinct (ids_of rules)) are in
    let last = and_parts (are_ranked kind rules) (are_distinct (ids_of rules)) parts.1 in
    record { fit = parts.0; ranked = last.0; distinct = last.1 }

pub are_rules_of-by : (kind : Kind) (rules : List PushRule) → AreRules kind rules → are_rules_of kind rules ≡ true
are_rules_of-by kind rules are = and_from _ _ are.fit (and_from _ _ are.ranked are.distinct)

pub without-AreRules : (kind : Kind) (id : List ℕ) (rules : List PushRule) → AreRules kind rules
    → AreRules kind (without id rules)
without-AreRules kind id rules are = record {
  fit = list_all-filter (λ rule. fits kind rule.criterion) (λ rule. not (has_id id rule)) rules are.fit;
  ranked = ranked-filter kind (λ rule. not (has_id id rule)) rules are.ranked;
  distinct = distinct-filter (λ rule. not (has_id id rule)) rules are.distinct;
}

-- no rule that is left has the id
pub fresh-without : (id : List ℕ) (rules : List PushRule)
    → list_any (λ later. bytes_eq later id) (ids_of (without id rules)) ≡ false
fresh-without id [] = refl
fresh-without id (rule ∷ rules) =
    let rest = fresh-without id rules in
    cond_both (not (has_id id rule)) (rule ∷ without id rules) (without id rules)
    (λ ys. list_any (λ later. bytes_eq later id) (ids_of ys) ≡ false)
    (λ e. or_from _ _ (not-true _ e) rest) (λ _. rest)

-- a rule with another id is left
pub there-without : (kind : Kind) (anchor id : List ℕ) (rules : List PushRule) → bytes_eq anchor id ≡ false
    → list_any (is_own_with kind anchor) rules ≡ true → list_any (is_own_with kind anchor) (without id rules) ≡ true
there-without kind anchor id [] apart there = there
there-without kind anchor id (rule ∷ rules) apart there =
    let rest = there-without kind anchor id rules apart in
    cond_both (not (has_id id rule)) (rule ∷ without id rules) (without id rules)
    (λ ys. list_any (is_own_with kind anchor) ys ≡ true)
    (λ _. by (is_own_with kind anchor rule) refl rest) (λ e. rest (later e))
  where
    by : (b : Bool) → is_own_with kind anchor rule ≡ b
        → (list_any (is_own_with kind anchor) rules ≡ true → list_any (is_own_with kind anchor) (without id rules)
        ≡ true)
        → list_any (is_own_with kind anchor) (rule ∷ without id rules) ≡ true
    by true e rest = or_left _ _ e
    by false e rest = or_right _ _ (rest (or_rest _ _ e there))

    other : not (has_id id rule) ≡ false → is_own_with kind anchor rule ≡ true → true ≡ false
    other e is =
        let same = same-text rule.id anchor (and_parts (is_own kind rule) (has_id anchor rule) is).1 in
        let named : bytes_eq anchor id ≡ true = subst (λ text. bytes_eq text id ≡ true) same (not-false _ e) in
        sym named ∙ apart

    later : not (has_id id rule) ≡ false → list_any (is_own_with kind anchor) rules ≡ true
    later e = or_rest _ _ (false_from_ne_true (is_own_with kind anchor rule) (λ is. true≢false (other e is))) there

-- ---- ranks

rank-own : (kind : Kind) (rule : PushRule) → is_own kind rule ≡ true → rank_of kind rule ≡ 1
rank-own kind rule own =
    let parts = and_parts (not (is_master kind rule)) (not rule.predefined) own in
    rw (not-true _ parts.0, not-true _ parts.1) refl

rank-named : (kind : Kind) (id : List ℕ) (rule : PushRule) → is_own_with kind id rule ≡ true → rank_of kind rule ≡ 1
rank-named kind id rule is = rank-own kind rule (and_parts (is_own kind rule) (has_id id rule) is).0

rank-not_master : (kind : Kind) (rule : PushRule) → is_master kind rule ≡ false → nat_le 1 (rank_of kind rule) ≡ true
rank-not_master kind rule e = rw e (by rule.predefined)
  where
    by : (b : Bool) → nat_le 1 (cond b 2 1) ≡ true
    by true = refl
    by false = refl

above-lower : (kind : Kind) (low high : ℕ) (rules : List PushRule) → nat_le low high ≡ true
    → from_rank kind high rules ≡ true → from_rank kind low rules ≡ true
above-lower kind low high [] le above = refl
above-lower kind low high (rule ∷ rules) le above =
    let parts = and_parts (nat_le high (rank_of kind rule)) (from_rank kind high rules) above in
    let a = leb-true low high le in
    let b = leb-true high (rank_of kind rule) parts.0 in
    and_from _ _ (le-leb low (rank_of kind rule) (omega arith)) (above-lower kind low high rules le parts.1)

-- a rank that none of these is below is at most that of one of them
low-enough : (kind : Kind) (low : ℕ) (test : PushRule → Bool) (rules : List PushRule)
    → ((rule : PushRule) → test rule ≡ true → rank_of kind rule ≡ 1) → list_any test rules ≡ true
    → from_rank kind low rules ≡ true → nat_le low 1 ≡ true
low-enough kind low test [] one there above = absurd (true≢false (sym there))
low-enough kind low test (rule ∷ rules) one there above =
    let parts = and_parts (nat_le low (rank_of kind rule)) (from_rank kind low rules) above in
    elim (or_cases (test rule) (list_any test rules) there) [
      | inl is ↦ rw (one rule is) at parts.0
      | inr later ↦ low-enough kind low test rules one later parts.1
    ]

-- ---- a rule beside others

all-put_before : (p test : PushRule → Bool) (new : PushRule) (rules : List PushRule)
    → p new ≡ true → list_all p rules ≡ true → list_all p (put_before test new rules) ≡ true
all-put_before p test new [] is all = and_from _ _ is refl
all-put_before p test new (rule ∷ rules) is all =
    let parts = and_parts (p rule) (list_all p rules) all in
    cond_both (test rule) (new ∷ rule ∷ rules) (rule ∷ put_before test new rules) (λ ys. list_all p ys ≡ true)
    (λ _. and_from _ _ is all) (λ _. and_from _ _ parts.0 (all-put_before p test new rules is parts.1))

all-put_after : (p test : PushRule → Bool) (new : PushRule) (rules : List PushRule)
    → p new ≡ true → list_all p rules ≡ true → list_all p (put_after test new rules) ≡ true
all-put_after p test new [] is all = and_from _ _ is refl
all-put_after p test new (rule ∷ rules) is all =
    let parts = and_parts (p rule) (list_all p rules) all in
    cond_both (test rule) (rule ∷ new ∷ rules) (rule ∷ put_after test new rules) (λ ys. list_all p ys ≡ true)
    (λ _. and_from _ _ parts.0 (and_from _ _ is parts.1))
    (λ _. and_from _ _ parts.0 (all-put_after p test new rules is parts.1))

none-put_before : (p : List ℕ → Bool) (test : PushRule → Bool) (new : PushRule) (rules : List PushRule)
    → p new.id ≡ false → list_any p (ids_of rules) ≡ false → list_any p (ids_of (put_before test new rules)) ≡ false
none-put_before p test new [] is none = or_from _ _ is refl
none-put_before p test new (rule ∷ rules) is none =
    let parts = or_parts (p rule.id) (list_any p (ids_of rules)) none in
    cond_both (test rule) (new ∷ rule ∷ rules) (rule ∷ put_before test new rules) (λ ys. list_any p (ids_of ys) ≡ false)
    (λ _. or_from _ _ is none) (λ _. or_from _ _ parts.0 (none-put_before p test new rules is parts.1))

none-put_after : (p : List ℕ → Bool) (test : PushRule → Bool) (new : PushRule) (rules : List PushRule)
    → p new.id ≡ false → list_any p (ids_of rules) ≡ false → list_any p (ids_of (put_after test new rules)) ≡ false
none-put_after p test new [] is none = or_from _ _ is refl
none-put_after p test new (rule ∷ rules) is none =
    let parts = or_parts (p rule.id) (list_any p (ids_of rules)) none in
    cond_both (test rule) (rule ∷ new ∷ rules) (rule ∷ put_after test new rules) (λ ys. list_any p (ids_of ys) ≡ false)
    (λ _. or_from _ _ parts.0 (or_from _ _ is parts.1))
    (λ _. or_from _ _ parts.0 (none-put_after p test new rules is parts.1))

-- no rule has this id
abbrev pub is_fresh : List ℕ → List PushRule → Type 0
is_fresh id rules = list_any (λ later. bytes_eq later id) (ids_of rules) ≡ false

distinct-put_before : (test : PushRule → Bool) (new : PushRule) (rules : List PushRule) → is_fresh new.id rules
    → are_distinct (ids_of rules) ≡ true → are_distinct (ids_of (put_before test new rules)) ≡ true
distinct-put_before test new [] fresh distinct = refl
distinct-put_before test new (rule ∷ rules) fresh distinct =
    let p : List ℕ → Bool = λ later. bytes_eq later rule.id in
    let others = or_parts (bytes_eq rule.id new.id) (list_any (λ later. bytes_eq later new.id) (ids_of rules)) fresh in
    let parts = and_parts (not (list_any p (ids_of rules))) (are_distinct (ids_of rules)) distinct in
    let none = none-put_before p test new rules (apart-flip rule.id new.id others.0) (not-true _ parts.0) in
    cond_both (test rule) (new ∷ rule ∷ rules) (rule ∷ put_before test new rules)
    (λ ys. are_distinct (ids_of ys) ≡ true)
    (λ _. and_from _ _ (ap not fresh) distinct)
    (λ _. and_from _ _ (ap not none) (distinct-put_before test new rules others.1 parts.1))

distinct-put_after : (test : PushRule → Bool) (new : PushRule) (rules : List PushRule) → is_fresh new.id rules
    → are_distinct (ids_of rules) ≡ true → are_distinct (ids_of (put_after test new rules)) ≡ true
distinct-put_after test new [] fresh distinct = refl
distinct-put_after test new (rule ∷ rules) fresh distinct =
    let p : List ℕ → Bool = λ later. bytes_eq later rule.id in
    let others = or_parts (bytes_eq rule.id new.id) (list_any (λ later. bytes_eq later new.id) (ids_of rules)) fresh in
    let parts = and_parts (not (list_any p (ids_of rules))) (are_distinct (ids_of rules)) distinct in
    let none = none-put_after p test new rules (apart-flip rule.id new.id others.0) (not-true _ parts.0) in
    let at : list_any p (ids_of (new ∷ rules))
    ≡ false = or_from _ _ (apart-flip rule.id new.id others.0) (not-true _ parts.0) in
    cond_both (test rule) (rule ∷ new ∷ rules) (rule ∷ put_after test new rules) (λ ys. are_distinct (ids_of ys) ≡ true)
    (λ _. and_from _ _ (ap not at) (and_from _ _ (ap not others.1) parts.1))
    (λ _. and_from _ _ (ap not none) (distinct-put_after test new rules others.1 parts.1))

module _ (kind : Kind) (new : PushRule) (own : rank_of kind new ≡ 1) where
  -- a rule of the user's stands before another rule but the master
  ranked-new : (rule : PushRule) (rules : List PushRule) → nat_le 1 (rank_of kind rule) ≡ true
      → are_ranked kind (rule ∷ rules) ≡ true → are_ranked kind (new ∷ rule ∷ rules) ≡ true
  ranked-new rule rules le ranked =
      let parts = and_parts (from_rank kind (rank_of kind rule) rules) (are_ranked kind rules) ranked in
      let above : from_rank kind 1 (rule ∷ rules)
      ≡ true = and_from _ _ le (above-lower kind 1 (rank_of kind rule) rules le parts.0) in
      let P : ℕ → Type 0 = λ n. from_rank kind n (rule ∷ rules) ≡ true in
      and_from _ _ (subst P (sym own) above) ranked

  ranked-put_first : (rules : List PushRule) → are_ranked kind rules ≡ true
      → are_ranked kind (put_first_own kind new rules) ≡ true
  ranked-put_first [] ranked = refl
  ranked-put_first (rule ∷ rules) ranked =
      let parts = and_parts (from_rank kind (rank_of kind rule) rules) (are_ranked kind rules) ranked in
      let rest = ranked-put_first rules parts.1 in
      cond_both (not (is_master kind rule)) (new ∷ rule ∷ rules) (rule ∷ put_first_own kind new rules)
      (λ ys. are_ranked kind ys ≡ true)
      (λ e. ranked-new rule rules (rank-not_master kind rule (not-true _ e)) ranked)
      (λ e. and_from _ _ (all-put_before _ _ new rules (rw (own, not-false _ e) refl) parts.0) rest)

  module _ (test : PushRule → Bool) (one : (rule : PushRule) → test rule ≡ true → rank_of kind rule ≡ 1) where
    ranked-put_before : (rules : List PushRule) → list_any test rules ≡ true → are_ranked kind rules ≡ true
        → are_ranked kind (put_before test new rules) ≡ true
    ranked-put_before [] there ranked = absurd (true≢false (sym there))
    ranked-put_before (rule ∷ rules) there ranked =
        let parts = and_parts (from_rank kind (rank_of kind rule) rules) (are_ranked kind rules) ranked in
        let rest = λ (later : list_any test rules ≡ true). ranked-put_before rules later parts.1 in
        cond_both (test rule) (new ∷ rule ∷ rules) (rule ∷ put_before test new rules) (λ ys. are_ranked kind ys ≡ true)
        (λ e. ranked-new rule rules (rw (one rule e) refl) ranked)
        (λ e.
        let later = or_rest _ _ e there in
        let low = low-enough kind (rank_of kind rule) test rules one later parts.0 in
        and_from _ _ (all-put_before _ test new rules (rw own low) parts.0) (rest later))

    ranked-put_after : (rules : List PushRule) → list_any test rules ≡ true → are_ranked kind rules ≡ true
        → are_ranked kind (put_after test new rules) ≡ true
    ranked-put_after [] there ranked = absurd (true≢false (sym there))
    ranked-put_after (rule ∷ rules) there ranked =
        let parts = and_parts (from_rank kind (rank_of kind rule) rules) (are_ranked kind rules) ranked in
        let rest = λ (later : list_any test rules ≡ true). ranked-put_after rules later parts.1 in
        cond_both (test rule) (rule ∷ new ∷ rules) (rule ∷ put_after test new rules) (λ ys. are_ranked kind ys ≡ true)
        (λ e.
        let same : rank_of kind rule ≡ rank_of kind new = one rule e ∙ sym own in
        let above : from_rank kind (rank_of kind new) rules ≡ true = rw same at parts.0 in
        and_from _ _ (and_from _ _ (rw (one rule e, own) refl) parts.0) (and_from _ _ above parts.1))
        (λ e.
        let later = or_rest _ _ e there in
        let low = low-enough kind (rank_of kind rule) test rules one later parts.0 in
        and_from _ _ (all-put_after _ test new rules (rw own low) parts.0) (rest later))

-- ---- the rules of a kind beside which a rule of the user's is put

module _ (kind : Kind) (new : PushRule) (own : rank_of kind new ≡ 1) (fit : fits kind new.criterion ≡ true)
    (rules : List PushRule) (fresh : is_fresh new.id rules) (are : AreRules kind rules) where
  pub put_first-AreRules : AreRules kind (put_first_own kind new rules)
  put_first-AreRules = record {
    fit = all-put_before _ _ new rules fit are.fit;
    ranked = ranked-put_first kind new own rules are.ranked;
    distinct = distinct-put_before _ new rules fresh are.distinct;
  }

  module _ (anchor : List ℕ) (there : list_any (is_own_with kind anchor) rules ≡ true) where
    pub put_before-AreRules : AreRules kind (put_before (is_own_with kind anchor) new rules)
    put_before-AreRules = record {
      fit = all-put_before _ _ new rules fit are.fit;
      ranked = ranked-put_before kind new own (is_own_with kind anchor) (rank-named kind anchor) rules there are.ranked;
      distinct = distinct-put_before _ new rules fresh are.distinct;
    }

    pub put_after-AreRules : AreRules kind (put_after (is_own_with kind anchor) new rules)
    put_after-AreRules = record {
      fit = all-put_after _ _ new rules fit are.fit;
      ranked = ranked-put_after kind new own (is_own_with kind anchor) (rank-named kind anchor) rules there are.ranked;
      distinct = distinct-put_after _ new rules fresh are.distinct;
    }

-- ---- a rule in the place of another

all-put_over : (p test : PushRule → Bool) (new : PushRule) (rules : List PushRule)
    → ((rule : PushRule) → test rule ≡ true → p rule ≡ true → p new ≡ true)
    → list_all p rules ≡ true → list_all p (put_over test new rules) ≡ true
all-put_over p test new [] as_before all = refl
all-put_over p test new (rule ∷ rules) as_before all =
    let parts = and_parts (p rule) (list_all p rules) all in
    cond_both (test rule) (new ∷ rules) (rule ∷ put_over test new rules) (λ ys. list_all p ys ≡ true)
    (λ e. and_from _ _ (as_before rule e parts.0) parts.1)
    (λ _. and_from _ _ parts.0 (all-put_over p test new rules as_before parts.1))

ids-put_over : (test : PushRule → Bool) (new : PushRule) (rules : List PushRule)
    → ((rule : PushRule) → test rule ≡ true → rule.id ≡ new.id) → ids_of (put_over test new rules) ≡ ids_of rules
ids-put_over test new [] named = refl
ids-put_over test new (rule ∷ rules) named =
    cond_both (test rule) (new ∷ rules) (rule ∷ put_over test new rules) (λ ys. ids_of ys ≡ rule.id ∷ ids_of rules)
    (λ e. ap (λ id. id ∷ ids_of rules) (sym (named rule e)))
    (λ _. ap (λ ids. rule.id ∷ ids) (ids-put_over test new rules named))

module _ (kind : Kind) (new : PushRule) (own : rank_of kind new ≡ 1) where
  as-high : (low : ℕ) (rule : PushRule) → is_own_with kind new.id rule ≡ true
      → nat_le low (rank_of kind rule) ≡ true → nat_le low (rank_of kind new) ≡ true
  as-high low rule e le = subst (λ n. nat_le low n ≡ true) (rank-named kind new.id rule e ∙ sym own) le

  ranked-put_over : (rules : List PushRule) → are_ranked kind rules ≡ true
      → are_ranked kind (put_over (is_own_with kind new.id) new rules) ≡ true
  ranked-put_over [] ranked = refl
  ranked-put_over (rule ∷ rules) ranked =
      let test : PushRule → Bool = is_own_with kind new.id in
      let parts = and_parts (from_rank kind (rank_of kind rule) rules) (are_ranked kind rules) ranked in
      let rest = ranked-put_over rules parts.1 in
      cond_both (test rule) (new ∷ rules) (rule ∷ put_over test new rules) (λ ys. are_ranked kind ys ≡ true)
      (λ e. and_from _ _ (subst (λ n. from_rank kind n rules ≡ true)
      (rank-named kind new.id rule e ∙ sym own) parts.0) parts.1)
      (λ _. and_from _ _ (all-put_over _ test new rules (as-high (rank_of kind rule)) parts.0) rest)

  pub put_over-AreRules : fits kind new.criterion ≡ true → (rules : List PushRule) → AreRules kind rules
      → AreRules kind (put_over (is_own_with kind new.id) new rules)
  put_over-AreRules fit rules are =
      let named = λ (rule : PushRule) (e : is_own_with kind new.id rule ≡ true).
      same-text rule.id new.id (and_parts (is_own kind rule) (has_id new.id rule) e).1 in
      record {
        fit = all-put_over _ _ new rules (λ _ _ _. fit) are.fit;
        ranked = ranked-put_over rules are.ranked;
        distinct = subst (λ ids. are_distinct ids ≡ true) (sym (ids-put_over _ new rules named)) are.distinct;
      }

-- ---- rules that are changed

-- a change that leaves what a ruleset says of a rule
pub record Leaves (kind : Kind) (change : PushRule → PushRule) : Type 0 where
  pub id : (rule : PushRule) → (change rule).id ≡ rule.id
  pub rank : (rule : PushRule) → rank_of kind (change rule) ≡ rank_of kind rule
  pub criterion : (rule : PushRule) → (change rule).criterion ≡ rule.criterion

module _ (kind : Kind) (change : PushRule → PushRule) (leaves : Leaves kind change) where
  ids-changed : (rules : List PushRule) → ids_of (map change rules) ≡ ids_of rules
  ids-changed [] = refl
  ids-changed (rule ∷ rules) = λ j. leaves.id rule j ∷ ids-changed rules j

  all-changed : (p : PushRule → Bool) → ((rule : PushRule) → p (change rule) ≡ p rule) → (rules : List PushRule)
      → list_all p (map change rules) ≡ list_all p rules
  all-changed p same [] = refl
  all-changed p same (rule ∷ rules) = λ j. same rule j && all-changed p same rules j

  ranked-changed : (rules : List PushRule) → are_ranked kind (map change rules) ≡ are_ranked kind rules
  ranked-changed [] = refl
  ranked-changed (rule ∷ rules) =
      ap (λ n. from_rank kind n (map change rules) && are_ranked kind (map change rules)) (leaves.rank rule)
      ∙ (λ j. all-changed (λ later. nat_le (rank_of kind rule) (rank_of kind later))
      (λ later. ap (nat_le (rank_of kind rule)) (leaves.rank later)) rules j && ranked-changed rules j)

  pub map-AreRules : (rules : List PushRule) → AreRules kind rules → AreRules kind (map change rules)
  map-AreRules rules are = record {
    fit = all-changed (λ rule. fits kind rule.criterion) (λ rule. ap (fits kind) (leaves.criterion rule)) rules
        ∙ are.fit;
    ranked = ranked-changed rules ∙ are.ranked;
    distinct = ap are_distinct (ids-changed rules) ∙ are.distinct;
  }

  pub named-Leaves : (id : List ℕ) → Leaves kind (λ rule. cond (has_id id rule) (change rule) rule)
  named-Leaves id = record {
    id = λ rule. cond_both (has_id id rule) (change rule) rule (λ after. after.id ≡ rule.id) (λ _. leaves.id rule)
        (λ _. refl);
    rank = λ rule. cond_both (has_id id rule) (change rule) rule (λ after. rank_of kind after ≡ rank_of kind rule)
        (λ _. leaves.rank rule) (λ _. refl);
    criterion = λ rule. cond_both (has_id id rule) (change rule) rule (λ after. after.criterion ≡ rule.criterion)
        (λ _. leaves.criterion rule) (λ _. refl);
  }

pub with_enabled-Leaves : (kind : Kind) (enabled : Bool) → Leaves kind (with_enabled enabled)
with_enabled-Leaves kind enabled = record { id = λ _. refl; rank = rank kind; criterion = λ _. refl }
  where
    rank : (kind : Kind) (rule : PushRule) → rank_of kind (with_enabled enabled rule) ≡ rank_of kind rule
    rank Override rule = refl
    rank Content rule = refl
    rank Room rule = refl
    rank Sender rule = refl
    rank Underride rule = refl

pub with_actions-Leaves : (kind : Kind) (actions : List Json) → Leaves kind (with_actions actions)
with_actions-Leaves kind actions = record { id = λ _. refl; rank = rank kind; criterion = λ _. refl }
  where
    rank : (kind : Kind) (rule : PushRule) → rank_of kind (with_actions actions rule) ≡ rank_of kind rule
    rank Override rule = refl
    rank Content rule = refl
    rank Room rule = refl
    rank Sender rule = refl
    rank Underride rule = refl
