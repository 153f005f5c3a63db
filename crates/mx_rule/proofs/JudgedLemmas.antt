-- What is judged of an event is one thing: the function gives what the relation says, and nothing else meets it.
use Rattle.std.proofs.Common.{◌≡◌, ℕ, Bool, true, false, if◌then◌else◌, List, [], ◌∷◌, Option, Some, None, ◌⊎◌, inl}
use Rattle.std.proofs.Common.{inr, refl, sym, ap, ◌∙◌, IsSomeAnd, MatchBool}
use Rattle.std.specs.Bool.{Decides}
use Rattle.std.proofs.lemmas.Bool.Decides.{not_from_Decides}
use Rattle.mx_cond.specs.Facts.{EventFacts}
use Rattle.mx_rule.specs.declared.verdict.Verdict.{Verdict}
use Rattle.mx_rule.specs.Actions.{verdict_of}
use Rattle.mx_rule.specs.Deciding.{may_decide}
use Rattle.mx_rule.specs.Judged.{IsJudged, IsVerdict, is_judged, judged, verdict_by}
use Rattle.mx_rule.specs.Ruleset.{Placed, PushRuleset, flat}
use Rattle.mx_rule.proofs.Deciding.{may_decide-Decides}

-- ---- the verdict by rules in order

-- by a test that decides whether the first rule may, one answer is right
one_of : {P : Type 0} (test : Bool) (said later verdict : Verdict) → Decides test P
    → (P × (verdict ≡ said)) ⊎ ((¬ P) × (verdict ≡ later)) → verdict ≡ (if test then said else later)
one_of true said later verdict d (inl w) = w.1
one_of true said later verdict d (inr w) = absurd (w.0 (d.0 refl))
one_of false said later verdict d (inl w) = absurd (not_from_Decides false d refl w.0)
one_of false said later verdict d (inr w) = w.1

one_holds : {P : Type 0} (Rest : Verdict → Type 0) (test : Bool) (said later : Verdict) → Decides test P → Rest later
    → (P × ((if test then said else later) ≡ said)) ⊎ ((¬ P) × Rest (if test then said else later))
one_holds Rest true said later d rest = inl (d.0 refl, refl)
one_holds Rest false said later d rest = inr (not_from_Decides false d refl, rest)

pub IsVerdict-verdict_by : (facts : EventFacts) (rules : List Placed) (verdict : Verdict)
    → IsVerdict facts rules verdict → verdict ≡ verdict_by facts rules
IsVerdict-verdict_by facts [] verdict is = is
IsVerdict-verdict_by facts (first ∷ rest) verdict is =
    let d = may_decide-Decides first.rule facts in
    one_of (may_decide first.rule facts) (verdict_of first.rule.actions) (verdict_by facts rest) verdict d
    (elim is [
      | inl w ↦ inl w
      | inr w ↦ inr (w.0, IsVerdict-verdict_by facts rest verdict w.1)
    ])

pub verdict_by-IsVerdict : (facts : EventFacts) (rules : List Placed) → IsVerdict facts rules (verdict_by facts rules)
verdict_by-IsVerdict facts [] = refl
verdict_by-IsVerdict facts (first ∷ rest) =
    one_holds (IsVerdict facts rest) (may_decide first.rule facts) (verdict_of first.rule.actions)
    (verdict_by facts rest) (may_decide-Decides first.rule facts) (verdict_by-IsVerdict facts rest)

-- ---- for whom

judged_by : (test : Bool) (P : Verdict → Type 0) (verdict : Verdict) (answer : Option Verdict)
    → ((other : Verdict) → P other → other ≡ verdict)
    → MatchBool test (IsSomeAnd answer P) (answer ≡ None) → answer ≡ (if test then Some verdict else None)
judged_by true P verdict None one is = absurd is
judged_by true P verdict (Some other) one is = ap (λ (v : Verdict). Some v) (one other is)
judged_by false P verdict answer one is = is

is_judged_by : (test : Bool) (P : Verdict → Type 0) (verdict : Verdict) → P verdict
    → (let answer = if test then Some verdict else None in MatchBool test (IsSomeAnd answer P) (answer ≡ None))
is_judged_by true P verdict holds = holds
is_judged_by false P verdict holds = refl

-- what the relation says is what the function gives
pub IsJudged-judged : (server owner membership_after : List ℕ) (rules : PushRuleset) (facts : EventFacts)
    (answer : Option Verdict)
    → IsJudged server owner membership_after rules facts answer
    → answer ≡ judged server owner membership_after rules facts
unfolding judged
IsJudged-judged server owner membership_after rules facts answer is =
    judged_by (is_judged server owner membership_after facts.event) (IsVerdict facts (flat rules))
    (verdict_by facts (flat rules)) answer (IsVerdict-verdict_by facts (flat rules)) is

-- what the function gives, the relation says
pub judged-IsJudged : (server owner membership_after : List ℕ) (rules : PushRuleset) (facts : EventFacts)
    → IsJudged server owner membership_after rules facts (judged server owner membership_after rules facts)
unfolding judged
judged-IsJudged server owner membership_after rules facts =
    is_judged_by (is_judged server owner membership_after facts.event) (IsVerdict facts (flat rules))
    (verdict_by facts (flat rules)) (verdict_by-IsVerdict facts (flat rules))

-- ---- in each of the two cases

-- what is said by whether the event is judged
abbrev said_where : PushRuleset → EventFacts → Bool → Option Verdict
said_where rules facts test = if test then Some (verdict_by facts (flat rules)) else None

pub judged-none : (server owner membership_after : List ℕ) (rules : PushRuleset) (facts : EventFacts)
    → is_judged server owner membership_after facts.event ≡ false
    → None ≡ judged server owner membership_after rules facts
unfolding judged
judged-none server owner membership_after rules facts never = ap (said_where rules facts) (sym never)

pub judged-some : (server owner membership_after : List ℕ) (rules : PushRuleset) (facts : EventFacts)
    (verdict : Verdict)
    → is_judged server owner membership_after facts.event ≡ true → IsVerdict facts (flat rules) verdict
    → Some verdict ≡ judged server owner membership_after rules facts
unfolding judged
judged-some server owner membership_after rules facts verdict here is =
    ap (λ (v : Verdict). Some v) (IsVerdict-verdict_by facts (flat rules) verdict is)
    ∙ ap (said_where rules facts) (sym here)
