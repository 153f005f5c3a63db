-- A source or a sink of which some calls fail: ours.
use Rattle.std.specs.Prelude.{◌≡◌, ℕ, Bool, false, List, [], ◌∷◌, Contains, Result, IsErr}
use Rattle.mx_outside.specs.Told.{raised, Rose}
use Rattle.mx_outside.specs.Budget.{Budget, no_budget}

-- What is wrapped, the numbers of the calls that fail, the number of calls so far, and the count of those that failed.
pub record Wrapped (A : Type 0) : Type 0 where
  pub below : A
  pub failing : List ℕ
  pub calls : ℕ
  pub faults : ℕ

-- Where no call is listed, the budget is that of what is wrapped.
abbrev pub budget_below : List ℕ → Budget → Budget
budget_below [] below = below
budget_below (number ∷ numbers) below = no_budget

-- Where no call is listed, it is known not to fail where what is wrapped is.
abbrev pub never_fails_below : List ℕ → Bool → Bool
never_fails_below [] below = below
never_fails_below (number ∷ numbers) below = false

-- The next call fails.
abbrev pub FailsNext : {A : Type 0} → Wrapped A → Type 0
FailsNext wrapped = Contains wrapped.failing (raised wrapped.calls)

-- The call was counted, and which calls fail stays.
pub record CountsCall {A : Type 0} (old new : Wrapped A) : Type 0 where
  pub failing : new.failing ≡ old.failing
  pub calls : new.calls ≡ raised old.calls

-- The call failed here: a fault was counted, and what is wrapped stayed.
pub record FailsHere {A : Type 0} (old new : Wrapped A) : Type 0 where
  pub below : new.below ≡ old.below
  pub faults : new.faults ≡ raised old.faults

-- A call that is listed fails here, and any other fails only below.
pub record FailsAsListed {A B E : Type 0} (faults : A → ℕ) (result : Result B E) (old new : Wrapped A) : Type 0 where
  pub counts : CountsCall old new
  pub listed : FailsNext old → IsErr result
  pub here : FailsNext old → FailsHere old new
  pub unlisted : (FailsNext old → ⊥) → new.faults ≡ old.faults
  pub failed_below : (FailsNext old → ⊥) → IsErr result → Rose (faults old.below) (faults new.below)
