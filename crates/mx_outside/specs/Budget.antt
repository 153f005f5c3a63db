-- For how much a sink or a disk can't fail: ours.
use Rattle.std.specs.Prelude.{ℕ, ◌+◌, ◌<◌, ◌≤◌}

-- Calls of so many bytes in all, and so many of them.
pub record Budget : Type 0 where
  pub bytes : ℕ
  pub calls : ℕ

-- What an outside value promises that promises nothing.
abbrev pub no_budget : Budget
no_budget = record { bytes = 0; calls = 0 }

-- One call of so many bytes is within it.
pub record Covers (budget : Budget) (count : ℕ) : Type 0 where
  pub bytes : count ≤ budget.bytes
  pub calls : 0 < budget.calls

-- One call took no more of it than so many bytes and itself.
pub record SpendsAtMost (count : ℕ) (old new : Budget) : Type 0 where
  pub bytes : old.bytes ≤ new.bytes + count
  pub calls : old.calls ≤ new.calls + 1

-- So many calls of so many bytes in all are within it.
pub record CoversCalls (budget : Budget) (calls count : ℕ) : Type 0 where
  pub bytes : count ≤ budget.bytes
  pub enough : calls ≤ budget.calls

-- Several calls took no more of it than so many calls and bytes in all.
pub record SpendsCalls (calls count : ℕ) (old new : Budget) : Type 0 where
  pub bytes : old.bytes ≤ new.bytes + count
  pub number : old.calls ≤ new.calls + calls
