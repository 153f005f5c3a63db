-- A source of one byte, many times: ours.
use Rattle.std.specs.Prelude.{◌≡◌, ℕ, ◌-◌, min, List, replicate}
use Rattle.mx_outside.specs.declared.source.Got.{Got}
use Rattle.mx_outside.specs.declared.source.Got.TheVariants as got

-- A byte, and how many times it is left.
pub record Repeated : Type 0 where
  pub byte : ℕ
  pub times : ℕ

-- The bytes that are left. It stays folded, since a call may state very many.
unfoldable pub repeats : Repeated → List ℕ
repeats repeated = replicate repeated.times repeated.byte

-- As many were given as fit; at the end nothing changes, and no call fails.
abbrev pub GivesRepeats : Got → Repeated → Repeated → ℕ → Type 0
GivesRepeats (got.Bytes count) old new capacity =
    (count ≡ min capacity old.times) × (new ≡ record { byte = old.byte; times = old.times - count })
GivesRepeats got.End old new capacity = (old.times ≡ 0) × (new ≡ old)
GivesRepeats got.Failed old new capacity = ⊥
