-- What a clock tells: ours.
use Rattle.std.specs.Prelude.{◌≡◌, ℕ, ◌-◌, ◌^◌, ◌<◌, List, [], ◌∷◌, ◌++◌, length}

-- This moment was added to those that the clock gave, as long as their number fits a count.
abbrev pub GivesMoment : ℕ → List ℕ → List ℕ → Type 0
GivesMoment moment old new = length old < 2 ^ 64 - 1 → new ≡ old ++ moment ∷ []
