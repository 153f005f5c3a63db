-- A folded text as its characters (The Unicode Standard, section 3.13, toCasefold),
-- and how a count of reads rises: ours.
use Rattle.std.specs.Prelude.{ℕ, ◌+◌, ◌-◌, ◌^◌, ◌≤◌, List, chars, min}
use Rattle.caseless.specs.Caseless.{default_case_fold}

-- The characters of a text, given by its bytes, after full case folding.
abbrev pub folded : List ℕ → List ℕ
folded text = default_case_fold (chars text)

-- One more, but a count that has reached the end of a u64 stays there.
abbrev pub next_count : ℕ → ℕ
next_count n = min (n + 1) (2 ^ 64 - 1)

-- A count rose by n at most, and didn't fall.
abbrev pub RisesAtMost : ℕ → ℕ → ℕ → Type 0
RisesAtMost n old new = (old ≤ new) × (new ≤ old + n)
