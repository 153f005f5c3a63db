-- What an outside value optionally tells, and how its counts rise: ours.
use Rattle.std.specs.Prelude.{◌≡◌, ℕ, ◌+◌, ◌^◌, ◌-◌, ◌≤◌, min, List, ◌++◌, Option, Some, None}

-- Whether it tells is the same before and after, and where it tells, the two are related so.
abbrev pub WhereTold : {A : Type 0} → Option A → Option A → (A → A → Type 0) → Type 0
WhereTold None None P = Unit {0}
WhereTold None (Some new) P = ⊥
WhereTold (Some old) None P = ⊥
WhereTold (Some old) (Some new) P = P old new

-- Where the bytes are told, some were added at their end, and this holds of those.
abbrev pub Writes : Option (List ℕ) → Option (List ℕ) → (List ℕ → Type 0) → Type 0
Writes old new P =
    (before : List ℕ) → old ≡ Some before → (out : List ℕ) × (new ≡ Some (before ++ out)) × P out

-- The count one higher, save that it stays at the last value of 64 bits.
abbrev pub raised : ℕ → ℕ
raised count = min (count + 1) (2 ^ 64 - 1)

-- The count rose, or it stands at the last value of 64 bits, where it stays.
abbrev pub Rose : ℕ → ℕ → Type 0
Rose before now = raised before ≤ now
