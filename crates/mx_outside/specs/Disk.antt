-- What a call of a disk does to what a read gives and to the images that a crash may leave: ours.
use Rattle.std.specs.Prelude.{◌≡◌, ℕ, ◌+◌, ◌≤◌, max, min, List, ◌++◌, length, take, drop, Result, MatchResult, OnOk}
use Rattle.std.specs.Prelude.{OnErr, ◌⊎◌, ◌↔◌}
use Rattle.mx_outside.specs.Told.{Rose}

-- A list with a piece put over what stood from this place on.
abbrev pub put_at : {A : Type 0} → ℕ → List A → List A → List A
put_at at piece old = take at old ++ piece ++ drop (at + length piece) old

-- After a write of n bytes at a place that was cut short: any bytes in that range and past the old
-- end, any length from the old one to the end of the range, and the other bytes as before.
pub record Torn (at n : ℕ) (old new : List ℕ) : Type 0 where
  pub before : take at new ≡ take at old
  pub after : drop (at + n) new ≡ drop (at + n) old
  pub no_shorter : length old ≤ length new
  pub no_longer : length new ≤ max (length old) (at + n)

-- After a cut to n bytes that was cut short: any length from n to the old one, the first n bytes
-- as before, and any bytes behind them.
pub record Shortened (n : ℕ) (old new : List ℕ) : Type 0 where
  pub front : take n new ≡ take n old
  pub no_shorter : min n (length old) ≤ length new
  pub no_longer : length new ≤ length old

-- After Ok a read gives the piece at its place and all else as before; after a failure the write
-- may be torn.
abbrev pub Wrote : {A E : Type 0} → Result A E → ℕ → List ℕ → List ℕ → List ℕ → Type 0
Wrote result at piece old new =
    MatchResult result (λ _. new ≡ put_at at piece old) (λ _. Torn at (length piece) old new)

-- After Ok a read gives the first n bytes; after a failure the cut may have stopped on its way.
abbrev pub WasCut : {A E : Type 0} → Result A E → ℕ → List ℕ → List ℕ → Type 0
WasCut result n old new =
    MatchResult result (λ _. new ≡ take n old) (λ _. Shortened n old new)

-- After Ok the buffer holds the bytes from this place on.
abbrev pub IsRead : {A E : Type 0} → Result A E → ℕ → List ℕ → List ℕ → Type 0
IsRead result at into content = OnOk result (into ≡ take (length into) (drop at content))

-- Each image that a crash may leave now comes from one that it might have left before, by this step.
abbrev pub Follows : (List ℕ → List ℕ → Type 0) → (List ℕ → Type 0) → (List ℕ → Type 0) → Type 0
Follows step old new = (image : List ℕ) → new image → (d : List ℕ) × old d × step d image

-- A crash may leave no image that it might not have left before.
abbrev pub NoMore : (List ℕ → Type 0) → (List ℕ → Type 0) → Type 0
NoMore old new = (image : List ℕ) → new image → old image

-- A crash may leave the same images as before.
abbrev pub SameImages : (List ℕ → Type 0) → (List ℕ → Type 0) → Type 0
SameImages old new = (image : List ℕ) → new image ↔ old image

-- A crash leaves this content and nothing else.
abbrev pub Only : List ℕ → (List ℕ → Type 0) → Type 0
Only content may_leave = (image : List ℕ) → may_leave image → image ≡ content

-- A call that failed raised the count of faults, and any other left it as it was.
pub record CountsFaults {A E : Type 0} (result : Result A E) (before now : ℕ) : Type 0 where
  pub count : before ≤ now
  pub failed : OnErr result (Rose before now)
  pub steady : OnOk result (now ≡ before)

-- Time goes on: a crash since t might have left what it might have left before, or what it may leave now.
pub record Elapses (before now : ℕ) (past since : ℕ → List ℕ → Type 0) (may_leave : List ℕ → Type 0) : Type 0 where
  pub later : before ≤ now
  pub nothing_else : (t : ℕ) (image : List ℕ) → t ≤ before → since t image → past t image ⊎ may_leave image
  pub keeps : (t : ℕ) (image : List ℕ) → t ≤ before → past t image → since t image

-- A crash at any moment since the old state leaves an image of which P holds.
pub record LeavesOnly {D : Type 0} (moment : D → ℕ) (left_since : D → ℕ → List ℕ → Type 0) (old new : D)
    (P : List ℕ → Type 0) : Type 0 where
  pub later : moment old ≤ moment new
  pub each : (image : List ℕ) → left_since new (moment old) image → P image
  -- for a run that began earlier
  pub before : (t : ℕ) (image : List ℕ) → t ≤ moment old → left_since new t image → left_since old t image ⊎ P image
