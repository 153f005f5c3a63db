-- How the other side of an exchange goes by a script: ours.
use Rattle.std.specs.Prelude.{ℕ, Bool, false, List, [], ◌∷◌, length, take, drop, Option, Some, None, zero, suc}
use Rattle.mx_outside.specs.declared.memory.script.LinkStep.{LinkStep}
use Rattle.mx_outside.specs.declared.memory.script.LinkStep.TheVariants as step

-- What comes next of the other side: these bytes, a wait, the end, or a failure.
pub data Step : Type 0 where
  gives : List ℕ → Step
  waits : Step
  ends : Step
  fails : Step

-- Whether the opening fails, and what comes after it.
pub record Play : Type 0 where
  pub fails : Bool
  pub steps : List Step

-- Without a script an opening doesn't fail, and no step comes after it.
abbrev pub unscripted : Play
unscripted = record { fails = false; steps = [] }

-- These bytes, or a wait where there are none.
abbrev pub bytes_step : List ℕ → Step
bytes_step [] = waits
bytes_step (b ∷ bytes) = gives (b ∷ bytes)

-- The steps of a list to which these bytes are given out one after another.
abbrev pub steps_of : List LinkStep → List ℕ → List Step
steps_of [] bytes = []
steps_of (step.Bytes count ∷ steps) bytes = bytes_step (take count bytes) ∷ steps_of steps (drop count bytes)
steps_of (step.Wait ∷ steps) bytes = waits ∷ steps_of steps bytes
steps_of (step.End ∷ steps) bytes = ends ∷ steps_of steps bytes
steps_of (step.Fail ∷ steps) bytes = fails ∷ steps_of steps bytes

-- The step that comes next, with the number of bytes that do.
abbrev pub next_of : List Step → Option LinkStep
next_of [] = None
next_of (gives bytes ∷ steps) = Some (step.Bytes (length bytes))
next_of (waits ∷ steps) = Some step.Wait
next_of (ends ∷ steps) = Some step.End
next_of (fails ∷ steps) = Some step.Fail

-- A step of so many bytes, or a wait where they are none.
abbrev pub step_for : ℕ → LinkStep
step_for zero = step.Wait
step_for (suc count) = step.Bytes (suc count)

-- The bytes that come next, where bytes do.
abbrev pub next_bytes : List Step → List ℕ
next_bytes [] = []
next_bytes (gives bytes ∷ steps) = bytes
next_bytes (waits ∷ steps) = []
next_bytes (ends ∷ steps) = []
next_bytes (fails ∷ steps) = []

-- These bytes, where there are any, and then these steps.
abbrev pub with_bytes : List ℕ → List Step → List Step
with_bytes [] steps = steps
with_bytes (b ∷ bytes) steps = gives (b ∷ bytes) ∷ steps
