use Rattle.std.proofs.Common.{◌≡◌, ℕ, ◌<◌, Some, slice_get}
use Rattle.mx_glob.specs.Glob.{question}
use Rattle.mx_glob.proofs.skips.is_exact.Given as goal

abbrev pub invariant-loop-character : goal.invariant-loop-character
invariant-loop-character l = (i : ℕ) → i < l.character-index → slice_get l.segment i ≡ Some question → ⊥
