use Rattle.std.proofs.Common.{◌≡◌, ℕ, ◌<◌, length, slice_get, Some}
use Rattle.mx_blocks.specs.Entries.{Entry}
use Rattle.mx_blocks.proofs.rotating.ripe_thread.Given as goal

abbrev pub invariant-loop-k : goal.invariant-loop-k
invariant-loop-k l =
    (j : ℕ) (e : Entry) → j < l.k → slice_get l.threads.entries j ≡ Some e → length e.1.hot.items < 256
