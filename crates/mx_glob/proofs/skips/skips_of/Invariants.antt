use Rattle.std.proofs.Common.{◌≡◌, ◌+◌, ◌%◌, ℕ, ◌<◌, ◌≤◌, length, slice_get, slice_index, Some}
use Rattle.mx_glob.proofs.skips.skips_of.Given as goal

abbrev pub invariant-loop-k : goal.invariant-loop-k
invariant-loop-k l =
    (length l.skips ≡ 64)
    × ((i : ℕ) → i < 64 → 1 ≤ slice_index l.skips i)
    × ((i : ℕ) → i < 64 → slice_index l.skips i ≤ length l.name)
    × ((j c : ℕ) → j < l.k → slice_get l.name j ≡ Some c → slice_index l.skips (c % 64) + j + 1 ≤ length l.name)
