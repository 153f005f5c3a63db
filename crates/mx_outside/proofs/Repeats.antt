-- How a source of one byte goes through its times.
use Rattle.std.proofs.Common.{◌≡◌, ℕ, ◌+◌, ◌-◌, ◌≤◌, List, ◌++◌, take, refl, arith}
use Rattle.std.specs.Prelude.{replicate}
use Rattle.std.proofs.lemmas.List.{take_at, length-replicate, replicate-append-replicate}
use Rattle.mx_outside.specs.RepeatSource.{Repeated, repeats}

-- What such a source has left.
pub repeats_lem : (repeated : Repeated) → repeats repeated ≡ replicate repeated.times repeated.byte
unfolding repeats
repeats_lem repeated = refl

-- So many of the bytes were written to the front of a buffer, and the rest is left.
pub next_repeats : (byte times count : ℕ) (rest : List ℕ) → count ≤ times
    → replicate times byte ≡ take count (replicate count byte ++ rest) ++ replicate (times - count) byte
next_repeats byte times count rest fits =
    let front : take count (replicate count byte ++ rest) ≡ replicate count byte =
    take_at (replicate count byte) rest count (length-replicate count byte) in
    let both : replicate count byte ++ replicate (times - count) byte ≡ replicate (count + (times - count)) byte =
    replicate-append-replicate count (times - count) byte in
    let whole : count + (times - count) ≡ times = omega arith in
    cc
