-- What a write and a cut may leave on their way.
use Rattle.std.proofs.Common.{◌≡◌, ℕ, ◌+◌, ◌-◌, ◌<◌, ◌≤◌, min, max, List, ◌++◌, length, take, drop, refl, ap, sym}
use Rattle.std.proofs.Common.{subst, ◌∙◌, inl, inr, arith, length-append, length-drop}
use Rattle.std.specs.Prelude.{slice_index}
use Rattle.std.proofs.lemmas.List.{places, length-take, take_at, drop_at, take_all, take-take, drop_all, append_assoc}
use Rattle.std.proofs.lemmas.List.{length-take-le, drop-drop}
use Rattle.std.proofs.lemmas.Bool.{cases_lt}
use Rattle.mx_outside.specs.Disk.{put_at, Torn, Shortened}

-- How long a list is after a piece was put over a part of it.
pub length-put_at : {A : Type 0} (at : ℕ) (piece old : List A) → at ≤ length old
    → length (put_at at piece old) ≡ max (length old) (at + length piece)
length-put_at {A} at piece old within = simp (length-append, length-take, length-drop) (omega arith)

-- What stands before a piece that was put stays.
pub take-put_at : {A : Type 0} (at : ℕ) (piece old : List A) → at ≤ length old
    → take at (put_at at piece old) ≡ take at old
take-put_at {A} at piece old within =
    let front : length (take at old) ≡ at = length-take-le at old within in
    rw append_assoc (take_at (take at old) (piece ++ drop (at + length piece) old) at front)

-- What stands behind a piece that was put stays.
pub drop-put_at : {A : Type 0} (at : ℕ) (piece old : List A) → at ≤ length old
    → drop (at + length piece) (put_at at piece old) ≡ drop (at + length piece) old
drop-put_at {A} at piece old within =
    let front : length (take at old ++ piece) ≡ at + length piece = simp (length-append, length-take) (omega arith) in
    drop_at (take at old ++ piece) (drop (at + length piece) old) (at + length piece) front

-- A write that was done may be left.
pub torn_put : (at n : ℕ) (piece old : List ℕ) → at ≤ length old → length piece ≡ n
    → Torn at n old (put_at at piece old)
torn_put at n piece old within is =
    let long : length (put_at at piece old) ≡ max (length old) (at + length piece) =
    length-put_at at piece old within in
    record {
      before = take-put_at at piece old within;
      after = rw (← is) (drop-put_at at piece old within);
      no_shorter = omega arith;
      no_longer = omega arith;
    }

-- A write that was not begun may be left.
pub torn_same : (at n : ℕ) (old : List ℕ) → Torn at n old old
torn_same at n old = record { before = refl; after = refl; no_shorter = omega arith; no_longer = omega arith }

-- A cut that was done may be left.
pub shortened_take : (n : ℕ) (old : List ℕ) → Shortened n old (take n old)
shortened_take n old =
    record {
      front = take-take n n old (omega arith);
      no_shorter = simp length-take (omega arith);
      no_longer = simp length-take (omega arith);
    }

-- A cut that was not begun may be left.
pub shortened_same : (n : ℕ) (old : List ℕ) → Shortened n old old
shortened_same n old = record { front = refl; no_shorter = omega arith; no_longer = omega arith }

-- What stands further behind a piece that was put stays too.
pub drop-put_at_more : {A : Type 0} (at : ℕ) (piece old : List A) (n : ℕ) → at ≤ length old → at + length piece ≤ n
    → drop n (put_at at piece old) ≡ drop n old
drop-put_at_more {A} at piece old n within past =
    let more : ℕ = n - (at + length piece) in
    let is : at + length piece + more ≡ n = omega arith in
    let both = drop-drop more (at + length piece) (put_at at piece old) in
    let both_old = drop-drop more (at + length piece) old in
    let inner = drop-put_at at piece old within in
    subst (λ (m : ℕ). drop m (put_at at piece old) ≡ drop m old) is
    (sym both ∙ ap (λ (rest : List A). drop more rest) inner ∙ both_old)

-- A byte before the piece.
pub index-put_at_before : (at : ℕ) (piece old : List ℕ) (place : ℕ) → at ≤ length old → place < at
    → slice_index (put_at at piece old) place ≡ slice_index old place
index-put_at_before at piece old place within before = grind (arith, places)

-- A byte in the piece.
pub index-put_at_in : (at : ℕ) (piece old : List ℕ) (place : ℕ) → at ≤ length old → at ≤ place
    → place < at + length piece → slice_index (put_at at piece old) place ≡ slice_index piece (place - at)
index-put_at_in at piece old place within from upto = grind (arith, places)

-- A byte behind the piece.
pub index-put_at_after : (at : ℕ) (piece old : List ℕ) (place : ℕ) → at ≤ length old → at + length piece ≤ place
    → slice_index (put_at at piece old) place ≡ slice_index old place
index-put_at_after at piece old place within after = grind (arith, places)

-- A write that made a list longer may have been torn from the front of it.
pub torn_take : (at n high : ℕ) (image : List ℕ) → at ≤ high → length image ≤ max high (at + n)
    → Torn at n (take high image) image
torn_take at n high image within long =
    let short : length (take high image) ≡ min high (length image) = length-take high image in
    record {
      before = sym (take-take at high image within);
      after =
          elim (cases_lt high (length image)) [
            | inl past ↦ drop_all (at + n) image (omega arith) ∙ sym (drop_all (at + n) (take high image) (omega arith))
            | inr all ↦ ap (λ (whole : List ℕ). drop (at + n) whole) (sym (take_all high image all))
          ];
      no_shorter = omega arith;
      no_longer = omega arith;
    }
