-- A content with another value in the place of its fresh bytes.
use Rattle.std.proofs.Common.{◌≡◌, ℕ, zero, suc, ◌+◌, ◌≤◌, Bool, true, false, cond, List, [], ◌∷◌, ◌++◌, length, take}
use Rattle.std.proofs.Common.{drop, refl, ap, sym, ◌<◌, get_or, arith}
use Rattle.std.specs.Prelude.{replicate}
use Rattle.std.proofs.lemmas.List.{length-take, length-append, length-replicate, take_more}
use Rattle.mx_outside.specs.Disk.{put_at}
use Rattle.mx_outside.specs.Changes.{filled}

pub length-filled : (value : ℕ) (marks : List Bool) (content : List ℕ) → length marks ≡ length content
    → length (filled value marks content) ≡ length content
length-filled value [] content same = same
length-filled value (mark ∷ marks) [] same = refl
length-filled value (mark ∷ marks) (byte ∷ content) same =
    ap suc (length-filled value marks content (omega arith))

pub filled-append : (value : ℕ) (marks others : List Bool) (content more : List ℕ) → length marks ≡ length content
    → filled value (marks ++ others) (content ++ more) ≡ filled value marks content ++ filled value others more
filled-append value [] others [] more same = refl
filled-append value [] others (byte ∷ content) more same = absurd (omega arith)
filled-append value (mark ∷ marks) others [] more same = absurd (omega arith)
filled-append value (mark ∷ marks) others (byte ∷ content) more same =
    ap (λ (rest : List ℕ). cond mark value byte ∷ rest) (filled-append value marks others content more (omega arith))

pub filled-take : (value n : ℕ) (marks : List Bool) (content : List ℕ) → length marks ≡ length content
    → filled value (take n marks) (take n content) ≡ take n (filled value marks content)
filled-take value zero marks content same = refl
filled-take value (suc n) [] [] same = refl
filled-take value (suc n) [] (byte ∷ content) same = absurd (omega arith)
filled-take value (suc n) (mark ∷ marks) [] same = refl
filled-take value (suc n) (mark ∷ marks) (byte ∷ content) same =
    ap (λ (rest : List ℕ). cond mark value byte ∷ rest) (filled-take value n marks content (omega arith))

pub filled-drop : (value n : ℕ) (marks : List Bool) (content : List ℕ) → length marks ≡ length content
    → filled value (drop n marks) (drop n content) ≡ drop n (filled value marks content)
filled-drop value zero marks content same = refl
filled-drop value (suc n) [] [] same = refl
filled-drop value (suc n) [] (byte ∷ content) same = absurd (omega arith)
filled-drop value (suc n) (mark ∷ marks) [] same = absurd (omega arith)
filled-drop value (suc n) (mark ∷ marks) (byte ∷ content) same =
    filled-drop value n marks content (omega arith)

-- Where each byte is fresh.
pub filled-fresh : (value : ℕ) (content : List ℕ)
    → filled value (replicate (length content) true) content ≡ replicate (length content) value
filled-fresh value [] = refl
filled-fresh value (byte ∷ content) = ap (λ (rest : List ℕ). value ∷ rest) (filled-fresh value content)

-- Where no byte is fresh.
pub filled-settled : (value : ℕ) (content : List ℕ) → filled value (replicate (length content) false) content ≡ content
filled-settled value [] = refl
filled-settled value (byte ∷ content) = ap (λ (rest : List ℕ). byte ∷ rest) (filled-settled value content)

-- A fresh piece that was put counts as so many times the value.
pub filled-put_at : (value at : ℕ) (piece : List ℕ) (marks : List Bool) (content : List ℕ) → at ≤ length content
    → length marks ≡ length content → filled value (put_at at (replicate (length piece) true) marks)
    (put_at at piece content) ≡ put_at at (replicate (length piece) value) (filled value marks content)
filled-put_at value at piece marks content within same =
    let long : length (replicate (length piece) true) ≡ length piece = length-replicate (length piece) true in
    let long_too : length (replicate (length piece) value) ≡ length piece = length-replicate (length piece) value in
    let front : length (take at marks) ≡ length (take at content) = simp length-take (omega arith) in
    let both : length (take at marks ++ replicate (length piece) true) ≡ length (take at content ++ piece) =
    simp length-append (omega arith) in
    rw (
      long,
      long_too,
      filled-append value (take at marks ++ replicate (length piece) true)
          (drop (at + length piece) marks) (take at content ++ piece) (drop (at + length piece) content) both,
      filled-append value (take at marks) (replicate (length piece) true) (take at content) piece front,
      filled-take value at marks content same,
      filled-drop value (at + length piece) marks content same,
      filled-fresh value piece,
    )

-- One more byte.
pub filled_more : (value n : ℕ) (marks : List Bool) (content : List ℕ) (mark : Bool) (byte : ℕ) → n < length marks
    → n < length content → mark ≡ get_or marks n mark → byte ≡ get_or content n byte
    → filled value (take n marks) (take n content) ++ cond mark value byte ∷ []
    ≡ filled value (take (n + 1) marks) (take (n + 1) content)
filled_more value n marks content mark byte marked held is_mark is_byte =
    let more_marks = take_more marks n mark marked in
    let more_bytes = take_more content n byte held in
    let front : length (take n marks) ≡ length (take n content) = simp length-take (omega arith) in
    let both = filled-append value (take n marks) (mark ∷ []) (take n content) (byte ∷ []) front in
    rw (more_marks, more_bytes, ← is_mark, ← is_byte) (sym both)
