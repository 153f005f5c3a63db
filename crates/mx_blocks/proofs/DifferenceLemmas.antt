-- Differences as bytes: how a number is split into them, and how bytes that follow one another read.
use Rattle.std.proofs.Common.{◌≡◌, ℕ, zero, suc, ◌+◌, ◌-◌, ◌*◌, ◌/◌, ◌%◌, ◌<◌, ◌≤◌, nat_lt, List, [], ◌∷◌, ◌++◌, length}
use Rattle.std.proofs.Common.{get_or, drop, add-one, refl, sym, ap, ◌∙◌, subst, ⊎_elim, arith}
use Rattle.std.proofs.Math.Seq.{drop-cons}
use Rattle.std.proofs.lemmas.Bool.{cond-true, cond-false, cases_lt, le-ltb, lt-ltb}
use Rattle.mx_blocks.specs.Differences.{differences, IsFirstBelow, IsPacked, with_low}

-- ---- one byte and those behind it

pub differences-last : (b : ℕ) (bs : List ℕ) → b < 128 → differences (b ∷ bs) ≡ b ∷ differences bs
unfolding differences
differences-last b bs small = cond-true (nat_lt b 128) _ _ (lt-ltb b 128 small)

pub differences-more : (b : ℕ) (bs : List ℕ) → 128 ≤ b
    → differences (b ∷ bs) ≡ with_low (b - 128) (differences bs)
unfolding differences
differences-more b bs large = cond-false (nat_lt b 128) _ _ (le-ltb b 128 large)

-- the bytes from a place on
pub drop_at : (bytes : List ℕ) (at : ℕ) → at < length bytes
    → drop at bytes ≡ get_or bytes at 0 ∷ drop (at + 1) bytes
drop_at bytes at within = rw add-one (drop-cons bytes at 0 within)

-- whole numbers begin with a number
pub some_number : (b : ℕ) (bs : List ℕ) → IsPacked (b ∷ bs)
    → (d : ℕ) × (ds : List ℕ) × (differences (b ∷ bs) ≡ d ∷ ds)
unfolding IsPacked
some_number b [] packed = (b, differences [], differences-last b [] packed)
some_number b (c ∷ bs) packed =
    ⊎_elim (λ small. (b, differences (c ∷ bs), differences-last b (c ∷ bs) small))
    (λ large. let more = some_number c bs packed.1 in
    (b - 128 + 128 * more.0, more.1, differences-more b (c ∷ bs) large ∙ ap (with_low (b - 128)) more.2))
    (cases_lt b 128)

pub IsPacked-tail : (b : ℕ) (bs : List ℕ) → IsPacked (b ∷ bs) → IsPacked bs
unfolding IsPacked
IsPacked-tail b [] packed = tt
IsPacked-tail b (c ∷ bs) packed = packed.1

pub more_follows : (b : ℕ) (bs : List ℕ) → IsPacked (b ∷ bs) → 128 ≤ b → 0 < length bs
unfolding IsPacked
more_follows b [] packed large = absurd (omega arith)
more_follows b (c ∷ bs) packed large = omega arith

-- ---- bytes that follow one another

with_low-append : (low d : ℕ) (ds es rest : List ℕ) → es ≡ d ∷ ds → with_low low (es ++ rest) ≡ with_low low es ++ rest
with_low-append low d ds es rest is =
    ap (λ l. with_low low (l ++ rest)) is ∙ ap (λ l. with_low low l ++ rest) (sym is)

pub differences-append : (xs ys : List ℕ) → IsPacked xs → differences (xs ++ ys) ≡ differences xs ++ differences ys
unfolding differences IsPacked
differences-append [] ys packed = refl
differences-append (b ∷ []) ys packed =
    differences-last b ys packed ∙ ap (λ l. l ++ differences ys) (sym (differences-last b [] packed))
differences-append (b ∷ c ∷ bs) ys packed =
    let rest = differences-append (c ∷ bs) ys packed.1 in
    let some = some_number c bs packed.1 in
    ⊎_elim (λ small. differences-last b (c ∷ bs ++ ys) small ∙ ap (λ l. b ∷ l) rest
    ∙ ap (λ l. l ++ differences ys) (sym (differences-last b (c ∷ bs) small)))
    (λ large. differences-more b (c ∷ bs ++ ys) large ∙ ap (with_low (b - 128)) rest
    ∙ with_low-append (b - 128) some.0 some.1 (differences (c ∷ bs)) (differences ys) some.2
    ∙ ap (λ l. l ++ differences ys) (sym (differences-more b (c ∷ bs) large))) (cases_lt b 128)

pub IsPacked-append : (xs ys : List ℕ) → IsPacked xs → IsPacked ys → IsPacked (xs ++ ys)
unfolding IsPacked
IsPacked-append [] ys one two = two
IsPacked-append (b ∷ []) [] one two = one
IsPacked-append (b ∷ []) (y ∷ ys) one two = (λ large. absurd (omega arith), two)
IsPacked-append (b ∷ c ∷ bs) ys one two = (one.0, IsPacked-append (c ∷ bs) ys one.1 two)

-- ---- a number

-- the bytes are one number
pub record IsDifference (bytes : List ℕ) (n : ℕ) : Type 0 where
  pub packed : IsPacked bytes
  pub reads : differences bytes ≡ n ∷ []

pub difference_last : (n : ℕ) → n < 128 → IsDifference (n ∷ []) n
unfolding differences IsPacked
difference_last n small = record { packed = small; reads = differences-last n [] small }

pub difference_more : (tail : List ℕ) (n : ℕ) → 128 ≤ n → IsDifference tail (n / 128)
    → IsDifference ((n % 128 + 128) ∷ tail) n
unfolding differences IsPacked
difference_more [] n large is = absurd (cc (is.reads))
difference_more (c ∷ cs) n large is = record {
  packed = (λ top. first_byte c cs n large is.reads, is.packed);
  reads = differences-more (n % 128 + 128) (c ∷ cs) (omega arith) ∙ ap (with_low (n % 128 + 128 - 128)) is.reads
      ∙ ap (λ m. m ∷ []) (omega arith);
}
  where
    first_byte : (c : ℕ) (cs : List ℕ) (n : ℕ) → 128 ≤ n → differences (c ∷ cs) ≡ n / 128 ∷ [] → 0 < c
    first_byte zero cs n large reads =
        let none : zero ≡ n / 128 = cc (differences-last zero cs (omega arith)) in
        absurd (omega arith)
    first_byte (suc c) cs n large reads = omega arith

-- ---- the first number of some bytes

pub IsFirstBelow-higher : (b bound : ℕ) (bs : List ℕ) → 128 ≤ b → IsFirstBelow bound (differences (b ∷ bs))
    → IsFirstBelow bound (differences bs)
IsFirstBelow-higher b bound bs large small =
    by (differences bs) (subst (IsFirstBelow bound) (differences-more b bs large) small)
  where
    by : (ds : List ℕ) → IsFirstBelow bound (with_low (b - 128) ds) → IsFirstBelow bound ds
    by [] small = tt
    by (d ∷ ds) small = omega arith

pub first_is_below : (b bound d : ℕ) (bs ds : List ℕ) → 128 ≤ b → differences bs ≡ d ∷ ds
    → IsFirstBelow bound (differences (b ∷ bs)) → b - 128 + 128 * d < bound
first_is_below b bound d bs ds large is small =
    subst (λ l. IsFirstBelow bound l) (differences-more b bs large ∙ ap (with_low (b - 128)) is) small
