-- That what is read in chunks doesn't depend on how many may come at most.
use Rattle.std.proofs.Common.{◌≡◌, ℕ, zero, suc, ◌+◌, ◌*◌, ◌<◌, ◌≤◌, Bool, true, false, ◌==◌, nat_lt, List, [], ◌∷◌}
use Rattle.std.proofs.Common.{length, Option, Some, None, refl, ap, ◌∙◌, add-one, arith}
use Rattle.mx_wire.specs.Reading.{Reading, ◌>>=◌, with_front}
use Rattle.mx_wire.specs.Reading.Reading.{Got, Refused, Lacking}
use Rattle.mx_wire.specs.Bodies.{hex_value, begins_extension, feed, crlf, extension, after_digits, digits, size_line}
use Rattle.mx_wire.specs.Bodies.{counted, after_size, chunks, chunked}

-- What is left has fewer than so many bytes.
abbrev pub Below : {A : Type 0} → ℕ → Reading A → Type 0
Below n (Got a rest) = length rest < n
Below n Refused = Unit {0}
Below n Lacking = Unit {0}

test-below : {A : Type 0} (n : ℕ) (t : Bool) (r s : Reading A) → Below n r → Below n s
    → Below n (elim t [ true ↦ r | false ↦ s ])
test-below n true r s first second = first
test-below n false r s first second = second

more-below : {A : Type 0} (n m : ℕ) (r : Reading A) → n ≤ m → Below n r → Below m r
more-below n m (Got a rest) le below = omega arith
more-below n m Refused le below = tt
more-below n m Lacking le below = tt

front-below : (n : ℕ) (front : List ℕ) (r : Reading (List ℕ)) → Below n r → Below n (with_front front r)
front-below n front (Got a rest) below = below
front-below n front Refused below = tt
front-below n front Lacking below = tt

feed-below : {A : Type 0} (a : A) (u : List ℕ) → Below (suc (length u)) (feed a u)
feed-below a [] = tt
feed-below a (b ∷ u) = test-below (suc (length (b ∷ u))) (b == 10) (Got a u) Refused (omega arith) tt

pub crlf-below : (u : List ℕ) → Below (suc (length u)) (crlf u)
crlf-below [] = tt
crlf-below (b ∷ u) =
    let none : List ℕ = [] in
    test-below (suc (length (b ∷ u))) (b == 13) (feed none u) Refused
    (more-below _ _ (feed none u) (omega arith) (feed-below none u)) tt

extension-below : (n : ℕ) (u : List ℕ) → Below (suc (length u)) (extension n u)
unfolding extension
extension-below n [] = tt
extension-below n (b ∷ u) =
    let m = suc (length (b ∷ u)) in
    test-below m (b == 13) (feed n u) (elim (b == 10) [ true ↦ Refused | false ↦ extension n u ])
    (more-below _ _ (feed n u) (omega arith) (feed-below n u))
    (test-below m (b == 10) Refused (extension n u) tt
    (more-below _ _ (extension n u) (omega arith) (extension-below n u)))

after_digits-below : (n b : ℕ) (u : List ℕ) → Below (suc (length u)) (after_digits n b u)
after_digits-below n b u =
    test-below (suc (length u)) (b == 13) (feed n u)
    (elim (begins_extension b) [ true ↦ extension n u | false ↦ Refused ])
    (feed-below n u)
    (test-below (suc (length u)) (begins_extension b) (extension n u) Refused (extension-below n u) tt)

value-below : (m count n b : ℕ) (u : List ℕ) (value : Option ℕ)
    → ((d : ℕ) → Below m (digits (count + 1) (16 * n + d) u))
    → Below m (after_digits n b u)
    → Below m
    (elim value [
      | Some d ↦ elim (nat_lt count 8) [ true ↦ digits (count + 1) (16 * n + d) u | false ↦ Refused ]
      | None ↦ elim (nat_lt 0 count) [ true ↦ after_digits n b u | false ↦ Refused ]
    ])
value-below m count n b u (Some d) more last =
    test-below m (nat_lt count 8) (digits (count + 1) (16 * n + d) u) Refused (more d) tt
value-below m count n b u None more last = test-below m (nat_lt 0 count) (after_digits n b u) Refused last tt

pub digits-below : (count n : ℕ) (u : List ℕ) → Below (length u) (digits count n u)
unfolding digits
digits-below count n [] = tt
digits-below count n (b ∷ u) =
    value-below (length (b ∷ u)) count n b u (hex_value b)
    (λ d. more-below _ _ (digits (count + 1) (16 * n + d) u) (omega arith) (digits-below (count + 1) (16 * n + d) u))
    (more-below _ _ (after_digits n b u) (omega arith) (after_digits-below n b u))

pub counted-below : (n : ℕ) (u : List ℕ) → Below (suc (length u)) (counted n u)
unfolding counted
counted-below zero u = omega arith
counted-below (suc n) [] = tt
counted-below (suc n) (b ∷ u) =
    front-below (suc (length (b ∷ u))) (b ∷ []) (counted n u)
    (more-below _ _ (counted n u) (omega arith) (counted-below n u))

-- Two ways to go on agree where they do on what is left.
bind-below : {A B : Type 0} (n : ℕ) (r : Reading A) (f g : A × List ℕ → Reading B) → Below n r
    → ((a : A) (rest : List ℕ) → length rest < n → f (a, rest) ≡ g (a, rest))
    → (r >>= f) ≡ (r >>= g)
bind-below n (Got a rest) f g below same = same a rest below
bind-below n Refused f g below same = refl
bind-below n Lacking f g below same = refl

after_size-same : (more other : List ℕ → Reading (List ℕ)) (n m : ℕ) (rest : List ℕ) → length rest < m
    → ((u : List ℕ) → length u < m → more u ≡ other u)
    → after_size more n rest ≡ after_size other n rest
after_size-same more other zero m rest few same = refl
after_size-same more other (suc n) m rest few same =
    bind-below (suc (length rest)) (counted (suc n) rest)
    (λ piece. crlf piece.1 >>= (λ end. with_front piece.0 (more end.1)))
    (λ piece. crlf piece.1 >>= (λ end. with_front piece.0 (other end.1)))
    (counted-below (suc n) rest)
    (λ piece left within.
    bind-below (suc (length left)) (crlf left) (λ end. with_front piece (more end.1))
    (λ end. with_front piece (other end.1)) (crlf-below left)
    (λ end after fewer. ap (λ r. with_front piece r) (same after (omega arith))))

chunks-same : (j k : ℕ) (u : List ℕ) → length u < j → length u < k → chunks j u ≡ chunks k u
unfolding chunks
chunks-same zero k u few fewer = absurd (omega arith)
chunks-same (suc j) zero u few fewer = absurd (omega arith)
chunks-same (suc j) (suc k) u few fewer =
    bind-below (length u) (size_line u) (λ size. after_size (chunks j) size.0 size.1)
    (λ size. after_size (chunks k) size.0 size.1) (digits-below 0 0 u)
    (λ n rest within. after_size-same (chunks j) (chunks k) n (length u) rest within
    (λ v short. chunks-same j k v (omega arith) (omega arith)))

-- A body in chunks is a size line, what it tells, and a body in chunks.
pub chunked_is : (u : List ℕ) → chunked u ≡ (size_line u >>= (λ size. after_size chunked size.0 size.1))
unfolding chunked chunks
chunked_is u =
    ap (λ n. chunks n u) (add-one (length u))
    ∙ bind-below (length u) (size_line u) (λ size. after_size (chunks (length u)) size.0 size.1)
    (λ size. after_size chunked size.0 size.1) (digits-below 0 0 u)
    (λ n rest within. after_size-same (chunks (length u)) chunked n (length u) rest within
    (λ v short. chunks-same (length u) (length v + 1) v short (omega arith)))
