-- That bytes are lacking only where some further bytes make what is read.
use Rattle.std.proofs.Common.{◌≡◌, ℕ, zero, suc, ◌+◌, ◌*◌, Bool, true, false, ◌==◌, nat_lt, List, [], ◌∷◌, ◌++◌, Option}
use Rattle.std.proofs.Common.{Some, None, refl, arith}
use Rattle.std.proofs.lemmas.Bool.Decides.{Decides-ltb}
use Rattle.mx_wire.specs.Reading.{Reading}
use Rattle.mx_wire.specs.Reading.Reading.{Got, Refused, Lacking}
use Rattle.mx_wire.specs.Bodies.{hex_value, begins_extension, feed, crlf, extension, after_digits, digits, size_line}
use Rattle.mx_wire.specs.Bodies.{trailer}
use Rattle.mx_wire.specs.Laws.{RefusesExactly}
use Rattle.mx_wire.specs.declared.line.InLine.{InLine}
use Rattle.mx_wire.specs.declared.line.InLine.TheVariants.{Start, BehindCr, Inside}
use Rattle.mx_wire.proofs.Stays.{Stays, digits-stays, crlf-stays, trailer-stays}

-- Where bytes are lacking, some make it whole.
abbrev Fills : {A : Type 0} → Reading A → (List ℕ → Reading A) → Type 0
Fills Lacking f = (more : List ℕ) × (a : _) × (f more ≡ Got a [])
Fills (Got a rest) f = Unit {0}
Fills Refused f = Unit {0}

test-fills : {A : Type 0} (t : Bool) (r s : Reading A) (f g : List ℕ → Reading A) → Fills r f → Fills s g
    → Fills (elim t [ true ↦ r | false ↦ s ]) (λ more. elim t [ true ↦ f more | false ↦ g more ])
test-fills true r s f g first second = first
test-fills false r s f g first second = second

feed-fills : {A : Type 0} (a : A) (u : List ℕ) → Fills (feed a u) (λ more. feed a (u ++ more))
feed-fills a [] = (10 ∷ [], a, refl)
feed-fills a (b ∷ u) = test-fills (b == 10) (Got a u) Refused (λ more. Got a (u ++ more)) (λ more. Refused) tt tt

crlf-fills : (u : List ℕ) → Fills (crlf u) (λ more. crlf (u ++ more))
crlf-fills [] = (13 ∷ 10 ∷ [], [], refl)
crlf-fills (b ∷ u) =
    let none : List ℕ = [] in
    test-fills (b == 13) (feed none u) Refused (λ more. feed none (u ++ more)) (λ more. Refused) (feed-fills none u) tt

extension-fills : (n : ℕ) (u : List ℕ) → Fills (extension n u) (λ more. extension n (u ++ more))
unfolding extension
extension-fills n [] = (13 ∷ 10 ∷ [], n, refl)
extension-fills n (b ∷ u) =
    test-fills (b == 13) (feed n u) (elim (b == 10) [ true ↦ Refused | false ↦ extension n u ])
    (λ more. feed n (u ++ more)) (λ more. elim (b == 10) [ true ↦ Refused | false ↦ extension n (u ++ more) ])
    (feed-fills n u)
    (test-fills (b == 10) Refused (extension n u) (λ more. Refused) (λ more. extension n (u ++ more)) tt
    (extension-fills n u))

after_digits-fills : (n b : ℕ) (u : List ℕ) → Fills (after_digits n b u) (λ more. after_digits n b (u ++ more))
after_digits-fills n b u =
    test-fills (b == 13) (feed n u) (elim (begins_extension b) [ true ↦ extension n u | false ↦ Refused ])
    (λ more. feed n (u ++ more)) (λ more. elim (begins_extension b)
    [ true ↦ extension n (u ++ more) | false ↦ Refused ])
    (feed-fills n u)
    (test-fills (begins_extension b) (extension n u) Refused (λ more. extension n (u ++ more)) (λ more. Refused)
    (extension-fills n u) tt)

-- What is read from a byte on, by its value as a digit.
abbrev from_value : ℕ → ℕ → ℕ → List ℕ → Option ℕ → Reading ℕ
from_value count n b u value =
    elim value [
      | Some d ↦ elim (nat_lt count 8) [ true ↦ digits (count + 1) (16 * n + d) u | false ↦ Refused ]
      | None ↦ elim (nat_lt 0 count) [ true ↦ after_digits n b u | false ↦ Refused ]
    ]

value-fills : (count n b : ℕ) (u : List ℕ) (value : Option ℕ)
    → ((d : ℕ) → Fills (digits (count + 1) (16 * n + d) u) (λ more. digits (count + 1) (16 * n + d) (u ++ more)))
    → Fills (from_value count n b u value) (λ more. from_value count n b (u ++ more) value)
value-fills count n b u (Some d) goes =
    test-fills (nat_lt count 8) (digits (count + 1) (16 * n + d) u) Refused
    (λ more. digits (count + 1) (16 * n + d) (u ++ more)) (λ more. Refused) (goes d) tt
value-fills count n b u None goes =
    test-fills (nat_lt 0 count) (after_digits n b u) Refused (λ more. after_digits n b (u ++ more)) (λ more. Refused)
    (after_digits-fills n b u) tt

when-true : (t : Bool) (r s : Reading ℕ) → t ≡ true → elim t [ true ↦ r | false ↦ s ] ≡ r
when-true true r s is = refl
when-true false r s is = cc

digits-fills : (u : List ℕ) (count n : ℕ) → Fills (digits count n u) (λ more. digits count n (u ++ more))
unfolding digits
digits-fills [] zero n = (48 ∷ 13 ∷ 10 ∷ [], 16 * n + 0, refl)
digits-fills [] (suc count) n =
    (13 ∷ 10 ∷ [], n, when-true (nat_lt 0 (suc count)) (Got n []) Refused ((Decides-ltb 0 (suc count)).1 (omega arith)))
digits-fills (b ∷ u) count n =
    value-fills count n b u (hex_value b) (λ d. digits-fills u (count + 1) (16 * n + d))

trailer-fills : (u : List ℕ) (place : InLine) → Fills (trailer place u) (λ more. trailer place (u ++ more))
unfolding trailer
trailer-fills [] Start = (13 ∷ 10 ∷ [], [], refl)
trailer-fills [] BehindCr = (10 ∷ 13 ∷ 10 ∷ [], [], refl)
trailer-fills [] Inside = (13 ∷ 10 ∷ 13 ∷ 10 ∷ [], [], refl)
trailer-fills (b ∷ u) Start =
    let none : List ℕ = [] in
    test-fills (b == 13) (feed none u) (elim (b == 10) [ true ↦ Refused | false ↦ trailer Inside u ])
    (λ more. feed none (u ++ more)) (λ more. elim (b == 10) [ true ↦ Refused | false ↦ trailer Inside (u ++ more) ])
    (feed-fills none u)
    (test-fills (b == 10) Refused (trailer Inside u) (λ more. Refused) (λ more. trailer Inside (u ++ more)) tt
    (trailer-fills u Inside))
trailer-fills (b ∷ u) BehindCr =
    test-fills (b == 10) (trailer Start u) Refused (λ more. trailer Start (u ++ more)) (λ more. Refused)
    (trailer-fills u Start) tt
trailer-fills (b ∷ u) Inside =
    test-fills (b == 13) (trailer BehindCr u) (elim (b == 10) [ true ↦ Refused | false ↦ trailer Inside u ])
    (λ more. trailer BehindCr (u ++ more)) (λ more.
    elim (b == 10) [ true ↦ Refused | false ↦ trailer Inside (u ++ more) ])
    (trailer-fills u BehindCr)
    (test-fills (b == 10) Refused (trailer Inside u) (λ more. Refused) (λ more. trailer Inside (u ++ more)) tt
    (trailer-fills u Inside))

filled : {A : Type 0} (r : Reading A) (f : List ℕ → Reading A) → Fills r f → r ≡ Lacking
    → (more : List ℕ) × (a : A) × (f more ≡ Got a [])
filled (Got a rest) f fills is = cc
filled Refused f fills is = cc
filled Lacking f fills is = fills

refused : {A : Type 0} (more : List ℕ) (r r' : Reading A) → Stays more r r' → r ≡ Refused → r' ≡ Refused
refused more (Got a rest) r' stays is = cc
refused more Refused r' stays is = stays
refused more Lacking r' stays is = cc

pub size_line-exact : RefusesExactly size_line
size_line-exact = λ bytes. (
  λ is more. refused more (size_line bytes) (size_line (bytes ++ more)) (digits-stays more 0 0 bytes) is,
  λ is. filled (size_line bytes) (λ more. size_line (bytes ++ more)) (digits-fills bytes 0 0) is,
)

pub crlf-exact : RefusesExactly crlf
crlf-exact = λ bytes. (
  λ is more. refused more (crlf bytes) (crlf (bytes ++ more)) (crlf-stays more bytes) is,
  λ is. filled (crlf bytes) (λ more. crlf (bytes ++ more)) (crlf-fills bytes) is,
)

pub trailer-exact : RefusesExactly (trailer Start)
trailer-exact = λ bytes. (
  λ is more. refused more (trailer Start bytes) (trailer Start (bytes ++ more)) (trailer-stays more Start bytes) is,
  λ is. filled (trailer Start bytes) (λ more. trailer Start (bytes ++ more)) (trailer-fills bytes Start) is,
)
