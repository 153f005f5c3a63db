-- That what is read stays where more bytes come.
use Rattle.std.proofs.Common.{◌≡◌, ℕ, zero, suc, ◌+◌, ◌*◌, ◌<◌, Bool, true, false, ◌==◌, ◌&&◌, ◌||◌, nat_lt, List, []}
use Rattle.std.proofs.Common.{◌∷◌, ◌++◌, length, Option, Some, None, refl, ap, sym, subst, ◌∙◌, arith}
use Rattle.mx_wire.specs.Reading.{Reading, ◌>>=◌, with_front}
use Rattle.mx_wire.specs.Reading.Reading.{Got, Refused, Lacking}
use Rattle.mx_wire.specs.Blocks.{block_from, block_at, ends_empty, ends_full, place_after}
use Rattle.mx_wire.specs.Bodies.{hex_value, begins_extension, feed, crlf, extension, after_digits, digits, size_line}
use Rattle.mx_wire.specs.Bodies.{counted, trailer, after_size, chunked}
use Rattle.mx_wire.specs.Reply.{Outcome, reply_with, body_of, ReadsFrom, Reads}
use Rattle.mx_wire.specs.Reply.Outcome.{NotReply}
use Rattle.mx_wire.specs.Reply.ReadsFrom.{no_block, no_head, interim, final}
use Rattle.mx_wire.specs.Laws.{IsSettled}
use Rattle.mx_wire.specs.declared.head.Framing.{Framing}
use Rattle.mx_wire.specs.declared.head.Framing.TheVariants as framing
use Rattle.mx_wire.specs.declared.line.InLine.{InLine}
use Rattle.mx_wire.specs.declared.line.InLine.TheVariants.{Start, BehindCr, Inside}
use Rattle.mx_wire.proofs.Chunks.{Below, digits-below, counted-below, crlf-below, chunked_is}

-- What was read stays, with these bytes behind what is left, and what is refused stays refused.
abbrev pub Stays : {A : Type 0} → List ℕ → Reading A → Reading A → Type 0
Stays more (Got a rest) r = r ≡ Got a (rest ++ more)
Stays more Refused r = r ≡ Refused
Stays more Lacking r = Unit {0}

test-stays : {A : Type 0} (more : List ℕ) (t : Bool) (r s r' s' : Reading A) → Stays more r r' → Stays more s s'
    → Stays more (elim t [ true ↦ r | false ↦ s ]) (elim t [ true ↦ r' | false ↦ s' ])
test-stays more true r s r' s' first second = first
test-stays more false r s r' s' first second = second

front-stays : (more front : List ℕ) (r r' : Reading (List ℕ)) → Stays more r r'
    → Stays more (with_front front r) (with_front front r')
front-stays more front (Got bytes rest) r' stays = ap (λ x. with_front front x) stays
front-stays more front Refused r' stays = ap (λ x. with_front front x) stays
front-stays more front Lacking r' stays = tt

-- What goes on behind what was read.
bind-stays : {A B : Type 0} (more : List ℕ) (n : ℕ) (r r' : Reading A) (f : A × List ℕ → Reading B) → Below n r
    → Stays more r r'
    → ((a : A) (rest : List ℕ) → length rest < n → Stays more (f (a, rest)) (f (a, rest ++ more)))
    → Stays more (r >>= f) (r' >>= f)
bind-stays more n (Got a rest) r' f below stays goes =
    subst (λ (x : _). Stays more (f (a, rest)) (x >>= f)) (sym stays) (goes a rest below)
bind-stays more n Refused r' f below stays goes = ap (λ x. x >>= f) stays
bind-stays more n Lacking r' f below stays goes = tt

feed-stays : {A : Type 0} (more : List ℕ) (a : A) (u : List ℕ) → Stays more (feed a u) (feed a (u ++ more))
feed-stays more a [] = tt
feed-stays more a (b ∷ u) = test-stays more (b == 10) (Got a u) Refused (Got a (u ++ more)) Refused refl refl

pub crlf-stays : (more u : List ℕ) → Stays more (crlf u) (crlf (u ++ more))
crlf-stays more [] = tt
crlf-stays more (b ∷ u) =
    let none : List ℕ = [] in
    test-stays more (b == 13) (feed none u) Refused (feed none (u ++ more)) Refused (feed-stays more none u) refl

extension-stays : (more : List ℕ) (n : ℕ) (u : List ℕ) → Stays more (extension n u) (extension n (u ++ more))
unfolding extension
extension-stays more n [] = tt
extension-stays more n (b ∷ u) =
    test-stays more (b == 13) (feed n u) (elim (b == 10) [ true ↦ Refused | false ↦ extension n u ])
    (feed n (u ++ more)) (elim (b == 10) [ true ↦ Refused | false ↦ extension n (u ++ more) ])
    (feed-stays more n u)
    (test-stays more (b == 10) Refused (extension n u) Refused (extension n (u ++ more)) refl
    (extension-stays more n u))

after_digits-stays : (more : List ℕ) (n b : ℕ) (u : List ℕ)
    → Stays more (after_digits n b u) (after_digits n b (u ++ more))
after_digits-stays more n b u =
    test-stays more (b == 13) (feed n u) (elim (begins_extension b) [ true ↦ extension n u | false ↦ Refused ])
    (feed n (u ++ more)) (elim (begins_extension b) [ true ↦ extension n (u ++ more) | false ↦ Refused ])
    (feed-stays more n u)
    (test-stays more (begins_extension b) (extension n u) Refused (extension n (u ++ more)) Refused
    (extension-stays more n u) refl)

value-stays : (more : List ℕ) (count n b : ℕ) (u : List ℕ) (value : Option ℕ)
    → ((d : ℕ) → Stays more (digits (count + 1) (16 * n + d) u) (digits (count + 1) (16 * n + d) (u ++ more)))
    → Stays more
    (elim value [
      | Some d ↦ elim (nat_lt count 8) [ true ↦ digits (count + 1) (16 * n + d) u | false ↦ Refused ]
      | None ↦ elim (nat_lt 0 count) [ true ↦ after_digits n b u | false ↦ Refused ]
    ])
    (elim value [
      | Some d ↦ elim (nat_lt count 8)
          [ true ↦ digits (count + 1) (16 * n + d) (u ++ more) | false ↦ Refused ]
      | None ↦ elim (nat_lt 0 count) [ true ↦ after_digits n b (u ++ more) | false ↦ Refused ]
    ])
value-stays more count n b u (Some d) goes =
    test-stays more (nat_lt count 8) (digits (count + 1) (16 * n + d) u) Refused
    (digits (count + 1) (16 * n + d) (u ++ more)) Refused (goes d) refl
value-stays more count n b u None goes =
    test-stays more (nat_lt 0 count) (after_digits n b u) Refused (after_digits n b (u ++ more)) Refused
    (after_digits-stays more n b u) refl

pub digits-stays : (more : List ℕ) (count n : ℕ) (u : List ℕ)
    → Stays more (digits count n u) (digits count n (u ++ more))
unfolding digits
digits-stays more count n [] = tt
digits-stays more count n (b ∷ u) =
    value-stays more count n b u (hex_value b) (λ d. digits-stays more (count + 1) (16 * n + d) u)

counted-stays : (more : List ℕ) (n : ℕ) (u : List ℕ) → Stays more (counted n u) (counted n (u ++ more))
unfolding counted
counted-stays more zero u = refl
counted-stays more (suc n) [] = tt
counted-stays more (suc n) (b ∷ u) = front-stays more (b ∷ []) (counted n u) (counted n (u ++ more))
    (counted-stays more n u)

pub trailer-stays : (more : List ℕ) (place : InLine) (u : List ℕ)
    → Stays more (trailer place u) (trailer place (u ++ more))
unfolding trailer
trailer-stays more place [] = tt
trailer-stays more Start (b ∷ u) =
    let none : List ℕ = [] in
    test-stays more (b == 13) (feed none u) (elim (b == 10) [ true ↦ Refused | false ↦ trailer Inside u ])
    (feed none (u ++ more)) (elim (b == 10) [ true ↦ Refused | false ↦ trailer Inside (u ++ more) ])
    (feed-stays more none u)
    (test-stays more (b == 10) Refused (trailer Inside u) Refused (trailer Inside (u ++ more)) refl
    (trailer-stays more Inside u))
trailer-stays more BehindCr (b ∷ u) =
    test-stays more (b == 10) (trailer Start u) Refused (trailer Start (u ++ more)) Refused (trailer-stays more Start u)
    refl
trailer-stays more Inside (b ∷ u) =
    test-stays more (b == 13) (trailer BehindCr u) (elim (b == 10) [ true ↦ Refused | false ↦ trailer Inside u ])
    (trailer BehindCr (u ++ more)) (elim (b == 10) [ true ↦ Refused | false ↦ trailer Inside (u ++ more) ])
    (trailer-stays more BehindCr u)
    (test-stays more (b == 10) Refused (trailer Inside u) Refused (trailer Inside (u ++ more)) refl
    (trailer-stays more Inside u))

after_size-stays : (more : List ℕ) (n m : ℕ) (rest : List ℕ) → length rest < m
    → ((u : List ℕ) → length u < m → Stays more (chunked u) (chunked (u ++ more)))
    → Stays more (after_size chunked n rest) (after_size chunked n (rest ++ more))
after_size-stays more zero m rest few goes = trailer-stays more Start rest
after_size-stays more (suc n) m rest few goes =
    bind-stays more (suc (length rest)) (counted (suc n) rest) (counted (suc n) (rest ++ more))
    (λ piece. crlf piece.1 >>= (λ end. with_front piece.0 (chunked end.1)))
    (counted-below (suc n) rest) (counted-stays more (suc n) rest)
    (λ piece left within.
    bind-stays more (suc (length left)) (crlf left) (crlf (left ++ more)) (λ end. with_front piece (chunked end.1))
    (crlf-below left) (crlf-stays more left)
    (λ end after fewer. front-stays more piece (chunked after) (chunked (after ++ more)) (goes after (omega arith))))

chunked-stays_below : (more : List ℕ) (n : ℕ) (u : List ℕ) → length u < n → Stays more (chunked u) (chunked (u ++ more))
chunked-stays_below more zero u few = absurd (omega arith)
chunked-stays_below more (suc n) u few =
    let go : List ℕ → Reading (List ℕ) = λ v. size_line v >>= (λ size. after_size chunked size.0 size.1) in
    let stays : Stays more (go u) (go (u ++ more)) =
    bind-stays more (length u) (size_line u) (size_line (u ++ more)) (λ size. after_size chunked size.0 size.1)
    (digits-below 0 0 u) (digits-stays more 0 0 u)
    (λ size rest within. after_size-stays more size (length u) rest within
    (λ v short. chunked-stays_below more n v (omega arith))) in
    let first : Stays more (chunked u) (go (u ++ more)) =
    subst (λ (r : Reading (List ℕ)). Stays more r (go (u ++ more))) (sym (chunked_is u)) stays in
    subst (λ (r : Reading (List ℕ)). Stays more (chunked u) r) (sym (chunked_is (u ++ more))) first

pub chunked-stays : (more u : List ℕ) → Stays more (chunked u) (chunked (u ++ more))
chunked-stays more u = chunked-stays_below more (suc (length u)) u (omega arith)

pub block-stays : (more held : List ℕ) (behind : Bool) (place : InLine) (u : List ℕ)
    → Stays more (block_from held behind place u) (block_from held behind place (u ++ more))
unfolding block_from
block-stays more held behind place [] = tt
block-stays more held behind place (b ∷ u) =
    test-stays more (behind && ends_empty place b) (Got (held ++ b ∷ []) u)
    (block_from (held ++ b ∷ []) (behind || ends_full place b) (place_after place b) u)
    (Got (held ++ b ∷ []) (u ++ more)) (block_from (held ++ b ∷ []) (behind || ends_full place b) (place_after place b)
    (u ++ more))
    refl (block-stays more (held ++ b ∷ []) (behind || ends_full place b) (place_after place b) u)

reply-stays : (more : List ℕ) (status : ℕ) (r r' : Reading (List ℕ)) → Stays more r r' → IsSettled (reply_with status r)
    → reply_with status r ≡ reply_with status r'
reply-stays more status (Got body rest) r' stays settled = ap (λ x. reply_with status x) (sym stays)
reply-stays more status Refused r' stays settled = ap (λ x. reply_with status x) (sym stays)
reply-stays more status Lacking r' stays settled = absurd settled

body-stays : (more : List ℕ) (status : ℕ) (framed : Framing) (ended : Bool) (u : List ℕ)
    → IsSettled (body_of status framed false u)
    → body_of status framed false u ≡ body_of status framed ended (u ++ more)
body-stays more status framing.Nothing ended u settled = refl
body-stays more status (framing.Counted n) ended u settled =
    reply-stays more status (counted n u) (counted n (u ++ more)) (counted-stays more n u) settled
body-stays more status framing.Chunked ended u settled =
    reply-stays more status (chunked u) (chunked (u ++ more)) (chunked-stays more u) settled
body-stays more status framing.ToEnd ended u settled = absurd settled

from-stays : (more : List ℕ) (ended : Bool) (r r' : Reading (List ℕ)) (o : Outcome) → Stays more r r' → IsSettled o
    → ReadsFrom false r o → ReadsFrom ended r' o
from-stays more ended r r' o stays settled no_block = absurd settled
from-stays more ended r r' o stays settled (no_head means) =
    subst (λ (x : Reading (List ℕ)). ReadsFrom ended x NotReply) (sym stays) (no_head means)
from-stays more ended r r' o stays settled (interim {block = block} {rest = rest} means reads) =
    subst (λ (x : Reading (List ℕ)). ReadsFrom ended x o) (sym stays)
    (interim means (from-stays more ended (block_at rest) (block_at (rest ++ more)) o
    (block-stays more [] false Start rest) settled reads))
from-stays more ended r r' o stays settled
    (final {block = block} {rest = rest} {status = status} {framed = framed} means is) =
    subst (λ (x : Reading (List ℕ)). ReadsFrom ended x o) (sym stays)
    (final means (is ∙ body-stays more status framed ended rest (subst (λ (x : Outcome). IsSettled x) is settled)))

-- A settled outcome stays whatever comes behind it, and whether the link ends or not.
pub settled-stays : (bytes more : List ℕ) (ended : Bool) (o : Outcome) → Reads bytes false o → IsSettled o
    → Reads (bytes ++ more) ended o
settled-stays bytes more ended o reads settled =
    from-stays more ended (block_at bytes) (block_at (bytes ++ more)) o (block-stays more [] false Start bytes) settled
    reads
