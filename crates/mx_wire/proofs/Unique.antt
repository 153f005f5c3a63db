-- That bytes hold one thing at most.
use Rattle.std.proofs.Common.{◌≡◌, ℕ, Bool, List, [], refl, ap, sym, ◌∙◌, inl, inr}
use Rattle.httparse.proofs.GrammarLemmas.{response_unique}
use Rattle.mx_wire.specs.Reading.{Reading}
use Rattle.mx_wire.specs.Blocks.{block_at}
use Rattle.mx_wire.specs.Heads.{HasMeaning, meaning_of}
use Rattle.mx_wire.specs.Reply.{Outcome, body_of, ReadsFrom, Reads}
use Rattle.mx_wire.specs.Reply.ReadsFrom.{no_block, no_head, interim, final}
use Rattle.mx_wire.specs.declared.head.Meaning.{Meaning}
use Rattle.mx_wire.specs.declared.head.Meaning.TheVariants as meaning
use Rattle.mx_wire.specs.declared.head.Framing.{Framing}

-- A block means one thing.
pub meaning-unique : (block : List ℕ) (m n : Meaning) → HasMeaning block m → HasMeaning block n → m ≡ n
meaning-unique block m n (inl x) (inl y) =
    let same : x.0 ≡ y.0 = (response_unique block x.0 y.0 [] [] x.1.0 y.1.0).0 in
    x.2 ∙ ap meaning_of same ∙ sym y.2
meaning-unique block m n (inl x) (inr y) = absurd (y.0 x.0 x.1)
meaning-unique block m n (inr x) (inl y) = absurd (x.0 y.0 y.1)
meaning-unique block m n (inr x) (inr y) = x.1 ∙ sym y.1

refuse-interim : meaning.Refuse ≡ meaning.Interim → ⊥
refuse-interim is = cc

refuse-final : (status : ℕ) (framed : Framing) → meaning.Refuse ≡ meaning.Final status framed → ⊥
refuse-final status framed is = cc

interim-final : (status : ℕ) (framed : Framing) → meaning.Interim ≡ meaning.Final status framed → ⊥
interim-final status framed is = cc

same-body : (s t : ℕ) (f g : Framing) (ended : Bool) (u : List ℕ) → meaning.Final s f ≡ meaning.Final t g
    → body_of s f ended u ≡ body_of t g ended u
same-body s t f g ended u is =
    let status : s ≡ t = cc in
    let framed : f ≡ g = cc in
    ap (λ (n : ℕ). body_of n f ended u) status ∙ ap (λ (x : Framing). body_of t x ended u) framed

from-unique : (ended : Bool) (r : Reading (List ℕ)) (o p : Outcome) → ReadsFrom ended r o → ReadsFrom ended r p → o ≡ p
from-unique ended r o p no_block no_block = refl
from-unique ended r o p (no_head {block = block} m) (no_head n) = refl
from-unique ended r o p (no_head {block = block} m) (interim n reads) =
    absurd (refuse-interim (meaning-unique block meaning.Refuse meaning.Interim m n))
from-unique ended r o p (no_head {block = block} m) (final {status = t} {framed = g} n is) =
    absurd (refuse-final t g (meaning-unique block meaning.Refuse (meaning.Final t g) m n))
from-unique ended r o p (interim {block = block} m reads) (no_head n) =
    absurd (refuse-interim (meaning-unique block meaning.Refuse meaning.Interim n m))
from-unique ended r o p (interim {block = block} {rest = rest} m reads) (interim n other) =
    from-unique ended (block_at rest) o p reads other
from-unique ended r o p (interim {block = block} m reads) (final {status = t} {framed = g} n is) =
    absurd (interim-final t g (meaning-unique block meaning.Interim (meaning.Final t g) m n))
from-unique ended r o p (final {block = block} {status = s} {framed = f} m is) (no_head n) =
    absurd (refuse-final s f (meaning-unique block meaning.Refuse (meaning.Final s f) n m))
from-unique ended r o p (final {block = block} {status = s} {framed = f} m is) (interim n reads) =
    absurd (interim-final s f (meaning-unique block meaning.Interim (meaning.Final s f) n m))
from-unique ended r o p (final {block = block} {rest = rest} {status = s} {framed = f} m is)
    (final {status = t} {framed = g} n other) =
    is ∙ same-body s t f g ended rest (meaning-unique block (meaning.Final s f) (meaning.Final t g) m n) ∙ sym other

-- Two outcomes of the same bytes are the same.
pub one-outcome : (bytes : List ℕ) (ended : Bool) (o p : Outcome) → Reads bytes ended o → Reads bytes ended p → o ≡ p
one-outcome bytes ended o p first second = from-unique ended (block_at bytes) o p first second
