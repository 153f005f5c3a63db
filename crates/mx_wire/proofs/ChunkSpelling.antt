-- That chunks are read exactly as they are spelled.
use Rattle.std.proofs.Common.{◌≡◌, ℕ, zero, suc, ◌+◌, ◌*◌, ◌<◌, ◌≤◌, Bool, true, false, ◌==◌, ◌||◌, nat_lt, List, []}
use Rattle.std.proofs.Common.{◌∷◌, ◌++◌, length, Option, Some, None, refl, ap, sym, subst, ◌∙◌, append_assoc, inl, inr}
use Rattle.std.proofs.Common.{arith}
use Rattle.std.specs.Prelude.{◌⊎◌}
use Rattle.std.proofs.lemmas.Bool.Decides.{Decides-eqb, Decides-ltb}
use Rattle.std.proofs.lemmas.List.{length-append}
use Rattle.mx_wire.specs.Reading.{Reading, ◌>>=◌, with_front}
use Rattle.mx_wire.specs.Reading.Reading.{Got, Refused, Lacking}
use Rattle.mx_wire.specs.Bodies.{hex_value, begins_extension, feed, crlf, extension, after_digits, digits, size_line}
use Rattle.mx_wire.specs.Bodies.{counted, trailer, after_size, chunked}
use Rattle.mx_wire.specs.ChunkWords.{IsPlain, Write, IsExtension, WritesSize, IsTrailer, IsChunked, SpellsChunks}
use Rattle.mx_wire.specs.ChunkWords.IsTrailer.{trailer_end, trailer_line}
use Rattle.mx_wire.specs.ChunkWords.IsChunked.{last_chunk, one_chunk}
use Rattle.mx_wire.specs.declared.line.InLine.{InLine}
use Rattle.mx_wire.specs.declared.line.InLine.TheVariants.{Start, BehindCr, Inside}
use Rattle.mx_wire.proofs.Chunks.{Below, digits-below, chunked_is}

-- A test whose value is known.
when-true : {A : Type 0} (t : Bool) (r s : Reading A) → t ≡ true → elim t [ true ↦ r | false ↦ s ] ≡ r
when-true true r s is = refl
when-true false r s is = cc

when-false : {A : Type 0} (t : Bool) (r s : Reading A) → t ≡ false → elim t [ true ↦ r | false ↦ s ] ≡ s
when-false true r s is = cc
when-false false r s is = refl

-- An extension is read.
plain-read : (text : List ℕ) (n : ℕ) (rest : List ℕ) → IsPlain text
    → extension n (text ++ (13 ∷ 10 ∷ rest)) ≡ Got n rest
unfolding extension
plain-read [] n rest plain = refl
plain-read (b ∷ text) n rest plain =
    when-false (b == 13) (feed n (text ++ (13 ∷ 10 ∷ rest)))
    (elim (b == 10) [ true ↦ Refused | false ↦ extension n (text ++ (13 ∷ 10 ∷ rest)) ]) plain.0
    ∙ when-false (b == 10) Refused (extension n (text ++ (13 ∷ 10 ∷ rest))) plain.1
    ∙ plain-read text n rest plain.2

begins-cases : (b : ℕ) → begins_extension b ≡ true → (b ≡ 59) ⊎ ((b ≡ 32) ⊎ (b ≡ 9))
begins-cases b is = cases (b == 59) (b == 32) (b == 9) refl refl refl is
  where
    cases : (s t r : Bool) → (b == 59) ≡ s → (b == 32) ≡ t → (b == 9) ≡ r → (s || t || r) ≡ true
        → (b ≡ 59) ⊎ ((b ≡ 32) ⊎ (b ≡ 9))
    cases true t r first second third either = inl ((Decides-eqb b 59).0 first)
    cases false true r first second third either = inr (inl ((Decides-eqb b 32).0 second))
    cases false false true first second third either = inr (inr ((Decides-eqb b 9).0 third))
    cases false false false first second third either = cc

-- What begins an extension is neither a digit nor a CR.
begins-none : (b : ℕ) → begins_extension b ≡ true → (hex_value b ≡ None) × ((b == 13) ≡ false)
begins-none b is = cases (begins-cases b is)
  where
    cases : (b ≡ 59) ⊎ ((b ≡ 32) ⊎ (b ≡ 9)) → (hex_value b ≡ None) × ((b == 13) ≡ false)
    cases (inl e) = (ap hex_value e, ap (λ (c : ℕ). c == 13) e)
    cases (inr (inl e)) = (ap hex_value e, ap (λ (c : ℕ). c == 13) e)
    cases (inr (inr e)) = (ap hex_value e, ap (λ (c : ℕ). c == 13) e)

-- What is read from a byte on that is a digit of this value.
abbrev from_digit : ℕ → ℕ → List ℕ → ℕ → Reading ℕ
from_digit count n u d = elim (nat_lt count 8) [ true ↦ digits (count + 1) (16 * n + d) u | false ↦ Refused ]

-- What is read from a byte on that is none.
abbrev from_other : ℕ → ℕ → ℕ → List ℕ → Reading ℕ
from_other count n b u = elim (nat_lt 0 count) [ true ↦ after_digits n b u | false ↦ Refused ]

-- What is read from a byte on, by its value as a digit.
abbrev from_value : ℕ → ℕ → ℕ → List ℕ → Option ℕ → Reading ℕ
from_value count n b u value = elim value [ Some d ↦ from_digit count n u d | None ↦ from_other count n b u ]

at-none : (count n b : ℕ) (u : List ℕ) (value : Option ℕ) → value ≡ None
    → from_value count n b u value ≡ from_other count n b u
at-none count n b u (Some d) is = cc
at-none count n b u None is = refl

at-digit : (count n b : ℕ) (u : List ℕ) (value : Option ℕ) (d : ℕ) → value ≡ Some d
    → from_value count n b u value ≡ from_digit count n u d
at-digit count n b u (Some c) d is = let same : c ≡ d = cc in ap (from_digit count n u) same
at-digit count n b u None d is = cc

-- What stands behind the digits is read.
behind-read : (text : List ℕ) (count n : ℕ) (rest : List ℕ) → 0 < count → IsExtension text
    → digits count n (text ++ (13 ∷ 10 ∷ rest)) ≡ Got n rest
unfolding digits
behind-read [] count n rest some extended =
    when-true (nat_lt 0 count) (Got n rest) Refused ((Decides-ltb 0 count).1 some)
behind-read (b ∷ text) count n rest some extended =
    let u = text ++ (13 ∷ 10 ∷ rest) in
    let none = begins-none b extended.0 in
    at-none count n b u (hex_value b) none.0
    ∙ when-true (nat_lt 0 count) (after_digits n b u) Refused ((Decides-ltb 0 count).1 some)
    ∙ when-false (b == 13) (feed n u) (elim (begins_extension b) [ true ↦ extension n u | false ↦ Refused ]) none.1
    ∙ when-true (begins_extension b) (extension n u) Refused extended.0
    ∙ plain-read text n rest extended.1

-- Digits and what stands behind them are read.
digits-read : (text ext : List ℕ) (count so_far n : ℕ) (rest : List ℕ) → Write so_far text n → 0 < count + length text
    → count + length text ≤ 8 → IsExtension ext → digits count so_far (text ++ (ext ++ (13 ∷ 10 ∷ rest))) ≡ Got n rest
unfolding digits
digits-read [] ext count so_far n rest writes some few extended =
    ap (λ (m : ℕ). digits count m (ext ++ (13 ∷ 10 ∷ rest))) writes
    ∙ behind-read ext count n rest (omega arith) extended
digits-read (b ∷ text) ext count so_far n rest writes some few extended =
    let u = text ++ (ext ++ (13 ∷ 10 ∷ rest)) in
    let d = writes.0 in
    at-digit count so_far b u (hex_value b) d writes.1
    ∙ when-true (nat_lt count 8) (digits (count + 1) (16 * so_far + d) u) Refused
    ((Decides-ltb count 8).1 (omega arith))
    ∙ digits-read text ext (count + 1) (16 * so_far + d) n rest writes.2 (omega arith) (omega arith) extended

-- A size line is read.
pub size-read : (line : List ℕ) (n : ℕ) (rest : List ℕ) → WritesSize line n → size_line (line ++ rest) ≡ Got n rest
size-read line n rest writes =
    let text = writes.text in
    let ext = writes.extension in
    ap (λ (l : List ℕ). size_line (l ++ rest)) writes.is
    ∙ ap (λ (l : List ℕ). size_line l) (append_assoc text (ext ++ 13 ∷ 10 ∷ []) rest)
    ∙ ap (λ (l : List ℕ). size_line (text ++ l)) (append_assoc ext (13 ∷ 10 ∷ []) rest)
    ∙ digits-read text ext 0 0 n rest writes.digits (omega arith) (omega arith) writes.extended

-- So many bytes are read.
counted-read : (piece : List ℕ) (n : ℕ) (rest : List ℕ) → length piece ≡ n → counted n (piece ++ rest) ≡ Got piece rest
unfolding counted
counted-read [] zero rest long = refl
counted-read [] (suc n) rest long = absurd (omega arith)
counted-read (b ∷ piece) zero rest long = absurd (omega arith)
counted-read (b ∷ piece) (suc n) rest long =
    ap (λ (r : Reading (List ℕ)). with_front (b ∷ []) r) (counted-read piece n rest (omega arith))

-- A trailer is read.
inside-read : (line : List ℕ) (v : List ℕ) → IsPlain line → trailer Inside (line ++ (13 ∷ 10 ∷ v)) ≡ trailer Start v
unfolding trailer
inside-read [] v plain = refl
inside-read (b ∷ line) v plain =
    when-false (b == 13) (trailer BehindCr (line ++ (13 ∷ 10 ∷ v)))
    (elim (b == 10) [ true ↦ Refused | false ↦ trailer Inside (line ++ (13 ∷ 10 ∷ v)) ]) plain.0
    ∙ when-false (b == 10) Refused (trailer Inside (line ++ (13 ∷ 10 ∷ v))) plain.1
    ∙ inside-read line v plain.2

line-read : (line : List ℕ) (v : List ℕ) → 0 < length line → IsPlain line
    → trailer Start (line ++ (13 ∷ 10 ∷ v)) ≡ trailer Start v
unfolding trailer
line-read [] v some plain = absurd (omega arith)
line-read (b ∷ line) v some plain =
    let none : List ℕ = [] in
    when-false (b == 13) (feed none (line ++ (13 ∷ 10 ∷ v)))
    (elim (b == 10) [ true ↦ Refused | false ↦ trailer Inside (line ++ (13 ∷ 10 ∷ v)) ]) plain.0
    ∙ when-false (b == 10) Refused (trailer Inside (line ++ (13 ∷ 10 ∷ v))) plain.1
    ∙ inside-read line v plain.2

trailer-nothing : (rest : List ℕ) → trailer Start (13 ∷ 10 ∷ rest) ≡ Got [] rest
unfolding trailer
trailer-nothing rest = refl

pub trailer-read : (text rest : List ℕ) → IsTrailer text → trailer Start (text ++ rest) ≡ Got [] rest
trailer-read text rest (trailer_end is) = ap (λ (l : List ℕ). trailer Start (l ++ rest)) is ∙ trailer-nothing rest
trailer-read text rest (trailer_line line others some plain are is) =
    ap (λ (l : List ℕ). trailer Start (l ++ rest)) is
    ∙ ap (λ (l : List ℕ). trailer Start l) (append_assoc line (13 ∷ 10 ∷ others) rest)
    ∙ line-read line (others ++ rest) some plain
    ∙ trailer-read others rest are

-- A body in chunks is read, whatever comes behind it.
pub chunks-read : (coded body rest : List ℕ) → IsChunked coded body → chunked (coded ++ rest) ≡ Got body rest
chunks-read coded body rest (last_chunk line others writes trails is none) =
    ap (λ (l : List ℕ). chunked (l ++ rest)) is
    ∙ ap (λ (l : List ℕ). chunked l) (append_assoc line others rest)
    ∙ chunked_is (line ++ (others ++ rest))
    ∙ ap (λ (r : Reading ℕ). r >>= (λ size. after_size chunked size.0 size.1))
    (size-read line 0 (others ++ rest) writes)
    ∙ trailer-read others rest trails
    ∙ ap (λ (l : List ℕ). Got l rest) (sym none)
chunks-read coded body rest (one_chunk line piece others bodies n writes long are is whole) =
    let go : Reading (List ℕ) → Reading (List ℕ) =
    λ r. r >>= (λ piece. crlf piece.1 >>= (λ end. with_front piece.0 (chunked end.1))) in
    ap (λ (l : List ℕ). chunked (l ++ rest)) is
    ∙ ap (λ (l : List ℕ). chunked l) (append_assoc line (piece ++ (13 ∷ 10 ∷ others)) rest)
    ∙ ap (λ (l : List ℕ). chunked (line ++ l)) (append_assoc piece (13 ∷ 10 ∷ others) rest)
    ∙ chunked_is (line ++ (piece ++ (13 ∷ 10 ∷ (others ++ rest))))
    ∙ ap (λ (r : Reading ℕ). r >>= (λ size. after_size chunked size.0 size.1))
    (size-read line (suc n) (piece ++ (13 ∷ 10 ∷ (others ++ rest))) writes)
    ∙ ap go (counted-read piece (suc n) (13 ∷ 10 ∷ (others ++ rest)) long)
    ∙ ap (λ (r : Reading (List ℕ)). with_front piece r) (chunks-read others bodies rest are)
    ∙ ap (λ (l : List ℕ). Got l rest) (sym whole)

got-value : {A : Type 0} (a b : A) (r s : List ℕ) → Got a r ≡ Got b s → a ≡ b
got-value a b r s is = cc

got-left : {A : Type 0} (a b : A) (r s : List ℕ) → Got a r ≡ Got b s → r ≡ s
got-left a b r s is = cc

refused-got : {A : Type 0} (a : A) (r : List ℕ) → ◌≡◌ {A = Reading A} Refused (Got a r) → ⊥
refused-got a r is = cc

lacking-got : {A : Type 0} (a : A) (r : List ℕ) → ◌≡◌ {A = Reading A} Lacking (Got a r) → ⊥
lacking-got a r is = cc

-- A choice that gave something where the other way is refused.
chose-first : {A : Type 0} (t : Bool) (r : Reading A) (a : A) (s : List ℕ)
    → elim t [ true ↦ r | false ↦ Refused ] ≡ Got a s
    → (t ≡ true) × (r ≡ Got a s)
chose-first true r a s is = (refl, is)
chose-first false r a s is = absurd (refused-got a s is)

chose-second : {A : Type 0} (t : Bool) (r : Reading A) (a : A) (s : List ℕ)
    → elim t [ true ↦ Refused | false ↦ r ] ≡ Got a s
    → (t ≡ false) × (r ≡ Got a s)
chose-second true r a s is = absurd (refused-got a s is)
chose-second false r a s is = (refl, is)

-- A line feed was read.
feed-spelled : {A : Type 0} (a : A) (u : List ℕ) (n : A) (rest : List ℕ) → feed a u ≡ Got n rest
    → (u ≡ 10 ∷ rest) × (a ≡ n)
feed-spelled a [] n rest got = absurd (lacking-got n rest got)
feed-spelled a (b ∷ u) n rest got =
    let chose = chose-first (b == 10) (Got a u) n rest got in
    let first : b ≡ 10 = (Decides-eqb b 10).0 chose.0 in (
      ap (λ (c : ℕ). c ∷ u) first ∙ ap (λ (l : List ℕ). 10 ∷ l) (got-left a n u rest chose.1),
      got-value a n u rest chose.1,
    )

crlf-spelled : (u piece rest : List ℕ) → crlf u ≡ Got piece rest → u ≡ 13 ∷ 10 ∷ rest
crlf-spelled [] piece rest got = absurd (lacking-got piece rest got)
crlf-spelled (b ∷ u) piece rest got =
    let none : List ℕ = [] in
    let chose = chose-first (b == 13) (feed none u) piece rest got in
    let first : b ≡ 13 = (Decides-eqb b 13).0 chose.0 in
    ap (λ (c : ℕ). c ∷ u) first ∙ ap (λ (l : List ℕ). 13 ∷ l) (feed-spelled none u piece rest chose.1).0

-- The rest of an extension was read.
record Plainly (u : List ℕ) (n m : ℕ) (rest : List ℕ) : Type 0 where
  text : List ℕ
  plain : IsPlain text
  front : u ≡ text ++ (13 ∷ 10 ∷ rest)
  value : n ≡ m

extension-byte : (t : Bool) (n b : ℕ) (u : List ℕ) (m : ℕ) (rest : List ℕ) → (b == 13) ≡ t
    → (extension n u ≡ Got m rest → Plainly u n m rest)
    → elim t [ true ↦ feed n u | false ↦ elim (b == 10) [ true ↦ Refused | false ↦ extension n u ] ] ≡ Got m rest
    → Plainly (b ∷ u) n m rest
extension-byte true n b u m rest is goes got =
    let end = feed-spelled n u m rest got in
    let first : b ≡ 13 = (Decides-eqb b 13).0 is in
    record {
      text = [];
      plain = tt;
      front = ap (λ (c : ℕ). c ∷ u) first ∙ ap (λ (l : List ℕ). 13 ∷ l) end.0;
      value = end.1;
    }
extension-byte false n b u m rest is goes got =
    let chose = chose-second (b == 10) (extension n u) m rest got in
    let more = goes chose.1 in
    record {
      text = b ∷ more.text;
      plain = (is, chose.0, more.plain);
      front = ap (λ (l : List ℕ). b ∷ l) more.front;
      value = more.value;
    }

extension-spelled : (n : ℕ) (u : List ℕ) (m : ℕ) (rest : List ℕ) → extension n u ≡ Got m rest → Plainly u n m rest
unfolding extension
extension-spelled n [] m rest got = absurd (lacking-got m rest got)
extension-spelled n (b ∷ u) m rest got = extension-byte (b == 13) n b u m rest refl (extension-spelled n u m rest) got

-- What stands behind the digits was read.
record Extended (u : List ℕ) (n m : ℕ) (rest : List ℕ) : Type 0 where
  ext : List ℕ
  extended : IsExtension ext
  front : u ≡ ext ++ (13 ∷ 10 ∷ rest)
  value : n ≡ m

behind-byte : (t : Bool) (n b : ℕ) (u : List ℕ) (m : ℕ) (rest : List ℕ) → (b == 13) ≡ t
    → elim t [ true ↦ feed n u | false ↦ elim (begins_extension b) [ true ↦ extension n u | false ↦ Refused ] ]
    ≡ Got m rest
    → Extended (b ∷ u) n m rest
behind-byte true n b u m rest is got =
    let end = feed-spelled n u m rest got in
    let first : b ≡ 13 = (Decides-eqb b 13).0 is in
    record {
      ext = [];
      extended = tt;
      front = ap (λ (c : ℕ). c ∷ u) first ∙ ap (λ (l : List ℕ). 13 ∷ l) end.0;
      value = end.1;
    }
behind-byte false n b u m rest is got =
    let chose = chose-first (begins_extension b) (extension n u) m rest got in
    let more = extension-spelled n u m rest chose.1 in
    record {
      ext = b ∷ more.text;
      extended = (chose.0, more.plain);
      front = ap (λ (l : List ℕ). b ∷ l) more.front;
      value = more.value;
    }

-- The digits and what stands behind them were read.
record Digited (u : List ℕ) (count so_far m : ℕ) (rest : List ℕ) : Type 0 where
  text : List ℕ
  ext : List ℕ
  writes : Write so_far text m
  some : 0 < count + length text
  few : count + length text ≤ 8
  extended : IsExtension ext
  front : u ≡ text ++ (ext ++ (13 ∷ 10 ∷ rest))

digit-byte : (value : Option ℕ) (count so_far b : ℕ) (u : List ℕ) (m : ℕ) (rest : List ℕ) → hex_value b ≡ value
    → count ≤ 8
    → ((d : ℕ) → count + 1 ≤ 8 → digits (count + 1) (16 * so_far + d) u ≡ Got m rest
    → Digited u (count + 1) (16 * so_far + d) m rest)
    → from_value count so_far b u value ≡ Got m rest → Digited (b ∷ u) count so_far m rest
digit-byte (Some d) count so_far b u m rest is few goes got =
    let chose = chose-first (nat_lt count 8) (digits (count + 1) (16 * so_far + d) u) m rest got in
    let less : count < 8 = (Decides-ltb count 8).0 chose.0 in
    let more = goes d (omega arith) chose.1 in
    record {
      text = b ∷ more.text;
      ext = more.ext;
      writes = (d, is, more.writes);
      some = omega (arith, more.some);
      few = omega (arith, more.few);
      extended = more.extended;
      front = ap (λ (l : List ℕ). b ∷ l) more.front;
    }
digit-byte None count so_far b u m rest is few goes got =
    let chose = chose-first (nat_lt 0 count) (after_digits so_far b u) m rest got in
    let less : 0 < count = (Decides-ltb 0 count).0 chose.0 in
    let more = behind-byte (b == 13) so_far b u m rest refl chose.1 in
    record {
      text = [];
      ext = more.ext;
      writes = more.value;
      some = omega arith;
      few = omega arith;
      extended = more.extended;
      front = more.front;
    }

digits-spelled : (u : List ℕ) (count so_far m : ℕ) (rest : List ℕ) → count ≤ 8 → digits count so_far u ≡ Got m rest
    → Digited u count so_far m rest
unfolding digits
digits-spelled [] count so_far m rest few got = absurd (lacking-got m rest got)
digits-spelled (b ∷ u) count so_far m rest few got =
    digit-byte (hex_value b) count so_far b u m rest refl few
    (λ d less next. digits-spelled u (count + 1) (16 * so_far + d) m rest less next) got

-- A size line was read.
record Sized (u : List ℕ) (n : ℕ) (rest : List ℕ) : Type 0 where
  line : List ℕ
  writes : WritesSize line n
  front : u ≡ line ++ rest

size-spelled : (u : List ℕ) (n : ℕ) (rest : List ℕ) → size_line u ≡ Got n rest → Sized u n rest
size-spelled u n rest got =
    let s = digits-spelled u 0 0 n rest (omega arith) got in
    record {
      line = s.text ++ (s.ext ++ 13 ∷ 10 ∷ []);
      writes = record {
        text = s.text;
        extension = s.ext;
        some = omega (arith, s.some);
        few = omega (arith, s.few);
        digits = s.writes;
        extended = s.extended;
        is = refl;
      };
      front =
          s.front
          ∙ ap (λ (l : List ℕ). s.text ++ l) (sym (append_assoc s.ext (13 ∷ 10 ∷ []) rest))
          ∙ sym (append_assoc s.text (s.ext ++ 13 ∷ 10 ∷ []) rest);
    }

-- What was read behind a front.
front-spelled : (front : List ℕ) (r : Reading (List ℕ)) (bytes rest : List ℕ) → with_front front r ≡ Got bytes rest
    → (inner : List ℕ) × (r ≡ Got inner rest) × (bytes ≡ front ++ inner)
front-spelled front (Got inner left) bytes rest got = (
  inner,
  ap (λ (l : List ℕ). Got inner l) (got-left (front ++ inner) bytes left rest got),
  sym (got-value (front ++ inner) bytes left rest got),
)
front-spelled front Refused bytes rest got = absurd (refused-got bytes rest got)
front-spelled front Lacking bytes rest got = absurd (lacking-got bytes rest got)

counted-spelled : (n : ℕ) (u piece rest : List ℕ) → counted n u ≡ Got piece rest
    → (u ≡ piece ++ rest) × (length piece ≡ n)
unfolding counted
counted-spelled zero u piece rest got =
    let none : List ℕ = [] in
    let is : none ≡ piece = got-value none piece u rest got in
    (got-left none piece u rest got ∙ ap (λ (l : List ℕ). l ++ rest) is, ap (λ (l : List ℕ). length l) (sym is))
counted-spelled (suc n) [] piece rest got = absurd (lacking-got piece rest got)
counted-spelled (suc n) (b ∷ u) piece rest got =
    let inner = front-spelled (b ∷ []) (counted n u) piece rest got in
    let more = counted-spelled n u inner.0 rest inner.1 in (
      ap (λ (l : List ℕ). b ∷ l) more.0 ∙ ap (λ (l : List ℕ). l ++ rest) (sym inner.2),
      ap (λ (l : List ℕ). length l) inner.2 ∙ ap (λ k. suc k) more.1,
    )

plain-more : (line : List ℕ) (b : ℕ) → IsPlain line → (b == 13) ≡ false → (b == 10) ≡ false → IsPlain (line ++ b ∷ [])
plain-more [] b plain first second = (first, second, tt)
plain-more (c ∷ line) b plain first second = (plain.0, plain.1, plain-more line b plain.2 first second)

-- What came of a line of the trailer so far, at this place of it.
before : InLine → List ℕ → List ℕ
before Start line = []
before BehindCr line = line ++ 13 ∷ []
before Inside line = line

-- A line has some bytes and is plain, where one stands behind its first.
At : InLine → List ℕ → Type 0
At Start line = Unit {0}
At BehindCr line = (0 < length line) × IsPlain line
At Inside line = (0 < length line) × IsPlain line

-- The rest of a trailer was read.
record Trailed (front u body rest : List ℕ) : Type 0 where
  tail : List ℕ
  is : IsTrailer (front ++ tail)
  spelled : u ≡ tail ++ rest
  none : body ≡ []

start-byte : (t : Bool) (b : ℕ) (u body rest : List ℕ) → (b == 13) ≡ t
    → ((line : List ℕ) → 0 < length line → IsPlain line → trailer Inside u ≡ Got body rest → Trailed line u body rest)
    → (let none : List ℕ = [] in elim t [
      | true ↦ feed none u
      | false ↦ elim (b == 10) [ true ↦ Refused | false ↦ trailer Inside u ]
    ]) ≡ Got body rest
    → Trailed [] (b ∷ u) body rest
start-byte true b u body rest is goes got =
    let none : List ℕ = [] in
    let end = feed-spelled none u body rest got in
    let first : b ≡ 13 = (Decides-eqb b 13).0 is in
    record {
      tail = 13 ∷ 10 ∷ [];
      is = trailer_end refl;
      spelled = ap (λ (c : ℕ). c ∷ u) first
          ∙ ap (λ (l : List ℕ). 13 ∷ l) end.0;
      none = sym end.1;
    }
start-byte false b u body rest is goes got =
    let chose = chose-second (b == 10) (trailer Inside u) body rest got in
    let more = goes (b ∷ []) (omega arith) (is, chose.0, tt) chose.1 in
    record { tail = b ∷ more.tail; is = more.is; spelled = ap (λ (l : List ℕ). b ∷ l) more.spelled; none = more.none }

inside-byte : (t : Bool) (b : ℕ) (line u body rest : List ℕ) → (b == 13) ≡ t → 0 < length line → IsPlain line
    → (trailer BehindCr u ≡ Got body rest → Trailed (line ++ 13 ∷ []) u body rest)
    → ((more : List ℕ) → 0 < length more → IsPlain more → trailer Inside u ≡ Got body rest → Trailed more u body rest)
    → elim t [ true ↦ trailer BehindCr u | false ↦ elim (b == 10) [ true ↦ Refused | false ↦ trailer Inside u ] ]
    ≡ Got body rest
    → Trailed line (b ∷ u) body rest
inside-byte true b line u body rest is some plain ends goes got =
    let more = ends got in
    let first : b ≡ 13 = (Decides-eqb b 13).0 is in
    record {
      tail = 13 ∷ more.tail;
      is = subst (λ (l : List ℕ). IsTrailer l) (append_assoc line (13 ∷ []) more.tail) more.is;
      spelled = ap (λ (c : ℕ). c ∷ u) first ∙ ap (λ (l : List ℕ). 13 ∷ l) more.spelled;
      none = more.none;
    }
inside-byte false b line u body rest is some plain ends goes got =
    let chose = chose-second (b == 10) (trailer Inside u) body rest got in
    let longer : 0 < length (line ++ b ∷ []) = simp length-append (omega arith) in
    let more = goes (line ++ b ∷ []) longer (plain-more line b plain is chose.0) chose.1 in
    record {
      tail = b ∷ more.tail;
      is = subst (λ (l : List ℕ). IsTrailer l) (append_assoc line (b ∷ []) more.tail) more.is;
      spelled = ap (λ (l : List ℕ). b ∷ l) more.spelled;
      none = more.none;
    }

cr-byte : (b : ℕ) (line u body rest : List ℕ) → 0 < length line → IsPlain line
    → (trailer Start u ≡ Got body rest → Trailed [] u body rest)
    → elim (b == 10) [ true ↦ trailer Start u | false ↦ Refused ] ≡ Got body rest
    → Trailed (line ++ 13 ∷ []) (b ∷ u) body rest
cr-byte b line u body rest some plain goes got =
    let chose = chose-first (b == 10) (trailer Start u) body rest got in
    let more = goes chose.1 in
    let first : b ≡ 10 = (Decides-eqb b 10).0 chose.0 in
    record {
      tail = 10 ∷ more.tail;
      is = trailer_line line more.tail some plain more.is (append_assoc line (13 ∷ []) (10 ∷ more.tail));
      spelled = ap (λ (c : ℕ). c ∷ u) first ∙ ap (λ (l : List ℕ). 10 ∷ l) more.spelled;
      none = more.none;
    }

trailer-spelled : (u : List ℕ) (place : InLine) (line body rest : List ℕ) → At place line
    → trailer place u ≡ Got body rest
    → Trailed (before place line) u body rest
unfolding trailer before At
trailer-spelled [] Start line body rest at got = absurd (lacking-got body rest got)
trailer-spelled [] BehindCr line body rest at got = absurd (lacking-got body rest got)
trailer-spelled [] Inside line body rest at got = absurd (lacking-got body rest got)
trailer-spelled (b ∷ u) Start line body rest at got =
    start-byte (b == 13) b u body rest refl (λ more some plain next.
    trailer-spelled u Inside more body rest (some, plain) next) got
trailer-spelled (b ∷ u) BehindCr line body rest at got =
    cr-byte b line u body rest at.0 at.1 (λ next. trailer-spelled u Start [] body rest tt next) got
trailer-spelled (b ∷ u) Inside line body rest at got =
    inside-byte (b == 13) b line u body rest refl at.0 at.1
    (λ next. trailer-spelled u BehindCr line body rest at next)
    (λ more some plain next. trailer-spelled u Inside more body rest (some, plain) next) got

start-spelled : (u body rest : List ℕ) → trailer Start u ≡ Got body rest → Trailed [] u body rest
unfolding before At
start-spelled u body rest got = trailer-spelled u Start [] body rest tt got

-- What was read first, where two things were read one after another.
bind-spelled : {A B : Type 0} (r : Reading A) (f : A × List ℕ → Reading B) (b : B) (rest : List ℕ)
    → (r >>= f) ≡ Got b rest
    → (a : A) × (left : List ℕ) × (r ≡ Got a left) × (f (a, left) ≡ Got b rest)
bind-spelled (Got a left) f b rest got = (a, left, refl, got)
bind-spelled Refused f b rest got = absurd (refused-got b rest got)
bind-spelled Lacking f b rest got = absurd (lacking-got b rest got)

spelled-after : (n m : ℕ) (u left body rest : List ℕ) → Sized u n left → length left < m
    → ((v others : List ℕ) → length v < m → chunked v ≡ Got others rest → SpellsChunks v others rest)
    → after_size chunked n left ≡ Got body rest → SpellsChunks u body rest
spelled-after zero m u left body rest size fewer goes got =
    let trail = start-spelled left body rest got in
    record {
      coded = size.line ++ trail.tail;
      front = size.front ∙ ap (λ (l : List ℕ). size.line ++ l) trail.spelled
          ∙ sym (append_assoc size.line trail.tail rest);
      is = last_chunk size.line trail.tail size.writes trail.is refl trail.none;
    }
spelled-after (suc n) m u left body rest size fewer goes got =
    let piece = bind-spelled (counted (suc n) left)
    (λ piece. crlf piece.1 >>= (λ end. with_front piece.0 (chunked end.1))) body rest got in
    let end = bind-spelled (crlf piece.1) (λ end. with_front piece.0 (chunked end.1)) body rest piece.3 in
    let inner = front-spelled piece.0 (chunked end.1) body rest end.3 in
    let first = counted-spelled (suc n) left piece.0 piece.1 piece.2 in
    let feed = crlf-spelled piece.1 end.0 end.1 end.2 in
    let whole : left ≡ piece.0 ++ (13 ∷ 10 ∷ end.1) = first.0 ∙ ap (λ (l : List ℕ). piece.0 ++ l) feed in
    let long : length left ≡ length piece.0 + length (13 ∷ 10 ∷ end.1) = ap (λ (l : List ℕ). length l) whole
    ∙ length-append piece.0 (13 ∷ 10 ∷ end.1) in
    let short : length end.1 < m = omega arith in
    let others = goes end.1 inner.0 short inner.1 in
    let coded = piece.0 ++ (13 ∷ 10 ∷ others.coded) in
    record {
      coded = size.line ++ coded;
      front =
          size.front
          ∙ ap (λ (l : List ℕ). size.line ++ l) (whole ∙ ap (λ (l : List ℕ). piece.0 ++ (13 ∷ 10 ∷ l)) others.front
          ∙ sym (append_assoc piece.0 (13 ∷ 10 ∷ others.coded) rest))
          ∙ sym (append_assoc size.line coded rest);
      is = one_chunk size.line piece.0 others.coded inner.0 n size.writes first.1 others.is refl inner.2;
    }

chunks-spelled_below : (n : ℕ) (u body rest : List ℕ) → length u < n → chunked u ≡ Got body rest
    → SpellsChunks u body rest
chunks-spelled_below zero u body rest few got = absurd (omega arith)
chunks-spelled_below (suc n) u body rest few got =
    let size = bind-spelled (size_line u) (λ size. after_size chunked size.0 size.1) body rest
    (sym (chunked_is u) ∙ got) in
    let sized = size-spelled u size.0 size.1 size.2 in
    let below = subst (λ (r : Reading ℕ). Below (length u) r) size.2 (digits-below 0 0 u) in
    spelled-after size.0 (length u) u size.1 body rest sized below
    (λ v others short next. chunks-spelled_below n v others rest (omega arith) next) size.3

-- What is read as a body in chunks is one, and stands at the front of the bytes.
pub chunks-spelled : (bytes body rest : List ℕ) → chunked bytes ≡ Got body rest → SpellsChunks bytes body rest
chunks-spelled bytes body rest got = chunks-spelled_below (suc (length bytes)) bytes body rest (omega arith) got
