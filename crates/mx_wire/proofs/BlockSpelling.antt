-- That blocks are read exactly as they are spelled.
use Rattle.std.proofs.Common.{◌≡◌, ◌≢◌, ℕ, Bool, true, false, ◌==◌, List, [], ◌∷◌, ◌++◌, Some, None, refl, ap, sym}
use Rattle.std.proofs.Common.{subst, ◌∙◌, append_assoc, append-nil, inl, inr}
use Rattle.std.specs.Prelude.{if◌then◌else◌}
use Rattle.std.proofs.lemmas.Bool.Decides.{Decides-eqb}
use Rattle.mx_wire.specs.Reading.Reading.{Got}
use Rattle.mx_wire.specs.Blocks.{block_from, block_at, next_in_block, within_line, place_after}
use Rattle.mx_wire.specs.Spelling.{IsOneLine, IsEmptyLine, IsFullLine, IsBlockRest, IsBlock}
use Rattle.mx_wire.specs.Spelling.IsBlockRest.{end_line, blank_line, full_line}
use Rattle.mx_wire.specs.declared.line.InLine.{InLine}
use Rattle.mx_wire.specs.declared.line.InLine.TheVariants.{Start, BehindCr, Inside}
use Rattle.mx_wire.proofs.Steps.{block_goes, block_stops}

-- Where in a line one stands behind a text.
run : InLine → List ℕ → InLine
run place [] = place
run place (b ∷ text) = run (place_after place b) text

after-other : (place : InLine) (b : ℕ) → (b == 10) ≡ false → place_after place b ≡ within_line place b
after-other place b other = ap (λ (t : Bool). if t then Start else within_line place b) other

next-other : (behind : Bool) (place : InLine) (b : ℕ) → (b == 10) ≡ false
    → Some (behind, place_after place b) ≡ next_in_block behind place b
next-other true Start b other = ap (λ (t : Bool). if t then None else Some (true, place_after Start b)) (sym other)
next-other true BehindCr b other = ap (λ (t : Bool). if t then None else Some (true, place_after BehindCr b))
    (sym other)
next-other true Inside b other = refl
next-other false Start b other = refl
next-other false BehindCr b other = refl
next-other false Inside b other = ap (λ (t : Bool). Some (t, place_after Inside b)) (sym other)

step-other : (held : List ℕ) (behind : Bool) (place : InLine) (b : ℕ) (u : List ℕ) → (b == 10) ≡ false
    → block_from held behind place (b ∷ u) ≡ block_from (held ++ b ∷ []) behind (place_after place b) u
step-other held behind place b u other =
    block_goes held behind place b (behind, place_after place b) u (next-other behind place b other)

-- A text without a line feed is read.
text-read : (text : List ℕ) → IsOneLine text → (held : List ℕ) (behind : Bool) (place : InLine) (v : List ℕ)
    → block_from held behind place (text ++ v) ≡ block_from (held ++ text) behind (run place text) v
unfolding run
text-read [] one held behind place v = ap (λ (h : List ℕ). block_from h behind place v) (sym (append-nil held))
text-read (b ∷ text) one held behind place v =
    step-other held behind place b (text ++ v) one.0
    ∙ text-read text one.1 (held ++ b ∷ []) behind (place_after place b) v
    ∙ ap (λ (h : List ℕ). block_from h behind (run (place_after place b) text) v) (append_assoc held (b ∷ []) text)

run-inside : (text : List ℕ) → IsOneLine text → run Inside text ≡ Inside
unfolding run
run-inside [] one = refl
run-inside (b ∷ text) one =
    ap (λ (p : InLine). run p text) (after-other Inside b one.0) ∙ run-inside text one.1

run-append : (text : List ℕ) (place : InLine) (b : ℕ) → run place (text ++ b ∷ []) ≡ place_after (run place text) b
unfolding run
run-append [] place b = refl
run-append (c ∷ text) place b = run-append text (place_after place c) b

-- Behind two bytes or more one stands inside a line.
run-two : (b c : ℕ) (text : List ℕ) → IsOneLine (b ∷ c ∷ text) → run Start (b ∷ c ∷ text) ≡ Inside
unfolding run
run-two b c text one =
    ap (λ (p : InLine). run (place_after p c) text) (after-other Start b one.0)
    ∙ second (b == 13)
  where
    second : (t : Bool) → run (place_after (if t then BehindCr else Inside) c) text ≡ Inside
    second true = ap (λ (p : InLine). run p text) (after-other BehindCr c one.1.0) ∙ run-inside text one.1.1
    second false = ap (λ (p : InLine). run p text) (after-other Inside c one.1.0) ∙ run-inside text one.1.1

run-one : (b : ℕ) → (b == 10) ≡ false → run Start (b ∷ []) ≡ (if b == 13 then BehindCr else Inside)
unfolding run
run-one b other = after-other Start b other

-- Where one stands tells what the text is.
kind-start : (text : List ℕ) → IsOneLine text → run Start text ≡ Start → text ≡ []
kind-start [] one is = refl
kind-start (b ∷ []) one is = absurd (neither (b == 13) (sym (run-one b one.0) ∙ is))
  where
    neither : (t : Bool) → (if t then BehindCr else Inside) ≡ Start → ⊥
    neither true is = cc
    neither false is = cc
kind-start (b ∷ c ∷ text) one is = let inside = run-two b c text one in cc

kind-cr : (text : List ℕ) → IsOneLine text → run Start text ≡ BehindCr → text ≡ 13 ∷ []
unfolding run
kind-cr [] one is = cc
kind-cr (b ∷ []) one is = ap (λ (c : ℕ). c ∷ []) ((Decides-eqb b 13).0 (chosen (b == 13) (sym (run-one b one.0) ∙ is)))
  where
    chosen : (t : Bool) → (if t then BehindCr else Inside) ≡ BehindCr → t ≡ true
    chosen true is = refl
    chosen false is = cc
kind-cr (b ∷ c ∷ text) one is = let inside = run-two b c text one in cc

kind-none : run Start [] ≡ Start
unfolding run
kind-none = refl

kind-one_cr : run Start (13 ∷ []) ≡ BehindCr
unfolding run
kind-one_cr = refl

full-inside : (text : List ℕ) → IsOneLine text → text ≢ [] → text ≢ 13 ∷ [] → run Start text ≡ Inside
full-inside [] one some other = absurd (some refl)
full-inside (b ∷ []) one some other = run-one b one.0 ∙ chosen (b == 13) refl
  where
    chosen : (t : Bool) → (b == 13) ≡ t → (if t then BehindCr else Inside) ≡ Inside
    chosen true is = absurd (other (ap (λ (c : ℕ). c ∷ []) ((Decides-eqb b 13).0 is)))
    chosen false is = refl
full-inside (b ∷ c ∷ text) one some other = run-two b c text one

-- A block is read.
rest-read : (behind : Bool) (block : List ℕ) → IsBlockRest behind block → (held v : List ℕ)
    → block_from held behind Start (block ++ v) ≡ Got (held ++ block) v
rest-read behind block (end_line (inl is)) held v =
    ap (λ (l : List ℕ). block_from held true Start (l ++ v)) is
    ∙ block_stops held true Start 10 v refl
    ∙ ap (λ (l : List ℕ). Got (held ++ l) v) (sym is)
rest-read behind block (end_line (inr is)) held v =
    ap (λ (l : List ℕ). block_from held true Start (l ++ v)) is
    ∙ step-other held true Start 13 (10 ∷ v) refl
    ∙ block_stops (held ++ 13 ∷ []) true BehindCr 10 v refl
    ∙ ap (λ (l : List ℕ). Got l v) (append_assoc held (13 ∷ []) (10 ∷ []))
    ∙ ap (λ (l : List ℕ). Got (held ++ l) v) (sym is)
rest-read behind block (blank_line line rest (inl empty) are is) held v =
    let whole : block ≡ 10 ∷ rest = is ∙ ap (λ (l : List ℕ). l ++ rest) empty in
    ap (λ (l : List ℕ). block_from held false Start (l ++ v)) whole
    ∙ block_goes held false Start 10 (false, Start) (rest ++ v) refl
    ∙ rest-read false rest are (held ++ 10 ∷ []) v
    ∙ ap (λ (l : List ℕ). Got l v) (append_assoc held (10 ∷ []) rest)
    ∙ ap (λ (l : List ℕ). Got (held ++ l) v) (sym whole)
rest-read behind block (blank_line line rest (inr empty) are is) held v =
    let whole : block ≡ 13 ∷ 10 ∷ rest = is ∙ ap (λ (l : List ℕ). l ++ rest) empty in
    ap (λ (l : List ℕ). block_from held false Start (l ++ v)) whole
    ∙ step-other held false Start 13 (10 ∷ (rest ++ v)) refl
    ∙ block_goes (held ++ 13 ∷ []) false BehindCr 10 (false, Start) (rest ++ v) refl
    ∙ rest-read false rest are (held ++ 13 ∷ [] ++ 10 ∷ []) v
    ∙ ap (λ (l : List ℕ). Got (l ++ rest) v) (append_assoc held (13 ∷ []) (10 ∷ []))
    ∙ ap (λ (l : List ℕ). Got l v) (append_assoc held (13 ∷ 10 ∷ []) rest)
    ∙ ap (λ (l : List ℕ). Got (held ++ l) v) (sym whole)
rest-read behind block (full_line line rest full are is) held v =
    let text = full.text in
    let whole : block ≡ text ++ 10 ∷ rest = is ∙ ap (λ (l : List ℕ). l ++ rest) full.is
    ∙ append_assoc text (10 ∷ []) rest in
    ap (λ (l : List ℕ). block_from held behind Start (l ++ v)) whole
    ∙ ap (λ (l : List ℕ). block_from held behind Start l) (append_assoc text (10 ∷ rest) v)
    ∙ text-read text full.one held behind Start (10 ∷ (rest ++ v))
    ∙ ap (λ (p : InLine). block_from (held ++ text) behind p (10 ∷ (rest ++ v)))
    (full-inside text full.one full.some full.other)
    ∙ block_goes (held ++ text) behind Inside 10 (true, Start) (rest ++ v) (goes behind)
    ∙ rest-read true rest are (held ++ text ++ 10 ∷ []) v
    ∙ ap (λ (l : List ℕ). Got (l ++ rest) v) (append_assoc held text (10 ∷ []))
    ∙ ap (λ (l : List ℕ). Got l v) (append_assoc held (text ++ 10 ∷ []) rest)
    ∙ ap (λ (l : List ℕ). Got (held ++ l) v) (append_assoc text (10 ∷ []) rest)
    ∙ ap (λ (l : List ℕ). Got (held ++ l) v) (sym whole)
  where
    goes : (t : Bool) → Some (true, Start) ≡ next_in_block t Inside 10
    goes true = refl
    goes false = refl

-- A block is read, whatever comes behind it.
pub block-read : (block rest : List ℕ) → IsBlock block → block_at (block ++ rest) ≡ Got block rest
block-read block rest is = rest-read false block is [] rest

-- What was read of a block, behind these bytes of the line.
record Spelled (behind : Bool) (line held u block rest : List ℕ) : Type 0 where
  tail : List ℕ
  front : u ≡ tail ++ rest
  whole : block ≡ held ++ tail
  is : IsBlockRest behind (line ++ tail)

got-block : (b c : List ℕ) (r s : List ℕ) → Got b r ≡ Got c s → b ≡ c
got-block b c r s is = cc

got-rest : (b c : List ℕ) (r s : List ℕ) → Got b r ≡ Got c s → r ≡ s
got-rest b c r s is = cc

-- A byte that ends no line belongs to the line.
spelled-more : (behind : Bool) (line held : List ℕ) (b : ℕ) (u block rest : List ℕ)
    → Spelled behind (line ++ b ∷ []) (held ++ b ∷ []) u block rest → Spelled behind line held (b ∷ u) block rest
spelled-more behind line held b u block rest s =
    record {
      tail = b ∷ s.tail;
      front = ap (λ (l : List ℕ). b ∷ l) s.front;
      whole = s.whole ∙ append_assoc held (b ∷ []) s.tail;
      is = subst (λ (l : List ℕ). IsBlockRest behind l) (append_assoc line (b ∷ []) s.tail) s.is;
    }

-- A line feed ends a line that isn't empty.
spelled-full : (behind : Bool) (line held u block rest : List ℕ) → IsFullLine (line ++ 10 ∷ [])
    → Spelled true [] (held ++ 10 ∷ []) u block rest → Spelled behind line held (10 ∷ u) block rest
spelled-full behind line held u block rest full s =
    record {
      tail = 10 ∷ s.tail;
      front = ap (λ (l : List ℕ). 10 ∷ l) s.front;
      whole = s.whole ∙ append_assoc held (10 ∷ []) s.tail;
      is = full_line (line ++ 10 ∷ []) s.tail full s.is (sym (append_assoc line (10 ∷ []) s.tail));
    }

-- A line feed ends an empty line before any that isn't empty.
spelled-blank : (line held u block rest : List ℕ) → IsEmptyLine (line ++ 10 ∷ [])
    → Spelled false [] (held ++ 10 ∷ []) u block rest → Spelled false line held (10 ∷ u) block rest
spelled-blank line held u block rest empty s =
    record {
      tail = 10 ∷ s.tail;
      front = ap (λ (l : List ℕ). 10 ∷ l) s.front;
      whole = s.whole ∙ append_assoc held (10 ∷ []) s.tail;
      is = blank_line (line ++ 10 ∷ []) s.tail empty s.is (sym (append_assoc line (10 ∷ []) s.tail));
    }

-- A line feed ends the block.
spelled-end : (line held u block rest : List ℕ) → IsEmptyLine (line ++ 10 ∷ [])
    → Got (held ++ 10 ∷ []) u ≡ Got block rest
    → Spelled true line held (10 ∷ u) block rest
spelled-end line held u block rest empty got =
    record {
      tail = 10 ∷ [];
      front = ap (λ (l : List ℕ). 10 ∷ l) (got-rest (held ++ 10 ∷ []) block u rest got);
      whole = sym (got-block (held ++ 10 ∷ []) block u rest got);
      is = end_line empty;
    }

empty-start : (line : List ℕ) → line ≡ [] → IsEmptyLine (line ++ 10 ∷ [])
empty-start line is = inl (ap (λ (l : List ℕ). l ++ 10 ∷ []) is)

empty-cr : (line : List ℕ) → line ≡ 13 ∷ [] → IsEmptyLine (line ++ 10 ∷ [])
empty-cr line is = inr (ap (λ (l : List ℕ). l ++ 10 ∷ []) is)

full-here : (line : List ℕ) → IsOneLine line → run Start line ≡ Inside → IsFullLine (line ++ 10 ∷ [])
full-here line one inside =
    record {
      text = line;
      one = one;
      some = λ is. start_inside (sym kind-none ∙ ap (run Start) (sym is) ∙ inside);
      other = λ is. cr_inside (sym kind-one_cr ∙ ap (run Start) (sym is) ∙ inside);
      is = refl;
    }
  where
    start_inside : Start ≡ Inside → ⊥
    start_inside is = cc

    cr_inside : BehindCr ≡ Inside → ⊥
    cr_inside is = cc

one-more : (line : List ℕ) (b : ℕ) → IsOneLine line → (b == 10) ≡ false → IsOneLine (line ++ b ∷ [])
one-more [] b one other = (other, tt)
one-more (c ∷ line) b one other = (one.0, one-more line b one.1 other)

-- A line feed, by where in a line and behind what it stands.
feed-spelled : (behind : Bool) (place : InLine) (line held u block rest : List ℕ) → IsOneLine line
    → run Start line ≡ place
    → ((t : Bool) → block_from (held ++ 10 ∷ []) t Start u ≡ Got block rest
    → Spelled t [] (held ++ 10 ∷ []) u block rest)
    → block_from held behind place (10 ∷ u) ≡ Got block rest → Spelled behind line held (10 ∷ u) block rest
feed-spelled true Inside line held u block rest one here goes got =
    spelled-full true line held u block rest (full-here line one here)
    (goes true (sym (block_goes held true Inside 10 (true, Start) u refl) ∙ got))
feed-spelled false Inside line held u block rest one here goes got =
    spelled-full false line held u block rest (full-here line one here)
    (goes true (sym (block_goes held false Inside 10 (true, Start) u refl) ∙ got))
feed-spelled true Start line held u block rest one here goes got =
    spelled-end line held u block rest (empty-start line (kind-start line one here))
    (sym (block_stops held true Start 10 u refl) ∙ got)
feed-spelled true BehindCr line held u block rest one here goes got =
    spelled-end line held u block rest (empty-cr line (kind-cr line one here))
    (sym (block_stops held true BehindCr 10 u refl) ∙ got)
feed-spelled false Start line held u block rest one here goes got =
    spelled-blank line held u block rest (empty-start line (kind-start line one here))
    (goes false (sym (block_goes held false Start 10 (false, Start) u refl) ∙ got))
feed-spelled false BehindCr line held u block rest one here goes got =
    spelled-blank line held u block rest (empty-cr line (kind-cr line one here))
    (goes false (sym (block_goes held false BehindCr 10 (false, Start) u refl) ∙ got))

-- A byte, by whether it is a line feed.
byte-spelled : (t : Bool) (b : ℕ) (behind : Bool) (line held u block rest : List ℕ) → (b == 10) ≡ t → IsOneLine line
    → ((t : Bool) → block_from (held ++ 10 ∷ []) t Start u ≡ Got block rest
    → Spelled t [] (held ++ 10 ∷ []) u block rest)
    → (IsOneLine (line ++ b ∷ []) → block_from (held ++ b ∷ []) behind (run Start (line ++ b ∷ [])) u ≡ Got block rest
    → Spelled behind (line ++ b ∷ []) (held ++ b ∷ []) u block rest)
    → block_from held behind (run Start line) (b ∷ u) ≡ Got block rest → Spelled behind line held (b ∷ u) block rest
byte-spelled true b behind line held u block rest is one ends goes got =
    let feed : b ≡ 10 = (Decides-eqb b 10).0 is in
    subst (λ (c : ℕ). Spelled behind line held (c ∷ u) block rest) (sym feed)
    (feed-spelled behind (run Start line) line held u block rest one refl ends
    (subst (λ (c : ℕ). block_from held behind (run Start line) (c ∷ u) ≡ Got block rest) feed got))
byte-spelled false b behind line held u block rest is one ends goes got =
    spelled-more behind line held b u block rest
    (goes (one-more line b one is)
    (ap (λ (p : InLine). block_from (held ++ b ∷ []) behind p u) (run-append line Start b)
    ∙ sym (step-other held behind (run Start line) b u is) ∙ got))

nothing-got : (held : List ℕ) (behind : Bool) (place : InLine) (block rest : List ℕ)
    → block_from held behind place [] ≡ Got block rest → ⊥
unfolding block_from
nothing-got held behind place block rest got = cc

rest-spelled : (u held line : List ℕ) (behind : Bool) (block rest : List ℕ) → IsOneLine line
    → block_from held behind (run Start line) u ≡ Got block rest → Spelled behind line held u block rest
rest-spelled [] held line behind block rest one got = absurd (nothing-got held behind (run Start line) block rest got)
rest-spelled (b ∷ u) held line behind block rest one got =
    byte-spelled (b == 10) b behind line held u block rest refl one
    (λ t next. rest-spelled u (held ++ 10 ∷ []) [] t block rest tt
    (ap (λ (p : InLine). block_from (held ++ 10 ∷ []) t p u) kind-none ∙ next))
    (λ more next. rest-spelled u (held ++ b ∷ []) (line ++ b ∷ []) behind block rest more next)
    got

-- What is read as a block is one, and stands at the front of the bytes.
pub block-spelled : (bytes block rest : List ℕ) → block_at bytes ≡ Got block rest
    → (bytes ≡ block ++ rest) × IsBlock block
block-spelled bytes block rest got =
    let s = rest-spelled bytes [] [] false block rest tt
    (ap (λ (p : InLine). block_from [] false p bytes) kind-none ∙ got) in (
      s.front ∙ ap (λ (l : List ℕ). l ++ rest) (sym s.whole),
      subst (λ (l : List ℕ). IsBlockRest false l) (sym s.whole) s.is,
    )
