-- Lemmas on the lines of bytes.
use Rattle.std.proofs.Common.{◌≡◌, ℕ, ◌<◌, Bool, true, false, List, [], ◌∷◌, ◌++◌, if◌then◌else◌, ◌==◌, take, get_or}
use Rattle.std.proofs.Common.{refl, sym, ap, ◌∙◌, suc, zero, arith}
use Rattle.std.proofs.lemmas.List.{append-nil}
use Rattle.mx_lines.specs.Lines.{Lines, lines_of, put_first, put_rest, feed_before, byte_before, IsOneLine, with_feed}

-- the lines with more bytes of the last one
abbrev pub part_after : Lines → List ℕ → Lines
part_after lines part = record { whole = lines.whole; rest = lines.rest ++ part }

-- the lines with the end of the last one
abbrev pub line_after : Lines → List ℕ → Lines
line_after lines line = record { whole = lines.whole ++ (lines.rest ++ line) ∷ []; rest = [] }

put_rest-append : (b : ℕ) (lines : List (List ℕ)) (rest part : List ℕ)
    → put_rest b lines (rest ++ part) ≡ put_rest b lines rest ++ part
put_rest-append b [] rest part = refl
put_rest-append b (line ∷ lines) rest part = refl

put_first-push : (b : ℕ) (lines : List (List ℕ)) (rest line : List ℕ)
    → put_first b (lines ++ (rest ++ line) ∷ []) ≡ put_first b lines ++ (put_rest b lines rest ++ line) ∷ []
put_first-push b [] rest line = refl
put_first-push b (first ∷ lines) rest line = refl

put_rest-push : (b : ℕ) (lines : List (List ℕ)) (line rest : List ℕ) → put_rest b (lines ++ line ∷ []) rest ≡ rest
put_rest-push b [] line rest = refl
put_rest-push b (first ∷ lines) line rest = refl

abbrev lines_with : List (List ℕ) → List ℕ → Lines
lines_with whole rest = record { whole = whole; rest = rest }

-- one byte before lines
abbrev one_before : Bool → ℕ → Lines → Lines
one_before t b lines = if t then feed_before lines else byte_before b lines

same_lines : (w v : List (List ℕ)) (r s : List ℕ) → w ≡ v → r ≡ s → lines_with w r ≡ lines_with v s
same_lines w v r s e f = cc

one_before-part : (t : Bool) (b : ℕ) (lines : Lines) (part : List ℕ)
    → one_before t b (part_after lines part) ≡ part_after (one_before t b lines) part
one_before-part true b lines part = refl
one_before-part false b lines part = same_lines _ _ _ _ refl (put_rest-append b lines.whole lines.rest part)

one_before-line : (t : Bool) (b : ℕ) (lines : Lines) (line : List ℕ)
    → one_before t b (line_after lines line) ≡ line_after (one_before t b lines) line
one_before-line true b lines line = refl
one_before-line false b lines line = same_lines _ _ _ _ (put_first-push b lines.whole lines.rest line)
    (put_rest-push b lines.whole (lines.rest ++ line) [])

pub lines_of-one : (line : List ℕ) → IsOneLine line → lines_of line ≡ record { whole = []; rest = line }
unfolding lines_of
lines_of-one [] h = refl
lines_of-one (b ∷ line) h = rw (h.0, lines_of-one line h.1)

-- a line, its line feed and what follows
pub lines_of-front : (line tail : List ℕ) → IsOneLine line
    → lines_of (line ++ 10 ∷ tail) ≡ record { whole = line ∷ (lines_of tail).whole; rest = (lines_of tail).rest }
unfolding lines_of
lines_of-front [] tail h = refl
lines_of-front (b ∷ line) tail h = rw (h.0, lines_of-front line tail h.1)

-- more bytes of the last line
pub lines_of-part : (bytes part : List ℕ) → IsOneLine part → lines_of (bytes ++ part) ≡ part_after (lines_of bytes) part
unfolding lines_of
lines_of-part [] part h = lines_of-one part h
lines_of-part (b ∷ bytes) part h =
    ap (one_before (b == 10) b) (lines_of-part bytes part h) ∙ one_before-part (b == 10) b (lines_of bytes) part

-- the end of the last line
pub lines_of-line : (bytes line : List ℕ) → IsOneLine line
    → lines_of (bytes ++ with_feed line) ≡ line_after (lines_of bytes) line
unfolding lines_of
lines_of-line [] line h = lines_of-front line [] h
lines_of-line (b ∷ bytes) line h =
    ap (one_before (b == 10) b) (lines_of-line bytes line h) ∙ one_before-line (b == 10) b (lines_of bytes) line

pub IsOneLine-take : (n : ℕ) (line : List ℕ) → IsOneLine line → IsOneLine (take n line)
IsOneLine-take zero line h = tt
IsOneLine-take (suc n) [] h = tt
IsOneLine-take (suc n) (b ∷ line) h = (h.0, IsOneLine-take n line h.1)

pub IsOneLine-append : (line more : List ℕ) → IsOneLine line → IsOneLine more → IsOneLine (line ++ more)
IsOneLine-append [] more h k = k
IsOneLine-append (b ∷ line) more h k = (h.0, IsOneLine-append line more h.1 k)

not_true : (t : Bool) → (t ≡ true → ⊥) → t ≡ false
not_true true h = absurd (h refl)
not_true false h = refl

-- the bytes before the first line feed are one line
pub IsOneLine-take_none : (n : ℕ) (bytes : List ℕ) → ((k : ℕ) → k < n → (get_or bytes k 0 == 10) ≡ true → ⊥)
    → IsOneLine (take n bytes)
IsOneLine-take_none zero bytes h = tt
IsOneLine-take_none (suc n) [] h = tt
IsOneLine-take_none (suc n) (b ∷ bytes) h =
    (not_true (b == 10) (h 0 (omega arith)), IsOneLine-take_none n bytes (λ k l e. h (suc k) (omega arith) e))

-- the lines of bytes and of those after them
abbrev pub joined : Lines → List (List ℕ) → List ℕ → Lines
joined front [] rest = record { whole = front.whole; rest = front.rest ++ rest }
joined front (line ∷ later) rest = record { whole = front.whole ++ (front.rest ++ line) ∷ later; rest = rest }

one_before-joined : (t : Bool) (b : ℕ) (whole : List (List ℕ)) (part : List ℕ) (later : List (List ℕ)) (rest : List ℕ)
    → one_before t b (joined (lines_with whole part) later rest)
    ≡ joined (one_before t b (lines_with whole part)) later rest
one_before-joined true b whole part [] rest = refl
one_before-joined true b whole part (line ∷ later) rest = refl
one_before-joined false b [] part [] rest = refl
one_before-joined false b [] part (line ∷ later) rest = refl
one_before-joined false b (first ∷ whole) part [] rest = refl
one_before-joined false b (first ∷ whole) part (line ∷ later) rest = refl

joined-nothing : (later : List (List ℕ)) (rest : List ℕ) → joined (lines_with [] []) later rest ≡ lines_with later rest
joined-nothing [] rest = refl
joined-nothing (line ∷ later) rest = refl

pub lines_of-append : (bytes more : List ℕ)
    → lines_of (bytes ++ more) ≡ joined (lines_of bytes) (lines_of more).whole (lines_of more).rest
unfolding lines_of
lines_of-append [] more = sym (joined-nothing (lines_of more).whole (lines_of more).rest)
lines_of-append (b ∷ bytes) more =
    ap (one_before (b == 10) b) (lines_of-append bytes more)
    ∙ one_before-joined (b == 10) b (lines_of bytes).whole (lines_of bytes).rest (lines_of more).whole
    (lines_of more).rest

joined-whole : (front : Lines) (later : List (List ℕ)) (rest : List ℕ)
    → (more : List (List ℕ)) × ((joined front later rest).whole ≡ front.whole ++ more)
joined-whole front [] rest = ([], sym (append-nil front.whole))
joined-whole front (line ∷ later) rest = ((front.rest ++ line) ∷ later, refl)

-- more bytes leave the lines that ended as they are
pub whole-append : (bytes more : List ℕ)
    → (later : List (List ℕ)) × ((lines_of (bytes ++ more)).whole ≡ (lines_of bytes).whole ++ later)
whole-append bytes more =
    let later = joined-whole (lines_of bytes) (lines_of more).whole (lines_of more).rest in
    (later.0, ap (λ (lines : Lines). lines.whole) (lines_of-append bytes more) ∙ later.1)
