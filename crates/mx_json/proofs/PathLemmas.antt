-- A path's segments, a character at a time.
use Rattle.std.proofs.Common.{◌≡◌, ℕ, suc, ◌<◌, Bool, true, false, cond, ◌==◌, List, [], ◌∷◌, ◌++◌, length, get_or}
use Rattle.std.proofs.Common.{encode_utf8, refl, sym, ap, ◌∙◌, append_assoc, append-nil, arith, inl, inr, ne_eqb}
use Rattle.std.proofs.lemmas.Bool.{cases_Bool, or_parts}
use Rattle.std.proofs.lemmas.Bool.Decides.{nat_tests}
use Rattle.std.proofs.lemmas.Str.{inside_one, length-encode, len_utf8_bounds}
use Rattle.mx_json.specs.Path.{is_escapable, in_front, segments_left}

-- ---- there is a first segment

abbrev Begun : List (List ℕ) → Type 0
Begun [] = ⊥
Begun (segment ∷ segments) = Unit {0}

Begun-cond : (b : Bool) (x y : List (List ℕ)) → Begun x → Begun y → Begun (cond b x y)
Begun-cond true x y h k = h
Begun-cond false x y h k = k

Begun-in_front : (bytes : List ℕ) (segments : List (List ℕ)) → Begun (in_front bytes segments)
Begun-in_front bytes [] = tt
Begun-in_front bytes (segment ∷ segments) = tt

Begun-segments_left : (waits : Bool) (bytes : List ℕ) → Begun (segments_left waits bytes)
unfolding segments_left
Begun-segments_left false [] = tt
Begun-segments_left true [] = tt
Begun-segments_left false (byte ∷ bytes) =
    let rest = segments_left (byte == 92) bytes in
    Begun-cond (byte == 46) ([] ∷ rest) _ tt
    (Begun-cond (byte == 92) rest _ (Begun-segments_left (byte == 92) bytes) (Begun-in_front (byte ∷ []) rest))
Begun-segments_left true (byte ∷ bytes) =
    let rest = segments_left false bytes in
    Begun-cond (is_escapable byte) _ _ (Begun-in_front (byte ∷ []) rest) (Begun-in_front (92 ∷ byte ∷ []) rest)

in_front_nothing : (segments : List (List ℕ)) → Begun segments → in_front [] segments ≡ segments
in_front_nothing [] h = absurd h
in_front_nothing (segment ∷ segments) h = refl

pub in_front-nil : (waits : Bool) (bytes : List ℕ) → in_front [] (segments_left waits bytes) ≡ segments_left waits bytes
in_front-nil waits bytes = in_front_nothing _ (Begun-segments_left waits bytes)

pub in_front-in_front : (xs ys : List ℕ) (segments : List (List ℕ))
    → in_front xs (in_front ys segments) ≡ in_front (xs ++ ys) segments
in_front-in_front xs ys [] = refl
in_front-in_front xs ys (segment ∷ segments) = ap (λ s. s ∷ segments) (sym (append_assoc xs ys segment))

-- ---- bytes that are no full stop and no backslash

abbrev ArePlain : List ℕ → Type 0
ArePlain xs = (k : ℕ) → k < length xs → is_escapable (get_or xs k 0) ≡ false

ArePlain-tail : (x : ℕ) (xs : List ℕ) → ArePlain (x ∷ xs) → ArePlain xs
ArePlain-tail x xs h = λ k below. h (suc k) (omega arith)

plain_bytes : (xs rest : List ℕ) → ArePlain xs
    → segments_left false (xs ++ rest) ≡ in_front xs (segments_left false rest)
unfolding segments_left
plain_bytes [] rest h = sym (in_front-nil false rest)
plain_bytes (x ∷ xs) rest h =
    let parts = or_parts (x == 46) (x == 92) (h 0 (omega arith)) in
    rw (parts.0, parts.1)
    (ap (in_front (x ∷ [])) (plain_bytes xs rest (ArePlain-tail x xs h)) ∙ in_front-in_front (x ∷ []) xs _)

plain_after_backslash : (xs rest : List ℕ) → 0 < length xs → ArePlain xs
    → segments_left true (xs ++ rest) ≡ in_front (92 ∷ xs) (segments_left false rest)
unfolding segments_left
plain_after_backslash [] rest some h = absurd (omega arith)
plain_after_backslash (x ∷ xs) rest some h =
    rw (h 0 (omega arith))
    (ap (in_front (92 ∷ x ∷ [])) (plain_bytes xs rest (ArePlain-tail x xs h)) ∙ in_front-in_front (92 ∷ x ∷ []) xs _)

pub small_from_escapable : (byte : ℕ) → is_escapable byte ≡ true → byte < 128
small_from_escapable byte h = grind (arith, nat_tests)

ArePlain-encode : (c : ℕ) → is_escapable c ≡ false → ArePlain (encode_utf8 c)
ArePlain-encode c plain = λ k below.
    let byte = get_or (encode_utf8 c) k 0 in
    elim (cases_Bool (is_escapable byte)) [
      | inl escapable ↦
          let same : c ≡ byte =
          inside_one c [] (encode_utf8 c) k (sym (append-nil _)) below (small_from_escapable byte escapable) in
          absurd (cc)
      | inr it_is ↦ it_is
    ]

-- ---- a character is taken

pub take_stop : (ended : List (List ℕ)) (segment rest : List ℕ) → (ended ++ segment ∷ [])
    ++ in_front [] (segments_left false rest) ≡ ended ++ in_front segment (segments_left false (46 ∷ rest))
unfolding segments_left
take_stop ended segment rest = rw in_front-nil
    (append_assoc ended (segment ∷ []) _ ∙ ap (λ s. ended ++ s ∷ segments_left false rest) (sym (append-nil segment)))

pub take_backslash : (rest : List ℕ) → segments_left false (92 ∷ rest) ≡ segments_left true rest
unfolding segments_left
take_backslash rest = refl

pub take_other : (segment rest : List ℕ) (c : ℕ) → is_escapable c ≡ false → in_front (segment ++ encode_utf8 c)
    (segments_left false rest) ≡ in_front segment (segments_left false (encode_utf8 c ++ rest))
take_other segment rest c plain =
    sym (ap (in_front segment) (plain_bytes (encode_utf8 c) rest (ArePlain-encode c plain))
    ∙ in_front-in_front segment (encode_utf8 c) _)

pub take_escaped : (segment rest : List ℕ) (c : ℕ) → is_escapable c ≡ true
    → in_front (segment ++ c ∷ []) (segments_left false rest) ≡ in_front segment (segments_left true (c ∷ rest))
unfolding segments_left
take_escaped segment rest c escapable = rw escapable (sym (in_front-in_front segment (c ∷ []) _))

pub take_after_backslash : (segment rest : List ℕ) (c : ℕ) → is_escapable c ≡ false
    → in_front ((segment ++ 92 ∷ []) ++ encode_utf8 c) (segments_left false rest)
    ≡ in_front segment (segments_left true (encode_utf8 c ++ rest))
take_after_backslash segment rest c plain =
    let some : 0 < length (encode_utf8 c) = omega (arith, length-encode c, len_utf8_bounds c) in
    ap (λ bytes. in_front bytes (segments_left false rest)) (append_assoc segment (92 ∷ []) (encode_utf8 c))
    ∙ sym (ap (in_front segment) (plain_after_backslash (encode_utf8 c) rest some (ArePlain-encode c plain))
    ∙ in_front-in_front segment (92 ∷ encode_utf8 c) _)

pub is_escapable_other : (c : ℕ) → (c ≡ 46 → ⊥) → (c ≡ 92 → ⊥) → is_escapable c ≡ false
is_escapable_other c no_stop no_backslash = rw (ne_eqb c 46 no_stop, ne_eqb c 92 no_backslash)

-- ---- the text is over

pub finish_waiting : (ended : List (List ℕ)) (segment : List ℕ)
    → ended ++ (segment ++ 92 ∷ []) ∷ [] ≡ ended ++ in_front segment (segments_left true [])
unfolding segments_left
finish_waiting ended segment = refl

pub finish_plain : (ended : List (List ℕ)) (segment : List ℕ)
    → ended ++ segment ∷ [] ≡ ended ++ in_front segment (segments_left false [])
unfolding segments_left
finish_plain ended segment = ap (λ s. ended ++ s ∷ []) (sym (append-nil segment))
