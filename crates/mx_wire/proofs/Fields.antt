-- How the fields of a head are looked at one after another.
use Rattle.std.proofs.Common.{◌≡◌, ℕ, zero, suc, ◌+◌, ◌<◌, ◌≤◌, Bool, true, false, List, [], ◌∷◌, ◌++◌, length, map}
use Rattle.std.proofs.Common.{take, drop, get_or, Option, refl, ap, sym, subst, ◌∙◌, append-nil, inl, IsTrue, arith}
use Rattle.std.proofs.Common.{rules}
use Rattle.std.specs.Prelude.{◌↔◌, ◌&&◌, codes, if◌then◌else◌}
use Rattle.std.specs.List.{list_all}
use Rattle.std.specs.Char.{to_ascii_lowercase, is_ascii_digit}
use Rattle.std.specs.Bool.{Decides}
use Rattle.std.specs.Str.{str_eq_ignore_ascii_case}
use Rattle.std.proofs.lemmas.List.{map-append, take_more, take_all, drop_all, length-map, length-take}
use Rattle.std.proofs.lemmas.Bool.Decides.{same_from_decides, nat_tests}
use Rattle.std.proofs.lemmas.Slice.Eq.{bytes_eq-Decides}
use Rattle.httparse.specs.declared.spans.HeaderSpan.{HeaderSpan}
use Rattle.httparse.specs.declared.spans.ResponseSpans.{ResponseSpans}
use Rattle.httparse.specs.Grammar.{ReadsResponse, status_code}
use Rattle.httparse.specs.Spans.{header_bytes, span_bytes, IsResponseOf}
use Rattle.mx_wire.specs.Heads.{Once, once, once_more, values_of, framing_by, framing_of, meaning_by, HasMeaning}
use Rattle.mx_wire.specs.declared.head.Framing.{Framing}
use Rattle.mx_wire.specs.declared.head.Meaning.{Meaning}
use Rattle.mx_wire.specs.Seen.{seen_of}
use Rattle.mx_wire.specs.declared.head.Seen.{Seen}

-- Two texts are the same without regard to case where the test says so.
pub same_names : (text name : List ℕ) (result : Bool)
    → IsTrue result ↔ (map to_ascii_lowercase text ≡ map to_ascii_lowercase name)
    → result ≡ str_eq_ignore_ascii_case text name
same_names text name result test =
    let decides : Decides result (map to_ascii_lowercase text ≡ map to_ascii_lowercase name) = grind (arith, test) in
    same_from_decides result (str_eq_ignore_ascii_case text name) decides (search (rules, bytes_eq-Decides))

once-push : (values : List (List ℕ)) (value : List ℕ) → once (values ++ value ∷ []) ≡ once_more (once values) value
once-push [] value = refl
once-push (v ∷ []) value = refl
once-push (v ∷ w ∷ values) value = refl

values_of-push : (name : List ℕ) (fields : List (List ℕ × List ℕ)) (field : List ℕ × List ℕ)
    → values_of name (fields ++ field ∷ []) ≡ values_of name fields ++ values_of name (field ∷ [])
values_of-push name [] field = refl
values_of-push name (f ∷ fields) field =
    pushed (str_eq_ignore_ascii_case f.0 name) f.1 (values_of name (fields ++ field ∷ [])) (values_of name fields)
    (values_of name (field ∷ [])) (values_of-push name fields field)
  where
    pushed : (t : Bool) (v : List ℕ) (all front last : List (List ℕ)) → all ≡ front ++ last
        → (if t then v ∷ all else all) ≡ (if t then v ∷ front else front) ++ last
    pushed true v all front last is = ap (λ (l : List (List ℕ)). v ∷ l) is
    pushed false v all front last is = is

-- One more field of this name.
pub seen_more : (name block : List ℕ) (seen result : Seen) (header : HeaderSpan)
    → str_eq_ignore_ascii_case (span_bytes block header.name) name ≡ true
    → seen_of block result ≡ once_more (seen_of block seen) (span_bytes block header.value)
    → (fields : List (List ℕ × List ℕ))
    → seen_of block seen ≡ once (values_of name fields)
    → seen_of block result ≡ once (values_of name (fields ++ header_bytes block header ∷ []))
seen_more name block seen result header named more fields is =
    let value = span_bytes block header.value in
    let last : values_of name (header_bytes block header ∷ []) ≡ value ∷ [] =
    ap (λ (t : Bool). if t then value ∷ [] else []) named in
    more
    ∙ ap (λ (o : Once). once_more o value) is
    ∙ sym (once-push (values_of name fields) value)
    ∙ ap (λ (l : List (List ℕ)). once (values_of name fields ++ l)) (sym last)
    ∙ ap once (sym (values_of-push name fields (header_bytes block header)))

-- One more field of another name.
pub seen_same : (name block : List ℕ) (seen : Seen) (header : HeaderSpan)
    → str_eq_ignore_ascii_case (span_bytes block header.name) name ≡ false → (fields : List (List ℕ × List ℕ))
    → seen_of block seen ≡ once (values_of name fields)
    → seen_of block seen ≡ once (values_of name (fields ++ header_bytes block header ∷ []))
seen_same name block seen header other fields is =
    let value = span_bytes block header.value in
    let last : values_of name (header_bytes block header ∷ []) ≡ [] =
    ap (λ (t : Bool). if t then value ∷ [] else []) other in
    is
    ∙ ap once (sym (append-nil (values_of name fields)))
    ∙ ap (λ (l : List (List ℕ)). once (values_of name fields ++ l)) (sym last)
    ∙ ap once (sym (values_of-push name fields (header_bytes block header)))

-- What is known of a field behind one more header.
pub headers_more : (name block : List ℕ) (headers : List HeaderSpan) (i : ℕ) (d : HeaderSpan) (seen result : Once)
    → i < length headers → ((fields : List (List ℕ × List ℕ)) → seen ≡ once (values_of name fields)
    → result ≡ once (values_of name (fields ++ header_bytes block (get_or headers i d) ∷ [])))
    → seen ≡ once (values_of name (map (header_bytes block) (take i headers)))
    → result ≡ once (values_of name (map (header_bytes block) (take (i + 1) headers)))
headers_more name block headers i d seen result within more is =
    let one : map (header_bytes block) (take (i + 1) headers) ≡ map (header_bytes block) (take i headers)
    ++ header_bytes block (get_or headers i d) ∷ [] =
    ap (map (header_bytes block)) (take_more headers i d within)
    ∙ map-append (header_bytes block) (take i headers) (get_or headers i d ∷ []) in
    more (map (header_bytes block) (take i headers)) is
    ∙ ap (λ (l : List (List ℕ × List ℕ)). once (values_of name l)) (sym one)

-- Each byte of a text of digits is one.
pub digit_at : (text : List ℕ) (i d : ℕ) → list_all is_ascii_digit text ≡ true → i < length text
    → (48 ≤ get_or text i d) × (get_or text i d ≤ 57)
digit_at [] i d all within = absurd (omega arith)
digit_at (b ∷ text) zero d all within = grind (arith, nat_tests)
digit_at (b ∷ text) (suc i) d all within =
    digit_at text i d (rest (is_ascii_digit b) (list_all is_ascii_digit text) all) (omega arith)
  where
    rest : (p q : Bool) → (p && q) ≡ true → q ≡ true
    rest true q both = both
    rest false q both = cc

-- What all fields tell.
pub framing_all : (block : List ℕ) (headers : List HeaderSpan) (i : ℕ) (coding count : Seen) (result : Option Framing)
    → length headers ≤ i
    → seen_of block coding ≡ once (values_of (codes "transfer-encoding") (map (header_bytes block) (take i headers)))
    → seen_of block count ≡ once (values_of (codes "content-length") (map (header_bytes block) (take i headers)))
    → result ≡ framing_by (seen_of block coding) (seen_of block count)
    → result ≡ framing_of (map (header_bytes block) headers)
unfolding framing_of
framing_all block headers i coding count result all first second is =
    let whole : take i headers ≡ headers = take_all i headers all in
    let one : seen_of block coding ≡ once (values_of (codes "transfer-encoding") (map (header_bytes block) headers)) =
    first
    ∙ ap (λ (l : List HeaderSpan). once (values_of (codes "transfer-encoding") (map (header_bytes block) l))) whole in
    let two : seen_of block count ≡ once (values_of (codes "content-length") (map (header_bytes block) headers)) =
    second
    ∙ ap (λ (l : List HeaderSpan). once (values_of (codes "content-length") (map (header_bytes block) l))) whole in
    is ∙ ap (λ (o : Once). framing_by o (seen_of block count)) one
    ∙ ap (λ (o : Once). framing_by (once (values_of (codes "transfer-encoding") (map (header_bytes block) headers))) o)
    two

-- A block that is read whole as a head means what the head does.
pub head_means : (block : List ℕ) (headers : List HeaderSpan) (r : ResponseSpans) (told : Option Framing)
    (meant : Meaning)
    → IsResponseOf block headers r → r.len ≡ length block → length headers ≤ 64
    → told ≡ framing_of (map (header_bytes block) (take r.headers headers)) → meant ≡ meaning_by r.code told
    → HasMeaning block meant
head_means block headers r told meant of whole room framed is =
    let head = of.0 in
    let at = of.1 in
    let none : drop r.len block ≡ [] = drop_all r.len block (omega arith) in
    let reads : ReadsResponse block head [] = subst (λ (l : List ℕ). ReadsResponse block head l) none at.reads in
    let long = ap (λ (l : List (List ℕ × List ℕ)). length l) at.fields in
    let few : length head.fields ≤ 64 = omega (arith, simp (length-map, length-take) at long) in
    inl (
      head,
      (reads, few),
      is ∙ ap (λ (code : ℕ). meaning_by code told) at.code
          ∙ ap (meaning_by (status_code head)) (framed ∙ ap framing_of at.fields),
    )
