-- Maps from texts are equal where they answer alike; what tables answer, and how they step.
use Rattle.std.proofs.Common.{◌≡◌, ℕ, ◌+◌, ◌≤◌, zero-le, Bool, true, false, cond, List, [], ◌∷◌, length, Option, Some}
use Rattle.std.proofs.Common.{None, ◌⊎◌, inl, inr, ⊎_elim, is_some, option_map, refl, sym, ap, ◌∙◌, arith}
use Rattle.std.specs.Cmp.Lexicographic.{slice_cmp, nat_list_cmp_total}
use Rattle.std.specs.FinMap.{find, get, insert, len, remove, from_entries, get-insert, get-remove, get-from_entries}
use Rattle.std.specs.FinMap.{len-empty, len-insert, nat_cmp-IsAntisymmetric, slice_cmp-IsAntisymmetric, same_map}
use Rattle.std.specs.List.{cons_option, filter_map, list_any}
use Rattle.std.specs.Option.{option_or}
use Rattle.std.specs.Ordering.{eq_by_cmp, nat_cmp}
use Rattle.std.specs.Str.{bytes_eq}
use Rattle.std.proofs.lemmas.Bool.{cases_Bool, false_from_ne_true, both_ways}
use Rattle.std.proofs.lemmas.Map.Text.{is_eq-slice_cmp}
use Rattle.std.proofs.lemmas.Slice.Eq.{bytes_eq-Decides}
use Rattle.mx_room.specs.Texts.{Texts, table}

pub bytes_eq-same : (a b : List ℕ) → bytes_eq a b ≡ true → a ≡ b
bytes_eq-same a b = (bytes_eq-Decides a b).0

pub bytes_eq-itself : (a : List ℕ) → bytes_eq a a ≡ true
bytes_eq-itself a = (bytes_eq-Decides a a).1 refl

flip_true : (a b : List ℕ) → bytes_eq a b ≡ true → bytes_eq b a ≡ true
flip_true a b is = (bytes_eq-Decides b a).1 (sym (bytes_eq-same a b is))

flip_false : (a b : List ℕ) → bytes_eq a b ≡ false → bytes_eq b a ≡ false
flip_false a b apart = false_from_ne_true (bytes_eq b a) (λ is. both_ways (bytes_eq a b) apart (flip_true b a is))

pub bytes_eq-flip : (a b : List ℕ) → bytes_eq a b ≡ bytes_eq b a
bytes_eq-flip a b =
    ⊎_elim (λ is. is ∙ sym (flip_true a b is)) (λ apart. apart ∙ sym (flip_false a b apart)) (cases_Bool (bytes_eq a b))

-- the order of texts ties where their bytes are equal
pub ties : (q k : List ℕ) → eq_by_cmp (slice_cmp nat_cmp) q k ≡ bytes_eq q k
ties q k = is_eq-slice_cmp q k

same_either_way : {A : Type 0} (b : Bool) (x : A) → cond b x x ≡ x
same_either_way true x = refl
same_either_way false x = refl

at_most_one_more : (b : Bool) (n k : ℕ) → n ≤ k → cond b n (n + 1) ≤ k + 1
at_most_one_more true n k h = omega arith
at_most_one_more false n k h = omega arith

-- the map with this at the text, or with nothing there
abbrev pub set_at : {X : Type 0} → List ℕ → Option X → Texts X → Texts X
set_at text None texts = remove texts text
set_at text (Some x) texts = insert texts text x

module _ {X : Type 0} where
  pub same_texts : (m n : Texts X) → ((q : List ℕ) → get m q ≡ get n q) → m ≡ n
  same_texts m n alike = same_map nat_list_cmp_total (slice_cmp-IsAntisymmetric nat_cmp-IsAntisymmetric) m n alike

  pub get-put : (m : Texts X) (o : List ℕ) (x : X) (q : List ℕ)
      → get (insert m o x) q ≡ cond (bytes_eq q o) (Some x) (get m q)
  get-put m o x q = get-insert nat_list_cmp_total m o x q ∙ ap (λ b. cond b (Some x) (get m q)) (ties q o)

  get-without : (m : Texts X) (o q : List ℕ) → get (remove m o) q ≡ cond (bytes_eq q o) None (get m q)
  get-without m o q = get-remove nat_list_cmp_total m o q ∙ ap (λ b. cond b None (get m q)) (ties q o)

  pub get-set_at : (o : List ℕ) (w : Option X) (m : Texts X) (q : List ℕ)
      → get (set_at o w m) q ≡ cond (bytes_eq q o) w (get m q)
  get-set_at o None m q = get-without m o q
  get-set_at o (Some x) m q = get-put m o x q

  -- a map that differs from another at one text alone
  pub set_there : (o : List ℕ) (w : Option X) (m n : Texts X)
      → ((q : List ℕ) → get n q ≡ cond (bytes_eq q o) w (get m q)) → n ≡ set_at o w m
  set_there o w m n differs = same_texts n (set_at o w m) (λ q. differs q ∙ sym (get-set_at o w m q))

  -- each text at which `f` gives something is among these
  abbrev pub IsCovered : (List ℕ → Option X) → List (List ℕ) → Type 0
  IsCovered f texts = (q : List ℕ) → (f q ≡ None) ⊎ (list_any (bytes_eq q) texts ≡ true)

  abbrev listed : (List ℕ → Option X) → List (List ℕ) → List (List ℕ × X)
  listed f texts = filter_map (λ text. option_map (λ x. (text, x)) (f text)) texts

  find_here : (text q : List ℕ) (x : X) (rest : List (List ℕ × X))
      → find (slice_cmp nat_cmp) q ((text, x) ∷ rest)
      ≡ cond (bytes_eq q text) (Some x) (find (slice_cmp nat_cmp) q rest)
  find_here text q x rest = ap (λ b. cond b (Some x) (find (slice_cmp nat_cmp) q rest)) (ties q text)

  or_itself : (b : Bool) (o : Option X) → option_or o (cond b o None) ≡ o
  or_itself true None = refl
  or_itself false None = refl
  or_itself b (Some x) = refl

  find_next : (o : Option X) (text q : List ℕ) (rest : List (List ℕ × X))
      → find (slice_cmp nat_cmp) q (cons_option (option_map (λ x. (text, x)) o) rest)
      ≡ cond (bytes_eq q text) (option_or o (find (slice_cmp nat_cmp) q rest)) (find (slice_cmp nat_cmp) q rest)
  find_next None text q rest = sym (same_either_way (bytes_eq q text) (find (slice_cmp nat_cmp) q rest))
  find_next (Some x) text q rest = find_here text q x rest

  find-listed : (f : List ℕ → Option X) (q : List ℕ) (texts : List (List ℕ))
      → find (slice_cmp nat_cmp) q (listed f texts) ≡ cond (list_any (bytes_eq q) texts) (f q) None
  find-listed f q [] = refl
  find-listed f q (text ∷ texts) =
      let rest = find-listed f q texts in
      let begins = find_next (f text) text q (listed f texts) in
      elim (cases_Bool (bytes_eq q text)) [
        | inl is ↦
            let there : f text ≡ f q = ap f (sym (bytes_eq-same q text is)) in
            rw (begins, is, there, rest) (or_itself (list_any (bytes_eq q) texts) (f q))
        | inr apart ↦ rw (begins, apart) rest
      ]

  pub get-table : (f : List ℕ → Option X) (texts : List (List ℕ)) → IsCovered f texts → (q : List ℕ)
      → get (table f texts) q ≡ f q
  unfolding table
  get-table f texts covered q =
      get-from_entries nat_list_cmp_total (listed f texts) q
      ∙ find-listed f q texts
      ∙ elim (covered q) as (λ c. cond (list_any (bytes_eq q) texts) (f q) None ≡ f q) [
        | inl nothing ↦ rw nothing (same_either_way (list_any (bytes_eq q) texts) None)
        | inr among ↦ rw among
      ]

  -- the one lemma by which tables step
  pub table-set : (f g : List ℕ → Option X) (texts others : List (List ℕ)) (o : List ℕ) (w : Option X)
      → IsCovered f texts → IsCovered g others → ((q : List ℕ) → g q ≡ cond (bytes_eq q o) w (f q))
      → table g others ≡ set_at o w (table f texts)
  table-set f g texts others o w covered covered_2 steps =
      set_there o w (table f texts) (table g others)
      (λ q. get-table g others covered_2 q ∙ steps q ∙ ap (cond (bytes_eq q o) w) (sym (get-table f texts covered q)))

  pub same_table : (f g : List ℕ → Option X) (texts others : List (List ℕ)) → IsCovered f texts → IsCovered g others
      → ((q : List ℕ) → g q ≡ f q) → table g others ≡ table f texts
  same_table f g texts others covered covered_2 alike =
      same_texts (table g others) (table f texts)
      (λ q. get-table g others covered_2 q ∙ alike q ∙ sym (get-table f texts covered q))

  -- ---- how many

  pub len-entries_le : (es : List (List ℕ × X)) → len (from_entries {R = slice_cmp nat_cmp} es) ≤ length es
  len-entries_le [] = rw len-empty (omega arith)
  len-entries_le (e ∷ es) =
      let rest = len-entries_le es in
      let step = at_most_one_more (is_some (get (from_entries {R = slice_cmp nat_cmp} es) e.0)) _ _ rest in
      rw (len-insert nat_list_cmp_total (from_entries es) e.0 e.1) (omega (arith, step))

  longer_le : (o : Option X) (text : List ℕ) (rest : List (List ℕ × X)) (n : ℕ) → length rest ≤ n
      → length (cons_option (option_map (λ x. (text, x)) o) rest) ≤ n + 1
  longer_le None text rest n h = omega arith
  longer_le (Some x) text rest n h = omega arith

  listed_le : (f : List ℕ → Option X) (texts : List (List ℕ)) → length (listed f texts) ≤ length texts
  listed_le f [] = zero-le
  listed_le f (text ∷ texts) =
      omega (arith, longer_le (f text) text (listed f texts) (length texts) (listed_le f texts))

  pub len-table : (f : List ℕ → Option X) (texts : List (List ℕ)) → len (table f texts) ≤ length texts
  unfolding table
  len-table f texts = omega (arith, len-entries_le (listed f texts), listed_le f texts)
