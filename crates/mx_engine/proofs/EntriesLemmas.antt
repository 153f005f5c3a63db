-- What entries show at a text, and what is read of them once one of them was written.
use Rattle.std.proofs.Common.{◌≡◌, ℕ, Bool, true, false, cond, nat_eq, List, [], ◌∷◌, Option, Some, None}
use Rattle.std.proofs.Common.{option_and_then, option_map, unwrap_or, refl, sym, ap, ◌∙◌}
use Rattle.std.specs.Cmp.Lexicographic.{nat_list_cmp_total, nat_list_eq_equiv, slice_cmp}
use Rattle.std.specs.FinMap.{empty, empty_of_len, find, get, get-from_entries, len}
use Rattle.std.specs.List.{IsDistinct, cons_option, filter_map}
use Rattle.std.specs.Map.{keys_of, lookup}
use Rattle.std.specs.Ordering.{nat_cmp}
use Rattle.std.specs.Str.{bytes_eq}
use Rattle.std.proofs.lemmas.Bool.{eqb-true}
use Rattle.std.proofs.lemmas.Map.{lookup-none}
use Rattle.std.proofs.lemmas.Map.Entries.{none_past_head}
use Rattle.std.proofs.lemmas.Map.Keys.{IsDistinct-tail}
use Rattle.mx_room.specs.Texts.{Texts}
use Rattle.mx_room.proofs.TextsLemmas.{bytes_eq-same, ties}
use Rattle.mx_engine.specs.KeptRows.{shown_by, some_entries}

module _ {X Y : Type 0} (shown : X → Option Y) where
  abbrev shown_in : List (List ℕ × X) → List (List ℕ × Y)
  shown_in entries = filter_map (λ entry. option_map (λ y. (entry.0, y)) (shown entry.1)) entries

  find-here : (key q : List ℕ) (x : X) (entries : List (List ℕ × X)) (is_here : Bool) (what : Option Y)
      → IsDistinct bytes_eq (keys_of ((key, x) ∷ entries)) → bytes_eq q key ≡ is_here → shown x ≡ what
      → find (slice_cmp nat_cmp) q (shown_in entries) ≡ option_and_then shown (lookup (bytes_eq q) entries)
      → find (slice_cmp nat_cmp) q (cons_option (option_map (λ y. (key, y)) what) (shown_in entries))
      ≡ option_and_then shown (cond is_here (Some x) (lookup (bytes_eq q) entries))
  find-here key q x entries is_here (Some y) distinct here_is what_is rest =
      ap (λ b. cond b (Some y) (find (slice_cmp nat_cmp) q (shown_in entries))) (ties q key ∙ here_is)
      ∙ by is_here
    where
      by : (b : Bool) → cond b (Some y) (find (slice_cmp nat_cmp) q (shown_in entries))
          ≡ option_and_then shown (cond b (Some x) (lookup (bytes_eq q) entries))
      by true = sym what_is
      by false = rest
  find-here key q x entries true None distinct here_is what_is rest =
      rest
      ∙ ap (option_and_then shown)
      (lookup-none (bytes_eq q) entries (none_past_head nat_list_eq_equiv q (key, x) entries distinct here_is))
      ∙ sym what_is
  find-here key q x entries false None distinct here_is what_is rest = rest

  find-shown : (entries : List (List ℕ × X)) → IsDistinct bytes_eq (keys_of entries) → (q : List ℕ)
      → find (slice_cmp nat_cmp) q (shown_in entries) ≡ option_and_then shown (lookup (bytes_eq q) entries)
  find-shown [] distinct q = refl
  find-shown ((key, x) ∷ entries) distinct q =
      find-here key q x entries (bytes_eq q key) (shown x) distinct refl refl
      (find-shown entries (IsDistinct-tail bytes_eq key (keys_of entries) distinct) q)

  -- at a text stands what its entry shows
  pub get-shown_by : (entries : List (List ℕ × X)) → IsDistinct bytes_eq (keys_of entries) → (q : List ℕ)
      → get (shown_by shown entries) q ≡ option_and_then shown (lookup (bytes_eq q) entries)
  get-shown_by entries distinct q =
      get-from_entries nat_list_cmp_total (shown_in entries) q ∙ find-shown entries distinct q

-- a map without entries is left out, and read as one without entries
pub unwrap-some_entries : {X : Type 0} (m : Texts X) → unwrap_or (some_entries m) empty ≡ m
unwrap-some_entries m = by (nat_eq (len m) 0) refl
  where
    by : (none : Bool) → nat_eq (len m) 0 ≡ none → unwrap_or (cond none None (Some m)) empty ≡ m
    by true is = sym (empty_of_len m (eqb-true (len m) 0 is))
    by false is = refl

-- what is read at a text once the entry of one text was written
pub read-written : {X B : Type 0} (old new : List (List ℕ × X)) (key : List ℕ) (now : X) (before : Option X)
    → lookup (bytes_eq key) old ≡ before
    → ((q : List ℕ) → lookup (bytes_eq q) new ≡ cond (bytes_eq key q) (Some now) (lookup (bytes_eq q) old))
    → (at : Option X → B) (f : B → B) → at (Some now) ≡ f (at before) → (q : List ℕ)
    → at (lookup (bytes_eq q) new)
    ≡ cond (bytes_eq key q) (f (at (lookup (bytes_eq q) old))) (at (lookup (bytes_eq q) old))
read-written old new key now before found updated at f says q = by (bytes_eq key q) refl
  where
    by : (b : Bool) → bytes_eq key q ≡ b → at (lookup (bytes_eq q) new)
        ≡ cond b (f (at (lookup (bytes_eq q) old))) (at (lookup (bytes_eq q) old))
    by true is =
        ap at (updated q ∙ ap (λ b. cond b (Some now) (lookup (bytes_eq q) old)) is) ∙ says
        ∙ ap (λ o. f (at o)) (sym found ∙ ap (λ (k : List ℕ). lookup (bytes_eq k) old) (bytes_eq-same key q is))
    by false is = ap at (updated q ∙ ap (λ b. cond b (Some now) (lookup (bytes_eq q) old)) is)
