-- Where threads start after a cut, and where a thread that starts later than it did stands among the others.
use Rattle.std.proofs.Common.{◌≡◌, ◌≢◌, ℕ, zero, suc, ◌<◌, ◌≤◌, nat_lt, nat_le, true, List, [], ◌∷◌, length, get_or}
use Rattle.std.proofs.Common.{slice_get, Some, refl, sym, ap, ◌∙◌, subst, ⊎_elim, arith}
use Rattle.std.proofs.lemmas.Bool.{and_parts, cases_eq, cases_lt, cond_both, le-leb, leb-true, ltb-true}
use Rattle.std.proofs.lemmas.List.{get_or_default}
use Rattle.std.proofs.lemmas.Option.{slice_get_within}
use Rattle.std.specs.List.{list_all}
use Rattle.std.specs.List.Sorted.{IsPartitionedBy}
use Rattle.indexmap.specs.IndexMap.{set_value_at}
use Rattle.mx_rows.specs.declared.row.Row.{Row}
use Rattle.mx_rows.specs.declared.thread_key.ThreadKey.{ThreadKey}
use Rattle.mx_rows.specs.Rows.{above, are_in_range, is_rising, start_of}
use Rattle.mx_rows.proofs.EntryLemmas.{get_or_of_slice_get, some_same}
use Rattle.mx_rows.proofs.RowLemmas.{list_all-filter}
use Rattle.mx_blocks.specs.declared.thread_rows.ThreadRows.{ThreadRows}
use Rattle.mx_blocks.specs.Entries.{Entries, InOrder, IsPlace, start_at}
use Rattle.mx_blocks.proofs.EntryLemmas.{remove-set_value_at}

-- ---- where rows start after a cut

pub above_starts : (p : ℕ) (rows : List Row) → p < 18446744073709551616 → p < start_of (above p rows)
above_starts p [] small = small
above_starts p (row ∷ rows) small =
    let rest = above_starts p rows small in
    cond_both (nat_lt p row.position) (row ∷ above p rows) (above p rows) (λ l. p < start_of l)
    (λ over. ltb-true _ _ over) (λ _. rest)

starts_over : (n : ℕ) (rows : List Row) → n < 18446744073709551616
    → list_all (λ row. nat_lt n row.position) rows ≡ true → n ≤ start_of rows
starts_over n [] small all = omega arith
starts_over n (row ∷ rows) small all =
    let over = ltb-true _ _ (and_parts (nat_lt n row.position) (list_all (λ row. nat_lt n row.position) rows) all).0 in
    omega arith

pub start_grows : (p : ℕ) (rows : List Row) → is_rising rows ≡ true → are_in_range rows ≡ true
    → start_of rows ≤ start_of (above p rows)
start_grows p [] rising small = omega arith
start_grows p (row ∷ rows) rising small =
    let later = (and_parts (list_all (λ later. nat_lt row.position later.position) rows) (is_rising rows) rising).0 in
    let first = ltb-true _ _ (and_parts (nat_lt row.position 18446744073709551616) (are_in_range rows) small).0 in
    let rest = starts_over row.position (above p rows) first (list_all-filter _ _ rows later) in
    cond_both (nat_lt p row.position) (row ∷ above p rows) (above p rows) (λ l. row.position ≤ start_of l)
    (λ _. omega arith) (λ _. rest)

-- ---- one entry written

length-set_value_at : (es : Entries) (i : ℕ) (w : ThreadRows) → length (set_value_at es i w) ≡ length es
length-set_value_at [] i w = refl
length-set_value_at (x ∷ es) zero w = refl
length-set_value_at (x ∷ es) (suc i) w = ap suc (length-set_value_at es i w)

get_or-set_value_at_other : (es : Entries) (i k : ℕ) (w : ThreadRows) (d : ThreadKey × ThreadRows) → k ≢ i
    → get_or (set_value_at es i w) k d ≡ get_or es k d
get_or-set_value_at_other [] i k w d other = refl
get_or-set_value_at_other (x ∷ es) zero zero w d other = absurd (other refl)
get_or-set_value_at_other (x ∷ es) zero (suc k) w d other = refl
get_or-set_value_at_other (x ∷ es) (suc i) zero w d other = refl
get_or-set_value_at_other (x ∷ es) (suc i) (suc k) w d other =
    get_or-set_value_at_other es i k w d (λ same. other (ap suc same))

get_or-set_value_at_same : (es : Entries) (i : ℕ) (e : ThreadKey × ThreadRows) (w : ThreadRows)
    (d : ThreadKey × ThreadRows)
    → slice_get es i ≡ Some e → get_or (set_value_at es i w) i d ≡ (e.0, w)
get_or-set_value_at_same [] i e w d is = absurd (cc)
get_or-set_value_at_same (x ∷ es) zero e w d is = ap (λ (y : ThreadKey × ThreadRows). (y.0, w)) (some_same is)
get_or-set_value_at_same (x ∷ es) (suc i) e w d is = get_or-set_value_at_same es i e w d is

-- where one thread starts later than it did, those that start no later than it still come first
pub parted_written : (es : Entries) (i : ℕ) (e : ThreadKey × ThreadRows) (w : ThreadRows) → slice_get es i ≡ Some e
    → InOrder es → start_at e ≤ start_at (e.0, w)
    → IsPartitionedBy (λ x. nat_le (start_at x) (start_at (e.0, w))) (set_value_at es i w)
parted_written es i e w is order grows j k d le lt passes =
    let start = start_at (e.0, w) in
    let long = length-set_value_at es i w in
    let within = slice_get_within es i e is in
    let at_i : get_or es i d ≡ e = get_or_default es i d e within ∙ get_or_of_slice_get es i e is in
    ⊎_elim
    (λ same. ap (λ n. nat_le (start_at (get_or (set_value_at es i w) n d)) start) same
    ∙ ap (λ x. nat_le (start_at x) start) (get_or-set_value_at_same es i e w d is) ∙ le-leb start start (omega arith))
    (λ other. ap (λ x. nat_le (start_at x) start) (get_or-set_value_at_other es i j w d other)
    ∙ le-leb (start_at (get_or es j d)) start (⊎_elim
    (λ before. let up = order j i d (omega arith) within in omega (arith, ap start_at at_i))
    (λ after. let far : k ≢ i = λ same. other (omega arith) in
    let here = leb-true (start_at (get_or es k d)) start
    (ap (λ x. nat_le (start_at x) start) (sym (get_or-set_value_at_other es i k w d far)) ∙ passes) in
    let up = order j k d le (omega arith) in omega arith) (cases_lt j i))) (cases_eq j i)

-- the place among the others is the same before the entry is written
pub place-written : (es : Entries) (i start to : ℕ) (w : ThreadRows) → IsPlace (set_value_at es i w) i start to
    → IsPlace es i start to
place-written es i start to w place =
    let same = remove-set_value_at es i w in
    record {
      within = subst (λ n. to < n) (length-set_value_at es i w) place.within;
      before = λ k d below. subst (λ l. start_at (get_or l k d) ≤ start) same (place.before k d below);
      after = λ k d from below. subst (λ l. start ≤ start_at (get_or l k d)) same
          (place.after k d from (subst (λ l. k < length l) (sym same) below));
    }
