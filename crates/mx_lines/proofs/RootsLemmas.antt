-- A sorted map of roots has the entries of the finite map by which it is told; its object is valid.
use Rattle.std.proofs.Common.{◌≡◌, ℕ, zero, suc, ◌+◌, ◌≤◌, zero-le, Bool, true, false, cond, if◌then◌else◌, ◌||◌, not}
use Rattle.std.proofs.Common.{List, [], ◌∷◌, ◌++◌, length, map, take, Option, Some, None, ◌⊎◌, inl, inr, All, refl, sym}
use Rattle.std.proofs.Common.{ap, subst, ◌∙◌, arith, Bor, BTreeMap, Ordering, Less, Equal, Greater}
use Rattle.std.specs.BTreeMap.{IsOrdered, insert_entry}
use Rattle.std.specs.Cmp.Lexicographic.{slice_cmp, nat_list_cmp_total}
use Rattle.std.specs.FinMap.Entries.{by_order}
use Rattle.std.specs.FinMap.{entries, find, from_entries, get, get-from_entries, get-insert, entries-insert, insert}
use Rattle.std.specs.FinMap.{len-empty, len-entries, put, nat_cmp-IsAntisymmetric, slice_cmp-IsAntisymmetric, same_map}
use Rattle.std.specs.List.{filter, filter_map, list_all, slice_get, AllByRecursion}
use Rattle.std.specs.List.Sorted.{IsStrictlySortedBy}
use Rattle.std.specs.Ordering.{eq_by_cmp, is_lt, match_ordering, nat_cmp}
use Rattle.std.specs.Str.{bytes_eq}
use Rattle.std.proofs.lemmas.Bool.{and_from, cases_Bool}
use Rattle.std.proofs.lemmas.List.{append-nil, append_assoc, length-map, take_more}
use Rattle.std.proofs.lemmas.List.Elements.{All-from_recursion, recursion_from_All, filter_map-append}
use Rattle.std.proofs.lemmas.List.Folds.{list_any-append}
use Rattle.std.proofs.lemmas.Map.Text.{is_eq-slice_cmp}
use Rattle.std.proofs.lemmas.Option.{get_or_from_slice_get, slice_get_within}
use Rattle.std.proofs.lemmas.Slice.Eq.{bytes_eq-Decides}
use Rattle.mx_json.specs.declared.value.Json.{Json}
use Rattle.mx_json.specs.Json.{are_rising, depth_of, is_valid, largest}
use Rattle.mx_json.proofs.JsonLemmas.{depth_of-Object, with_value}
use Rattle.mx_json.proofs.ObjectLemmas.{is_fit, is_fit_from, is_valid-Object}
use Rattle.mx_records.specs.Counting.{each_once, room_counts_of, row_of, thread_in, threads_of, unread}
use Rattle.mx_records.specs.History.{History}
use Rattle.mx_rows.specs.declared.counts.Counts.{Counts}
use Rattle.mx_rows.specs.declared.thread_key.ThreadKey.{ThreadKey}
use Rattle.mx_rows.specs.declared.thread_key.ThreadKey.TheVariants.{Main, Root}
use Rattle.mx_rows.specs.Threads.{has_thread, same_thread}
use Rattle.mx_lines.specs.Replies.{by_root, counts_value, object_of, root_member, under_root}
use Rattle.mx_lines.specs.Roots.{AreInRange, MayStand, roots_in}
use Rattle.mx_lines.proofs.ValueLemmas.{flat-counts_value, valid-counts_value}

-- entries with their texts
abbrev pub told : List (Bor (List ℕ) × Counts) → List (List ℕ × Counts)
told es = map (λ entry. (entry.0.now, entry.1)) es

-- what a sorted map and a finite map do with an entry is the same
told-by : (o : Ordering) (k : Bor (List ℕ)) (v : Counts) (e : Bor (List ℕ) × Counts)
    (es more : List (Bor (List ℕ) × Counts))
    (entries : List (List ℕ × Counts)) → told more ≡ entries
    → told (match_ordering o ((k, v) ∷ e ∷ es) ((e.0, v) ∷ es) (e ∷ more))
    ≡ by_order o ((k.now, v) ∷ told (e ∷ es)) ((e.0.now, v) ∷ told es) ((e.0.now, e.1) ∷ entries)
told-by Less k v e es more entries is = refl
told-by Equal k v e es more entries is = refl
told-by Greater k v e es more entries is = ap (λ rest. (e.0.now, e.1) ∷ rest) is

told-insert : (es : List (Bor (List ℕ) × Counts)) (k : Bor (List ℕ)) (v : Counts)
    → told (insert_entry (λ x y. slice_cmp nat_cmp x.now y.now) es k v) ≡ put (slice_cmp nat_cmp) k.now v (told es)
told-insert [] k v = refl
told-insert (e ∷ es) k v =
    told-by (slice_cmp nat_cmp k.now e.0.now) k v e es (insert_entry (λ x y. slice_cmp nat_cmp x.now y.now) es k v)
    (put (slice_cmp nat_cmp) k.now v (told es)) (told-insert es k v)

module _ (counts : ThreadKey → Counts) where
  -- the finite map answers as the list of threads does
  find-roots : (q : List ℕ) (threads : List ThreadKey)
      → find (slice_cmp nat_cmp) q (filter_map (under_root counts) threads)
      ≡ cond (has_thread (Root q) threads) (Some (counts (Root q))) None
  find-roots q [] = refl
  find-roots q (Main ∷ threads) = find-roots q threads
  find-roots q (Root id ∷ threads) =
      let rest = find-roots q threads in
      let ties : eq_by_cmp (slice_cmp nat_cmp) q id ≡ bytes_eq q id = is_eq-slice_cmp q id in
      elim (cases_Bool (bytes_eq q id)) [
        | inl is ↦ rw (ties, is) (ap (λ id. Some (counts (Root id))) (sym ((bytes_eq-Decides q id).0 is)))
        | inr apart ↦ rw (ties, apart) rest
      ]

  get-roots : (q : List ℕ) (threads : List ThreadKey)
      → get (by_root counts threads) q ≡ cond (has_thread (Root q) threads) (Some (counts (Root q))) None
  get-roots q threads = get-from_entries nat_list_cmp_total (filter_map (under_root counts) threads) q
      ∙ find-roots q threads

  one_more : (q id : List ℕ) (had here : Bool) → bytes_eq q id ≡ here
      → cond (had || (bytes_eq q id || false)) (Some (counts (Root q))) None
      ≡ cond (bytes_eq q id) (Some (counts (Root id))) (cond had (Some (counts (Root q))) None)
  one_more q id true true is = rw is (ap (λ id. Some (counts (Root id))) ((bytes_eq-Decides q id).0 is))
  one_more q id false true is = rw is (ap (λ id. Some (counts (Root id))) ((bytes_eq-Decides q id).0 is))
  one_more q id true false is = rw is refl
  one_more q id false false is = rw is refl

  -- one more thread that has a root
  by_root-root : (threads : List ThreadKey) (id : List ℕ)
      → by_root counts (threads ++ Root id ∷ []) ≡ insert (by_root counts threads) id (counts (Root id))
  by_root-root threads id =
      same_map nat_list_cmp_total (slice_cmp-IsAntisymmetric nat_cmp-IsAntisymmetric) _ _ (λ q.
      get-roots q (threads ++ Root id ∷ [])
      ∙ ap (λ has. cond has (Some (counts (Root q))) None)
      (list_any-append (same_thread (Root q)) threads (Root id ∷ []))
      ∙ one_more q id (has_thread (Root q) threads) (bytes_eq q id) refl
      ∙ ap (cond (bytes_eq q id) (Some (counts (Root id)))) (sym (get-roots q threads))
      ∙ ap (λ is. cond is (Some (counts (Root id))) (get (by_root counts threads) q)) (sym (is_eq-slice_cmp q id))
      ∙ sym (get-insert nat_list_cmp_total (by_root counts threads) id (counts (Root id)) q))

  entries-root : (threads : List ThreadKey) (roots new : BTreeMap (Bor (List ℕ)) Counts) (k : Bor (List ℕ))
      (id : List ℕ)
      → roots_in roots ≡ entries (by_root counts threads) → k.now ≡ id
      → new.entries ≡ insert_entry (λ x y. slice_cmp nat_cmp x.now y.now) roots.entries k (counts (Root id))
      → roots_in new ≡ entries (by_root counts (threads ++ Root id ∷ []))
  entries-root threads roots new k id were is put_in =
      ap told put_in ∙ told-insert roots.entries k (counts (Root id))
      ∙ ap (λ es. put (slice_cmp nat_cmp) k.now (counts (Root id)) es) were
      ∙ ap (λ key. put (slice_cmp nat_cmp) key (counts (Root id)) (entries (by_root counts threads))) is
      ∙ sym (entries-insert nat_list_cmp_total (by_root counts threads) id (counts (Root id)))
      ∙ ap entries (sym (by_root-root threads id))

  -- the main thread changes nothing
  entries-main : (threads : List ThreadKey)
      → entries (by_root counts (threads ++ Main ∷ [])) ≡ entries (by_root counts threads)
  entries-main threads =
      ap (λ es. entries (from_entries {R = slice_cmp nat_cmp} es))
      (filter_map-append (under_root counts) threads (Main ∷ []) ∙ append-nil (filter_map (under_root counts) threads))

-- ---- the loop over the threads

-- no thread is counted yet
pub entries-none : (counts : ThreadKey → Counts) (roots : BTreeMap (Bor (List ℕ)) Counts) → roots.entries ≡ []
    → roots_in roots ≡ entries (by_root counts [])
entries-none counts roots none =
    ap told none ∙ sym (no_more (entries (by_root counts []))
    (sym (len-entries (by_root counts [])) ∙ len-empty (slice_cmp nat_cmp) Counts))
  where
    no_more : (es : List (List ℕ × Counts)) → length es ≡ 0 → es ≡ []
    no_more [] is = refl
    no_more (e ∷ es) is = absurd (omega arith)

-- one more element at the front
take-next : {A : Type 0} (xs : List A) (k : ℕ) (x : A) → slice_get xs k ≡ Some x → take (k + 1) xs ≡ take k xs ++ x ∷ []
take-next xs k x at =
    let within = slice_get_within xs k x at in
    take_more xs k x within ∙ ap (λ y. take k xs ++ y ∷ []) (get_or_from_slice_get xs k x x at)

module _ (counts : ThreadKey → Counts) (threads : List ThreadKey) (k : ℕ) (thread : ThreadKey)
    (at : slice_get threads k ≡ Some thread) where
  -- the next thread has a root
  pub next-root : (roots new : BTreeMap (Bor (List ℕ)) Counts) (key : Bor (List ℕ)) (v : Counts) (id : List ℕ)
      → thread ≡ Root id → key.now ≡ id → v ≡ counts thread
      → new.entries ≡ insert_entry (λ x y. slice_cmp nat_cmp x.now y.now) roots.entries key v
      → roots_in roots ≡ entries (by_root counts (take k threads))
      → roots_in new ≡ entries (by_root counts (take (k + 1) threads))
  next-root roots new key v id is named told put_in were =
      entries-root counts (take k threads) roots new key id were named
      (put_in ∙ ap (insert_entry (λ x y. slice_cmp nat_cmp x.now y.now) roots.entries key) (told ∙ ap counts is))
      ∙ ap (λ last. entries (by_root counts (take k threads ++ last ∷ []))) (sym is)
      ∙ ap (λ first. entries (by_root counts first)) (sym (take-next threads k thread at))

  -- the next thread is the main one
  pub next-main : (roots : BTreeMap (Bor (List ℕ)) Counts) → thread ≡ Main
      → roots_in roots ≡ entries (by_root counts (take k threads))
      → roots_in roots ≡ entries (by_root counts (take (k + 1) threads))
  next-main roots is were =
      were ∙ sym (entries-main counts (take k threads))
      ∙ ap (λ last. entries (by_root counts (take k threads ++ last ∷ []))) (sym is)
      ∙ ap (λ first. entries (by_root counts first)) (sym (take-next threads k thread at))

-- past the last element there is none
pub past-none : {A : Type 0} (xs : List A) (k : ℕ) → slice_get xs k ≡ None → length xs ≤ k
past-none [] k none = zero-le
past-none (x ∷ xs) zero none = absurd cc
past-none (x ∷ xs) (suc k) none = omega (arith, past-none xs k none)

-- each thread has an unread event
filter_le : {A : Type 0} (p : A → Bool) (xs : List A) → length (filter p xs) ≤ length xs
filter_le p [] = omega arith
filter_le p (x ∷ xs) = kept (p x) (filter_le p xs)
  where
    kept : (keeps : Bool) → length (filter p xs) ≤ length xs
        → length (if keeps then x ∷ filter p xs else filter p xs) ≤ suc (length xs)
    kept true rest = omega (arith, rest)
    kept false rest = omega (arith, rest)

each_once_le : (threads : List ThreadKey) → length (each_once threads) ≤ length threads
each_once_le [] = omega arith
each_once_le (thread ∷ threads) =
    omega (arith, each_once_le threads, filter_le (λ other. not (same_thread thread other)) (each_once threads))

pub threads_le : (server : List ℕ) (h : History) (user room : List ℕ)
    → length (threads_of server h user room) ≤ (room_counts_of server h user room).notify
unfolding threads_of room_counts_of
threads_le server h user room =
    omega (
      arith,
      each_once_le (map thread_in (unread server h user room)),
      length-map (unread server h user room) thread_in,
      length-map (unread server h user room) (row_of server user),
    )

-- what may stand in an object goes on so
pub may_stand-none : (roots : BTreeMap (Bor (List ℕ)) Counts) → roots.entries ≡ [] → All MayStand (roots_in roots)
may_stand-none roots none = All-from_recursion MayStand (roots_in roots)
    (subst (AllByRecursion MayStand) (sym (ap told none)) tt)

stand-by : (o : Ordering) (k : List ℕ) (v : Counts) (e : List ℕ × Counts) (es more : List (List ℕ × Counts))
    → MayStand (k, v)
    → AllByRecursion MayStand (e ∷ es) → AllByRecursion MayStand more
    → AllByRecursion MayStand (by_order o ((k, v) ∷ e ∷ es) ((e.0, v) ∷ es) (e ∷ more))
stand-by Less k v e es more may all rest = (may, all)
stand-by Equal k v e es more may all rest = ((all.0.0, may.1), all.1)
stand-by Greater k v e es more may all rest = (all.0, rest)

stand-put : (es : List (List ℕ × Counts)) (k : List ℕ) (v : Counts) → MayStand (k, v)
    → AllByRecursion MayStand es → AllByRecursion MayStand (put (slice_cmp nat_cmp) k v es)
stand-put [] k v may all = (may, tt)
stand-put (e ∷ es) k v may all =
    stand-by (slice_cmp nat_cmp k e.0) k v e es (put (slice_cmp nat_cmp) k v es) may all (stand-put es k v may all.1)

pub stand-insert : (roots new : BTreeMap (Bor (List ℕ)) Counts) (k : Bor (List ℕ)) (v : Counts) → MayStand (k.now, v)
    → new.entries ≡ insert_entry (λ x y. slice_cmp nat_cmp x.now y.now) roots.entries k v
    → All MayStand (roots_in roots) → All MayStand (roots_in new)
stand-insert roots new k v may put_in all =
    All-from_recursion MayStand (roots_in new)
    (subst (AllByRecursion MayStand) (sym (ap told put_in ∙ told-insert roots.entries k v))
    (stand-put (roots_in roots) k.now v may (recursion_from_All MayStand (roots_in roots) all)))

-- ---- the object

-- the ids of a sorted map rise
rising-told : (es : List (Bor (List ℕ) × Counts))
    → IsStrictlySortedBy (λ x y. slice_cmp nat_cmp x.now y.now) (map (λ e. e.0) es)
    → are_rising (map (λ pair. pair.0) (map root_member (told es))) ≡ true
unfolding IsStrictlySortedBy
rising-told [] sorted = refl
rising-told (e ∷ []) sorted = refl
rising-told (e ∷ next ∷ es) sorted =
    and_from _ _ (ap is_lt sorted.0.0) (rising-told (next ∷ es) sorted.1)

fit-members : (es : List (List ℕ × Counts)) → AllByRecursion MayStand es → list_all is_fit (map root_member es) ≡ true
fit-members [] all = refl
fit-members (e ∷ es) all =
    let here = is_fit_from e.0 (counts_value e.1) all.0.0 (valid-counts_value e.1 all.0.1.0 all.0.1.1)
    (omega (arith, flat-counts_value e.1)) in
    and_from _ _ here (fit-members es all.1)

shallow-members : (es : List (List ℕ × Counts))
    → largest (map (λ pair. pair.1) (map (with_value depth_of) (map root_member es))) ≤ 1
shallow-members [] = omega arith
shallow-members (e ∷ es) = omega (arith, flat-counts_value e.1, shallow-members es)

pub roots-valid : (roots : BTreeMap (Bor (List ℕ)) Counts) → IsOrdered (λ x y. slice_cmp nat_cmp x.now y.now) roots
    → All MayStand (roots_in roots) → is_valid (object_of (map root_member (roots_in roots))) ≡ true
roots-valid roots sorted all =
    is_valid-Object (record { pairs = map root_member (roots_in roots) }) (rising-told roots.entries sorted)
    (fit-members (roots_in roots) (recursion_from_All MayStand (roots_in roots) all))

pub roots-shallow : (roots : BTreeMap (Bor (List ℕ)) Counts)
    → depth_of (object_of (map root_member (roots_in roots))) ≤ 2
roots-shallow roots =
    omega (
      arith,
      depth_of-Object (record { pairs = map root_member (roots_in roots) }),
      shallow-members
          (roots_in roots),
    )

-- ---- the loop over the roots

first-may : (entry : Bor (List ℕ) × Counts) (here rest : List (Bor (List ℕ) × Counts)) → here ≡ entry ∷ rest
    → All MayStand (told here) → AllByRecursion MayStand (told (entry ∷ rest))
first-may entry here rest is all = recursion_from_All MayStand (told (entry ∷ rest))
    (subst (λ es. All MayStand (told es)) is all)

pub first-in_range : (entry : Bor (List ℕ) × Counts) (here rest : List (Bor (List ℕ) × Counts)) → here ≡ entry ∷ rest
    → All MayStand (told here) → AreInRange entry.1
first-in_range entry here rest is all = (first-may entry here rest is all).0.1

pub rest-may : (entry : Bor (List ℕ) × Counts) (here rest : List (Bor (List ℕ) × Counts)) → here ≡ entry ∷ rest
    → All MayStand (told here) → All MayStand (told rest)
rest-may entry here rest is all = All-from_recursion MayStand (told rest) (first-may entry here rest is all).1

-- one more member stands behind those that stand
pub next-member : (entry : Bor (List ℕ) × Counts) (here rest : List (Bor (List ℕ) × Counts))
    (done new all : List (List ℕ × Json)) (value : Json)
    → here ≡ entry ∷ rest → value ≡ counts_value entry.1 → new ≡ done ++ (entry.0.now, value) ∷ []
    → done ++ map root_member (told here) ≡ all → new ++ map root_member (told rest) ≡ all
next-member entry here rest done new all value is told_value put_behind were =
    ap (λ first. first ++ map root_member (told rest)) (put_behind ∙ ap (λ v. done ++ (entry.0.now, v) ∷ []) told_value)
    ∙ append_assoc done ((entry.0.now, counts_value entry.1) ∷ []) (map root_member (told rest))
    ∙ ap (λ es. done ++ map root_member (told es)) (sym is)
    ∙ were

-- no more stand behind them
pub no-member : (here : List (Bor (List ℕ) × Counts)) (done all : List (List ℕ × Json)) → here ≡ []
    → done ++ map root_member (told here) ≡ all → done ≡ all
no-member here done all none were = sym (append-nil done) ∙ ap (λ es. done ++ map root_member (told es)) (sym none)
    ∙ were
