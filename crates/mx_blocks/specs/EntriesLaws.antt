-- The laws of `Rows` that the threads of `Blocks` meet whatever they are; for its impl alone.
use Rattle.std.specs.Prelude.{◌≡◌, Bool, true, false, ◌||◌, List, [], ◌∷◌, ◌++◌, Option, Some, None, is_some, refl}
use Rattle.std.proofs.Common.{sym, ◌∙◌}
use Rattle.std.proofs.lemmas.Bool.{and_parts, cond_both}
use Rattle.std.proofs.lemmas.Map.Keys.{IsDistinct-prop}
use Rattle.std.proofs.lemmas.Map.Made.{is_some-lookup}
use Rattle.std.specs.Map.{keys_of, lookup}
use Rattle.std.specs.Option.{option_map_or}
use Rattle.mx_rows.specs.declared.row.Row.{Row}
use Rattle.mx_blocks.specs.Block.{packed_rows}
use Rattle.mx_rows.specs.declared.thread_key.ThreadKey.{ThreadKey}
use Rattle.mx_blocks.specs.declared.thread_rows.ThreadRows.{ThreadRows}
use Rattle.mx_blocks.specs.Entries.{are_needed, AreDistinct, Entries, hot_in, reserved_in, rows_in, thread_rows}
use Rattle.mx_rows.specs.Rows.{has_rows, is_rising}
use Rattle.mx_rows.specs.Threads.{has_thread, same_thread}

-- That no thread is kept twice is a fact with one proof at most.
pub AreDistinct-prop : (entries : Entries) → IsProp (AreDistinct entries)
AreDistinct-prop entries = IsDistinct-prop same_thread (keys_of entries)

-- the thread of an entry that a look-up finds has rows or capacity
abbrev is_needed : Option ThreadRows → Bool
is_needed found = option_map_or (λ kept. has_rows (thread_rows kept) || kept.reserved) found true

found_is_needed : (test : ThreadKey → Bool) (es : Entries) → are_needed es ≡ true
    → is_needed (lookup test es) ≡ true
found_is_needed test [] needed = refl
found_is_needed test (e ∷ es) needed =
    let parts = and_parts (has_rows (thread_rows e.1) || e.1.reserved) (are_needed es) needed in
    cond_both (test e.0) (Some e.1) (lookup test es) (λ found. is_needed found ≡ true)
    (λ _. parts.0) (λ _. found_is_needed test es parts.1)

-- a thread is kept exactly where it has rows or capacity
pub kept-entries : (es : Entries) (t : ThreadKey) → are_needed es ≡ true
    → has_thread t (keys_of es) ≡ (has_rows (rows_in es t) || reserved_in es t)
kept-entries es t needed =
    sym (is_some-lookup (same_thread t) es)
    ∙ by (lookup (same_thread t) es) (found_is_needed (same_thread t) es needed)
  where
    by : (o : Option ThreadRows) → is_needed o ≡ true
        → is_some o ≡ (has_rows (option_map_or (λ kept. thread_rows kept) o [])
        || option_map_or (λ kept. kept.reserved) o false)
    by None needed = refl
    by (Some v) needed = sym needed

-- The rows that are kept of a thread rise.
pub is_rising-rows_in : (es : Entries) (t : ThreadKey) → is_rising (rows_in es t) ≡ true
is_rising-rows_in es t = by (lookup (same_thread t) es)
  where
    by : (o : Option ThreadRows) → is_rising (option_map_or (λ kept. thread_rows kept) o []) ≡ true
    by None = refl
    by (Some v) = v.rising

-- the hot rows come last
pub hot_last-rows_in : (es : Entries) (t : ThreadKey)
    → (packed : List Row) × (rows_in es t ≡ packed ++ hot_in es t)
hot_last-rows_in es t = by (lookup (same_thread t) es)
  where
    by : (o : Option ThreadRows)
        → (packed : List Row) × (option_map_or (λ kept. thread_rows kept) o []
        ≡ packed ++ option_map_or (λ kept. kept.hot.items) o [])
    by None = ([], refl)
    by (Some v) = (packed_rows v.blocks.items, refl)
