-- The threads that are kept, with their rows, in the order of these; for private clauses.
use Rattle.std.specs.Prelude.{ℕ, ◌<◌, ◌≤◌, nat_le, Bool, false, not, ◌||◌, List, [], length, count_by, remove}
use Rattle.std.specs.Prelude.{slice_index_or, sum_by}
use Rattle.std.specs.List.{IsDistinct, list_all}
use Rattle.std.specs.List.Sorted.{IsNonDecreasingBy}
use Rattle.std.specs.Map.{keys_of, lookup}
use Rattle.std.specs.Option.{option_map_or}
use Rattle.mx_rows.specs.declared.row.Row.{Row}
use Rattle.mx_rows.specs.declared.thread_key.ThreadKey.{ThreadKey}
use Rattle.mx_blocks.specs.declared.thread_rows.ThreadRows.{ThreadRows}
use Rattle.mx_blocks.specs.Block.{Kept}
use Rattle.mx_blocks.specs.Kept.{rows_of_parts}
use Rattle.mx_rows.specs.Rows.{has_rows, start_of, upto}
use Rattle.mx_rows.specs.Threads.{same_thread}

-- a thread that is kept, with its rows
abbrev pub Entry : Type 0
Entry = ThreadKey × ThreadRows

-- The threads that are kept, each with its rows, in their order.
abbrev pub Entries : Type 0
Entries = List Entry

-- the rows of a thread that is kept
abbrev pub thread_rows : ThreadRows → List Row
thread_rows kept = rows_of_parts kept.blocks.items kept.hot.items

-- the rows of a thread, and none where it isn't kept
abbrev pub rows_in : Entries → ThreadKey → List Row
rows_in entries thread =
    option_map_or (λ kept. thread_rows kept) (lookup (same_thread thread) entries) []

-- the hot rows of a thread, and none where it isn't kept
abbrev pub hot_in : Entries → ThreadKey → List Row
hot_in entries thread =
    option_map_or (λ kept. kept.hot.items) (lookup (same_thread thread) entries) []

-- the blocks of a thread, and none where it isn't kept
abbrev pub blocks_in : Entries → ThreadKey → List Kept
blocks_in entries thread =
    option_map_or (λ kept. kept.blocks.items) (lookup (same_thread thread) entries) []

-- whether a thread has capacity for one row more
abbrev pub reserved_in : Entries → ThreadKey → Bool
reserved_in entries thread =
    option_map_or (λ kept. kept.reserved) (lookup (same_thread thread) entries) false

-- the thread has neither a row nor capacity for one
abbrev pub is_spent : ThreadRows → Bool
is_spent kept = not (has_rows (thread_rows kept) || kept.reserved)

-- each thread has a row, or capacity for one
abbrev pub are_needed : Entries → Bool
are_needed entries = list_all (λ entry. has_rows (thread_rows entry.1) || entry.1.reserved) entries

-- no thread is kept twice
abbrev pub AreDistinct : Entries → Type 0
AreDistinct entries = IsDistinct same_thread (keys_of entries)

-- where a thread starts
abbrev pub start_at : Entry → ℕ
start_at entry = start_of (thread_rows entry.1)

-- the threads stand in the order of their first rows, those without rows last
abbrev pub InOrder : Entries → Type 0
InOrder entries = IsNonDecreasingBy start_at entries

-- `to` is where the thread at `index` stands among the others, once it starts at `start`
pub record IsPlace (entries : Entries) (index start to : ℕ) : Type 0 where
  pub within : to < length entries
  pub before : (k : ℕ) (d : Entry) → k < to
      → start_at (slice_index_or (remove entries index) k d) ≤ start
  pub after : (k : ℕ) (d : Entry) → to ≤ k → k < length (remove entries index)
      → start ≤ start_at (slice_index_or (remove entries index) k d)

-- how many rows of all threads a cut at the position drops, and how many highlighted ones
abbrev pub rows_left_to_cut : ℕ → Entries → ℕ
rows_left_to_cut position entries =
    sum_by (λ entry. length (upto position (thread_rows entry.1))) entries

-- How many of the rows at or below a position are highlighted, over these threads.
abbrev pub highlights_left_to_cut : ℕ → Entries → ℕ
highlights_left_to_cut position entries =
    sum_by (λ entry. count_by (λ row. row.highlight) (upto position (thread_rows entry.1))) entries

-- how many threads start at or below the position
abbrev pub threads_left_to_cut : ℕ → Entries → ℕ
threads_left_to_cut position entries = count_by (λ entry. nat_le (start_at entry) position) entries
