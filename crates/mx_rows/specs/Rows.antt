-- Rows of unread events: counts and cuts of a list of them, and the order of threads. Ours.
use Rattle.std.specs.Prelude.{ℕ, ◌-◌, ◌^◌, min, nat_lt, nat_le, Bool, true, false, ◌&&◌, List, [], ◌∷◌, length, map}
use Rattle.std.specs.Prelude.{filter, count_by}
use Rattle.std.specs.List.{list_all}
use Rattle.mx_rows.specs.declared.counts.Counts.{Counts}
use Rattle.mx_rows.specs.declared.row.Row.{Row}
use Rattle.mx_rows.specs.declared.thread_key.ThreadKey.{ThreadKey}

-- the rows above a position, which are those that a cut there leaves
abbrev pub above : ℕ → List Row → List Row
above position rows = filter (λ row. nat_lt position row.position) rows

-- the rows at or below a position, which are those that a cut there drops
abbrev pub upto : ℕ → List Row → List Row
upto position rows = filter (λ row. nat_le row.position position) rows

-- how many rows there are, and how many of them are highlighted
abbrev pub counts_in : List Row → Counts
counts_in rows = record { notify = length rows; highlight = count_by (λ row. row.highlight) rows }

-- the largest number that a count may be
abbrev pub largest_count : ℕ
largest_count = 2 ^ 64 - 1

-- counts that stand still at the largest number
abbrev pub saturated : Counts → Counts
saturated counts = record {
  notify = min counts.notify largest_count;
  highlight = min counts.highlight largest_count;
}

-- each row stands below all that come after it
abbrev pub is_rising : List Row → Bool
is_rising [] = true
is_rising (row ∷ rows) =
    list_all (λ later. nat_lt row.position later.position) rows && is_rising rows

-- each position fits a u64
abbrev pub are_in_range : List Row → Bool
are_in_range rows = list_all (λ row. nat_lt row.position (2 ^ 64)) rows

-- the position of the first row, and past every position where there is none
abbrev pub start_of : List Row → ℕ
start_of [] = 2 ^ 64
start_of (row ∷ rows) = row.position

-- there is a row
abbrev pub has_rows : List Row → Bool
has_rows [] = false
has_rows (row ∷ rows) = true

-- those of the threads that have rows, by the list of each
abbrev pub with_rows : (ThreadKey → List Row) → List ThreadKey → List ThreadKey
with_rows list threads = filter (λ thread. has_rows (list thread)) threads

-- each number is at most all that come after it
abbrev pub never_falls : List ℕ → Bool
never_falls [] = true
never_falls (n ∷ ns) = list_all (λ later. nat_le n later) ns && never_falls ns

-- the threads stand in the order of their first rows, by the list of each
abbrev pub are_in_order : (ThreadKey → List Row) → List ThreadKey → Bool
are_in_order list threads = never_falls (map (λ thread. start_of (list thread)) threads)
