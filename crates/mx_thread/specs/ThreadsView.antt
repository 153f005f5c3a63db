-- What is seen of `Threads`: where events are, and for which ids there is capacity for a place.
use Rattle.std.specs.Prelude.{ℕ, List, Bool, Option, option_map}
use Rattle.std.specs.Cmp.Lexicographic.{slice_cmp}
use Rattle.std.specs.FinMap as map
use Rattle.std.specs.FinSet as set
use Rattle.std.specs.List.{filter_map}
use Rattle.std.specs.Map.{keys_of}
use Rattle.std.specs.Ordering.{nat_cmp}
use Rattle.mx_thread.specs.declared.place.Place.{Place}
use Rattle.mx_thread.specs.Place.{Places}

-- Where events are, and the ids for whose places there is capacity.
pub record ThreadsView : Type 0 where
  pub places : Places
  pub capacity : set.FinSet (slice_cmp nat_cmp)  -- the ids for whose places there is capacity

-- whether there is capacity for the place of this id
abbrev pub has_capacity : ThreadsView → List ℕ → Bool
has_capacity threads id = set.contains threads.capacity id

-- the ids that have a place, with it; for private clauses
abbrev pub noted : List (List ℕ × Option Place) → List (List ℕ × Place)
noted entries = filter_map (λ entry. option_map (λ place. (entry.0, place)) entry.1) entries

-- what is seen of the ids that are kept, each with its place if it has one
abbrev pub view_of : List (List ℕ × Option Place) → ThreadsView
view_of entries = record {
  places = map.from_entries (noted entries);
  capacity = set.from_list (keys_of entries);
}
