-- For which plans the memory of an engine suffices: ours.
use Rattle.std.specs.Prelude.{◌≡◌, ℕ, true, List, is_some}
use Rattle.std.specs.Cmp.Lexicographic.{slice_cmp}
use Rattle.std.specs.FinMap.{get}
use Rattle.std.specs.FinSet as set
use Rattle.std.specs.Ordering.{nat_cmp}
use Rattle.mx_room.specs.Texts.{Texts}
use Rattle.mx_rows.specs.declared.thread_key.ThreadKey.{ThreadKey}
use Rattle.mx_engine.specs.KeptRows.{ThreadSet, has_capacity}
use Rattle.mx_engine.specs.Planning.{PlannedChange, PlannedEvent, adds, edits, reads}

-- For what the memory of an engine suffices.
pub record Capacity : Type 0 where
  pub rooms : set.FinSet (slice_cmp nat_cmp)  -- the rooms for whose next event it suffices
  pub places : set.FinSet (slice_cmp nat_cmp)  -- the event ids for whose places it suffices
  pub rules : set.FinSet (slice_cmp nat_cmp)  -- the users for whose edited rules it suffices
  pub rows : Texts (Texts ThreadSet)  -- the threads, by user and room, for whose next row it suffices

-- the memory suffices for an event with this id in this room: for its place, and for the room
pub record SufficesFor (capacity : Capacity) (event_id room_id : List ℕ) : Type 0 where
  pub room : set.contains capacity.rooms room_id ≡ true
  pub place : set.contains capacity.places event_id ≡ true

-- the memory suffices for a row of each user whom an event of this thread of the room notifies
abbrev pub SufficesForRows : Capacity → PlannedEvent → Type 0
SufficesForRows capacity plan =
    (user : List ℕ) → is_some (get plan.users user) ≡ true
    → has_capacity capacity.rows user plan.room.id plan.thread ≡ true

-- the memory suffices for an event that is planned so
pub record HasCapacityFor (capacity : Capacity) (plan : PlannedEvent) : Type 0 where
  pub event : SufficesFor capacity plan.id plan.room.id
  pub rows : SufficesForRows capacity plan

-- the memory suffices for a change; a receipt needs none
abbrev pub HasCapacity : Capacity → PlannedChange → Type 0
HasCapacity capacity (adds plan) = HasCapacityFor capacity plan
HasCapacity capacity (edits editor plan) = set.contains capacity.rules editor ≡ true
HasCapacity capacity (reads plan) = Unit {0}
