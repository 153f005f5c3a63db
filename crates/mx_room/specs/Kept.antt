-- What a room keeps, of all members and of the joined local ones, and what its map of members stands for: ours.
use Rattle.std.specs.Prelude.{ℕ, List, map}
use Rattle.std.specs.FinMap.{from_entries}
use Rattle.std.specs.declared.string.String.{String}
use Rattle.std.specs.String.{string_bytes}
use Rattle.mx_room.specs.State.{RoomState}
use Rattle.mx_room.specs.Texts.{Texts}

-- a room's state, and for how many further members it has capacity
pub record KeptRoom : Type 0 where
  pub state : RoomState
  pub capacity : ℕ

-- the joined local users of a room, and how many there is memory for
pub record KeptUsers : Type 0 where
  pub users : List (List ℕ)
  pub capacity : ℕ

-- an entry, with its key as bytes
abbrev pub by_bytes : {A X : Type 0} → String A × X → List ℕ × X
by_bytes entry = (string_bytes entry.0, entry.1)

-- the map from texts that these entries make
unfoldable pub by_text : {A X : Type 0} → List (String A × X) → Texts X
by_text entries = from_entries (map by_bytes entries)
