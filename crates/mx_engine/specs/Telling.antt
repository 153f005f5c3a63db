-- The rows of an event, and capacity for them; for private clauses.
use Rattle.std.specs.Prelude.{◌≡◌, ℕ, Bool, true, List, Option}
use Rattle.std.specs.List.{list_any}
use Rattle.std.specs.Map.{lookup}
use Rattle.std.specs.Str.{bytes_eq}
use Rattle.mx_room.specs.Texts.{Texts}
use Rattle.mx_rows.specs.declared.thread_key.ThreadKey.{ThreadKey}
use Rattle.mx_engine.specs.Capacity.{Capacity}
use Rattle.mx_engine.specs.KeptRows.{ThreadSet, has_capacity}

-- what is said of a user, in this list
abbrev pub said_in : List (List ℕ × Bool) → List ℕ → Option Bool
said_in users user = lookup (bytes_eq user) users

-- there is capacity for a row of each of these users in a thread of a room
abbrev pub HasCapacityForAll : Texts (Texts ThreadSet) → List ℕ → ThreadKey → List (List ℕ) → Type 0
HasCapacityForAll capacity room thread users =
    (user : List ℕ) → list_any (bytes_eq user) users ≡ true → has_capacity capacity user room thread ≡ true

-- the memory suffices for the same events and edits
pub record KeepsCapacity (old new : Capacity) : Type 0 where
  pub rooms : new.rooms ≡ old.rooms
  pub places : new.places ≡ old.places
  pub rules : new.rules ≡ old.rules
