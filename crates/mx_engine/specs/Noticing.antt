-- Which users are looked at to find those whom an event notifies; for private clauses.
use Rattle.std.specs.Prelude.{◌≡◌, ℕ, Bool, not, ◌&&◌, if◌then◌else◌, List, Option, Some, None, option_map}
use Rattle.std.specs.List.{filter_map, list_any}
use Rattle.std.specs.Str.{bytes_eq}
use Rattle.mx_json.specs.declared.value.Json.{Json}
use Rattle.mx_json.specs.Ids.{is_user_id}
use Rattle.mx_room.specs.Change.{sets_of, with_sets}
use Rattle.mx_room.specs.Rooms.{is_local_member}
use Rattle.mx_room.specs.State.{RoomState}

-- what `f` says of each of these users, where it says anything
abbrev pub said_of : (List ℕ → Option Bool) → List (List ℕ) → List (List ℕ × Bool)
said_of f users = filter_map (λ user. option_map (λ said. (user, said)) (f user)) users

-- the user whom an event makes a member, if that is a user id which isn't among these
abbrev pub beside : List (List ℕ) → Option (List ℕ) → Option (List ℕ)
beside users None = None
beside users (Some user) = if is_user_id user && not (list_any (bytes_eq user) users) then Some user else None

-- these are the joined local users of a room before an event, and this is its state after it
pub record IsListed (server : List ℕ) (event : Json) (room : RoomState) (users : List (List ℕ)) : Type 0 where
  pub before : RoomState
  pub after : room ≡ with_sets (sets_of event) before
  pub listed : (user : List ℕ) → list_any (bytes_eq user) users ≡ is_local_member server before user
