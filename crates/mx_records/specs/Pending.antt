-- An event that pushers are yet to post, and how it is to be shown to each user: ours.
use Rattle.std.specs.Prelude.{◌≡◌, ℕ, ◌<◌, ◌≤◌, Bool, not, List, length, option_map, Option, None, slice_get, slice_set}
use Rattle.std.specs.Cmp.Lexicographic.{slice_cmp}
use Rattle.std.specs.FinMap.{find, from_sorted, is_sorted, put}
use Rattle.std.specs.List.{filter, insert, remove}
use Rattle.std.specs.Ordering.{eq_by_cmp, nat_cmp}
use Rattle.mx_json.specs.declared.value.Json.{Json}
use Rattle.mx_room.specs.Texts.{Texts}
use Rattle.mx_records.specs.declared.pending.Tweaks.{Tweaks}

-- An event that is pending: the whole event, its position, the sender's display name in the room
-- after it, and the users for whose pushers it is pending, each with what the verdict says.
pub record Pending : Type 0 where
  pub event : Json
  pub position : ℕ
  pub sender_display_name : Option (List ℕ)
  pub users : Texts Tweaks

-- ---- how the users are kept; for private clauses

-- users by their ids, each with its tweaks
abbrev pub Entries : Type 0
Entries = List (List ℕ × Tweaks)

-- each id is above the one before it, by its bytes
abbrev pub are_rising : Entries → Bool
are_rising entries = is_sorted (slice_cmp nat_cmp) entries

-- the map that these entries are
abbrev pub users_in : Entries → Texts Tweaks
users_in entries = from_sorted entries

-- the tweaks in the first entry of a user
abbrev pub tweaks_in : List ℕ → Entries → Option Tweaks
tweaks_in user entries = find (slice_cmp nat_cmp) user entries

-- the entries with these tweaks for a user
abbrev pub with_user : List ℕ → Tweaks → Entries → Entries
with_user user tweaks entries = put (slice_cmp nat_cmp) user tweaks entries

-- the entries of all others
abbrev pub without_user : List ℕ → Entries → Entries
without_user user entries = filter (λ entry. not (eq_by_cmp (slice_cmp nat_cmp) user entry.0)) entries

-- a user's entry stands at this place
pub record IsEntryAt (user : List ℕ) (entries : Entries) (at : ℕ) : Type 0 where
  pub within : at < length entries
  pub found : tweaks_in user entries ≡ option_map (λ entry. entry.1) (slice_get entries at)
  pub replaced : (tweaks : Tweaks) → slice_set entries at (user, tweaks) ≡ with_user user tweaks entries
  pub taken_out : remove entries at ≡ without_user user entries

-- a user has no entry, and one would stand at this place
pub record IsGapAt (user : List ℕ) (entries : Entries) (at : ℕ) : Type 0 where
  pub within : at ≤ length entries
  pub missing : tweaks_in user entries ≡ None
  pub inserted : (tweaks : Tweaks) → insert entries at (user, tweaks) ≡ with_user user tweaks entries
  pub is_out : entries ≡ without_user user entries
