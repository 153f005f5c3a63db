-- What user ids, room ids and event ids are: the sigils of the Matrix specification's
-- 'Common identifier format'; the rest is ours.
use Rattle.std.specs.Prelude.{ℕ, ◌+◌, ◌-◌, ◌==◌, nat_lt, nat_le, Bool, false, ◌&&◌, ◌||◌, if◌then◌else◌, List, [], ◌∷◌}
use Rattle.std.specs.Prelude.{◌++◌, length, take, drop, codes, Option, Some, None, is_some, Result, Ok, Err}
use Rattle.std.specs.Char.{is_ascii_digit, is_ascii_lowercase}
use Rattle.std.specs.List.{list_all, list_any}
use Rattle.std.specs.Str.{bytes_eq}
use Rattle.mx_json.specs.declared.id.IdError.{IdError}
use Rattle.mx_json.specs.declared.id.IdError.TheVariants.{BadId}

-- the byte `@`
abbrev pub at_sign : ℕ
at_sign = 64

-- the byte `!`
abbrev pub exclamation_mark : ℕ
exclamation_mark = 33

-- the byte `$`
abbrev pub dollar_sign : ℕ
dollar_sign = 36

-- the byte `:`
abbrev pub colon : ℕ
colon = 58

-- the text begins with this byte
abbrev pub begins_with : ℕ → List ℕ → Bool
begins_with byte [] = false
begins_with byte (first ∷ rest) = first == byte

-- the text holds this byte
abbrev pub holds_byte : ℕ → List ℕ → Bool
holds_byte byte text = list_any (λ each. each == byte) text

-- the text has 2 to 255 bytes
abbrev pub has_length_of_an_id : List ℕ → Bool
has_length_of_an_id text = nat_le 2 (length text) && nat_le (length text) 255

-- a user id begins with `@`, holds `:`, and has 2 to 255 bytes
abbrev pub is_user_id : List ℕ → Bool
is_user_id text = begins_with at_sign text && holds_byte colon text && has_length_of_an_id text

-- a room id begins with `!`, and has 2 to 255 bytes
abbrev pub is_room_id : List ℕ → Bool
is_room_id text = begins_with exclamation_mark text && has_length_of_an_id text

-- an event id begins with `$`, and has 2 to 255 bytes
abbrev pub is_event_id : List ℕ → Bool
is_event_id text = begins_with dollar_sign text && has_length_of_an_id text

-- the text as an id, or the refusal
abbrev pub read_id : (List ℕ → Bool) → List ℕ → Result (List ℕ) IdError
read_id is_id text = if is_id text then Ok text else Err BadId

-- the text as a user id, or the refusal
abbrev pub read_user_id : List ℕ → Result (List ℕ) IdError
read_user_id text = read_id is_user_id text

-- the text as a room id, or the refusal
abbrev pub read_room_id : List ℕ → Result (List ℕ) IdError
read_room_id text = read_id is_room_id text

-- the text as an event id, or the refusal
abbrev pub read_event_id : List ℕ → Result (List ℕ) IdError
read_event_id text = read_id is_event_id text

-- a byte that a local user's localpart may hold
abbrev pub is_localpart_byte : ℕ → Bool
is_localpart_byte byte =
    is_ascii_lowercase byte || is_ascii_digit byte || list_any (λ allowed. byte == allowed) (codes "._=-/+")

-- a localpart has at least one byte, and only such bytes
abbrev pub is_localpart : List ℕ → Bool
is_localpart part = nat_lt 0 (length part) && list_all is_localpart_byte part

-- the user id of this localpart on this server
abbrev pub local_user : List ℕ → List ℕ → List ℕ
local_user server part = at_sign ∷ part ++ colon ∷ server

-- what stands in an id between its first byte and the `:` before a server's name, if that ends the id
abbrev pub part_before : List ℕ → List ℕ → List ℕ
part_before server id = take (length id - (length server + 2)) (drop 1 id)

-- the localpart of a user id that is local on this server
unfoldable pub localpart_of : List ℕ → List ℕ → Option (List ℕ)
localpart_of server id =
    let part = part_before server id in
    if is_localpart part && bytes_eq id (local_user server part) then Some part else None

-- the user id is local: it has a localpart on this server
abbrev pub is_local : List ℕ → List ℕ → Bool
is_local server id = is_some (localpart_of server id)
