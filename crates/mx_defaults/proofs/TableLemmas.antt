-- A local user's id and localpart are short.
use Rattle.std.proofs.Common.{◌≡◌, ℕ, ◌+◌, ◌-◌, ◌≤◌, nat_le, Bool, true, false, not, ◌&&◌, List, length, drop, Some}
use Rattle.std.proofs.Common.{None, if◌then◌else◌, ap, arith, length-take, length-drop}
use Rattle.std.specs.Str.{bytes_eq}
use Rattle.std.proofs.lemmas.Bool.{and_parts, leb-true, le-ltb}
use Rattle.mx_json.specs.Ids.{begins_with, at_sign, colon, has_length_of_an_id, holds_byte, is_localpart, is_user_id}
use Rattle.mx_json.specs.Ids.{local_user, localpart_of, part_before}
use Rattle.mx_defaults.specs.Row.{is_pattern_text}

pub is_short-from_length : (text : List ℕ) → length text ≤ 1024 → is_pattern_text text ≡ true
is_short-from_length text within = ap not (le-ltb 1024 (length text) within)

pub length-user_id : (id : List ℕ) → is_user_id id ≡ true → length id ≤ 255
length-user_id id is =
    let parts = and_parts (begins_with at_sign id && holds_byte colon id) (has_length_of_an_id id) is in
    leb-true _ _ (and_parts (nat_le 2 (length id)) (nat_le (length id) 255) parts.1).1

pub length-localpart : (server id part : List ℕ) → localpart_of server id ≡ Some part → length part ≤ length id
unfolding localpart_of
length-localpart server id part is =
    by (is_localpart (part_before server id) && bytes_eq id (local_user server (part_before server id))) is
  where
    by : (b : Bool) → (if b then Some (part_before server id) else None) ≡ Some part → length part ≤ length id
    by true e =
        let same : part_before server id ≡ part = cc in
        let n = length id - (length server + 2) in
        rw (← same) (omega (arith, length-take n (drop 1 id), length-drop 1 id))
    by false e = cc
