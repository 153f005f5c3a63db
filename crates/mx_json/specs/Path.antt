-- What segments a property path is cut into, and the value that it leads to:
-- the Client-Server API v1.11, 'Dot-separated property paths'; that lists aren't entered is ours.
use Rattle.std.specs.Prelude.{ℕ, ◌==◌, ◌||◌, Bool, true, false, if◌then◌else◌, List, [], ◌∷◌, ◌++◌, Option, Some}
use Rattle.std.specs.Prelude.{option_and_then}
use Rattle.mx_json.specs.declared.value.Json.{Json}
use Rattle.mx_json.specs.Json.{member}

-- ---- the segments of a text

-- the byte `.`, which ends a segment
abbrev pub full_stop : ℕ
full_stop = 46

-- the byte `\`, which escapes the next one
abbrev pub backslash : ℕ
backslash = 92

-- a backslash takes its meaning from a full stop or a backslash: the two bytes stand for the second
abbrev pub is_escapable : ℕ → Bool
is_escapable byte = (byte == full_stop) || (byte == backslash)

-- the segments, with these bytes in front of the first
abbrev pub in_front : List ℕ → List (List ℕ) → List (List ℕ)
in_front bytes [] = bytes ∷ []
in_front bytes (segment ∷ segments) = (bytes ++ segment) ∷ segments

-- a byte, and the segments of what follows: a full stop ends a segment, and a backslash waits for the next byte
abbrev pub with_byte : ℕ → List (List ℕ) → List (List ℕ)
with_byte byte segments =
    if byte == full_stop then [] ∷ segments else (if byte == backslash then segments else in_front (byte ∷ []) segments)

-- the byte after a backslash, and the segments of what follows
abbrev pub with_escaped : ℕ → List (List ℕ) → List (List ℕ)
with_escaped byte segments =
    if is_escapable byte then in_front (byte ∷ []) segments else in_front (backslash ∷ byte ∷ []) segments

-- the segments of what is left of a text, where a backslash waits (`true`) or none does
unfoldable pub segments_left : Bool → List ℕ → List (List ℕ)
segments_left false [] = [] ∷ []
segments_left true [] = (backslash ∷ []) ∷ []
segments_left false (byte ∷ bytes) = with_byte byte (segments_left (byte == backslash) bytes)
segments_left true (byte ∷ bytes) = with_escaped byte (segments_left false bytes)

-- the segments of a text
abbrev pub segments : List ℕ → List (List ℕ)
segments text = segments_left false text

-- ---- the value at a path

-- the value that these segments lead to, from object to member
abbrev pub look : List (List ℕ) → Json → Option Json
look [] json = Some json
look (segment ∷ segments) json = option_and_then (look segments) (member segment json)
