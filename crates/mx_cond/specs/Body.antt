-- The path of a message's body: the Client-Server API v1.11, "Conditions for push rules",
-- event_match and contains_display_name.
use Rattle.std.specs.Prelude.{ℕ, Bool, false, ◌&&◌, List, [], ◌∷◌, codes}
use Rattle.std.specs.Str.{bytes_eq}

-- where the body of a message stands
abbrev pub body_path : List (List ℕ)
body_path = codes "content" ∷ codes "body" ∷ []

-- the path is `content`, `body`
abbrev pub is_body : List (List ℕ) → Bool
is_body (first ∷ second ∷ []) = bytes_eq first (codes "content") && bytes_eq second (codes "body")
is_body other = false
