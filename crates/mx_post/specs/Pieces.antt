-- The texts of the pieces of a post, in order; for private clauses.
use Rattle.std.specs.Prelude.{ℕ, Bool, false, if◌then◌else◌, List, [], ◌∷◌, ◌++◌, codes, Option, None, Some}
use Rattle.json.specs.Print.{quoted}
use Rattle.mx_json.specs.declared.value.Json.{Json}
use Rattle.mx_json.specs.Canonical.{canonical}
use Rattle.mx_records.specs.Normal.{Field}
use Rattle.mx_post.specs.Post.{is_sent}

-- a member behind others, where it is given
abbrev pub given_text : List ℕ → Option Json → List ℕ
given_text key None = []
given_text key (Some value) = codes "," ++ (quoted key ++ (codes ":" ++ canonical value))

-- the members behind others that are given, and the brace that closes their object
abbrev pub rest_text : List Field → List ℕ
rest_text [] = codes "}"
rest_text (field ∷ fields) = given_text field.0 field.1 ++ rest_text fields

-- a comma, unless it is the first
abbrev pub separator : Bool → List ℕ
separator first = if first then [] else codes ","

-- a key, a colon and the value's text
abbrev pub member_text : List ℕ × Json → List ℕ
member_text pair = quoted pair.0 ++ (codes ":" ++ canonical pair.1)

-- the members that are sent; whether one was before decides on the first comma
abbrev pub sent_text : Bool → List (List ℕ × Json) → List ℕ
sent_text first [] = []
sent_text first (pair ∷ pairs) =
    if is_sent pair then separator first ++ (member_text pair ++ sent_text false pairs) else sent_text first pairs

-- how tweaks with a sound begin
abbrev pub before_sound : Bool → List ℕ
before_sound highlight = if highlight then codes "{\"highlight\":true,\"sound\":" else codes "{\"sound\":"

-- tweaks without a sound
abbrev pub silent_text : Bool → List ℕ
silent_text highlight = if highlight then codes "{\"highlight\":true}" else codes "{}"
