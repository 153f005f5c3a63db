-- What a gateway's reply settles: the Push Gateway API v1, 'POST /_matrix/push/v1/notify'; that any
-- 2xx reply settles is ours.
use Rattle.std.specs.Prelude.{ℕ, nat_le, Bool, false, ◌&&◌, if◌then◌else◌, List, codes, Result, Ok, Err}
use Rattle.std.specs.List.{list_any}
use Rattle.std.specs.Option.{option_map_or}
use Rattle.std.specs.Str.{bytes_eq}
use Rattle.mx_json.specs.declared.reading.JsonError.{JsonError}
use Rattle.mx_json.specs.declared.value.Json.{Json}
use Rattle.mx_json.specs.Json.{deepest_valid, list_at, text_of}
use Rattle.mx_json.specs.Reading.{read_json}
use Rattle.mx_post.specs.declared.answers.Answer.{Answer}
use Rattle.mx_post.specs.declared.answers.Answer.TheVariants.{Failed, Pushed, Rejected}

-- the status of a reply says that the request was carried out
abbrev pub is_success : ℕ → Bool
is_success status = nat_le 200 status && nat_le status 299

-- the value is this text
abbrev pub is_text : List ℕ → Json → Bool
is_text text json = option_map_or (λ other. bytes_eq other text) (text_of json) false

-- the value is an object whose `rejected` is a list that has the pushkey
abbrev pub has_rejected : List ℕ → Json → Bool
has_rejected pushkey json = option_map_or (list_any (is_text pushkey)) (list_at (codes "rejected") json) false

-- what was read of a body rejects the pushkey; a body that can't be read rejects nothing
abbrev pub is_rejection : List ℕ → Result Json JsonError → Bool
is_rejection pushkey (Ok json) = has_rejected pushkey json
is_rejection pushkey (Err _) = false

-- the body is JSON of whole numbers, nested at most 127 deep, that rejects the pushkey
abbrev pub rejects : List ℕ → List ℕ → Bool
rejects pushkey body = is_rejection pushkey (read_json body deepest_valid)

-- What the reply with this status and this body says of a pushkey.
abbrev pub answer_of : ℕ → List ℕ → List ℕ → Answer
answer_of status body pushkey =
    if is_success status then (if rejects pushkey body then Rejected else Pushed) else Failed
