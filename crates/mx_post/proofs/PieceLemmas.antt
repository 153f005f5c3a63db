-- The texts of the objects of a post, part by part.
use Rattle.std.proofs.Common.{◌≡◌, ℕ, pos, Bool, true, false, List, [], ◌∷◌, ◌++◌, map, length, codes, decimal, filter}
use Rattle.std.proofs.Common.{Option, None, Some, option_map, rules, refl, sym, ap, ◌∙◌, append_assoc, inl, inr}
use Rattle.std.proofs.lemmas.Bool.{cases_Bool}
use Rattle.std.proofs.lemmas.List.{append-nil}
use Rattle.std.specs.FinMap.{get}
use Rattle.std.specs.List.{join_with_byte}
use Rattle.std.specs.Str.{bytes_eq}
use Rattle.url.specs.Parts.{Parts, serialize}
use Rattle.json.specs.Print.{escape_byte, quoted}
use Rattle.mx_json.specs.declared.value.Json.{Json, Truth, Text, Whole, the_lemmas}
use Rattle.mx_json.specs.declared.value.JsonObject.{JsonObject}
use Rattle.mx_json.specs.Canonical.{canonical, comma, pair_text}
use Rattle.mx_json.proofs.CanonicalLemmas.{canonical-List, canonical-Object, object_rest, object-written}
use Rattle.mx_json.proofs.JsonLemmas.{with_value}
use Rattle.mx_event.specs.Event.{content_of, event_id_of, kind_of, membership_of, room_id_of, sender_of}
use Rattle.mx_wire.specs.Target.{authority_of}
use Rattle.mx_records.specs.declared.pending.Tweaks.{Tweaks}
use Rattle.mx_records.specs.declared.pusher_spec.HttpPusher.{HttpPusher}
use Rattle.mx_records.specs.declared.pusher_spec.PusherSpec.{PusherSpec}
use Rattle.mx_records.specs.Normal.{Field, given_pairs, object_of}
use Rattle.mx_records.specs.Pending.{Pending}
use Rattle.mx_post.specs.Pieces.{before_sound, given_text, member_text, rest_text, sent_text, silent_text}
use Rattle.mx_post.specs.Post.{body_of, body_value, counts_value, details_sent, device_value, devices_value}
use Rattle.mx_post.specs.Post.{event_value, ids_value, is_sent, notification_value, prio_of, request_with, target_told}
use Rattle.mx_post.specs.Post.{tweaks_value}

-- ---- objects of fields

rest-of : (fields : List Field) → object_rest (map (with_value canonical) (given_pairs fields)) ≡ rest_text fields
rest-of [] = refl
rest-of ((key, None) ∷ fields) = rest-of fields
rest-of ((key, Some value) ∷ fields) =
    ap (λ text. codes "," ++ ((quoted key ++ (codes ":" ++ canonical value)) ++ text)) (rest-of fields)

pub object_of-written : (key : List ℕ) (value : Json) (fields : List Field)
    → canonical (object_of ((key, Some value) ∷ fields))
    ≡ codes "{" ++ ((quoted key ++ (codes ":" ++ canonical value)) ++ rest_text fields)
object_of-written key value fields =
    object-written (key, value) (given_pairs fields)
    ∙ ap (λ text. codes "{" ++ ((quoted key ++ (codes ":" ++ canonical value)) ++ text)) (rest-of fields)

-- ---- `data`

joined : (pair : List ℕ × Json) (pairs : List (List ℕ × Json))
    → member_text pair ++ sent_text false pairs
    ≡ join_with_byte comma (map pair_text (map (with_value canonical) (pair ∷ filter is_sent pairs)))
joined pair [] = append-nil (member_text pair)
joined pair (next ∷ pairs) = elim (cases_Bool (is_sent next)) [
  | inl sent ↦ rw sent (ap (λ text. member_text pair ++ comma ∷ text) (joined next pairs))
  | inr kept ↦ rw kept (joined pair pairs)
]

begun : (pairs : List (List ℕ × Json))
    → sent_text true pairs
    ≡ join_with_byte comma (map pair_text (map (with_value canonical) (filter is_sent pairs)))
begun [] = refl
begun (pair ∷ pairs) = elim (cases_Bool (is_sent pair)) [
  | inl sent ↦ rw sent (joined pair pairs)
  | inr kept ↦ rw kept (begun pairs)
]

pub details-written : (before : List ℕ) (details : JsonObject)
    → ((before ++ codes "{") ++ sent_text true details.pairs) ++ codes "}" ≡ before ++ canonical (details_sent details)
details-written before details =
    ap (λ text. text ++ codes "}") (append_assoc before (codes "{") (sent_text true details.pairs))
    ∙ append_assoc before (codes "{" ++ sent_text true details.pairs) (codes "}")
    ∙ ap (λ text. before ++ (codes "{" ++ (text ++ codes "}"))) (begun details.pairs)
    ∙ ap (λ text. before ++ text) (sym (canonical-Object record { pairs = filter is_sent details.pairs }))

-- ---- the device

true-text : canonical (Truth true) ≡ codes "true"
true-text = search (rules, the_lemmas)

pub tweaks-with : (before : List ℕ) (highlight : Bool) (sound : List ℕ)
    → (before ++ (before_sound highlight ++ canonical (Text sound))) ++ codes "}"
    ≡ before ++ canonical (tweaks_value record { highlight = highlight; sound = Some sound })
unfolding escape_byte
tweaks-with before true sound =
    append_assoc before (before_sound true ++ canonical (Text sound)) (codes "}")
    ∙ ap (λ text. before ++ (codes "{\"highlight\":"
    ++ (text ++ (codes ",\"sound\":" ++ (canonical (Text sound) ++ codes "}"))))) (sym true-text)
    ∙ ap (λ text. before ++ text)
    (sym (object_of-written (codes "highlight") (Truth true) ((codes "sound", Some (Text sound)) ∷ [])))
tweaks-with before false sound =
    append_assoc before (before_sound false ++ canonical (Text sound)) (codes "}")
    ∙ ap (λ text. before ++ text) (sym (object_of-written (codes "sound") (Text sound) []))

pub tweaks-without : (highlight : Bool)
    → silent_text highlight ≡ canonical (tweaks_value record { highlight = highlight; sound = None })
unfolding escape_byte
tweaks-without true =
    ap (λ text. codes "{\"highlight\":" ++ (text ++ codes "}")) (sym true-text)
    ∙ sym (object_of-written (codes "highlight") (Truth true) [])
tweaks-without false = sym (canonical-Object record { pairs = [] })

pub device-written : (before : List ℕ) (spec : PusherSpec) (http : HttpPusher) (tweaks : Option Tweaks)
    → ((((((before ++ (codes "{\"app_id\":" ++ canonical (Text spec.app_id))) ++ codes ",\"data\":")
    ++ canonical (details_sent http.details))
    ++ (codes ",\"pushkey\":" ++ canonical (Text spec.pushkey)))
    ++ (codes ",\"pushkey_ts\":" ++ canonical (Whole (pos http.ts))))
    ++ given_text (codes "tweaks") (option_map tweaks_value tweaks)) ++ codes "}"
    ≡ before ++ canonical (device_value spec http tweaks)
unfolding escape_byte
device-written before spec http tweaks =
    seven before (codes "{\"app_id\":" ++ canonical (Text spec.app_id)) (codes ",\"data\":")
    (canonical (details_sent http.details)) (codes ",\"pushkey\":" ++ canonical (Text spec.pushkey))
    (codes ",\"pushkey_ts\":" ++ canonical (Whole (pos http.ts)))
    (given_text (codes "tweaks") (option_map tweaks_value tweaks)) (codes "}")
    ∙ ap (λ text. before ++ text)
    (sym (object_of-written (codes "app_id") (Text spec.app_id)
    ((codes "data", Some (details_sent http.details)) ∷ (codes "pushkey", Some (Text spec.pushkey))
    ∷ (codes "pushkey_ts", Some (Whole (pos http.ts))) ∷ (codes "tweaks", option_map tweaks_value tweaks) ∷ [])))
  where
    seven : (o a k d p s t z : List ℕ)
        → ((((((o ++ a) ++ k) ++ d) ++ p) ++ s) ++ t) ++ z ≡ o ++ (a ++ ((k ++ d) ++ (p ++ (s ++ (t ++ z)))))
    seven o a k d p s t z = simp append_assoc

pub devices-written : (before : List ℕ) (spec : PusherSpec) (http : HttpPusher) (tweaks : Option Tweaks)
    → ((before ++ codes ",\"devices\":[") ++ canonical (device_value spec http tweaks)) ++ codes "]"
    ≡ before ++ (codes ",\"devices\":" ++ canonical (devices_value spec http tweaks))
devices-written before spec http tweaks =
    ap (λ text. text ++ codes "]")
    (append_assoc before (codes ",\"devices\":[") (canonical (device_value spec http tweaks)))
    ∙ append_assoc before (codes ",\"devices\":[" ++ canonical (device_value spec http tweaks)) (codes "]")
    ∙ ap (λ text. before ++ (codes ",\"devices\":" ++ text))
    (sym (canonical-List record { items = device_value spec http tweaks ∷ [] }))

-- ---- the notification

pub counts-written : (before key : List ℕ) (unread : ℕ)
    → ((before ++ key) ++ (codes "{\"unread\":" ++ canonical (Whole (pos unread)))) ++ codes "}"
    ≡ before ++ (key ++ canonical (counts_value unread))
unfolding escape_byte
counts-written before key unread =
    four before key (codes "{\"unread\":" ++ canonical (Whole (pos unread))) (codes "}")
    ∙ ap (λ text. before ++ (key ++ text)) (sym (object_of-written (codes "unread") (Whole (pos unread)) []))
  where
    four : (o k c z : List ℕ) → ((o ++ k) ++ c) ++ z ≡ o ++ (k ++ (c ++ z))
    four o k c z = simp append_assoc

pub target-written : (user : List ℕ) (event : Json) (told : List ℕ × List ℕ) (is_user : Bool)
    → Some told ≡ membership_of event
    → is_user ≡ bytes_eq told.0 user
    → codes ",\"user_is_target\":" ++ canonical (Truth is_user)
    ≡ given_text (codes "user_is_target") (target_told user event)
unfolding escape_byte
target-written user event told is_user is same =
    ap (λ (b : Bool). codes ",\"user_is_target\":" ++ canonical (Truth b)) same
    ∙ ap (λ (m : Option (List ℕ × List ℕ)).
    given_text (codes "user_is_target") (option_map (λ t. Truth (bytes_eq t.0 user)) m)) is

pub tweaks-told : (tweaks : Tweaks) (given : Option Tweaks) → given ≡ Some tweaks
    → codes ",\"tweaks\":" ++ canonical (tweaks_value tweaks)
    ≡ given_text (codes "tweaks") (option_map tweaks_value given)
unfolding escape_byte
tweaks-told tweaks given is = rw is refl

pub name-told : (name : List ℕ) (given : Option (List ℕ)) → given ≡ Some name
    → codes ",\"sender_display_name\":" ++ canonical (Text name)
    ≡ given_text (codes "sender_display_name") (option_map Text given)
unfolding escape_byte
name-told name given is = rw is refl

pub origin-written : (before id prio room sender : List ℕ)
    → (((before ++ id) ++ prio) ++ room) ++ sender ≡ before ++ (id ++ (prio ++ (room ++ sender)))
origin-written before id prio room sender = simp append_assoc

pub ids-written : (before : List ℕ) (spec : PusherSpec) (http : HttpPusher) (pending : Pending) (unread : ℕ)
    → ((((before ++ (codes "{\"counts\":" ++ canonical (counts_value unread)))
    ++ (codes ",\"devices\":" ++ canonical (devices_value spec http None)))
    ++ (codes ",\"event_id\":" ++ canonical (Text (event_id_of pending.event))))
    ++ (codes ",\"room_id\":" ++ canonical (Text (room_id_of pending.event)))) ++ codes "}"
    ≡ before ++ canonical (ids_value spec http pending unread)
unfolding escape_byte
ids-written before spec http pending unread =
    five before (codes "{\"counts\":" ++ canonical (counts_value unread))
    (codes ",\"devices\":" ++ canonical (devices_value spec http None))
    (codes ",\"event_id\":" ++ canonical (Text (event_id_of pending.event)))
    (codes ",\"room_id\":" ++ canonical (Text (room_id_of pending.event))) (codes "}")
    ∙ ap (λ text. before ++ text)
    (sym (object_of-written (codes "counts") (counts_value unread)
    ((codes "devices", Some (devices_value spec http None))
    ∷ (codes "event_id", Some (Text (event_id_of pending.event)))
    ∷ (codes "room_id", Some (Text (room_id_of pending.event))) ∷ [])))
  where
    five : (o c d e r z : List ℕ) → ((((o ++ c) ++ d) ++ e) ++ r) ++ z ≡ o ++ (c ++ (d ++ (e ++ (r ++ z))))
    five o c d e r z = simp append_assoc

-- which event it is, how urgent, in which room and by whom, as members that come after others
abbrev pub origin_text : Json → List ℕ → List ℕ
origin_text event prio =
    (codes ",\"event_id\":" ++ canonical (Text (event_id_of event)))
    ++ ((codes ",\"prio\":" ++ canonical (Text prio))
    ++ ((codes ",\"room_id\":" ++ canonical (Text (room_id_of event)))
    ++ (codes ",\"sender\":" ++ canonical (Text (sender_of event)))))

pub event-written : (before : List ℕ) (spec : PusherSpec) (http : HttpPusher) (pending : Pending) (tweaks : Tweaks)
    (unread : ℕ)
    → (((((((before ++ (codes "{\"content\":" ++ canonical (content_of pending.event)))
    ++ (codes ",\"counts\":" ++ canonical (counts_value unread)))
    ++ (codes ",\"devices\":" ++ canonical (devices_value spec http (Some tweaks))))
    ++ origin_text pending.event (prio_of tweaks))
    ++ given_text (codes "sender_display_name") (option_map Text pending.sender_display_name))
    ++ (codes ",\"type\":" ++ canonical (Text (kind_of pending.event))))
    ++ given_text (codes "user_is_target") (target_told spec.user pending.event)) ++ codes "}"
    ≡ before ++ canonical (event_value spec http pending tweaks unread)
unfolding escape_byte
event-written before spec http pending tweaks unread =
    let event = pending.event in
    eight before (codes "{\"content\":" ++ canonical (content_of event))
    (codes ",\"counts\":" ++ canonical (counts_value unread))
    (codes ",\"devices\":" ++ canonical (devices_value spec http (Some tweaks)))
    (codes ",\"event_id\":" ++ canonical (Text (event_id_of event)))
    (codes ",\"prio\":" ++ canonical (Text (prio_of tweaks)))
    (codes ",\"room_id\":" ++ canonical (Text (room_id_of event)))
    (codes ",\"sender\":" ++ canonical (Text (sender_of event)))
    (given_text (codes "sender_display_name") (option_map Text pending.sender_display_name))
    (codes ",\"type\":" ++ canonical (Text (kind_of event)))
    (given_text (codes "user_is_target") (target_told spec.user event)) (codes "}")
    ∙ ap (λ text. before ++ text)
    (sym (object_of-written (codes "content") (content_of event)
    ((codes "counts", Some (counts_value unread)) ∷ (codes "devices", Some (devices_value spec http (Some tweaks)))
    ∷ (codes "event_id", Some (Text (event_id_of event))) ∷ (codes "prio", Some (Text (prio_of tweaks)))
    ∷ (codes "room_id", Some (Text (room_id_of event))) ∷ (codes "sender", Some (Text (sender_of event)))
    ∷ (codes "sender_display_name", option_map Text pending.sender_display_name)
    ∷ (codes "type", Some (Text (kind_of event))) ∷ (codes "user_is_target", target_told spec.user event) ∷ [])))
  where
    eight : (o c n d e p r s m k t z : List ℕ)
        → (((((((o ++ c) ++ n) ++ d) ++ (e ++ (p ++ (r ++ s)))) ++ m) ++ k) ++ t) ++ z
        ≡ o ++ (c ++ (n ++ (d ++ (e ++ (p ++ (r ++ (s ++ (m ++ (k ++ (t ++ z))))))))))
    eight o c n d e p r s m k t z = simp append_assoc

pub body-written : (spec : PusherSpec) (http : HttpPusher) (pending : Pending) (tweaks : Tweaks) (unread : ℕ)
    → (codes "{\"notification\":" ++ canonical (notification_value spec http pending tweaks unread)) ++ codes "}"
    ≡ canonical (body_value spec http pending tweaks unread)
unfolding escape_byte
body-written spec http pending tweaks unread =
    sym (object_of-written (codes "notification") (notification_value spec http pending tweaks unread) [])

pub told : (spec : PusherSpec) (pending : Pending) (unread : ℕ) (http : HttpPusher) (tweaks : Tweaks)
    → spec.http ≡ Some http
    → get pending.users spec.user ≡ Some tweaks
    → canonical (body_value spec http pending tweaks unread) ≡ body_of spec pending unread
told spec pending unread http tweaks posts is_pending = rw (posts, is_pending)

-- ---- the request

abbrev pub crlf : List ℕ
crlf = 13 ∷ 10 ∷ []

pub request-written : (before : List ℕ) (target : Parts) (body : List ℕ)
    → (((((((before ++ codes "POST ") ++ serialize target) ++ (codes " HTTP/1.1" ++ (crlf ++ codes "Host: ")))
    ++ authority_of target)
    ++ (crlf ++ (codes "Content-Type: application/json" ++ (crlf ++ codes "Content-Length: "))))
    ++ decimal (length body)) ++ (crlf ++ (codes "Connection: close" ++ (crlf ++ crlf)))) ++ body
    ≡ before ++ request_with target body
request-written before target body =
    lines before (codes "POST ") (serialize target) (codes " HTTP/1.1") crlf (codes "Host: ") (authority_of target)
    (codes "Content-Type: application/json") (codes "Content-Length: ") (decimal (length body))
    (codes "Connection: close") body
  where
    lines : (o p t v r h a c l n e b : List ℕ)
        → (((((((o ++ p) ++ t) ++ (v ++ (r ++ h))) ++ a) ++ (r ++ (c ++ (r ++ l)))) ++ n) ++ (r ++ (e ++ (r ++ r))))
        ++ b
        ≡ o
        ++ (((p ++ (t ++ v)) ++ r) ++ (((h ++ a) ++ r) ++ ((c ++ r) ++ (((l ++ n) ++ r) ++ ((e ++ r) ++ (r ++ b))))))
    lines o p t v r h a c l n e b = simp append_assoc
