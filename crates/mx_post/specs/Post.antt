-- What is posted to a push gateway of an event that is pending: the Push Gateway API v1, 'POST
-- /_matrix/push/v1/notify', in a request of RFC 9112 in absolute form. The order of the fields, what
-- `prio` says, and that `unread` is one number are ours.
use Rattle.std.specs.Prelude.{ℕ, pos, Bool, true, false, not, ◌||◌, if◌then◌else◌, List, [], ◌∷◌, ◌++◌, length, codes}
use Rattle.std.specs.Prelude.{decimal, Option, None, Some, is_some, option_map}
use Rattle.std.specs.FinMap.{get}
use Rattle.std.specs.List.{filter}
use Rattle.std.specs.Option.{option_map_or}
use Rattle.std.specs.Str.{bytes_eq}
use Rattle.url.specs.Parts.{Parts, serialize}
use Rattle.mx_json.specs.declared.value.Json.{Json, Truth, Whole, List as ListOf, Object}
use Rattle.mx_json.specs.declared.value.JsonObject.{JsonObject}
use Rattle.mx_json.specs.Canonical.{canonical}
use Rattle.mx_json.specs.Json.{text_at}
use Rattle.mx_event.specs.Event.{content_of, event_id_of, kind_of, membership_of, room_id_of, sender_of}
use Rattle.mx_wire.specs.Target.{authority_of}
use Rattle.mx_records.specs.declared.pending.Tweaks.{Tweaks}
use Rattle.mx_records.specs.declared.pusher_spec.HttpPusher.{HttpPusher}
use Rattle.mx_records.specs.declared.pusher_spec.PusherSpec.{PusherSpec}
use Rattle.mx_records.specs.Normal.{Field, object_of, text_field, text_if_given}
use Rattle.mx_records.specs.Pending.{Pending}

-- ---- the device

-- the pusher wants to be told ids alone: its `data` has the `format` `event_id_only`
abbrev pub wants_ids_alone : JsonObject → Bool
wants_ids_alone details =
    option_map_or (λ format. bytes_eq format (codes "event_id_only")) (text_at (codes "format") (Object details)) false

-- all of a pusher's `data` is sent but its URL
abbrev pub is_sent : List ℕ × Json → Bool
is_sent pair = not (bytes_eq pair.0 (codes "url"))

-- a pusher's `data` without its URL
abbrev pub details_sent : JsonObject → Json
details_sent details = Object record { pairs = filter is_sent details.pairs }

-- how the notification is shown: `highlight` where it is highlighted, `sound` where it has one
abbrev pub tweaks_value : Tweaks → Json
tweaks_value tweaks =
    object_of
    ((codes "highlight", if tweaks.highlight then Some (Truth true) else None)
    ∷ text_if_given (codes "sound") tweaks.sound ∷ [])

-- a whole number that is given
abbrev pub number_field : List ℕ → ℕ → Field
number_field key number = (key, Some (Whole (pos number)))

-- the device of a pusher; a gateway that wants ids alone isn't told the tweaks
abbrev pub device_value : PusherSpec → HttpPusher → Option Tweaks → Json
device_value spec http tweaks =
    object_of
    (text_field (codes "app_id") spec.app_id ∷ (codes "data", Some (details_sent http.details))
    ∷ text_field (codes "pushkey") spec.pushkey ∷ number_field (codes "pushkey_ts") http.ts
    ∷ (codes "tweaks", option_map tweaks_value tweaks) ∷ [])

-- the devices that are told: the pusher's own
abbrev pub devices_value : PusherSpec → HttpPusher → Option Tweaks → Json
devices_value spec http tweaks = ListOf record { items = device_value spec http tweaks ∷ [] }

-- ---- the notification

-- the number of rows that the user hasn't read
abbrev pub counts_value : ℕ → Json
counts_value unread = object_of (number_field (codes "unread") unread ∷ [])

-- a notification is urgent where it makes a sound or is highlighted
abbrev pub prio_of : Tweaks → List ℕ
prio_of tweaks = if is_some tweaks.sound || tweaks.highlight then codes "high" else codes "low"

-- of an event that sets a user's membership it is told whether that is the user notified
abbrev pub target_told : List ℕ → Json → Option Json
target_told user event = option_map (λ told. Truth (bytes_eq told.0 user)) (membership_of event)

-- what a gateway is told that wants ids alone
abbrev pub ids_value : PusherSpec → HttpPusher → Pending → ℕ → Json
ids_value spec http pending unread =
    object_of
    ((codes "counts", Some (counts_value unread)) ∷ (codes "devices", Some (devices_value spec http None))
    ∷ text_field (codes "event_id") (event_id_of pending.event)
    ∷ text_field (codes "room_id") (room_id_of pending.event) ∷ [])

-- what every other gateway is told
abbrev pub event_value : PusherSpec → HttpPusher → Pending → Tweaks → ℕ → Json
event_value spec http pending tweaks unread =
    object_of
    ((codes "content", Some (content_of pending.event)) ∷ (codes "counts", Some (counts_value unread))
    ∷ (codes "devices", Some (devices_value spec http (Some tweaks)))
    ∷ text_field (codes "event_id") (event_id_of pending.event) ∷ text_field (codes "prio") (prio_of tweaks)
    ∷ text_field (codes "room_id") (room_id_of pending.event)
    ∷ text_field (codes "sender") (sender_of pending.event)
    ∷ text_if_given (codes "sender_display_name") pending.sender_display_name
    ∷ text_field (codes "type") (kind_of pending.event)
    ∷ (codes "user_is_target", target_told spec.user pending.event) ∷ [])

-- the notification of an event to a pusher
abbrev pub notification_value : PusherSpec → HttpPusher → Pending → Tweaks → ℕ → Json
notification_value spec http pending tweaks unread =
    if wants_ids_alone http.details then ids_value spec http pending unread
    else event_value spec http pending tweaks unread

-- what a request holds
abbrev pub body_value : PusherSpec → HttpPusher → Pending → Tweaks → ℕ → Json
body_value spec http pending tweaks unread =
    object_of ((codes "notification", Some (notification_value spec http pending tweaks unread)) ∷ [])

-- what a pusher's gateway is told of an event that is pending for its user; of a pusher that doesn't
-- post, and of another event, nothing
abbrev pub body_of : PusherSpec → Pending → ℕ → List ℕ
body_of spec pending unread =
    option_map_or (λ http.
    option_map_or (λ tweaks. canonical (body_value spec http pending tweaks unread)) (get pending.users spec.user) [])
    spec.http []

-- ---- the request

-- a line of a request's head, ended by CR LF
abbrev pub line : List ℕ → List ℕ
line text = text ++ (13 ∷ 10 ∷ [])

-- the request that carries a body to a gateway, in absolute form
abbrev pub request_with : Parts → List ℕ → List ℕ
request_with target body =
    line (codes "POST " ++ (serialize target ++ codes " HTTP/1.1"))
    ++ (line (codes "Host: " ++ authority_of target)
    ++ (line (codes "Content-Type: application/json")
    ++ (line (codes "Content-Length: " ++ decimal (length body))
    ++ (line (codes "Connection: close")
    ++ (line [] ++ body)))))

-- What is posted to a pusher's gateway of an event that is pending for its user, with the user's
-- number of unread rows.
unfoldable pub post_of : Parts → PusherSpec → Pending → ℕ → List ℕ
post_of target spec pending unread = request_with target (body_of spec pending unread)
