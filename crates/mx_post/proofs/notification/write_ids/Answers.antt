use Rattle.std.proofs.Common.{◌∙◌, ◌++◌, None, codes, ap}
use Rattle.mx_json.specs.Canonical.{canonical}
use Rattle.mx_json.specs.declared.value.Json.{Text}
use Rattle.mx_event.specs.Event.{event_id_of, room_id_of}
use Rattle.mx_post.specs.Post.{devices_value}
use Rattle.mx_post.proofs.PieceLemmas.{ids-written}
use Rattle.mx_post.proofs.notification.write_ids.Goals as goal

pub returns : goal.returns
returns c =
    let spec = c.args.spec.now in
    let http = c.args.http.now in
    let event = c.event-event.ensures in
    let id = c.as_text.ensures.text ∙ c.event_id.ensures ∙ ap event_id_of event in
    let room = c.as_text-2.ensures.text ∙ c.room_id.ensures ∙ ap room_id_of event in
    let a = c.in_ok-write_counts.ensures in
    let b =
    c.in_ok-write_devices.ensures ∙ (λ j. a j ++ (codes ",\"devices\":" ++ canonical (devices_value spec http None))) in
    let d = c.in_ok-write_text.ensures ∙ (λ j. b j ++ (codes ",\"event_id\":" ++ canonical (Text (id j)))) in
    let e = c.in_ok-write_text-2.ensures ∙ (λ j. d j ++ (codes ",\"room_id\":" ++ canonical (Text (room j)))) in
    c.in_ok-push.ensures.items ∙ ap (λ text. text ++ codes "}") e
    ∙ ids-written c.args.out.now.items spec http c.args.pending.now c.args.unread
