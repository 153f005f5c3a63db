use Rattle.std.proofs.Common.{◌∙◌, ◌++◌, codes}
use Rattle.mx_json.specs.Canonical.{canonical}
use Rattle.mx_json.specs.declared.value.Json.{Text}
use Rattle.mx_event.specs.Event.{event_id_of, room_id_of, sender_of}
use Rattle.mx_post.proofs.PieceLemmas.{origin-written}
use Rattle.mx_post.proofs.notification.write_origin.Goals as goal

pub returns : goal.returns
returns c =
    let id = c.as_text.ensures.text ∙ c.event_id.ensures in
    let room = c.as_text-2.ensures.text ∙ c.room_id.ensures in
    let sender = c.as_text-3.ensures.text ∙ c.sender.ensures in
    let a =
    c.in_ok-write_text.ensures ∙ (λ j. c.args.out.now.items ++ (codes ",\"event_id\":" ++ canonical (Text (id j)))) in
    let b = c.in_ok-write_text-2.ensures ∙ (λ j. a j ++ (codes ",\"prio\":" ++ canonical (Text c.args.prio.now))) in
    let d = c.in_ok-write_text-3.ensures ∙ (λ j. b j ++ (codes ",\"room_id\":" ++ canonical (Text (room j)))) in
    c.in_ok-write_text-4.ensures ∙ (λ j. d j ++ (codes ",\"sender\":" ++ canonical (Text (sender j))))
    ∙ origin-written c.args.out.now.items (codes ",\"event_id\":" ++ canonical (Text (event_id_of c.args.event.now)))
    (codes ",\"prio\":" ++ canonical (Text c.args.prio.now))
    (codes ",\"room_id\":" ++ canonical (Text (room_id_of c.args.event.now)))
    (codes ",\"sender\":" ++ canonical (Text (sender_of c.args.event.now)))
