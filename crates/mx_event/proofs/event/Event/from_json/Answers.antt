use Rattle.std.proofs.Common.{inl, sym, ◌∙◌}
use Rattle.std.proofs.lemmas.Result.{err_from_is_err_and}
use Rattle.mx_event.proofs.EventLemmas.{HasIds, HoldsEvent-from, read_event-right, read_event-wrong, tells_event_id}
use Rattle.mx_event.proofs.EventLemmas.{tells_room_id, tells_sender}
use Rattle.mx_event.proofs.event.Event.from_json.Goals as goal

pub returns-in_err-event_id : goal.returns-in_err-event_id
returns-in_err-event_id c =
    let p = err_from_is_err_and c.from_residual.result c.from_residual.ensures.1 in
    rw (p.1, p.2) (tells_event_id c.args.json _ c.in_err-event_id.ensures)

pub returns-in_err-room_id : goal.returns-in_err-room_id
returns-in_err-room_id c =
    let p = err_from_is_err_and c.from_residual-in_err-room_id.result c.from_residual-in_err-room_id.ensures.1 in
    rw (p.1, p.2) (tells_room_id c.args.json _ _ c.in_ok-event_id.ensures c.in_err-room_id.ensures)

pub returns-in_err-sender : goal.returns-in_err-sender
returns-in_err-sender c =
    let p = err_from_is_err_and c.from_residual-in_err-sender.result c.from_residual-in_err-sender.ensures.1 in
    rw (p.1, p.2)
    (tells_sender c.args.json _ _ _ c.in_ok-event_id.ensures c.in_ok-room_id.ensures c.in_err-sender.ensures)

pub returns-in-Some : goal.returns-in-Some
returns-in-Some c =
    let ids : HasIds c.args.json c.in_ok-event_id.event_id c.in_ok-room_id.room_id c.in_ok-sender.sender =
    record { event = c.in_ok-event_id.ensures; room = c.in_ok-room_id.ensures; from = c.in_ok-sender.ensures } in
    inl
    (read_event-wrong c.args.json _ _ _ c.in-Some.field ids (sym c.in-Some.is ∙ c.first_wrong_after_the_ids.ensures))

pub invariant_of-result : goal.invariant_of-result
invariant_of-result c =
    let ids : HasIds c.args.json c.in_ok-event_id.event_id c.in_ok-room_id.room_id c.in_ok-sender.sender =
    record { event = c.in_ok-event_id.ensures; room = c.in_ok-room_id.ensures; from = c.in_ok-sender.ensures } in
    let right = sym c.in_default.is ∙ c.first_wrong_after_the_ids.ensures in
    HoldsEvent-from c.args.json _ _ _ c.places_in-places.result c.requires ids right c.places_in-places.ensures

pub returns : goal.returns
returns c =
    let ids : HasIds c.args.json c.in_ok-event_id.event_id c.in_ok-room_id.room_id c.in_ok-sender.sender =
    record { event = c.in_ok-event_id.ensures; room = c.in_ok-room_id.ensures; from = c.in_ok-sender.ensures } in
    read_event-right c.args.json _ _ _ ids (sym c.in_default.is ∙ c.first_wrong_after_the_ids.ensures)
