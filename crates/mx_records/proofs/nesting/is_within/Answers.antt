use Rattle.std.proofs.Common.{◌≡◌, ◌∙◌, ap, nat_le, sym, subst, true}
use Rattle.mx_json.specs.declared.value.Json.{Json}
use Rattle.mx_json.specs.Json.{depth_of}
use Rattle.mx_records.specs.declared.input.Input.{Input}
use Rattle.mx_records.specs.declared.input.Input.TheVariants.{Event, Receipt}
use Rattle.mx_records.specs.Normal.{edit_fields, fields_given, normal_of}
use Rattle.mx_records.proofs.DepthLemmas.{event-depth, posting-within, receipt-depth, taken-within, within-object}
use Rattle.mx_records.proofs.nesting.is_within.Goals as goal

pub returns-in-Event : goal.returns-in-Event
returns-in-Event c =
    subst (λ (input : Input). c.nests_within.result ≡ nat_le (depth_of (normal_of input)) 100) (sym c.in-Event.is)
    (within-object (fields_given (Event c.in-Event.event)) c.nests_within.result
    (c.nests_within.ensures ∙ ap (λ (event : Json). nat_le (depth_of event) 99) c.json.ensures.whole
    ∙ ap (λ n. nat_le n 99) (sym (event-depth c.in-Event.event))))

pub returns-in-Edit : goal.returns-in-Edit
returns-in-Edit c =
    subst (λ (input : Input). c.edit_is_within.result ≡ nat_le (depth_of (normal_of input)) 100) (sym c.in-Edit.is)
    (within-object (edit_fields c.in-Edit.user c.in-Edit.edit) c.edit_is_within.result
    (c.edit_is_within.ensures c.in-Edit.user))

pub returns-in-Receipt : goal.returns-in-Receipt
returns-in-Receipt c =
    let r = c.in-Receipt in
    subst (λ (input : Input). true ≡ nat_le (depth_of (normal_of input)) 100) (sym r.is)
    (within-object (fields_given (Receipt r.user r.room r.event r.private r.thread)) true
    (sym (ap (λ n. nat_le n 99) (receipt-depth r.user r.room r.event r.private r.thread))))

pub returns-in-Some : goal.returns-in-Some
returns-in-Some c =
    subst (λ (input : Input). c.object_nests_within.result ≡ nat_le (depth_of (normal_of input)) 100)
    (sym c.in-Pusher.is)
    (posting-within c.in-Pusher.spec c.in-Some.http c.object_nests_within.result c.in-Some.is
    c.object_nests_within.ensures)

pub returns-in-None : goal.returns-in-None
returns-in-None c =
    subst (λ (input : Input). true ≡ nat_le (depth_of (normal_of input)) 100) (sym c.in-Pusher.is)
    (taken-within c.in-Pusher.spec c.in-None.is)
