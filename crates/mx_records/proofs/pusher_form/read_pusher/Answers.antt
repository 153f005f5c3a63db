use Rattle.std.proofs.Common.{◌∙◌, Ok}
use Rattle.mx_records.specs.declared.input.Input.TheVariants.{Pusher}
use Rattle.mx_records.specs.Forms.{is_set, named_fields, named_form, posting_form, pusher_form}
use Rattle.mx_records.proofs.FormLemmas.{found-right, given-right, gives-refused, refused-first, refused-last}
use Rattle.mx_records.proofs.FormLemmas.{right-both}
use Rattle.mx_records.proofs.PostingLemmas.{found-as, refused-as}
use Rattle.mx_records.proofs.pusher_form.read_pusher.Goals as goal

pub returns-in_err-user-clause-input : goal.returns-in_err-user-clause-input
returns-in_err-user-clause-input c =
    let json = c.args.json.now in
    gives-refused _ _ _ c.from_residual.ensures
    (refused-first (named_fields json) (posting_form (is_set json) json).fields
    (named_form json).value _ _ c.in_err-user.ensures)

pub returns-in_err-http-clause-input : goal.returns-in_err-http-clause-input
returns-in_err-http-clause-input c =
    let json = c.args.json.now in
    let named = found-right (named_fields json) (named_form json).value _ c.in_ok-user.ensures in
    gives-refused _ _ _ c.from_residual-in_err-http.ensures
    (refused-last (named_fields json) (posting_form (is_set json) json).fields
    (posting_form (is_set json) json).value _ _ named.0
    (refused-as _ (is_set json) json _ (λ i. (named.1 i).3) c.in_err-http.ensures))

pub returns-clause-input : goal.returns-clause-input
returns-clause-input c =
    let json = c.args.json.now in
    let named = found-right (named_fields json) (named_form json).value _ c.in_ok-user.ensures in
    let posts = found-right (posting_form (is_set json) json).fields (posting_form (is_set json) json).value _
    (found-as _ (is_set json) json _ (λ i. (named.1 i).3) c.in_ok-http.ensures) in
    given-right (pusher_form json).fields (pusher_form json).value
    (right-both (named_fields json) (posting_form (is_set json) json).fields named.0 posts.0)
    ∙ (λ i.
    Ok (Pusher (record { user = (named.1 i).0; pushkey = (named.1 i).1; app_id = (named.1 i).2; http = posts.1 i })))
