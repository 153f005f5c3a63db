use Rattle.std.proofs.Common.{◌≡◌, [], ◌∷◌, ◌++◌, List, Bool, Some, is_some, unwrap_or, false, Ok, refl, sym, ◌∙◌}
use Rattle.mx_json.specs.declared.value.Json.{Json}
use Rattle.mx_records.specs.declared.field_name.FieldName.{FieldName}
use Rattle.mx_records.specs.declared.field_name.FieldName.TheVariants.{ReceiptKind, ThreadId}
use Rattle.mx_records.specs.declared.input.Input.TheVariants.{Receipt}
use Rattle.mx_records.specs.Forms.{given_thread, has_thread_or_none, privacy_in, read_fields, read_form, receipt_form}
use Rattle.mx_records.proofs.FormLemmas.{AreRight, found-right, given-right, gives-refused, refused-first, refused-next}
use Rattle.mx_records.proofs.FormLemmas.{right-both}
use Rattle.mx_records.proofs.receipt_form.read_receipt.Goals as goal

abbrev kind : Json → List (FieldName × Bool)
kind json = (ReceiptKind, is_some (privacy_in json)) ∷ []

abbrev of_thread : Json → List (FieldName × Bool)
of_thread json = (ThreadId, has_thread_or_none json) ∷ []

told : (json : Json) (private : Bool) → Some private ≡ privacy_in json → AreRight (kind json)
told json private is = rw (sym is) refl

pub returns-in_err-user-clause-input : goal.returns-in_err-user-clause-input
returns-in_err-user-clause-input c =
    let json = c.args.json.now in
    gives-refused _ _ _ c.from_residual.ensures
    (refused-first (read_fields json) (kind json ++ of_thread json) (read_form json).value _ _ c.in_err-user.ensures)

pub returns-in_err-thread-clause-input : goal.returns-in_err-thread-clause-input
returns-in_err-thread-clause-input c =
    let json = c.args.json.now in
    let read = found-right (read_fields json) (read_form json).value _ c.in_ok-user.ensures in
    gives-refused _ _ _ c.from_residual-in_err-thread.ensures
    (refused-next (read_fields json ++ kind json) (of_thread json) [] (given_thread json) _ _
    (right-both (read_fields json) (kind json) read.0 (told json _ c.in-Some.ensures)) c.in_err-thread.ensures)

pub returns-clause-input : goal.returns-clause-input
returns-clause-input c =
    let json = c.args.json.now in
    let read = found-right (read_fields json) (read_form json).value _ c.in_ok-user.ensures in
    let named = found-right (of_thread json) (given_thread json) _ c.in_ok-thread.ensures in
    given-right (read_fields json ++ kind json ++ of_thread json) (receipt_form json).value
    (right-both (read_fields json) (kind json ++ of_thread json) read.0
    (right-both (kind json) (of_thread json) (told json _ c.in-Some.ensures) named.0))
    ∙ (λ i. Ok (Receipt (read.1 i).0 (read.1 i).1 (read.1 i).2
    (unwrap_or (sym c.in-Some.ensures i) false) (named.1 i)))
