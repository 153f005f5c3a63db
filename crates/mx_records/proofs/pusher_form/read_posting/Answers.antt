use Rattle.mx_records.proofs.FormLemmas.{gives-refused}
use Rattle.mx_records.proofs.PostingLemmas.{posting-refused, posting-right}
use Rattle.mx_records.proofs.pusher_form.read_posting.Goals as goal

pub returns-in_err-http : goal.returns-in_err-http
returns-in_err-http c =
    gives-refused _ _ _ c.from_residual.ensures
    (posting-refused c.args.is_set c.args.json.now _ c.if-not-is_set.false c.in_err-http.ensures)

pub returns : goal.returns
returns c = posting-right c.args.is_set c.args.json.now _ c.if-not-is_set.false c.in_ok-http.ensures
