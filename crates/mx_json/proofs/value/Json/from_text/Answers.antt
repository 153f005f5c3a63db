use Rattle.std.proofs.Common.{inl, sym}
use Rattle.std.proofs.lemmas.Result.{err_from_is_err_and}
use Rattle.serde_json.specs.View.{view}
use Rattle.mx_json.proofs.ReadingLemmas.{is_valid-answer, read_json-too_deep, read_json-within, tells_read}
use Rattle.mx_json.proofs.ReadTextLemmas.{has_utf8-read}
use Rattle.mx_json.proofs.value.Json.from_text.Goals as goal

pub returns-in_err-value-clause-read : goal.returns-in_err-value-clause-read
returns-in_err-value-clause-read c =
    let p = err_from_is_err_and c.from_residual.result c.from_residual.ensures.1 in
    rw (p.1, p.2) (tells_read c.args.bytes.now c.args.deepest _ c.in_err-value.ensures)

pub returns-then-not-nests_within-clause-read : goal.returns-then-not-nests_within-clause-read
returns-then-not-nests_within-clause-read c =
    let deep = sym c.if-not-nests_within.ensures in
    inl (read_json-too_deep c.args.bytes.now c.args.deepest (view c.in_ok-value.value) c.in_ok-value.ensures deep)

pub returns-clause-read : goal.returns-clause-read
returns-clause-read c =
    let within = sym c.if-not-nests_within.ensures in
    rw (read_json-within c.args.bytes.now c.args.deepest (view c.in_ok-value.value) c.in_ok-value.ensures within)
    c.whole_json.ensures

pub returns-clause-valid : goal.returns-clause-valid
returns-clause-valid c =
    let within = sym c.if-not-nests_within.ensures in
    is_valid-answer c.args.bytes.now c.args.deepest (view c.in_ok-value.value) c.whole_json.result c.in_ok-value.ensures
    (has_utf8-read c.in_ok-value.value) within c.requires c.whole_json.ensures
