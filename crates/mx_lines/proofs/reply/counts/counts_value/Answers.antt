use Rattle.std.proofs.Common.{ap, ◌∙◌}
use Rattle.mx_json.specs.Json.{is_valid}
use Rattle.mx_lines.proofs.ValueLemmas.{object_from, valid-counts_value}
use Rattle.mx_lines.proofs.reply.counts.counts_value.Goals as goal

pub returns-clause-valid : goal.returns-clause-valid
returns-clause-valid c =
    ap is_valid (object_from c.in_ok-numbers_of.field-0 c.in_ok-numbers_of.ensures)
    ∙ valid-counts_value c.args.counts c.requires.notify c.requires.highlight
