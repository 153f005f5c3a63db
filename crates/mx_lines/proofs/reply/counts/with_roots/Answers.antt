use Rattle.std.proofs.Common.{refl, ap, ◌∙◌}
use Rattle.mx_json.specs.Json.{is_valid}
use Rattle.mx_lines.proofs.ValueLemmas.{valid-with_threads, with_threads-from}
use Rattle.mx_lines.proofs.reply.counts.with_roots.Goals as goal

pub returns-clause-value : goal.returns-clause-value
returns-clause-value c =
    with_threads-from c.args.main c.in_ok-numbers_of.field-0 c.in_ok-members.members c.in_ok-roots_value.field-0 _
    c.in_ok-numbers_of.ensures
    c.in_ok-members.ensures c.in_ok-roots_value.ensures.value

pub returns-clause-valid : goal.returns-clause-valid
returns-clause-valid c =
    ap is_valid
    (with_threads-from c.args.main c.in_ok-numbers_of.field-0 c.in_ok-members.members c.in_ok-roots_value.field-0
    c.in_ok-roots_value.field-0
    c.in_ok-numbers_of.ensures c.in_ok-members.ensures refl)
    ∙ valid-with_threads c.args.main c.in_ok-roots_value.field-0 c.requires.notify c.requires.highlight
    c.in_ok-roots_value.ensures.valid
    c.in_ok-roots_value.ensures.shallow
