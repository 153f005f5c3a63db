use Rattle.std.proofs.Common.{ap, ◌∙◌, ◌++◌, [], ◌∷◌}
use Rattle.mx_journal.specs.Image.{number_bytes}
use Rattle.mx_journal.proofs.stage.put_record.Goals as goal

pub returns : goal.returns
unfolding number_bytes
returns c =
    c.append_reserved-3.ensures.items ∙ ap (λ bytes. bytes ++ 0 ∷ [])
    (c.append_reserved-2.ensures.items ∙ ap (λ bytes. bytes ++ c.args.payload.now)
    (c.append_reserved.ensures.items ∙ ap (λ bytes. bytes ++ c.to_le_bytes.result) c.clear.ensures.items
    ∙ c.to_le_bytes.ensures))
