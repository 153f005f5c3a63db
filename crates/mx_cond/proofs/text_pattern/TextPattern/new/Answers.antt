use Rattle.std.proofs.Common.{sym, subst}
use Rattle.mx_cond.specs.Pattern.{Spells}
use Rattle.mx_cond.proofs.PatternLemmas.{Spells-folded, folded_from_pattern}
use Rattle.mx_cond.proofs.text_pattern.TextPattern.new.Goals as goal

pub invariant_of-result-2 : goal.invariant_of-result-2
invariant_of-result-2 c =
    let text = c.args.text.now in
    let spells = Spells-folded text (c.is_itself.ensures c.if-not-is_itself.false) in
    let glob = folded_from_pattern text c.args.glob c.requires in
    subst (λ spelled. Spells spelled c.args.glob) (sym (c.in_ok-read.ensures {u = tt}))
    (subst (Spells text) glob spells)
