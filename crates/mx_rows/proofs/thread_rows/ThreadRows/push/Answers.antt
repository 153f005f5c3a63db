use Rattle.std.proofs.Common.{◌∙◌, ap, arith}
use Rattle.std.proofs.lemmas.Bool.{lt-ltb}
use Rattle.mx_rows.specs.Rows.{are_in_range, is_rising}
use Rattle.mx_rows.proofs.RowLemmas.{is_rising-push, list_all-push}
use Rattle.mx_rows.proofs.thread_rows.ThreadRows.push.Goals as goal

pub invariant_of-self : goal.invariant_of-self
invariant_of-self c = record {
  rising = ap is_rising c.push_reserved.ensures.items ∙ is_rising-push _ _ c.requires.above c.args.self.now.rising;
  in_range = ap are_in_range c.push_reserved.ensures.items
      ∙ list_all-push _ c.args.self.now.rows.items c.args.row c.args.self.now.in_range (lt-ltb _ _ (omega arith));
  capacity = λ never. absurd (cc);
}
