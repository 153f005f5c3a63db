use Rattle.std.proofs.Common.{◌≡◌, ◌∙◌, ap, arith, rules}
use Rattle.std.proofs.lemmas.Fn.{filter_same}
use Rattle.mx_rows.specs.Rows.{above, are_in_range, is_rising}
use Rattle.mx_rows.proofs.RowLemmas.{is_rising-above, list_all-filter}
use Rattle.mx_rows.proofs.thread_rows.ThreadRows.cut.Goals as goal

pub invariant_of-self : goal.invariant_of-self
invariant_of-self c =
    let left : c.retain.new.self.items ≡ above c.args.position c.args.self.now.rows.items
    = filter_same _ _ _ (λ x b f' k. search rules) _ _ c.retain.ensures.filtered in
    record {
      rising = ap is_rising left ∙ is_rising-above c.args.position c.args.self.now.rows.items c.args.self.now.rising;
      in_range = ap are_in_range left ∙ list_all-filter _ _ c.args.self.now.rows.items c.args.self.now.in_range;
      capacity = λ reserved. let spare = c.args.self.now.capacity reserved in omega arith;
    }

pub returns-clause-rows : goal.returns-clause-rows
returns-clause-rows c = filter_same _ _ _ (λ x b f' k. search rules) _ _ c.retain.ensures.filtered
