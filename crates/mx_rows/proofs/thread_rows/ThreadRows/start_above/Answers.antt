use Rattle.std.proofs.Common.{◌≡◌, Some, None, find, nat_lt, sym, ap, ◌∙◌, rules}
use Rattle.std.specs.Option.{option_map_or}
use Rattle.mx_rows.specs.declared.row.Row.{Row}
use Rattle.mx_rows.proofs.RowLemmas.{start_of-above}
use Rattle.mx_rows.proofs.thread_rows.ThreadRows.start_above.Goals as goal

pub returns-in-Some : goal.returns-in-Some
returns-in-Some c =
    let found : find (λ (row : Row). nat_lt c.args.position row.position) c.args.self.now.rows.items
    ≡ Some c.in-Some.row.now = search rules in
    c.from.ensures ∙ sym
    (start_of-above c.args.position c.args.self.now.rows.items
    ∙ ap (λ o. option_map_or (λ (row : Row). row.position) o 18446744073709551616) found)

pub returns-in-None : goal.returns-in-None
returns-in-None c =
    let found : find (λ (row : Row). nat_lt c.args.position row.position) c.args.self.now.rows.items ≡ None
    = search rules in
    sym (start_of-above c.args.position c.args.self.now.rows.items
    ∙ ap (λ o. option_map_or (λ (row : Row). row.position) o 18446744073709551616) found)
