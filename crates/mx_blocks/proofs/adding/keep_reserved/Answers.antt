use Rattle.std.proofs.Common.{◌≡◌, true, ◌-◌, length, get_or, None, sym, subst, ◌∙◌, ap, arith}
use Rattle.std.proofs.lemmas.List.Sorted.{IsNonDecreasingBy-push}
use Rattle.std.specs.Map.{lookup}
use Rattle.indexmap.proofs.CallerLemmas.{insert_entry-new}
use Rattle.mx_blocks.specs.Entries.{InOrder, start_at, thread_rows}
use Rattle.mx_rows.specs.Rows.{start_of}
use Rattle.mx_rows.specs.Threads.{same_thread}
use Rattle.mx_rows.proofs.RowLemmas.{start_of-le}
use Rattle.std.proofs.lemmas.Bool.{or_right}
use Rattle.mx_blocks.specs.Entries.{are_needed}
use Rattle.mx_blocks.proofs.NeededLemmas.{need}
use Rattle.mx_rows.proofs.RowLemmas.{list_all-push}
use Rattle.mx_blocks.proofs.adding.keep_reserved.Goals as goal

pub returns-clause-order : goal.returns-clause-order
returns-clause-order c =
    let es = c.args.threads.now.entries in
    let key = c.in_ok-copied.field-0 in
    let kept = c.in_ok-kept.kept in
    let absent : lookup (same_thread key) es ≡ None = ap (λ k. lookup (same_thread k) es) c.in_ok-copied.ensures
    ∙ c.requires.absent in
    let starts : start_at (key, kept) ≡ 18446744073709551616 = ap start_of c.in_ok-kept.ensures.rows in
    subst InOrder (sym
    (c.in_ok-insert.ensures.entries ∙ insert_entry-new same_thread c.args.threads.now key kept absent))
    (IsNonDecreasingBy-push start_at es (key, kept) c.requires.order
    (λ d some. let last = start_of-le (thread_rows (get_or es (length es - 1) d).1)
    (get_or es (length es - 1) d).1.in_range in omega arith))

pub returns-clause-needed : goal.returns-clause-needed
returns-clause-needed c =
    let es = c.args.threads.now.entries in
    let key = c.in_ok-copied.field-0 in
    let kept = c.in_ok-kept.kept in
    let absent : lookup (same_thread key) es ≡ None
    = ap (λ k. lookup (same_thread k) es) c.in_ok-copied.ensures ∙ c.requires.absent in
    subst (λ l. are_needed l ≡ true)
    (sym (c.in_ok-insert.ensures.entries ∙ insert_entry-new same_thread c.args.threads.now key kept absent))
    (list_all-push need es (key, kept) c.requires.needed (or_right _ _ c.in_ok-kept.ensures.capacity))
