use Rattle.std.proofs.Common.{◌≡◌, [], ◌∷◌, ◌++◌, false, true, sym, subst, ◌∙◌, ap}
use Rattle.indexmap.specs.IndexMap.{set_value_at}
use Rattle.mx_rows.specs.declared.thread_rows.ThreadRows.{ThreadRows}
use Rattle.mx_rows.specs.Plain.{InOrder, is_spent, start_at}
use Rattle.mx_rows.specs.Rows.{has_rows, start_of}
use Rattle.mx_rows.proofs.EntryLemmas.{InOrder-same_starts, InOrder-settled, map-set_value_at, no_rows, settled}
use Rattle.mx_rows.proofs.EntryLemmas.{some_at, value_at}
use Rattle.mx_rows.proofs.RowLemmas.{start_of-push}
use Rattle.std.proofs.lemmas.Bool.{or_left}
use Rattle.mx_rows.specs.Plain.{are_needed}
use Rattle.mx_rows.proofs.NeededLemmas.{has_rows-push, needed-settled, needed-written}
use Rattle.mx_rows.proofs.adding.push_at.Goals as goal

pub returns-then-has_rows-clause-order : goal.returns-then-has_rows-clause-order
returns-then-has_rows-clause-order c =
    let es = c.args.threads.now.entries in
    let here = some_at es c.args.index c.requires.within in
    let e = here.0 in
    let pushed = c.push_in_place.ensures.entries e here.1 in
    let some : has_rows e.1.rows.items ≡ true
    = ap (λ (x : ThreadRows). has_rows x.rows.items)
    (sym (value_at es c.args.index e c.index.result.now here.1 c.index.ensures)) ∙ sym c.has_rows.ensures
    ∙ c.if-has_rows.true in
    subst InOrder (sym pushed.1)
    (InOrder-same_starts es (set_value_at es c.args.index pushed.0)
    (map-set_value_at start_at es c.args.index e pushed.0 here.1
    (ap start_of pushed.2 ∙ start_of-push e.1.rows.items c.args.row some)) c.requires.order)

pub returns-else-has_rows-clause-order : goal.returns-else-has_rows-clause-order
returns-else-has_rows-clause-order c =
    let es = c.args.threads.now.entries in
    let here = some_at es c.args.index c.requires.within in
    let e = here.0 in
    let pushed = c.push_in_place-else-has_rows.ensures.entries e here.1 in
    let none : has_rows e.1.rows.items ≡ false
    = ap (λ (x : ThreadRows). has_rows x.rows.items)
    (sym (value_at es c.args.index e c.index.result.now here.1 c.index.ensures)) ∙ sym c.has_rows.ensures
    ∙ c.if-has_rows.false in
    let starts : start_at (e.0, pushed.0) ≡ c.from.result
    = ap start_of (pushed.2 ∙ ap (λ rows. rows ++ c.args.row ∷ []) (no_rows e.1.rows.items none))
    ∙ sym c.from.ensures in
    subst InOrder (sym
    (settled es c.push_in_place-else-has_rows.new.threads.entries c.settle.new.threads.entries
    c.args.index c.place_of-to.result e pushed.0 here.1 pushed.1 c.settle.ensures.entries))
    (InOrder-settled es c.args.index c.place_of-to.result c.from.result (e.0, pushed.0)
    (is_spent pushed.0) c.requires.within c.requires.order c.place_of-to.ensures starts)

pub returns-then-has_rows-clause-needed : goal.returns-then-has_rows-clause-needed
returns-then-has_rows-clause-needed c =
    let es = c.args.threads.now.entries in
    let here = some_at es c.args.index c.requires.within in
    let e = here.0 in
    let pushed = c.push_in_place.ensures.entries e here.1 in
    let some : has_rows pushed.0.rows.items ≡ true = ap has_rows pushed.2 ∙ has_rows-push e.1.rows.items c.args.row in
    subst (λ l. are_needed l ≡ true) (sym pushed.1)
    (needed-written es c.args.index e pushed.0 here.1 (or_left _ _ some) c.requires.needed)

pub returns-else-has_rows-clause-needed : goal.returns-else-has_rows-clause-needed
returns-else-has_rows-clause-needed c =
    let es = c.args.threads.now.entries in
    let here = some_at es c.args.index c.requires.within in
    let e = here.0 in
    let pushed = c.push_in_place-else-has_rows.ensures.entries e here.1 in
    let written = c.push_in_place-else-has_rows.new.threads.entries in
    subst (λ l. are_needed l ≡ true)
    (sym (settled es written c.settle.new.threads.entries c.args.index c.place_of-to.result e pushed.0 here.1 pushed.1
    c.settle.ensures.entries))
    (needed-settled es c.args.index c.place_of-to.result (e.0, pushed.0) c.requires.needed)
