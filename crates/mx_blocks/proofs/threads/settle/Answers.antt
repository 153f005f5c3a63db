use Rattle.std.proofs.Common.{◌≡◌, [], Some, None, true, false, insert, remove, option_map, IfSome, sym, subst, ◌∙◌, ap}
use Rattle.std.proofs.lemmas.Bool.{cond-false, cond-true}
use Rattle.std.proofs.lemmas.Option.{slice_get-map}
use Rattle.std.specs.Option.{option_map_or}
use Rattle.indexmap.specs.IndexMap.{Updates}
use Rattle.mx_rows.specs.declared.thread_key.ThreadKey.{ThreadKey}
use Rattle.mx_blocks.specs.declared.thread_rows.ThreadRows.{ThreadRows}
use Rattle.mx_blocks.specs.Entries.{is_spent, thread_rows}
use Rattle.mx_rows.specs.Threads.{same_thread}
use Rattle.mx_rows.proofs.EntryLemmas.{some_at, some_same}
use Rattle.mx_blocks.proofs.EntryLemmas.{found_at, read_same, spent_hot, spent_parts}
use Rattle.mx_blocks.proofs.threads.settle.Goals as goal

pub returns-then-is_spent-clause-entries : goal.returns-then-is_spent-clause-entries
returns-then-is_spent-clause-entries c = λ e is.
    let es = c.args.threads.now.entries in
    let value : Some c.index.result.now ≡ Some e.1 = sym c.index.ensures
    ∙ slice_get-map (λ (x : ThreadKey × ThreadRows). x.1) es c.args.index
    ∙ ap (option_map (λ (x : ThreadKey × ThreadRows). x.1)) is in
    let spent : is_spent e.1 ≡ true = sym (ap is_spent (some_same value)) ∙ sym c.is_spent.ensures
    ∙ c.if-is_spent.true in
    c.shift_remove_index.ensures.entries
    ∙ sym (cond-true (is_spent e.1) (remove es c.args.index) (insert (remove es c.args.index) c.args.to e) spent)

pub returns-then-is_spent-clause-rows : goal.returns-then-is_spent-clause-rows
returns-then-is_spent-clause-rows c = λ t.
    let es = c.args.threads.now.entries in
    let here = some_at es c.args.index c.requires.from in
    let e = here.0 in
    let value : Some c.index.result.now ≡ Some e.1 = sym c.index.ensures
    ∙ slice_get-map (λ (x : ThreadKey × ThreadRows). x.1) es c.args.index
    ∙ ap (option_map (λ (x : ThreadKey × ThreadRows). x.1)) here.1 in
    let spent : is_spent e.1 ≡ true = sym (ap is_spent (some_same value)) ∙ sym c.is_spent.ensures
    ∙ c.if-is_spent.true in
    let updated = subst
    (λ o. IfSome o (λ
    (p : ThreadKey × ThreadRows). Updates same_thread c.args.threads.now c.shift_remove_index.new.self p.0 None))
    (c.shift_remove_index.ensures.entry ∙ here.1) c.shift_remove_index.ensures.updates in
    read_same es c.shift_remove_index.new.self.entries e.0 (Some e.1) None
    (λ o. option_map_or (λ kept. (thread_rows kept)) o [])
    (found_at es c.args.index e c.requires.once here.1) updated.0 (sym (spent_parts e.1 spent).0) t

pub returns-then-is_spent-clause-hot : goal.returns-then-is_spent-clause-hot
returns-then-is_spent-clause-hot c = λ t.
    let es = c.args.threads.now.entries in
    let here = some_at es c.args.index c.requires.from in
    let e = here.0 in
    let value : Some c.index.result.now ≡ Some e.1 = sym c.index.ensures
    ∙ slice_get-map (λ (x : ThreadKey × ThreadRows). x.1) es c.args.index
    ∙ ap (option_map (λ (x : ThreadKey × ThreadRows). x.1)) here.1 in
    let spent : is_spent e.1 ≡ true = sym (ap is_spent (some_same value)) ∙ sym c.is_spent.ensures
    ∙ c.if-is_spent.true in
    let updated = subst
    (λ o. IfSome o (λ
    (p : ThreadKey × ThreadRows). Updates same_thread c.args.threads.now c.shift_remove_index.new.self p.0 None))
    (c.shift_remove_index.ensures.entry ∙ here.1) c.shift_remove_index.ensures.updates in
    read_same es c.shift_remove_index.new.self.entries e.0 (Some e.1) None
    (λ o. option_map_or (λ kept. kept.hot.items) o [])
    (found_at es c.args.index e c.requires.once here.1) updated.0 (sym (spent_hot e.1 spent)) t

pub returns-then-is_spent-clause-capacity : goal.returns-then-is_spent-clause-capacity
returns-then-is_spent-clause-capacity c = λ t.
    let es = c.args.threads.now.entries in
    let here = some_at es c.args.index c.requires.from in
    let e = here.0 in
    let value : Some c.index.result.now ≡ Some e.1 = sym c.index.ensures
    ∙ slice_get-map (λ (x : ThreadKey × ThreadRows). x.1) es c.args.index
    ∙ ap (option_map (λ (x : ThreadKey × ThreadRows). x.1)) here.1 in
    let spent : is_spent e.1 ≡ true = sym (ap is_spent (some_same value)) ∙ sym c.is_spent.ensures
    ∙ c.if-is_spent.true in
    let updated = subst
    (λ o. IfSome o (λ
    (p : ThreadKey × ThreadRows). Updates same_thread c.args.threads.now c.shift_remove_index.new.self p.0 None))
    (c.shift_remove_index.ensures.entry ∙ here.1) c.shift_remove_index.ensures.updates in
    read_same es c.shift_remove_index.new.self.entries e.0 (Some e.1) None
    (λ o. option_map_or (λ kept. kept.reserved) o false)
    (found_at es c.args.index e c.requires.once here.1) updated.0 (sym (spent_parts e.1 spent).1) t

pub returns-else-is_spent-clause-entries : goal.returns-else-is_spent-clause-entries
returns-else-is_spent-clause-entries c = λ e is.
    let es = c.args.threads.now.entries in
    let value : Some c.index.result.now ≡ Some e.1 = sym c.index.ensures
    ∙ slice_get-map (λ (x : ThreadKey × ThreadRows). x.1) es c.args.index
    ∙ ap (option_map (λ (x : ThreadKey × ThreadRows). x.1)) is in
    let left : is_spent e.1 ≡ false = sym (ap is_spent (some_same value)) ∙ sym c.is_spent.ensures
    ∙ c.if-is_spent.false in
    c.move_index.ensures.entries
    ∙ ap (λ o. option_map_or (λ x. insert (remove es c.args.index) c.args.to x) o es) is
    ∙ sym (cond-false (is_spent e.1) (remove es c.args.index) (insert (remove es c.args.index) c.args.to e) left)
