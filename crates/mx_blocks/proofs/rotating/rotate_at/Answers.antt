use Rattle.std.proofs.Common.{◌≡◌, nat_le, cond, length, drop, IfOk, [], Some, true, false, ◌||◌, sym, subst, ◌∙◌, ap}
use Rattle.std.specs.List.{IsDistinct}
use Rattle.std.specs.Option.{option_map_or}
use Rattle.std.specs.Result.{result_unwrap_or}
use Rattle.indexmap.specs.IndexMap.{set_value_at}
use Rattle.indexmap.proofs.CallerLemmas.{keys-with_value_at, updates-with_value_at}
use Rattle.mx_rows.specs.declared.thread_key.ThreadKey.{ThreadKey}
use Rattle.mx_blocks.specs.declared.thread_rows.ThreadRows.{ThreadRows}
use Rattle.mx_blocks.specs.Entries.{start_at, thread_rows}
use Rattle.mx_rows.specs.Rows.{start_of, upto}
use Rattle.mx_rows.specs.Threads.{same_thread, same_thread-equiv}
use Rattle.mx_rows.proofs.EntryLemmas.{some_same}
use Rattle.mx_blocks.proofs.EntryLemmas.{InOrder-same_starts, found_at, map-set_value_at, read_after, read_same}
use Rattle.mx_rows.specs.Rows.{has_rows}
use Rattle.mx_blocks.specs.Entries.{Entry}
use Rattle.mx_blocks.proofs.NeededLemmas.{need, needed-at, needed-written}
use Rattle.mx_blocks.proofs.rotating.rotate_at.Goals as goal

pub returns-clause-order : goal.returns-clause-order
returns-clause-order c =
    let es = c.args.threads.now.entries in
    InOrder-same_starts es (set_value_at es c.args.index c.rotate.new.self)
    (map-set_value_at start_at es c.args.index
    (c.pair_mut-kept.result.0.now, c.pair_mut-kept.result.1.now) c.rotate.new.self c.pair_mut-kept.ensures.value
    (ap start_of c.rotate.ensures.rows)) c.requires.order

pub returns-clause-once : goal.returns-clause-once
returns-clause-once c =
    subst (IsDistinct same_thread)
    (sym (keys-with_value_at c.args.threads.now c.args.index c.rotate.new.self)) c.pair_mut-kept.ensures.unique

pub returns-clause-rows : goal.returns-clause-rows
returns-clause-rows c = λ t.
    let es = c.args.threads.now.entries in
    let key = c.pair_mut-kept.result.0.now in
    let v = c.pair_mut-kept.result.1.now in
    let updated = updates-with_value_at c.args.threads.now c.args.index c.rotate.new.self
    same_thread-equiv c.pair_mut-kept.ensures.unique key v c.pair_mut-kept.ensures.value in
    read_same es (set_value_at es c.args.index c.rotate.new.self) key (Some v) (Some c.rotate.new.self)
    (λ o. option_map_or (λ kept. (thread_rows kept)) o [])
    (found_at es c.args.index
    (key, v) c.pair_mut-kept.ensures.unique c.pair_mut-kept.ensures.value) updated.0 c.rotate.ensures.rows t

pub returns-clause-hot : goal.returns-clause-hot
returns-clause-hot c = λ e t is.
    let es = c.args.threads.now.entries in
    let here : (c.pair_mut-kept.result.0.now, c.pair_mut-kept.result.1.now) ≡ e
    = some_same (sym c.pair_mut-kept.ensures.value ∙ is) in
    let updated = updates-with_value_at c.args.threads.now c.args.index c.rotate.new.self
    same_thread-equiv c.pair_mut-kept.ensures.unique e.0 e.1 is in
    read_after es (set_value_at es c.args.index c.rotate.new.self) e.0 (Some e.1) (Some c.rotate.new.self)
    (λ o. option_map_or (λ kept. kept.hot.items) o []) (drop (result_unwrap_or c.rotate.result 0))
    (found_at es c.args.index e c.pair_mut-kept.ensures.unique is) updated.0
    (c.rotate.ensures.hot
    ∙ ap (λ (x : ThreadKey × ThreadRows). drop (result_unwrap_or c.rotate.result 0) x.1.hot.items) here) t

pub returns-clause-answer : goal.returns-clause-answer
returns-clause-answer c = λ e is.
    let here : (c.pair_mut-kept.result.0.now, c.pair_mut-kept.result.1.now) ≡ e
    = some_same (sym c.pair_mut-kept.ensures.value ∙ is) in
    subst (λ (x : ThreadKey × ThreadRows). IfOk c.rotate.result
    (λ n. n ≡ cond (nat_le 256 (length (upto c.args.last x.1.hot.items))) 256 0)) here c.rotate.ensures.answer

pub returns-clause-capacity : goal.returns-clause-capacity
returns-clause-capacity c = λ t.
    let es = c.args.threads.now.entries in
    let key = c.pair_mut-kept.result.0.now in
    let v = c.pair_mut-kept.result.1.now in
    let updated = updates-with_value_at c.args.threads.now c.args.index c.rotate.new.self
    same_thread-equiv c.pair_mut-kept.ensures.unique key v c.pair_mut-kept.ensures.value in
    read_same es (set_value_at es c.args.index c.rotate.new.self) key (Some v) (Some c.rotate.new.self)
    (λ o. option_map_or (λ kept. kept.reserved) o false)
    (found_at es c.args.index
    (key, v) c.pair_mut-kept.ensures.unique c.pair_mut-kept.ensures.value) updated.0 c.rotate.ensures.capacity t

pub returns-clause-needed : goal.returns-clause-needed
returns-clause-needed c =
    let es = c.args.threads.now.entries in
    let e : Entry = (c.pair_mut-kept.result.0.now, c.pair_mut-kept.result.1.now) in
    let before = needed-at es c.args.index e c.requires.needed c.pair_mut-kept.ensures.value in
    let now : need (e.0, c.rotate.new.self) ≡ true
    = (λ i. has_rows (c.rotate.ensures.rows i) || c.rotate.ensures.capacity i) ∙ before in
    needed-written es c.args.index e c.rotate.new.self c.pair_mut-kept.ensures.value now c.requires.needed
