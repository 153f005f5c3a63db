use Rattle.std.proofs.Common.{◌≡◌, [], Some, true, false, ◌||◌, is_ok, sym, subst, ◌∙◌, ap}
use Rattle.std.specs.List.{IsDistinct}
use Rattle.std.specs.Option.{option_map_or}
use Rattle.indexmap.specs.IndexMap.{set_value_at}
use Rattle.indexmap.proofs.CallerLemmas.{keys-with_value_at, updates-with_value_at}
use Rattle.mx_rows.specs.declared.thread_key.ThreadKey.{ThreadKey}
use Rattle.mx_rows.specs.declared.thread_rows.ThreadRows.{ThreadRows}
use Rattle.mx_rows.specs.Plain.{reserved_in, start_at}
use Rattle.mx_rows.specs.Rows.{start_of}
use Rattle.mx_rows.specs.Threads.{same_thread, same_thread-equiv}
use Rattle.mx_rows.proofs.EntryLemmas.{InOrder-same_starts, found_at, map-set_value_at, or_where, read_after, read_same}
use Rattle.mx_rows.proofs.EntryLemmas.{some_same}
use Rattle.mx_rows.specs.Rows.{has_rows}
use Rattle.mx_rows.specs.Plain.{Entry}
use Rattle.mx_rows.proofs.NeededLemmas.{need, needed-at, needed-written, or_more}
use Rattle.mx_rows.proofs.adding.reserve_at.Goals as goal

pub returns-clause-order : goal.returns-clause-order
returns-clause-order c =
    let es = c.args.threads.now.entries in
    InOrder-same_starts es (set_value_at es c.args.index c.reserve.new.self)
    (map-set_value_at start_at es c.args.index
    (c.pair_mut-kept.result.0.now, c.pair_mut-kept.result.1.now) c.reserve.new.self c.pair_mut-kept.ensures.value
    (ap start_of c.reserve.ensures.rows)) c.requires.order

pub returns-clause-once : goal.returns-clause-once
returns-clause-once c =
    subst (IsDistinct same_thread)
    (sym (keys-with_value_at c.args.threads.now c.args.index c.reserve.new.self)) c.pair_mut-kept.ensures.unique

pub returns-clause-rows : goal.returns-clause-rows
returns-clause-rows c = λ t.
    let es = c.args.threads.now.entries in
    let key = c.pair_mut-kept.result.0.now in
    let v = c.pair_mut-kept.result.1.now in
    let updated = updates-with_value_at c.args.threads.now c.args.index c.reserve.new.self
    same_thread-equiv c.pair_mut-kept.ensures.unique key v c.pair_mut-kept.ensures.value in
    read_same es (set_value_at es c.args.index c.reserve.new.self) key (Some v) (Some c.reserve.new.self)
    (λ o. option_map_or (λ kept. kept.rows.items) o [])
    (found_at es c.args.index
    (key, v) c.pair_mut-kept.ensures.unique c.pair_mut-kept.ensures.value) updated.0 c.reserve.ensures.rows t

pub returns-clause-capacity : goal.returns-clause-capacity
returns-clause-capacity c = λ e t is.
    let es = c.args.threads.now.entries in
    let here : (c.pair_mut-kept.result.0.now, c.pair_mut-kept.result.1.now) ≡ e
    = some_same (sym c.pair_mut-kept.ensures.value ∙ is) in
    let updated = updates-with_value_at c.args.threads.now c.args.index c.reserve.new.self
    same_thread-equiv c.pair_mut-kept.ensures.unique e.0 e.1 is in
    read_after es (set_value_at es c.args.index c.reserve.new.self) e.0 (Some e.1) (Some c.reserve.new.self)
    (λ o. option_map_or (λ kept. kept.reserved) o false) (λ b. b || is_ok c.reserve.result)
    (found_at es c.args.index e c.pair_mut-kept.ensures.unique is) updated.0
    (c.reserve.ensures.capacity
    ∙ ap (λ (x : ThreadKey × ThreadRows). x.1.reserved || is_ok c.reserve.result) here) t
    ∙ or_where (reserved_in es t) (is_ok c.reserve.result) (same_thread e.0 t)

pub returns-clause-needed : goal.returns-clause-needed
returns-clause-needed c =
    let es = c.args.threads.now.entries in
    let e : Entry = (c.pair_mut-kept.result.0.now, c.pair_mut-kept.result.1.now) in
    let before = needed-at es c.args.index e c.requires.needed c.pair_mut-kept.ensures.value in
    let now : need (e.0, c.reserve.new.self) ≡ true
    = (λ i. has_rows (c.reserve.ensures.rows i) || c.reserve.ensures.capacity i)
    ∙ or_more (has_rows e.1.rows.items) e.1.reserved (is_ok c.reserve.result) before in
    needed-written es c.args.index e c.reserve.new.self c.pair_mut-kept.ensures.value now c.requires.needed
