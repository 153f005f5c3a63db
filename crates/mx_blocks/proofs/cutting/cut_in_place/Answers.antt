use Rattle.std.proofs.Common.{◌≡◌, [], Some, false, refl, sym, subst, ◌∙◌, ap}
use Rattle.std.specs.List.{IsDistinct}
use Rattle.std.specs.Option.{option_map_or}
use Rattle.indexmap.specs.IndexMap.{set_value_at}
use Rattle.indexmap.proofs.CallerLemmas.{index_map_len-with_value_at, keys-with_value_at, updates-with_value_at}
use Rattle.mx_blocks.specs.Entries.{thread_rows}
use Rattle.mx_rows.specs.declared.thread_key.ThreadKey.{ThreadKey}
use Rattle.mx_blocks.specs.declared.thread_rows.ThreadRows.{ThreadRows}
use Rattle.mx_rows.specs.Rows.{above, counts_in, upto}
use Rattle.mx_rows.specs.Threads.{same_thread, same_thread-equiv}
use Rattle.mx_rows.proofs.EntryLemmas.{some_same}
use Rattle.mx_blocks.proofs.EntryLemmas.{found_at, read_after, read_same}
use Rattle.mx_blocks.proofs.cutting.cut_in_place.Goals as goal

pub returns-clause-long : goal.returns-clause-long
returns-clause-long c = index_map_len-with_value_at c.args.threads.now c.args.index c.cut.new.self

pub returns-clause-entries : goal.returns-clause-entries
returns-clause-entries c = λ e is.
    let here : (c.pair_mut-kept.result.0.now, c.pair_mut-kept.result.1.now) ≡ e
    = some_same (sym c.pair_mut-kept.ensures.value ∙ is) in (
      c.cut.new.self,
      refl,
      c.cut.ensures.rows
          ∙ ap (λ (x : ThreadKey × ThreadRows). above c.args.position (thread_rows x.1)) here,
      c.cut.ensures.capacity
          ∙ ap (λ (x : ThreadKey × ThreadRows). x.1.reserved) here,
    )

pub returns-clause-once : goal.returns-clause-once
returns-clause-once c =
    subst (IsDistinct same_thread)
    (sym (keys-with_value_at c.args.threads.now c.args.index c.cut.new.self)) c.pair_mut-kept.ensures.unique

pub returns-clause-rows : goal.returns-clause-rows
returns-clause-rows c = λ e t is.
    let es = c.args.threads.now.entries in
    let here : (c.pair_mut-kept.result.0.now, c.pair_mut-kept.result.1.now) ≡ e
    = some_same (sym c.pair_mut-kept.ensures.value ∙ is) in
    let updated = updates-with_value_at c.args.threads.now c.args.index c.cut.new.self
    same_thread-equiv c.pair_mut-kept.ensures.unique e.0 e.1 is in
    read_after es (set_value_at es c.args.index c.cut.new.self) e.0 (Some e.1) (Some c.cut.new.self)
    (λ o. option_map_or (λ kept. (thread_rows kept)) o []) (above c.args.position)
    (found_at es c.args.index e c.pair_mut-kept.ensures.unique is) updated.0
    (c.cut.ensures.rows ∙ ap (λ (x : ThreadKey × ThreadRows). above c.args.position (thread_rows x.1)) here) t

pub returns-clause-hot : goal.returns-clause-hot
returns-clause-hot c = λ e t is.
    let es = c.args.threads.now.entries in
    let here : (c.pair_mut-kept.result.0.now, c.pair_mut-kept.result.1.now) ≡ e
    = some_same (sym c.pair_mut-kept.ensures.value ∙ is) in
    let updated = updates-with_value_at c.args.threads.now c.args.index c.cut.new.self
    same_thread-equiv c.pair_mut-kept.ensures.unique e.0 e.1 is in
    read_after es (set_value_at es c.args.index c.cut.new.self) e.0 (Some e.1) (Some c.cut.new.self)
    (λ o. option_map_or (λ kept. kept.hot.items) o []) (above c.args.position)
    (found_at es c.args.index e c.pair_mut-kept.ensures.unique is) updated.0
    (c.cut.ensures.hot ∙ ap (λ (x : ThreadKey × ThreadRows). above c.args.position x.1.hot.items) here) t

pub returns-clause-capacity : goal.returns-clause-capacity
returns-clause-capacity c = λ t.
    let es = c.args.threads.now.entries in
    let key = c.pair_mut-kept.result.0.now in
    let v = c.pair_mut-kept.result.1.now in
    let updated = updates-with_value_at c.args.threads.now c.args.index c.cut.new.self
    same_thread-equiv c.pair_mut-kept.ensures.unique key v c.pair_mut-kept.ensures.value in
    read_same es (set_value_at es c.args.index c.cut.new.self) key (Some v) (Some c.cut.new.self)
    (λ o. option_map_or (λ kept. kept.reserved) o false)
    (found_at es c.args.index
    (key, v) c.pair_mut-kept.ensures.unique c.pair_mut-kept.ensures.value) updated.0 c.cut.ensures.capacity t

pub returns-clause-dropped : goal.returns-clause-dropped
returns-clause-dropped c = λ e is.
    let here : (c.pair_mut-kept.result.0.now, c.pair_mut-kept.result.1.now) ≡ e
    = some_same (sym c.pair_mut-kept.ensures.value ∙ is) in
    c.cut.ensures.dropped ∙ ap (λ (x : ThreadKey × ThreadRows). counts_in (upto c.args.position (thread_rows x.1))) here
