use Rattle.std.proofs.Common.{◌≡◌, [], ◌∷◌, ◌++◌, Some, false, refl, sym, subst, ◌∙◌, ap}
use Rattle.std.specs.List.{IsDistinct}
use Rattle.std.specs.Option.{option_map_or}
use Rattle.indexmap.specs.IndexMap.{set_value_at}
use Rattle.indexmap.proofs.CallerLemmas.{index_map_len-with_value_at, keys-with_value_at, updates-with_value_at}
use Rattle.mx_blocks.specs.Entries.{thread_rows}
use Rattle.mx_rows.specs.declared.thread_key.ThreadKey.{ThreadKey}
use Rattle.mx_blocks.specs.declared.thread_rows.ThreadRows.{ThreadRows}
use Rattle.mx_rows.specs.Threads.{same_thread, same_thread-equiv}
use Rattle.mx_rows.proofs.EntryLemmas.{some_same}
use Rattle.mx_blocks.proofs.EntryLemmas.{found_at, read_after}
use Rattle.mx_blocks.proofs.adding.push_in_place.Goals as goal

pub returns-clause-long : goal.returns-clause-long
returns-clause-long c = index_map_len-with_value_at c.args.threads.now c.args.index c.push.new.self

pub returns-clause-once : goal.returns-clause-once
returns-clause-once c =
    subst (IsDistinct same_thread)
    (sym (keys-with_value_at c.args.threads.now c.args.index c.push.new.self)) c.pair_mut-kept.ensures.unique

pub returns-clause-entries : goal.returns-clause-entries
returns-clause-entries c = λ e is.
    let here : (c.pair_mut-kept.result.0.now, c.pair_mut-kept.result.1.now) ≡ e
    = some_same (sym c.pair_mut-kept.ensures.value ∙ is) in (
      c.push.new.self,
      refl,
      c.push.ensures.rows
          ∙ ap (λ (x : ThreadKey × ThreadRows). (thread_rows x.1) ++ c.args.row ∷ []) here,
    )

pub returns-clause-rows : goal.returns-clause-rows
returns-clause-rows c = λ e t is.
    let es = c.args.threads.now.entries in
    let here : (c.pair_mut-kept.result.0.now, c.pair_mut-kept.result.1.now) ≡ e
    = some_same (sym c.pair_mut-kept.ensures.value ∙ is) in
    let updated = updates-with_value_at c.args.threads.now c.args.index c.push.new.self
    same_thread-equiv c.pair_mut-kept.ensures.unique e.0 e.1 is in
    read_after es (set_value_at es c.args.index c.push.new.self) e.0 (Some e.1) (Some c.push.new.self)
    (λ o. option_map_or (λ kept. (thread_rows kept)) o []) (λ rows. rows ++ c.args.row ∷ [])
    (found_at es c.args.index e c.pair_mut-kept.ensures.unique is) updated.0
    (c.push.ensures.rows ∙ ap (λ (x : ThreadKey × ThreadRows). (thread_rows x.1) ++ c.args.row ∷ []) here) t

pub returns-clause-hot : goal.returns-clause-hot
returns-clause-hot c = λ e t is.
    let es = c.args.threads.now.entries in
    let here : (c.pair_mut-kept.result.0.now, c.pair_mut-kept.result.1.now) ≡ e
    = some_same (sym c.pair_mut-kept.ensures.value ∙ is) in
    let updated = updates-with_value_at c.args.threads.now c.args.index c.push.new.self
    same_thread-equiv c.pair_mut-kept.ensures.unique e.0 e.1 is in
    read_after es (set_value_at es c.args.index c.push.new.self) e.0 (Some e.1) (Some c.push.new.self)
    (λ o. option_map_or (λ kept. kept.hot.items) o []) (λ rows. rows ++ c.args.row ∷ [])
    (found_at es c.args.index e c.pair_mut-kept.ensures.unique is) updated.0
    (c.push.ensures.hot ∙ ap (λ (x : ThreadKey × ThreadRows). x.1.hot.items ++ c.args.row ∷ []) here) t

pub returns-clause-capacity : goal.returns-clause-capacity
returns-clause-capacity c = λ e t is.
    let es = c.args.threads.now.entries in
    let updated = updates-with_value_at c.args.threads.now c.args.index c.push.new.self
    same_thread-equiv c.pair_mut-kept.ensures.unique e.0 e.1 is in
    read_after es (set_value_at es c.args.index c.push.new.self) e.0 (Some e.1) (Some c.push.new.self)
    (λ o. option_map_or (λ kept. kept.reserved) o false) (λ b. false)
    (found_at es c.args.index e c.pair_mut-kept.ensures.unique is) updated.0 c.push.ensures.capacity t
