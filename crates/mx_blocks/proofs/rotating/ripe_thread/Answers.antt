use Rattle.std.proofs.Common.{◌≡◌, ◌<◌, [], length, Option, Some, None, refl, arith}
use Rattle.std.proofs.lemmas.Map.Entries.{place_from_lookup}
use Rattle.std.proofs.lemmas.Option.{slice_get_within}
use Rattle.std.specs.Map.{lookup}
use Rattle.std.specs.Option.{option_map_or}
use Rattle.mx_rows.specs.Threads.{same_thread}
use Rattle.mx_blocks.specs.declared.thread_rows.ThreadRows.{ThreadRows}
use Rattle.mx_blocks.specs.Entries.{Entry}
use Rattle.mx_blocks.proofs.rotating.ripe_thread.Goals as goal

pub returns-clause-none : goal.returns-clause-none
returns-clause-none c = λ t.
    let es = c.args.threads.now.entries in
    let found : (v : ThreadRows) → lookup (same_thread t) es ≡ Some v → length v.hot.items < 256
    = λ v is. let place = place_from_lookup (same_thread t) es v is in
    let e : Entry = (place.1, v) in
    let within = slice_get_within es place.0 e place.2 in
    let long = c.len-k-end.ensures.len in
    c.loop-k.invariant place.0 e (omega arith) place.2 in
    few (lookup (same_thread t) es) found
  where
    few : (o : Option ThreadRows) → ((v : ThreadRows) → o ≡ Some v → length v.hot.items < 256)
        → length (option_map_or (λ (kept : ThreadRows). kept.hot.items) o []) < 256
    few None found = omega arith
    few (Some v) found = found v refl
