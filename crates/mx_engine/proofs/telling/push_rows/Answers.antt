use Rattle.std.proofs.Common.{◌≡◌, ◌+◌, ◌<◌, ◌∙◌, ◌++◌, ◌||◌, length, drop, All, ap, sym, subst, arith}
use Rattle.std.specs.List.{list_any}
use Rattle.std.specs.Map.{keys_of}
use Rattle.std.specs.Str.{bytes_eq}
use Rattle.mx_room.proofs.TextsLemmas.{bytes_eq-itself}
use Rattle.mx_rows.specs.declared.row.Row.{Row}
use Rattle.mx_engine.specs.KeptRows.{has_capacity, list_at}
use Rattle.mx_engine.specs.Planning.{row_added}
use Rattle.mx_engine.specs.Telling.{said_in}
use Rattle.mx_engine.proofs.TellingLemmas.{any-here, apart_rest, capacity-apart, here, none_rest, once_rest, or_true}
use Rattle.mx_engine.proofs.TellingLemmas.{push-step, pushed-apart}
use Rattle.mx_engine.proofs.telling.push_rows.Goals as goal

pub push-requires-clause-capacity : goal.push-requires-clause-capacity
push-requires-clause-capacity g c =
    c.loop-user.invariant.1 c.user-item.result.0
    (any-here c.args.users.now c.loop-user.user-index c.user-item.result (omega arith) c.user-item.is
    c.user-item.result.0
    ∙ ap (λ b. b
    || list_any (bytes_eq c.user-item.result.0) (keys_of (drop (c.loop-user.user-index + 1) c.args.users.now)))
    (bytes_eq-itself c.user-item.result.0))

pub push-requires-clause-above : goal.push-requires-clause-above
push-requires-clause-above g c = λ t.
    c.loop-user.invariant.3 c.user-item.result.0 c.args.room.now t
    (any-here c.args.users.now c.loop-user.user-index c.user-item.result (omega arith) c.user-item.is
    c.user-item.result.0
    ∙ ap (λ b. b
    || list_any (bytes_eq c.user-item.result.0) (keys_of (drop (c.loop-user.user-index + 1) c.args.users.now)))
    (bytes_eq-itself c.user-item.result.0))

pub loop-user-preserved : goal.loop-user-preserved
loop-user-preserved g c =
    let users = c.args.users.now in
    let i = c.loop-user.user-index in
    let e = c.user-item.result in
    let within : i < length users = omega arith in
    let once = c.loop-user.invariant.2 in
    let rest = drop (i + 1) users in
    let apart = apart_rest users i e within c.user-item.is once in (
      λ u r t.
          push-step c.args.position c.args.room.now c.args.thread.now e rest
          (none_rest users i e within c.user-item.is once) u r t
          (list_at c.loop-user.unread.unread u r t) (list_at c.push.new.self.unread u r t) (c.push.ensures.lists u r t)
          ∙ ap (λ l. list_at c.loop-user.unread.unread u r t
          ++ row_added c.args.position c.args.room.now c.args.thread.now (said_in l) u r t)
          (sym (here users i e within c.user-item.is once))
          ∙ c.loop-user.invariant.0 u r t,
      λ q there. capacity-apart e.0 q c.args.room.now c.args.thread.now
          (has_capacity c.loop-user.unread.capacity q c.args.room.now c.args.thread.now)
          (has_capacity c.push.new.self.capacity q c.args.room.now c.args.thread.now)
          (c.push.ensures.capacity q c.args.room.now c.args.thread.now) (apart q there)
          (c.loop-user.invariant.1 q (any-here users i e within c.user-item.is q
          ∙ ap (λ b. bytes_eq q e.0 || b) there ∙ or_true (bytes_eq q e.0))),
      once_rest users i e within c.user-item.is once,
      λ u r t there. subst (All (λ (row : Row). row.position < c.args.position))
          (sym (pushed-apart e.0 u r c.args.room.now c.args.thread.now t _
          (list_at c.loop-user.unread.unread u r t) (list_at c.push.new.self.unread u r t) (c.push.ensures.lists u r t)
          (apart u there)))
          (c.loop-user.invariant.3 u r t (any-here users i e within c.user-item.is u
          ∙ ap (λ b. bytes_eq u e.0 || b) there ∙ or_true (bytes_eq u e.0))),
      λ kept. c.push.ensures.kept,
    )
