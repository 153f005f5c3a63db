use Rattle.std.proofs.Common.{◌≡◌, ◌||◌, ℕ, List, true, cond, None, Some, refl, subst, ap, ◌∙◌}
use Rattle.std.specs.Map.{lookup}
use Rattle.std.specs.Str.{bytes_eq}
use Rattle.mx_room.specs.Texts.{Texts}
use Rattle.mx_engine.specs.KeptRows.{ThreadSet, has_capacity_in, is_thread, unread_view}
use Rattle.mx_engine.proofs.UnreadLemmas.{IsWritten, capacity-made, seen-same}
use Rattle.mx_engine.proofs.kept_rows.enter.Given.{Over}
use Rattle.mx_engine.proofs.kept_rows.enter.Goals as goal

written : (g : Over) (c : goal.Joined-branch-4 g)
    → IsWritten c.args.users.now.entries c.insert.new.self.entries c.args.user.now None c.reserve.new.self
    (unread_view c.args.users.now.entries)
written g c = record {
  are = c.requires.kept;
  view_is = refl;
  distinct = c.insert.ensures.unique;
  found = c.requires.absent;
  updated = subst
      (λ (key : List ℕ). (q : List ℕ) → lookup (bytes_eq q) c.insert.new.self.entries
      ≡ cond (bytes_eq key q) (Some c.reserve.new.self) (lookup (bytes_eq q) c.args.users.now.entries))
      c.in_ok-copied.ensures c.in_ok-insert.ensures.updates.0;
  rows = c.reserve.ensures.kept;
}

pub returns-clause-unread : goal.returns-clause-unread
returns-clause-unread g c = seen-same (written g c) (c.reserve.ensures.rooms ∙ c.new-rows.ensures.rooms)

pub returns-clause-capacity : goal.returns-clause-capacity
returns-clause-capacity g c =
    capacity-made (written g c) c.args.room.now c.args.thread.now true
    (λ r t. c.in_ok-reserve.ensures.capacity r t
    ∙ ap (λ (rooms : Texts ThreadSet). has_capacity_in rooms r t
    || is_thread c.args.room.now c.args.thread.now r t) c.new-rows.ensures.capacity)
