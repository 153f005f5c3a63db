use Rattle.std.proofs.Common.{◌≡◌, ℕ, ◌<◌, true, List, ◌++◌, drop, All}
use Rattle.std.specs.List.{IsDistinct, list_any}
use Rattle.std.specs.Map.{keys_of}
use Rattle.std.specs.Str.{bytes_eq}
use Rattle.mx_rows.specs.declared.row.Row.{Row}
use Rattle.mx_rows.specs.declared.thread_key.ThreadKey.{ThreadKey}
use Rattle.mx_engine.specs.KeptRows.{AreUnreadRows, list_at}
use Rattle.mx_engine.specs.Planning.{row_added}
use Rattle.mx_engine.specs.Telling.{HasCapacityForAll, said_in}
use Rattle.mx_engine.proofs.telling.push_rows.Given as goal

abbrev pub invariant-loop-user : goal.invariant-loop-user
invariant-loop-user g l =
    ((u r : List ℕ) (t : ThreadKey)
    → list_at l.unread.unread u r t
    ++ row_added l.position l.room l.thread (said_in (drop l.user-index l.users)) u r t
    ≡ list_at l.fn.unread.unread u r t ++ row_added l.position l.room l.thread (said_in l.users) u r t)
    × HasCapacityForAll l.unread.capacity l.room l.thread (keys_of (drop l.user-index l.users))
    × IsDistinct bytes_eq (keys_of (drop l.user-index l.users))
    × ((u r : List ℕ) (t : ThreadKey) → list_any (bytes_eq u) (keys_of (drop l.user-index l.users)) ≡ true
    → All (λ (row : Row). row.position < l.position) (list_at l.unread.unread u r t))
    × (AreUnreadRows l.fn.unread.unread → AreUnreadRows l.unread.unread)
