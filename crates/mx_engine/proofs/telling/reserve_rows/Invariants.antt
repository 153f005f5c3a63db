use Rattle.std.proofs.Common.{◌≡◌, ℕ, true, List, drop, ◌⊎◌}
use Rattle.std.specs.List.{list_any}
use Rattle.std.specs.Map.{keys_of}
use Rattle.std.specs.Str.{bytes_eq}
use Rattle.mx_engine.specs.KeptRows.{AreUnreadRows, has_capacity}
use Rattle.mx_engine.proofs.telling.reserve_rows.Given as goal

abbrev pub invariant-loop-user : goal.invariant-loop-user
invariant-loop-user g l =
    (l.unread.unread ≡ l.fn.unread.unread)
    × (AreUnreadRows l.fn.unread.unread → AreUnreadRows l.unread.unread)
    × ((q : List ℕ) → list_any (bytes_eq q) (keys_of l.users) ≡ true
    → (list_any (bytes_eq q) (keys_of (drop l.user-index l.users)) ≡ true)
    ⊎ (has_capacity l.unread.capacity q l.room l.thread ≡ true))
