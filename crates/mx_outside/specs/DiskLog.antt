-- How a disk in memory keeps what its calls changed: ours.
use Rattle.std.specs.Prelude.{ℕ, ◌+◌, ◌-◌, ◌≤◌, List, [], ◌∷◌, length, take, drop}
use Rattle.mx_outside.specs.Budget.{Budget}
use Rattle.mx_outside.specs.Changes.{Change}
use Rattle.mx_outside.specs.Changes.Change.{written, cut_to, synced}
use Rattle.mx_outside.specs.declared.memory.disk_log.Logged.{Logged}
use Rattle.mx_outside.specs.declared.memory.disk_log.Logged.TheVariants as logged

-- What was changed, the newest first, and for how many written bytes and calls there is memory.
pub record Log : Type 0 where
  pub changes : List Change
  pub byte_capacity : ℕ
  pub call_capacity : ℕ

-- What these calls changed after earlier changes, the bytes that they wrote standing one after another.
abbrev pub changes_after : List Change → List Logged → List ℕ → List Change
changes_after earlier [] bytes = earlier
changes_after earlier (logged.Written at count ∷ calls) bytes =
    changes_after (written at (take count bytes) ∷ earlier) calls (drop count bytes)
changes_after earlier (logged.Cut n ∷ calls) bytes = changes_after (cut_to n ∷ earlier) calls bytes
changes_after earlier (logged.Synced ∷ calls) bytes = changes_after (synced ∷ earlier) calls bytes

-- How many bytes these calls wrote.
abbrev pub logged_bytes : List Logged → ℕ
logged_bytes [] = 0
logged_bytes (logged.Written at count ∷ calls) = count + logged_bytes calls
logged_bytes (logged.Cut n ∷ calls) = logged_bytes calls
logged_bytes (logged.Synced ∷ calls) = logged_bytes calls

-- How many bytes these changes wrote.
abbrev pub written_bytes : List Change → ℕ
written_bytes [] = 0
written_bytes (written at piece ∷ earlier) = length piece + written_bytes earlier
written_bytes (cut_to n ∷ earlier) = written_bytes earlier
written_bytes (synced ∷ earlier) = written_bytes earlier

-- What its memory leaves.
abbrev pub log_budget : Log → Budget
log_budget log =
    record {
      bytes = log.byte_capacity - written_bytes log.changes;
      calls = log.call_capacity - length log.changes;
    }

-- The memory that there is stays.
pub record KeepsLogCapacity (old new : Log) : Type 0 where
  pub bytes : old.byte_capacity ≤ new.byte_capacity
  pub calls : old.call_capacity ≤ new.call_capacity
