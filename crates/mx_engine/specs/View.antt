-- What contracts see of an engine: ours.
use Rattle.std.specs.Prelude.{ℕ, List}
use Rattle.mx_records.specs.Snapshot.{Snapshot}
use Rattle.mx_engine.specs.Capacity.{Capacity}

-- The name of its homeserver, what it knows of its history, and for what its memory suffices.
pub record View : Type 0 where
  pub server : List ℕ
  pub shown : Snapshot
  pub capacity : Capacity
