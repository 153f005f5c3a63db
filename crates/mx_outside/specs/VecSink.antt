-- A sink that keeps what it took: ours.
use Rattle.std.specs.Prelude.{◌≡◌, ℕ, ◌-◌, ◌≤◌, List, [], ◌∷◌, ◌++◌, length}
use Rattle.mx_outside.specs.Told.{raised}
use Rattle.mx_outside.specs.Budget.{Budget}
use Rattle.mx_outside.specs.declared.sink.Put.{Put}
use Rattle.mx_outside.specs.declared.sink.Put.TheVariants as put

-- The bytes that were taken, the size of the piece that each call took, for how many bytes and calls
-- there is memory, and the count of faults.
pub record Kept : Type 0 where
  pub taken : List ℕ
  pub sizes : List ℕ
  pub byte_capacity : ℕ
  pub call_capacity : ℕ
  pub faults : ℕ

-- What its memory leaves.
abbrev pub budget_of : Kept → Budget
budget_of kept =
    record {
      bytes = kept.byte_capacity - length kept.taken;
      calls = kept.call_capacity - length kept.sizes;
    }

-- The memory that there is stays.
pub record KeepsCapacity (old new : Kept) : Type 0 where
  pub bytes : old.byte_capacity ≤ new.byte_capacity
  pub calls : old.call_capacity ≤ new.call_capacity

-- This piece was kept, these sizes of calls, and the count of faults is this.
pub record Keeps (old new : Kept) (piece calls : List ℕ) (count : ℕ) : Type 0 where
  pub taken : new.taken ≡ old.taken ++ piece
  pub sizes : new.sizes ≡ old.sizes ++ calls
  pub faults : new.faults ≡ count

-- The whole piece was kept, or nothing was and the count of faults rose.
abbrev pub KeepsPiece : Put → List ℕ → Kept → Kept → Type 0
KeepsPiece (put.Moved count) piece old new =
    (count ≡ length piece) × Keeps old new piece (count ∷ []) old.faults
KeepsPiece put.Failed piece old new = Keeps old new [] [] (raised old.faults)
