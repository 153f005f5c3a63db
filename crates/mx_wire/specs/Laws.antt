-- Laws of what bytes hold: ours.
use Rattle.std.specs.Prelude.{◌≡◌, ℕ, Bool, false, List, [], ◌++◌}
use Rattle.mx_wire.specs.Reading.{Reading}
use Rattle.mx_wire.specs.Reading.Reading.{Got, Refused, Lacking}
use Rattle.mx_wire.specs.Reply.{Outcome, Reads}
use Rattle.mx_wire.specs.Reply.Outcome.{Whole, NotReply, Unfinished}

-- The bytes hold a whole reply, or what no further bytes make one.
abbrev pub IsSettled : Outcome → Type 0
IsSettled (Whole status body) = Unit {0}
IsSettled NotReply = Unit {0}
IsSettled Unfinished = ⊥

-- Bytes hold one thing at most: two outcomes of the same bytes are the same.
abbrev pub OneOutcome : Type 0
OneOutcome = (bytes : List ℕ) (ended : Bool) (o p : Outcome) → Reads bytes ended o → Reads bytes ended p → o ≡ p

-- A settled outcome stays, whatever comes behind the bytes and whether the link ends then or not.
abbrev pub SettledStays : Type 0
SettledStays =
    (bytes more : List ℕ) (ended : Bool) (o : Outcome) → Reads bytes false o → IsSettled o
    → Reads (bytes ++ more) ended o

-- It is refused exactly where no further bytes make one: what is refused stays refused, and where
-- bytes are lacking some make it whole.
abbrev pub RefusesExactly : {A : Type 0} → (List ℕ → Reading A) → Type 0
RefusesExactly {A = A} read =
    (bytes : List ℕ)
    → (read bytes ≡ Refused → (more : List ℕ) → read (bytes ++ more) ≡ Refused)
    × (read bytes ≡ Lacking → (more : List ℕ) × (a : A) × (read (bytes ++ more) ≡ Got a []))
