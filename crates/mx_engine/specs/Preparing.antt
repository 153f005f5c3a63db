-- What may come of preparing an input: ours.
use Rattle.std.specs.Prelude.{◌≡◌, List, ℕ, if◌then◌else◌, Option, Some, None, Result, Ok, Err}
use Rattle.mx_records.specs.declared.refusal.Refusal.{Refusal}
use Rattle.mx_records.specs.declared.refusal.Refusal.TheVariants.{EntryTooLong}
use Rattle.mx_records.specs.declared.input.Input.{Input}
use Rattle.mx_records.specs.History.{History}
use Rattle.mx_records.specs.Refusing.{is_too_long, refusal_of, refusal_of_any, IsAcceptableInput, NamesAPosition}
use Rattle.mx_engine.specs.declared.error.PrepareError.{PrepareError}
use Rattle.mx_engine.specs.declared.error.PrepareError.TheVariants.{Refused, OutOfMemory}
use Rattle.mx_engine.specs.Planning.{Planned}

-- The outcome of preparing an input: a plan to accept it, where nothing refuses it, or its refusal,
-- or no memory.
abbrev pub IsPrepared : List ℕ → History → Input → Result Planned PrepareError → Type 0
IsPrepared server h input (Ok plan) = IsAcceptableInput server h input
IsPrepared server h input (Err (Refused refusal)) = refusal_of server h input ≡ Some refusal
IsPrepared server h input (Err OutOfMemory) = Unit {0}

-- the same of an input of any length; for private clauses
abbrev pub IsPlanned : List ℕ → History → Input → Result Planned PrepareError → Type 0
IsPlanned server h input (Ok plan) = refusal_of_any server h input ≡ None
IsPlanned server h input (Err (Refused refusal)) = refusal_of_any server h input ≡ Some refusal
IsPlanned server h input (Err OutOfMemory) = Unit {0}

-- why an input is too long, if it is; for private clauses
abbrev pub refusal_of_length : Input → Option Refusal
refusal_of_length input = if is_too_long input then Some EntryTooLong else None

-- a position that the refusal names is one that an input can have
abbrev pub RefusesInRange : {A : Type 0} → Result A PrepareError → Type 0
RefusesInRange (Ok value) = Unit {0}
RefusesInRange (Err (Refused refusal)) = NamesAPosition refusal
RefusesInRange (Err OutOfMemory) = Unit {0}

-- an answer tells the refusal, and comes without an error only where there is none; for private
-- clauses
abbrev pub SaysOfContent : {A : Type 0} → Option Refusal → Result A PrepareError → Type 0
SaysOfContent refusal (Ok value) = refusal ≡ None
SaysOfContent refusal (Err (Refused told)) = refusal ≡ Some told
SaysOfContent refusal (Err OutOfMemory) = Unit {0}
