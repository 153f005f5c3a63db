-- What opening a store leaves, and how it may fail: ours.
use Rattle.std.specs.Prelude.{◌≡◌, ◌+◌, ◌≤◌, ℕ, List, [], Option, Some, length, Result, Ok, Err}
use Rattle.mx_journal.specs.Journal.{Opened, HasRead}
use Rattle.mx_journal.specs.declared.error.JournalError.{JournalError}
use Rattle.mx_journal.specs.declared.error.JournalError.TheVariants as journal
use Rattle.mx_records.specs.declared.entry.Entry.{Entry}
use Rattle.mx_records.specs.declared.input.Input.{Input}
use Rattle.mx_records.specs.Entries.{payload_of}
use Rattle.mx_records.specs.History.{History, with_entry}
use Rattle.mx_records.specs.Refusing.{IsAcceptable, NamesAPosition, most_inputs, payloads_of, refusal_of}
use Rattle.mx_store.specs.Store.{Knows}
use Rattle.mx_records.specs.Snapshot.{Snapshot, snapshot_of}
use Rattle.mx_store.specs.declared.error.AcceptError.{AcceptError}
use Rattle.mx_store.specs.declared.error.AcceptError.TheVariants.{Refused}
use Rattle.mx_store.specs.declared.error.AcceptError.TheVariants as accept
use Rattle.mx_store.specs.declared.error.StoreError.{StoreError}
use Rattle.mx_store.specs.declared.error.StoreError.TheVariants.{NotAJournal, DiskFault, OutOfMemory}

-- The cause for which a journal can't be read, as one for which a store can't.
abbrev pub store_error : JournalError → StoreError
store_error (journal.NotAJournal offset) = NotAJournal offset
store_error journal.DiskFault = DiskFault
store_error journal.OutOfMemory = OutOfMemory

-- ---- for private clauses

-- The payload is that of an entry that may come after a history, and this is known of the history with it.
pub record GoesOnWith (payload server : List ℕ) (shown : Snapshot) (h : History) : Type 0 where
  pub entry : Entry
  pub payload_is : payload ≡ payload_of entry
  pub acceptable : IsAcceptable server h entry
  pub is : shown ≡ snapshot_of server (with_entry h entry)

-- One entry more was read and accepted.
pub record HasReadMore {D : Type 0} (seen : D → Option (List ℕ)) (old new : Opened D) (server : List ℕ)
    (shown : Snapshot) (h next : History) : Type 0 where
  pub knows : Knows server shown next
  pub one : length (payloads_of next) ≡ length (payloads_of h) + 1
  pub few : length (payloads_of next) ≤ most_inputs
  pub read : (content : List ℕ) → HasRead seen old content (payloads_of h) → HasRead seen new content (payloads_of next)

-- So many entries were read and accepted.
pub record HasReadSoFar {D : Type 0} (seen : D → Option (List ℕ)) (old new : Opened D) (server : List ℕ)
    (shown : Snapshot) (count : ℕ) (h : History) : Type 0 where
  pub knows : Knows server shown h
  pub counted : count ≡ length (payloads_of h)
  pub few : count ≤ most_inputs
  pub read : (content : List ℕ) → HasRead seen old content [] → HasRead seen new content (payloads_of h)

-- Why an input isn't accepted: a refusal that is told is the first that applies.
abbrev pub IsRefusedSo : List ℕ → History → Input → AcceptError → Type 0
IsRefusedSo server h input (Refused refusal) = refusal_of server h input ≡ Some refusal
IsRefusedSo server h input accept.DiskFault = Unit {0}
IsRefusedSo server h input accept.OutOfMemory = Unit {0}

-- A position that is answered, or that a refusal names, is one that an input can have.
abbrev pub AcceptsInRange : Result ℕ AcceptError → Type 0
AcceptsInRange (Ok position) = position ≤ most_inputs
AcceptsInRange (Err (Refused refusal)) = NamesAPosition refusal
AcceptsInRange (Err accept.DiskFault) = Unit {0}
AcceptsInRange (Err accept.OutOfMemory) = Unit {0}
