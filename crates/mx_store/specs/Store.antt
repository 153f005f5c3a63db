-- What a store shows of itself, and which history it keeps: ours.
use Rattle.std.specs.Prelude.{◌≡◌, ◌≢◌, ◌≤◌, ℕ, List, [], Option, Some, length, Result, Ok, Err}
use Rattle.mx_outside.specs.Told.{Rose}
use Rattle.mx_outside.specs.Disk.{Only}
use Rattle.mx_journal.specs.Image.{StandsForPayloads}
use Rattle.mx_journal.specs.Journal.{Opened, HasRead, Rests}
use Rattle.mx_records.specs.History.{History, inputs_of}
use Rattle.mx_records.specs.Refusing.{IsValid, payloads_of}
use Rattle.mx_records.specs.Snapshot.{Snapshot, snapshot_of}
use Rattle.mx_store.specs.declared.error.OpenError.{OpenError}
use Rattle.mx_store.specs.declared.error.StoreError.{StoreError}
use Rattle.mx_store.specs.declared.error.StoreError.TheVariants.{DiskFault}
use Rattle.mx_store.specs.declared.tally.Tallied.{Tallied}
use Rattle.mx_store.specs.declared.tally.Tally.{Tally}
use Rattle.mx_store.specs.Standing.{StandsFor}

-- What contracts see of a store: its journal, its homeserver's name, and what its engine knows.
pub record Stored (D : Type 0) : Type 0 where
  pub journal : Opened D
  pub server : List ℕ
  pub shown : Snapshot

-- The engine stands for a valid history.
pub record Knows (server : List ℕ) (shown : Snapshot) (h : History) : Type 0 where
  pub valid : IsValid server h
  pub is : shown ≡ snapshot_of server h

-- The store keeps a history: its engine stands for it, and each crash leaves the journal of just its
-- entries.
pub record Keeps {D : Type 0} (seen : D → Option (List ℕ)) (may_leave : D → List ℕ → Type 0) (store : Stored D)
    (h : History) : Type 0 where
  pub knows : Knows store.server store.shown h
  pub rests : Rests seen may_leave store.journal (payloads_of h)

-- The disk of a store that was opened, or the one that is handed back.
abbrev pub disk_after : {D : Type 0} → Result (Stored D) (OpenError D) → D
disk_after (Ok store) = store.journal.disk
disk_after (Err error) = error.disk

-- The disk that is handed back with the tally, or with the cause.
abbrev pub disk_tallied : {D : Type 0} → Result (Tallied D) (OpenError D) → D
disk_tallied (Ok tallied) = tallied.disk
disk_tallied (Err error) = error.disk

-- A tally counts the entries of a history, and the inputs among them.
pub record Tallies (tally : Tally) (h : History) : Type 0 where
  pub entries : tally.entries ≡ length (payloads_of h)
  pub inputs : tally.inputs ≡ inputs_of h

-- ---- what reading the entries of a journal comes to; for private clauses

-- all entries were read, so many, and these are all that the journal had to be read
pub record HasReadAll {D : Type 0} (seen : D → Option (List ℕ)) (may_leave : D → List ℕ → Type 0) (old new : Opened D)
    (server : List ℕ) (shown : Snapshot) (count : ℕ) (h : History) : Type 0 where
  pub knows : Knows server shown h
  pub counted : count ≡ length (payloads_of h)
  pub stands : (content : List ℕ) → HasRead seen old content [] → StandsForPayloads content (payloads_of h)
  pub rests : (content : List ℕ) → HasRead seen old content [] → Only content (may_leave old.disk)
      → Rests seen may_leave new (payloads_of h)

-- a journal was opened and all its entries were read, so many
pub record IsReplayed {D : Type 0} (seen : D → Option (List ℕ)) (may_leave : D → List ℕ → Type 0) (disk : D)
    (journal : Opened D) (server : List ℕ) (shown : Snapshot) (count : ℕ) (h : History) : Type 0 where
  pub knows : Knows server shown h
  pub counted : count ≡ length (payloads_of h)
  pub stands : (content : List ℕ) → seen disk ≡ Some content → StandsFor server content h
  pub rests : (content : List ℕ) → seen disk ≡ Some content → Only content (may_leave disk)
      → Rests seen may_leave journal (payloads_of h)

-- the disk of a journal that was replayed, or the one that is handed back
abbrev pub disk_replayed : {D : Type 0} → Result (Opened D × ℕ) (OpenError D) → D
disk_replayed (Ok opened) = opened.0.disk
disk_replayed (Err error) = error.disk

-- A call that answered a fault of the disk raised the count of faults, and any other left it as it was.
pub record CountsStoreFaults {A : Type 0} (result : Result A StoreError) (before now : ℕ) : Type 0 where
  pub count : before ≤ now
  pub failed : result ≡ Err DiskFault → Rose before now
  pub steady : result ≢ Err DiskFault → now ≡ before
