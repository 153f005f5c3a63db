-- What opening leaves of a disk: ours.
use Rattle.std.specs.Prelude.{◌≡◌, ◌⊎◌, ◌≤◌, ℕ, List, Result, Ok, Err, length}
use Rattle.mx_journal.specs.declared.error.OpenError.{OpenError}
use Rattle.mx_journal.specs.Journal.{Opened}

-- The image is what it was, or it has at most 17 bytes as before.
abbrev pub IsLeftByOpening : List ℕ → List ℕ → Type 0
IsLeftByOpening content image = (image ≡ content) ⊎ ((length content ≤ 17) × (length image ≤ 17))

-- The disk of a journal that was opened, or the one that is handed back.
abbrev pub disk_after : {D : Type 0} → Result (Opened D) (OpenError D) → D
disk_after (Ok journal) = journal.disk
disk_after (Err error) = error.disk
