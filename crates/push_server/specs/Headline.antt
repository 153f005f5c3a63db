-- The main theorem: what a call of the server read and wrote is a lawful run that ends well. Ours.
use Rattle.std.specs.Prelude.{◌≡◌, ◌⊎◌, ℕ, ◌<◌, ◌≤◌, true, false, List, [], ◌++◌, length, take, Option, Some}
use Rattle.push_server.specs.declared.status.Status.{Status}
use Rattle.push_server.specs.declared.status.Status.TheVariants.{Done, Usage, ReadFault, WriteFault, DiskFault}
use Rattle.push_server.specs.declared.status.Status.TheVariants.{NotAJournal, OutOfMemory, InputLimit}
use Rattle.push_server.specs.Status.{code_of}
use Rattle.mx_records.specs.History.{History}
use Rattle.mx_lines.specs.Runs.{Run, input_lines, begun, point_now, answers_begun, after_lines, acknowledged}
use Rattle.mx_lines.specs.Laws.{IsLawful, EachAnswered}
use Rattle.mx_outside.specs.Told.{Writes}
use Rattle.mx_store.specs.declared.error.StoreError.{StoreError}
use Rattle.mx_store.specs.declared.error.StoreError.TheVariants as store
use Rattle.mx_store.specs.declared.tally.Tally.{Tally}
use Rattle.mx_store.specs.Standing.{HasFirstFaultAt, StandsFor}
use Rattle.mx_store.specs.Store.{Tallies}
use Rattle.push_server.specs.JournalLines.{fault_line, tally_line}
use Rattle.push_server.specs.declared.halt.Halt.{Halt}
use Rattle.push_server.specs.declared.halt.Halt.TheVariants as halt

-- the run of a call: what the source had left and has now, what the sink had taken and has now, and the status
pub record IsRunOf (left rest before after : List ℕ) (ending : Status) (run : Run) : Type 0 where
  pub input : left ≡ run.input ++ rest
  pub ended : run.ended ≡ true → rest ≡ []
  pub output : after ≡ before ++ run.output
  pub status : run.status ≡ Some (code_of ending)

-- the input stays below the limit, or reaches it before its end was seen
pub record IsWithinLimit (limit : ℕ) (run : Run) : Type 0 where
  pub within : length run.input ≤ limit
  pub below : run.ended ≡ true → length run.input < limit

-- some line lacks its whole answer
abbrev pub LacksAnswer : List ℕ → History → Run → Type 0
LacksAnswer server h0 run = (point_now server h0 run).answered < length (input_lines run)

-- no line of the output is begun
abbrev pub BeginsNothing : Run → Type 0
BeginsNothing run = begun run ≡ []

-- with this limit of the input, the run may end with this status
abbrev pub EndsWell : ℕ → Status → List ℕ → History → Run → Type 0
EndsWell limit Done server h0 run = (run.ended ≡ true) × (length run.input < limit) × EachAnswered server h0 run
EndsWell limit Usage server h0 run = ⊥
EndsWell limit ReadFault server h0 run = (run.ended ≡ false) × (length run.input < limit) × EachAnswered server h0 run
EndsWell limit WriteFault server h0 run = IsWithinLimit limit run × LacksAnswer server h0 run
EndsWell limit DiskFault server h0 run = IsWithinLimit limit run × BeginsNothing run
EndsWell limit NotAJournal server h0 run = ⊥
EndsWell limit OutOfMemory server h0 run = IsWithinLimit limit run × BeginsNothing run
EndsWell limit InputLimit server h0 run = (run.ended ≡ false) × (length run.input ≡ limit) × EachAnswered server h0 run

-- the run may end where the answering of its lines halted so
abbrev pub HaltsAt : Halt → List ℕ → History → Run → Type 0
HaltsAt halt.OutOfMemory server h0 run = BeginsNothing run
HaltsAt halt.DiskFault server h0 run = BeginsNothing run
HaltsAt halt.WriteFault server h0 run = LacksAnswer server h0 run

-- what the call read and wrote, where both are told, is a lawful run that ends well, and this is said of what a stop
-- leaves
pub record HasLawfulRun (limit : ℕ) (server : List ℕ) (h0 : History) (left : List ℕ)
    (left_now : Option (List ℕ)) (before : List ℕ) (taken_now : Option (List ℕ)) (status : Status)
    (leaves : Run → Type 0) : Type 0 where
  pub rest : List ℕ
  pub left_told : left_now ≡ Some rest
  pub after : List ℕ
  pub taken_told : taken_now ≡ Some after
  pub run : Run
  pub is_run : IsRunOf left rest before after status run
  pub lawful : IsLawful server h0 run
  pub ends_well : EndsWell limit status server h0 run
  -- what is acknowledged are the lines whose answer was begun, and no others
  pub acknowledges :
      acknowledged server h0 run ≡ after_lines server h0 (take (answers_begun run) (input_lines run))
  pub left_on_disk : leaves run

-- where the source tells what it has left and the sink what it took, the call has a lawful run
abbrev pub HasLawfulRunOf : ℕ → List ℕ → History → Option (List ℕ) → Option (List ℕ) → Option (List ℕ)
    → Option (List ℕ) → Status → (Run → Type 0) → Type 0
HasLawfulRunOf limit server h0 left_old left_now taken_old taken_now status leaves =
    (left : List ℕ) → left_old ≡ Some left → (before : List ℕ) → taken_old ≡ Some before
    → HasLawfulRun limit server h0 left left_now before taken_now status leaves

-- ---- a journal as a whole

-- how a call may end where a store can't be opened
abbrev pub EndsOn : StoreError → Status → Type 0
EndsOn (store.NotAJournal offset) status =
    (status ≡ NotAJournal) ⊎ ((status ≡ WriteFault) ⊎ (status ≡ OutOfMemory))
EndsOn store.DiskFault status = status ≡ DiskFault
EndsOn store.OutOfMemory status = status ≡ OutOfMemory

-- The sink took the line that tells where the first fault of this content is, and nothing else.
pub record TellsFault (server content : List ℕ) (before after : Option (List ℕ)) : Type 0 where
  pub offset : ℕ
  pub at : HasFirstFaultAt server content offset
  pub wrote : Writes before after (λ out. out ≡ fault_line offset)

-- The sink took the line that tells how many entries and inputs the history has for which this content
-- stands, and nothing else.
pub record TellsTally (server content : List ℕ) (before after : Option (List ℕ)) : Type 0 where
  pub history : History
  pub stands : StandsFor server content history
  pub tally : Tally
  pub counts : Tallies tally history
  pub wrote : Writes before after (λ out. out ≡ tally_line tally.entries tally.inputs)
