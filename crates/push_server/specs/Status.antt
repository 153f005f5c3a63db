-- Exit statuses and their texts on standard error: ours.
use Rattle.std.specs.Prelude.{ℕ, List, Option, None, Some, codes}
use Rattle.push_server.specs.declared.status.Status.{Status}
use Rattle.push_server.specs.declared.status.Status.TheVariants.{Done, Usage, ReadFault, WriteFault, DiskFault}
use Rattle.push_server.specs.declared.status.Status.TheVariants.{NotAJournal, OutOfMemory, InputLimit}
use Rattle.push_server.specs.declared.halt.Halt.{Halt}
use Rattle.push_server.specs.declared.halt.Halt.TheVariants as halt

-- the exit status as a number
abbrev pub code_of : Status → ℕ
code_of Done = 0
code_of Usage = 2
code_of ReadFault = 3
code_of WriteFault = 4
code_of DiskFault = 5
code_of NotAJournal = 6
code_of OutOfMemory = 7
code_of InputLimit = 8

-- the text on standard error, without its line feed
abbrev pub line_of : Status → Option (List ℕ)
line_of Done = None
line_of Usage = Some (codes "push_server: usage")
line_of ReadFault = Some (codes "push_server: read fault")
line_of WriteFault = Some (codes "push_server: write fault")
line_of DiskFault = Some (codes "push_server: disk fault")
line_of NotAJournal = Some (codes "push_server: not a journal")
line_of OutOfMemory = Some (codes "push_server: out of memory")
line_of InputLimit = Some (codes "push_server: input limit")

-- the status with which a call ends that halts so
abbrev pub status_of : Halt → Status
status_of halt.OutOfMemory = OutOfMemory
status_of halt.DiskFault = DiskFault
status_of halt.WriteFault = WriteFault
