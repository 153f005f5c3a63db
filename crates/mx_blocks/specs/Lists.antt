-- What `Blocks` keeps, by thread.
use Rattle.std.specs.Prelude.{ℕ, Bool, List}
use Rattle.std.specs.Map.{keys_of}
use Rattle.mx_rows.specs.declared.row.Row.{Row}
use Rattle.mx_rows.specs.declared.thread_key.ThreadKey.{ThreadKey}
use Rattle.mx_blocks.specs.declared.blocks.Blocks.{Blocks}
use Rattle.mx_blocks.specs.Block.{Kept}
use Rattle.mx_blocks.specs.Entries.{blocks_in, hot_in, reserved_in, rows_in}

-- the rows of a thread
abbrev pub list_of : Blocks → ThreadKey → List Row
list_of rows thread = rows_in rows.threads.entries thread

-- those of them that are hot
abbrev pub hot_of : Blocks → ThreadKey → List Row
hot_of rows thread = hot_in rows.threads.entries thread

-- the blocks of a thread
abbrev pub blocks_of : Blocks → ThreadKey → List Kept
blocks_of rows thread = blocks_in rows.threads.entries thread

-- whether a thread has capacity for one row more
abbrev pub has_capacity_of : Blocks → ThreadKey → Bool
has_capacity_of rows thread = reserved_in rows.threads.entries thread

-- the threads that are kept
abbrev pub threads_of : Blocks → List ThreadKey
threads_of rows = keys_of rows.threads.entries

-- how many blocks were opened
abbrev pub opened_in : Blocks → ℕ
opened_in rows = rows.opened
