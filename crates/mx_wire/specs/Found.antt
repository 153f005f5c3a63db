-- What a reader finds, as it says it: ours.
use Rattle.mx_wire.specs.Reply.{Outcome}
use Rattle.mx_wire.specs.Reply.Outcome.{Whole, NotReply, Unfinished}
use Rattle.mx_wire.specs.declared.reader.Found.{Found}
use Rattle.mx_wire.specs.declared.reader.Found.TheVariants as found

-- An outcome without the body.
abbrev pub found_of : Outcome → Found
found_of (Whole status body) = found.Whole status
found_of NotReply = found.NotReply
found_of Unfinished = found.Unfinished
