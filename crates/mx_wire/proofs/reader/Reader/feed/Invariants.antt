use Rattle.std.proofs.Common.{◌≡◌, ◌≤◌, ◌+◌, take, vec_len}
use Rattle.std.specs.Prelude.{vec_capacity}
use Rattle.mx_wire.specs.Reader.{Takes}
use Rattle.mx_wire.proofs.reader.Reader.feed.Given as goal

abbrev pub invariant-loop-byte : goal.invariant-loop-byte
invariant-loop-byte l =
    Takes l.initial.self.stage l.initial.self.status l.initial.self.held.items (take l.byte-index l.piece) l.self.stage
    l.self.status l.self.held.items
    × (vec_len l.self.held ≤ vec_len l.initial.self.held + l.byte-index)
    × (vec_capacity l.self.held ≡ vec_capacity l.initial.self.held)
