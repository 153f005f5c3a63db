-- The head that the block is.
use Rattle.std.proofs.Common.{◌≤◌, length, arith}
use Rattle.mx_wire.proofs.Fields.{head_means}
use Rattle.mx_wire.proofs.head.read_meaning.Goals as goal

pub returns-in-Ok-Complete : goal.returns-in-Ok-Complete
returns-in-Ok-Complete c =
    let of = rw c.in-Ok-Complete.field-0-is at (c.in-Ok-Complete.ensures).complete in
    let room : length c.parse_response.new.headers ≤ 64 = omega arith in
    head_means c.args.block.now c.parse_response.new.headers c.in-Ok-Complete.head c.framing_told.result
    c.meaning_by.result of c.if-head-block.true room c.framing_told.ensures c.meaning_by.ensures
