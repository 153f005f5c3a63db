-- One more field, of this name or of another.
use Rattle.std.proofs.Common.{sym}
use Rattle.mx_wire.proofs.Fields.{seen_more, seen_same}
use Rattle.mx_wire.proofs.head.with_header.Goals as goal

pub returns-then-is_name-clause-seen : goal.returns-then-is_name-clause-seen
returns-then-is_name-clause-seen c =
    let named = rw c.of.ensures at (c.if-is_name.ensures) in
    seen_more c.args.name.now c.args.block.now c.args.seen _ c.args.header (sym named)
    (c.once_more.ensures.seen c.args.block.now)

pub returns-else-is_name-clause-seen : goal.returns-else-is_name-clause-seen
returns-else-is_name-clause-seen c =
    let other = rw c.of.ensures at (c.if-is_name.ensures) in
    seen_same c.args.name.now c.args.block.now c.args.seen c.args.header (sym other)
