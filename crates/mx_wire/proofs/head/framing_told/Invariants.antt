use Rattle.std.proofs.Common.{◌≡◌, length, map, take}
use Rattle.std.specs.Prelude.{codes}
use Rattle.httparse.specs.Spans.{header_bytes}
use Rattle.mx_wire.specs.Heads.{once, values_of}
use Rattle.mx_wire.specs.Seen.{seen_of, IsSeenWithin}
use Rattle.mx_wire.proofs.head.framing_told.Given as goal

abbrev pub invariant-loop-header : goal.invariant-loop-header
invariant-loop-header l =
    (seen_of l.block l.coding
    ≡ once (values_of (codes "transfer-encoding") (map (header_bytes l.block) (take l.header-index l.headers))))
    × IsSeenWithin (length l.block) l.coding
    × (seen_of l.block l.count
    ≡ once (values_of (codes "content-length") (map (header_bytes l.block) (take l.header-index l.headers))))
    × IsSeenWithin (length l.block) l.count
