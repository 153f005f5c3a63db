-- One more field, and all of them.
use Rattle.std.specs.Prelude.{codes}
use Rattle.mx_wire.proofs.Fields.{headers_more, framing_all}
use Rattle.mx_wire.proofs.head.framing_told.Goals as goal

pub loop-header-preserved : goal.loop-header-preserved
loop-header-preserved c =
    let within = c.loop-header-test.true in (
      headers_more (codes "transfer-encoding") c.args.block.now c.args.headers.now c.loop-header.header-index _ _ _
          within c.with_header-coding.ensures.seen c.loop-header.invariant.0,
      c.with_header-coding.ensures.within,
      headers_more (codes "content-length") c.args.block.now c.args.headers.now c.loop-header.header-index _ _ _ within
          c.with_header-count.ensures.seen c.loop-header.invariant.2,
      c.with_header-count.ensures.within,
    )

pub returns : goal.returns
returns c =
    framing_all c.args.block.now c.args.headers.now c.loop-header.header-index _ _ _ c.loop-header-test.false
    c.loop-header.invariant.0 c.loop-header.invariant.2 c.framing_by.ensures
