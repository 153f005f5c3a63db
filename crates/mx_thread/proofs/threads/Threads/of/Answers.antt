use Rattle.std.proofs.Common.{sym}
use Rattle.mx_thread.proofs.RelationLemmas.{relation_of-root}
use Rattle.mx_thread.proofs.threads.Threads.of.Goals as goal

pub root_of-requires : goal.root_of-requires
root_of-requires c = relation_of-root c.args.event.now c.in-Thread.root.now (sym c.in-Thread.ensures)
