-- A short disk stands for no entry.
use Rattle.std.proofs.Common.{◌≡◌, List, ℕ, length, arith}
use Rattle.mx_journal.proofs.Steps.{told_before}
use Rattle.mx_store.proofs.Openings.{short_tally}
use Rattle.mx_store.proofs.store.Store.tally.Goals as goal

pub returns-in-Ok-clause-tally : goal.returns-in-Ok-clause-tally
returns-in-Ok-clause-tally g c = λ content told.
    let is = told_before (λ (x : List ℕ). c.in-Ok.length ≡ length x) (g.D.Disk.seen c.args.disk)
    (g.D.Disk.seen c.len.new.self) content c.in-Ok.ensures.length told in
    short_tally c.args.server.now content (omega (arith, is, c.if-length-le-SHORT.true))
