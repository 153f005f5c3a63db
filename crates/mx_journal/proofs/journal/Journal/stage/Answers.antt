-- The payload that was put is the one that is staged.
use Rattle.std.proofs.Common.{◌≡◌, ap, ◌∙◌}
use Rattle.mx_journal.specs.Journal.{Opened}
use Rattle.mx_journal.specs.Held.{payload_in}
use Rattle.mx_journal.proofs.Staged.{payload_in-staged, IsStaged-put}
use Rattle.mx_journal.proofs.journal.Journal.stage.Goals as goal

pub invariant_of-self-2 : goal.invariant_of-self-2
invariant_of-self-2 g c = record {
  staged = IsStaged-put c.put_record.new.staged.items c.args.payload.now (c.requires, c.if-payload.false)
      c.put_record.ensures;
  bounded = c.self.invariant.bounded;
  closed = c.self.invariant.closed;
}

pub returns-clause-staged : goal.returns-clause-staged
returns-clause-staged g c =
    let same : payload_in c.put_record.new.staged.items ≡ c.args.payload.now = payload_in-staged
    c.put_record.new.staged.items c.args.payload.now c.put_record.ensures in
    ap (λ (j : Opened g.row.D.Denot). record j { staged = payload_in c.put_record.new.staged.items }) c.self.view_is
    ∙ ap (λ bytes. record c.args.self.now { staged = bytes }) same
