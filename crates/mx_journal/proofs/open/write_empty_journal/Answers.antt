-- The piece is all that the disk has.
use Rattle.std.proofs.Common.{◌≡◌, ◌∙◌, Some, ap}
use Rattle.mx_outside.specs.Disk.{put_at}
use Rattle.mx_outside.proofs.Told.{WhereTold-at}
use Rattle.mx_journal.specs.Image.{number_bytes, header, empty_journal}
use Rattle.mx_journal.proofs.Opens.{put_at-all}
use Rattle.mx_journal.proofs.open.write_empty_journal.Goals as goal

pub returns-clause-written : goal.returns-clause-written
unfolding header number_bytes
returns-clause-written g c = λ content told short.
    let at = WhereTold-at (λ before after. after ≡ put_at 0 empty_journal before) (g.D.Disk.seen c.args.disk.now)
    (g.D.Disk.seen c.write_through.new.disk) content c.in_ok-write_through.ensures.written told in
    at.1 ∙ ap Some (at.2 ∙ put_at-all content empty_journal short)
