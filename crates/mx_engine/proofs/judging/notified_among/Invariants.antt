use Rattle.std.proofs.Common.{◌≡◌, take}
use Rattle.mx_records.specs.Judging.{notice_in}
use Rattle.mx_records.specs.Rules.{rules_among}
use Rattle.mx_engine.specs.Noticing.{said_of}
use Rattle.mx_engine.proofs.judging.notified_among.Given as goal

abbrev pub invariant-loop-user : goal.invariant-loop-user
invariant-loop-user l =
    l.users.items
    ≡ said_of (notice_in l.rules.server (rules_among l.rules.server l.rules.edited) l.view l.event)
    (take l.user-index l.members)
