use Rattle.mx_lines.proofs.CuttingLemmas.{taken_count-first, taken_count-none, after_feed-first, after_feed-none}
use Rattle.mx_lines.proofs.CuttingLemmas.{HasGiven-first, HasGiven-none}
use Rattle.std.proofs.Common.{sym}
use Rattle.mx_lines.proofs.cutter.LineCutter.feed.Goals as goal

pub returns-in-Some-clause-takes : goal.returns-in-Some-clause-takes
returns-in-Some-clause-takes c =
    rw (← c.self.view_is) (sym (taken_count-first c.self.inside.line c.self.inside.has_ended c.args.piece.now
    c.in-Some.end c.if-self.false c.in-Some.ensures))

pub returns-in-Some-clause-holds : goal.returns-in-Some-clause-holds
returns-in-Some-clause-holds c =
    rw (← c.self.view_is, c.append.ensures)
    (sym (after_feed-first c.self.inside.line c.self.inside.has_ended c.args.piece.now c.in-Some.end c.if-self.false
    c.in-Some.ensures))

pub returns-in-Some-clause-lines : goal.returns-in-Some-clause-lines
returns-in-Some-clause-lines c =
    rw (← c.self.view_is, c.append.ensures) (λ bytes count had.
    HasGiven-first c.self.inside.line c.self.inside.has_ended c.args.piece.now bytes count c.in-Some.end c.if-self.false
    c.in-Some.ensures had)

pub returns-in-None-clause-takes : goal.returns-in-None-clause-takes
returns-in-None-clause-takes c =
    rw (← c.self.view_is) (sym
    (taken_count-none c.self.inside.line c.self.inside.has_ended c.args.piece.now c.if-self.false c.in-None.ensures))

pub returns-in-None-clause-holds : goal.returns-in-None-clause-holds
returns-in-None-clause-holds c =
    rw (← c.self.view_is, c.append-in-None.ensures)
    (sym
    (after_feed-none c.self.inside.line c.self.inside.has_ended c.args.piece.now c.if-self.false c.in-None.ensures))

pub returns-in-None-clause-lines : goal.returns-in-None-clause-lines
returns-in-None-clause-lines c =
    rw (← c.self.view_is, c.append-in-None.ensures) (λ bytes count had.
    HasGiven-none c.self.inside.line c.self.inside.has_ended c.args.piece.now bytes count c.if-self.false
    c.in-None.ensures had)
