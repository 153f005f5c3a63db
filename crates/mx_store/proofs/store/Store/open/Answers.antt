-- The store stands for the history for which the disk stands.
use Rattle.std.proofs.Common.{List, ℕ, ◌∙◌, subst}
use Rattle.mx_store.specs.Standing.{HasFirstFaultAt}
use Rattle.mx_store.proofs.Laws.{no_history, one_fault, one_history}
use Rattle.mx_store.proofs.Openings.{moments_named, opened_keeps, opened_shown, opened_stands}
use Rattle.mx_store.proofs.store.Store.open.Goals as goal

pub returns-in-Err-clause-one_history : goal.returns-in-Err-clause-one_history
returns-in-Err-clause-one_history g c = one_history c.args.server.now

pub returns-in-Err-clause-one_fault : goal.returns-in-Err-clause-one_fault
returns-in-Err-clause-one_fault g c = one_fault c.args.server.now

pub returns-in-Err-clause-no_history : goal.returns-in-Err-clause-no_history
returns-in-Err-clause-no_history g c = no_history c.args.server.now

pub returns-in-Ok-replay-clause-stands : goal.returns-in-Ok-replay-clause-stands
returns-in-Ok-replay-clause-stands g c =
    opened_stands g.D.Disk.seen g.D.Disk.may_leave c.args.disk _ c.replay.new.engine.server c.args.server.now
    c.replay.new.engine.shown _ (c.replay.ensures.server ∙ c.in-Ok.ensures.server) c.in-Ok-replay.ensures.replayed

pub returns-in-Ok-replay-clause-shown : goal.returns-in-Ok-replay-clause-shown
returns-in-Ok-replay-clause-shown g c =
    opened_shown g.D.Disk.seen g.D.Disk.may_leave c.args.disk _ c.replay.new.engine.server c.args.server.now
    c.replay.new.engine.shown _ (c.replay.ensures.server ∙ c.in-Ok.ensures.server) c.in-Ok-replay.ensures.replayed

pub returns-in-Ok-replay-clause-keeps : goal.returns-in-Ok-replay-clause-keeps
returns-in-Ok-replay-clause-keeps g c =
    opened_keeps g.D.Disk.seen g.D.Disk.may_leave c.args.disk _ c.replay.new.engine.server c.args.server.now
    c.replay.new.engine.shown _ (c.replay.ensures.server ∙ c.in-Ok.ensures.server) c.in-Ok-replay.ensures.replayed

pub returns-in-Ok-replay-clause-one_history : goal.returns-in-Ok-replay-clause-one_history
returns-in-Ok-replay-clause-one_history g c = one_history c.args.server.now

pub returns-in-Ok-replay-clause-one_fault : goal.returns-in-Ok-replay-clause-one_fault
returns-in-Ok-replay-clause-one_fault g c = one_fault c.args.server.now

pub returns-in-Ok-replay-clause-no_history : goal.returns-in-Ok-replay-clause-no_history
returns-in-Ok-replay-clause-no_history g c = no_history c.args.server.now

pub returns-in-Ok-replay-clause-any_moment : goal.returns-in-Ok-replay-clause-any_moment
returns-in-Ok-replay-clause-any_moment g c = λ content h told only stands.
    moments_named _ c.args.server.now content h c.in-Ok.ensures.server
    (c.in-Ok-replay.ensures.any_moment content h told only) stands

pub returns-in-Err-replay-clause-not_a_journal : goal.returns-in-Err-replay-clause-not_a_journal
returns-in-Err-replay-clause-not_a_journal g c = λ content offset told is.
    subst (λ (s : List ℕ). HasFirstFaultAt s content offset) c.in-Ok.ensures.server
    (c.in-Err-replay.ensures.not_a_journal content offset told is)

pub returns-in-Err-replay-clause-one_history : goal.returns-in-Err-replay-clause-one_history
returns-in-Err-replay-clause-one_history g c = one_history c.args.server.now

pub returns-in-Err-replay-clause-one_fault : goal.returns-in-Err-replay-clause-one_fault
returns-in-Err-replay-clause-one_fault g c = one_fault c.args.server.now

pub returns-in-Err-replay-clause-no_history : goal.returns-in-Err-replay-clause-no_history
returns-in-Err-replay-clause-no_history g c = no_history c.args.server.now

pub returns-in-Err-replay-clause-any_moment : goal.returns-in-Err-replay-clause-any_moment
returns-in-Err-replay-clause-any_moment g c = λ content h told only stands.
    moments_named _ c.args.server.now content h c.in-Ok.ensures.server
    (c.in-Err-replay.ensures.any_moment content h told only) stands
