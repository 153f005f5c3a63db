use Rattle.std.proofs.Common.{List, ℕ, ◌∙◌, subst}
use Rattle.mx_store.specs.Standing.{HasFirstFaultAt}
use Rattle.mx_store.proofs.Openings.{opened_tally}
use Rattle.mx_store.proofs.store.Store.tally_long.Goals as goal

pub returns-in-Ok-replay-clause-tally : goal.returns-in-Ok-replay-clause-tally
returns-in-Ok-replay-clause-tally g c =
    opened_tally g.D.Disk.seen g.D.Disk.may_leave c.args.disk _ c.replay.new.engine.server c.args.server.now
    c.replay.new.engine.shown _ (c.replay.ensures.server ∙ c.in-Ok.ensures.server) c.in-Ok-replay.ensures.replayed

pub returns-clause-not_a_journal : goal.returns-clause-not_a_journal
returns-clause-not_a_journal g c content offset told cause =
    subst (λ (server : List ℕ). HasFirstFaultAt server content offset) c.in-Ok.ensures.server
    (c.in-Err-replay.ensures.not_a_journal content offset told cause)
