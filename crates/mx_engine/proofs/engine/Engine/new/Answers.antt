use Rattle.std.proofs.Common.{◌∙◌, zero-le, sym, subst}
use Rattle.mx_thread.specs.Place.{Places}
use Rattle.mx_engine.proofs.PlacesLemmas.{IsInRange, in_range-empty}
use Rattle.mx_engine.proofs.Shown.{snapshot-new}
use Rattle.mx_engine.proofs.UptoLemmas.{upto-empty}
use Rattle.mx_engine.proofs.engine.Engine.new.Goals as goal

pub invariant_of-result : goal.invariant_of-result
invariant_of-result g c = (
  c.in_ok-new-2.ensures.server ∙ sym c.in_ok-new.ensures.server,
  zero-le,
  c.new-4.ensures.kept,
  upto-empty c.new-4.result.unread c.new-4.ensures.unread,
  λ id. subst (λ (places : Places). IsInRange places id) (sym c.new-3.ensures) (in_range-empty id),
)

pub returns-clause-empty : goal.returns-clause-empty
returns-clause-empty g c =
    (λ i. record {
      inputs = 0;
      places = c.new-3.ensures i;
      rooms = c.in_ok-new.ensures.states i;
      rules = c.in_ok-new-2.ensures.none i;
      unread = c.new-4.ensures.unread i;
    })
    ∙ sym (snapshot-new c.args.server.now)
