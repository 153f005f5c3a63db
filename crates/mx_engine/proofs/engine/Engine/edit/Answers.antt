use Rattle.std.proofs.Common.{◌≡◌, ◌+◌, ◌∙◌, ap, sym}
use Rattle.mx_engine.specs.KeptRows.{list_at}
use Rattle.mx_engine.specs.View.{View}
use Rattle.mx_engine.proofs.UptoLemmas.{upto-next}
use Rattle.mx_engine.proofs.engine.Engine.edit.Goals as goal

pub invariant_of-self : goal.invariant_of-self
invariant_of-self g c =
    let next : c.args.position ≡ c.self.inside.inputs + 1 =
    c.requires.next ∙ ap (λ (v : View). v.shown.inputs + 1) (sym c.self.view_is) in (
      c.apply.ensures.server ∙ c.self.invariant.0,
      c.requires.in_range,
      c.self.invariant.2,
      λ u r t. upto-next c.self.inside.inputs c.args.position (list_at c.self.inside.unread.unread u r t) next
          (c.self.invariant.3 u r t),
      c.self.invariant.4,
    )
