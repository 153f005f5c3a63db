use Rattle.std.proofs.Common.{◌≡◌, ◌+◌, ◌∙◌, ap, sym}
use Rattle.mx_engine.specs.KeptRows.{list_at}
use Rattle.mx_engine.specs.Planning.{read_planned}
use Rattle.mx_engine.specs.View.{View}
use Rattle.mx_engine.proofs.UptoLemmas.{upto-read}
use Rattle.mx_engine.proofs.engine.Engine.read.Goals as goal

pub invariant_of-self : goal.invariant_of-self
invariant_of-self g c =
    let next : c.args.position ≡ c.self.inside.inputs + 1 =
    c.requires.next ∙ ap (λ (v : View). v.shown.inputs + 1) (sym c.self.view_is) in (
      c.self.invariant.0,
      c.requires.in_range,
      c.cut_read.ensures.kept,
      λ u r t. upto-read c.self.inside.inputs c.args.position (read_planned c.args.plan) u r t
          (list_at c.self.inside.unread.unread u r t) (list_at c.cut_read.new.unread.unread u r t) next
          (c.cut_read.ensures.lists u r t) (c.self.invariant.3 u r t),
      c.self.invariant.4,
    )
