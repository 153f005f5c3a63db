-- The exchanges to come are those of the scripts.
use Rattle.std.proofs.Common.{sym, subst, List, arith}
use Rattle.mx_outside.specs.ScriptLink.{Place, AreToCome}
use Rattle.mx_outside.proofs.Placed.{to_come, added_are}
use Rattle.mx_outside.proofs.memory.script_link.ScriptLink.new.Goals as goal

pub invariant_of-result : goal.invariant_of-result
invariant_of-result c =
    let are = added_are c.args.room c.args.scripts.items c.args.calls _ _ (c.in_ok-places.ensures)
    (c.in_ok-add_places.ensures) in (
      omega arith,
      subst (λ (l : List Place). AreToCome l) (sym are)
          (to_come c.args.room c.args.scripts.items c.args.calls),
    )
