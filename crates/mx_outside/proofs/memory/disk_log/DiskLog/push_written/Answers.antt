-- There is memory for the piece and the call, and it is one more change.
use Rattle.std.proofs.Common.{◌∷◌, [], length, refl, ap, ◌∙◌, arith, length-append}
use Rattle.mx_outside.specs.DiskLog.{Log}
use Rattle.mx_outside.specs.Changes.Change.{written}
use Rattle.mx_outside.specs.declared.memory.disk_log.Logged.TheVariants as logged
use Rattle.mx_outside.proofs.Logged.{covered_fits, changes_after-written, logged_bytes-append}
use Rattle.mx_outside.proofs.memory.disk_log.DiskLog.push_written.Goals as goal

pub unreachable-requires : goal.unreachable-requires
unreachable-requires c =
    let fits = covered_fits c.self.inside.calls.items c.self.inside.bytes.items _ _ (length c.args.piece.now)
    c.args.self.now c.self.view_is c.self.invariant (omega arith) c.requires in
    omega (arith, c.in-Err.ensures.full)

pub push_reserved-requires : goal.push_reserved-requires
push_reserved-requires c =
    let fits = covered_fits c.self.inside.calls.items c.self.inside.bytes.items _ _ (length c.args.piece.now)
    c.args.self.now c.self.view_is c.self.invariant (omega arith) c.requires in
    omega arith

pub invariant_of-self : goal.invariant_of-self
invariant_of-self c =
    let more = logged_bytes-append c.self.inside.calls.items (logged.Written c.args.at (length c.args.piece.now) ∷ [])
    in
    let long = length-append c.self.inside.bytes.items c.args.piece.now in
    rw (c.push_reserved.ensures.items, c.in-Ok.ensures.items) (omega (arith, c.self.invariant))

pub returns-clause-changes : goal.returns-clause-changes
returns-clause-changes c =
    rw (c.push_reserved.ensures.items, c.in-Ok.ensures.items)
    (changes_after-written [] c.self.inside.calls.items c.self.inside.bytes.items c.args.at
    (length c.args.piece.now) c.args.piece.now c.self.invariant refl
    ∙ ap (λ (log : Log). written c.args.at c.args.piece.now ∷ log.changes) c.self.view_is)
