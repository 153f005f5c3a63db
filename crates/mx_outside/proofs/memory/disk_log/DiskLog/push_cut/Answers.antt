-- There is memory for the call, and it is one more change.
use Rattle.std.proofs.Common.{◌∷◌, [], ap, ◌∙◌, arith}
use Rattle.mx_outside.specs.DiskLog.{Log}
use Rattle.mx_outside.specs.Changes.Change.{cut_to}
use Rattle.mx_outside.specs.declared.memory.disk_log.Logged.TheVariants as logged
use Rattle.mx_outside.proofs.Logged.{covered_fits, changes_after-cut, logged_bytes-append}
use Rattle.mx_outside.proofs.memory.disk_log.DiskLog.push_cut.Goals as goal

pub push_reserved-requires : goal.push_reserved-requires
push_reserved-requires c =
    let fits = covered_fits c.self.inside.calls.items c.self.inside.bytes.items _ _ 0 c.args.self.now c.self.view_is
    c.self.invariant (omega arith) c.requires in
    omega arith

pub invariant_of-self : goal.invariant_of-self
invariant_of-self c =
    let more = logged_bytes-append c.self.inside.calls.items (logged.Cut c.args.to ∷ []) in
    rw c.push_reserved.ensures.items (omega (arith, c.self.invariant))

pub returns-clause-changes : goal.returns-clause-changes
returns-clause-changes c =
    rw c.push_reserved.ensures.items (changes_after-cut [] c.self.inside.calls.items c.self.inside.bytes.items
    c.args.to ∙ ap (λ (log : Log). cut_to c.args.to ∷ log.changes) c.self.view_is)
