use Rattle.std.proofs.Common.{◌≡◌, ◌∙◌, Bool, true, false, ap, sym, Ok}
use Rattle.mx_records.proofs.EntryLemmas.{spelled-entry, unspelled}
use Rattle.mx_records.proofs.decoding.decode_input.Goals as goal

pub returns-in_default-clause-one : goal.returns-in_default-clause-one
returns-in_default-clause-one c entry of =
    absurd (unspelled _ _ entry c.requires of (sym c.in_default.is ∙ c.in_ok-input.ensures.input))

pub returns-then-branch-clause-one : goal.returns-then-branch-clause-one
returns-then-branch-clause-one c entry of =
    ap Ok (spelled-entry _ _ entry c.in-Some.input c.requires of (sym c.in-Some.is ∙ c.in_ok-input.ensures.input)).0

not-both : (b : Bool) → b ≡ true → b ≡ false → ⊥
not-both b is isnt = absurd cc

pub returns-else-branch-clause-one : goal.returns-else-branch-clause-one
returns-else-branch-clause-one c entry of =
    let whole =
    (spelled-entry _ _ entry c.in-Some.input c.requires of (sym c.in-Some.is ∙ c.in_ok-input.ensures.input)).1 in
    absurd (not-both _ (c.in_ok-is_payload.ensures.1 whole) c.if-branch.false)
