use Rattle.std.proofs.Common.{◌≡◌, ◌∙◌, true, Ok, Err, refl, sym, inl, inr}
use Rattle.std.proofs.lemmas.Str.{is_utf8-from_IsUtf8}
use Rattle.mx_cond.specs.Condition.{is_condition, read_condition}
use Rattle.mx_defaults.proofs.RowLemmas.{condition_of-is, condition_of-valid}
use Rattle.mx_defaults.proofs.rules.read_condition.Goals as goal

pub read-requires : goal.read-requires
read-requires c = rw c.in_ok-json.ensures (condition_of-valid c.args.owner.now c.args.asked.now
    (is_utf8-from_IsUtf8 c.args.owner.now c.utf8.owner) c.requires)

pub unreachable-requires : goal.unreachable-requires
unreachable-requires c =
    let json = c.in_ok-json.json in
    let is : is_condition json ≡ true =
    rw c.in_ok-json.ensures (condition_of-is c.args.owner.now c.args.asked.now c.requires) in
    let read : read_condition json ≡ Ok json = rw is refl in
    elim c.in-Err-BadCondition.ensures [
      | inl e ↦ let f : Ok json ≡ Err c.in-Err-BadCondition.field-0 = sym read ∙ e in cc
      | inr e ↦ let f = c.in-Err-BadCondition.field-0-is in cc
    ]
