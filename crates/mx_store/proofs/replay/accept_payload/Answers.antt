-- The input of an entry that was read is one that its object stands for; what isn't accepted is no
-- payload of an entry that may come next.
use Rattle.std.proofs.Common.{subst}
use Rattle.mx_records.specs.Entries.{IsEntry}
use Rattle.mx_store.proofs.Normals.{valid_input}
use Rattle.mx_store.proofs.Refused.{no_built_payload, no_payload, refused_payload}
use Rattle.mx_store.proofs.replay.accept_payload.Goals as goal

pub prepare-requires-clause-valid : goal.prepare-requires-clause-valid
prepare-requires-clause-valid g c =
    valid_input c.in-Some.input (subst IsEntry c.in-Some.ensures.0 c.in-Ok.ensures.payload.entry_is)

pub returns-in-Err-BadEntry-clause-not_a_journal :
    goal.returns-in-Err-BadEntry-clause-not_a_journal
returns-in-Err-BadEntry-clause-not_a_journal g c = λ h offset knows is. (
  cc,
  no_payload c.args.engine.now.server h c.args.payload.now c.in-Err-BadEntry.field-0 c.in-Err-BadEntry.field-0-0
      knows.valid c.in-Err-BadEntry.field-0-is c.in-Err-BadEntry.ensures.one,
)

pub returns-in_default-clause-not_a_journal : goal.returns-in_default-clause-not_a_journal
returns-in_default-clause-not_a_journal g c = λ h offset knows is. (
  cc,
  no_built_payload c.args.engine.now.server h c.args.payload.now c.in-Ok.entry knows.valid c.in_default.ensures
      c.in-Ok.ensures.one,
)

pub returns-in-Err-Refused-clause-not_a_journal : goal.returns-in-Err-Refused-clause-not_a_journal
returns-in-Err-Refused-clause-not_a_journal g c = λ h offset knows is. (
  cc,
  refused_payload c.args.engine.now.server h c.args.payload.now c.in-Ok.entry c.in-Some.input
      c.in-Err-Refused.field-0 c.in-Err-Refused.field-0-0 knows.valid c.in-Some.ensures.0
      c.in-Err-Refused.field-0-is (c.in-Err-Refused.ensures.exact h knows.is) c.in-Ok.ensures.one,
)
