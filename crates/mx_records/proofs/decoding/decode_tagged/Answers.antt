use Rattle.std.proofs.Common.{◌∙◌, ap, sym, subst, Ok, rules, arith}
use Rattle.mx_records.specs.Entries.{IsPayloadOf}
use Rattle.mx_records.proofs.EntryLemmas.{no_entry, no_outcome, outcome-entry}
use Rattle.mx_records.proofs.decoding.decode_tagged.Goals as goal
use Rattle.mx_records.proofs.decoding.decode_tagged.Goals.{then-tag-lt-PUSHED_TAG-via-then-tag-lt-PUSHED_TAG}
use Rattle.mx_records.proofs.decoding.decode_tagged.Goals.{then-tag-lt-PUSHED_TAG-via-else-tag-lt-PUSHED_TAG+then-tag-gt-REJECTED_TAG}

pub returns-then-tag-lt-PUSHED_TAG-clause-one : goal.returns-then-tag-lt-PUSHED_TAG-clause-one
returns-then-tag-lt-PUSHED_TAG-clause-one c entry of =
    let here = subst (λ bytes. IsPayloadOf bytes entry) c.requires of in
    elim c.then-tag-lt-PUSHED_TAG.branch [
      | then-tag-lt-PUSHED_TAG-via-then-tag-lt-PUSHED_TAG w ↦
          absurd (no_entry c.args.tag c.args.rest.now entry
          (λ h. c.if-tag-eq-INPUT_TAG.false (omega (arith, w.if-tag-lt-PUSHED_TAG.true, h.0))) here)
      | then-tag-lt-PUSHED_TAG-via-else-tag-lt-PUSHED_TAG+then-tag-gt-REJECTED_TAG w ↦
          absurd
          (no_entry c.args.tag c.args.rest.now entry (λ h. omega (arith, w.if-tag-gt-REJECTED_TAG.true, h.1)) here)
    ]

pub returns-in-Some-clause-one : goal.returns-in-Some-clause-one
returns-in-Some-clause-one c entry of =
    ap Ok (outcome-entry c.args.payload.now entry c.in-Some.outcome (c.requires ∙ c.in-Some.ensures) (
      search rules,
      search rules,
    ) of)

pub returns-in-None-clause-one : goal.returns-in-None-clause-one
returns-in-None-clause-one c entry of =
    let here = subst (λ bytes. IsPayloadOf bytes entry) c.requires of in
    absurd (no_outcome c.args.tag c.args.rest.now entry (omega arith) c.in-None.ensures here)
