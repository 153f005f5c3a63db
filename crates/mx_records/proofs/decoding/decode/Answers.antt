use Rattle.mx_records.proofs.EntryLemmas.{nothing}
use Rattle.mx_records.proofs.decoding.decode.Goals as goal

pub returns-in-None-clause-one : goal.returns-in-None-clause-one
returns-in-None-clause-one c entry of = absurd (nothing c.args.payload.now entry c.in-None.ensures.cases of)
