use Rattle.mx_records.proofs.ReadLemmas.{gives-normal}
use Rattle.mx_records.proofs.input.Input.from_json.Goals as goal

pub returns-clause-normal : goal.returns-clause-normal
returns-clause-normal c = gives-normal c.args.json _ c.requires c.read_by_word.ensures.input
