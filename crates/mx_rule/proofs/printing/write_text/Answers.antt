use Rattle.mx_json.proofs.JsonLemmas.{is_valid-Text}
use Rattle.mx_rule.proofs.printing.write_text.Goals as goal

pub canonical_into-requires : goal.canonical_into-requires
canonical_into-requires c = rw c.in_ok-read.ensures (is_valid-Text c.args.text.now c.utf8.text)
