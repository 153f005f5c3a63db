use Rattle.mx_json.proofs.JsonLemmas.{is_valid-Text}
use Rattle.mx_post.proofs.pieces.write_text.Goals as goal

pub write_value-requires : goal.write_value-requires
write_value-requires c = rw c.in_ok-read.ensures (is_valid-Text c.args.text.now c.utf8.text)
