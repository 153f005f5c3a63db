use Rattle.std.proofs.Common.{arith}
use Rattle.std.proofs.lemmas.Str.{encode_ascii}
use Rattle.mx_json.proofs.PathLemmas.{finish_waiting, finish_plain}
use Rattle.mx_json.proofs.path.PathReader.finish.Goals as goal
use Rattle.mx_json.proofs.path.PathReader.finish.Goals.{then-self+in_ok-push, else-self}

pub returns : goal.returns
returns c = elim c.if-self.branch [
  | then-self+in_ok-push w ↦ rw (
    c.in_ok-end_segment.ensures.ended,
    w.self-is,
    w.in_ok-push.ensures.bytes,
    encode_ascii 92 (omega arith),
    w.if-self.true,
  ) (finish_waiting _ _)
  | else-self w ↦ rw (c.in_ok-end_segment.ensures.ended, w.self-is, w.if-self.false) (finish_plain _ _)
]
