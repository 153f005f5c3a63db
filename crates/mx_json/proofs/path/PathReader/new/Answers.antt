use Rattle.mx_json.proofs.PathLemmas.{in_front-nil}
use Rattle.mx_json.proofs.path.PathReader.new.Goals as goal
use Rattle.std.proofs.Common.{false}

pub returns : goal.returns
returns c = λ rest. rw (c.new.ensures, c.new-2.ensures.bytes) (in_front-nil false rest)
