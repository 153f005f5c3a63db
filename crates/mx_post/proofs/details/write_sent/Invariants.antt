use Rattle.std.proofs.Common.{◌≡◌, ◌++◌, true, drop}
use Rattle.mx_post.specs.Pieces.{sent_text}
use Rattle.mx_post.proofs.details.write_sent.Given as goal

abbrev pub invariant-loop-pair : goal.invariant-loop-pair
invariant-loop-pair l =
    l.out.items ++ sent_text l.first (drop l.pair-index l.pairs) ≡ l.initial.out.items ++ sent_text true l.pairs
