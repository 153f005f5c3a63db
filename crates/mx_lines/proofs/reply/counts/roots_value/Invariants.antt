use Rattle.std.proofs.Common.{◌≡◌, ◌++◌, All, map}
use Rattle.mx_lines.specs.Replies.{root_member}
use Rattle.mx_lines.specs.Roots.{MayStand, roots_in}
use Rattle.mx_lines.proofs.RootsLemmas.{told}
use Rattle.mx_lines.proofs.reply.counts.roots_value.Given as goal

abbrev pub invariant-loop-root : goal.invariant-loop-root
invariant-loop-root l = record {
  members : l.members.pairs ++ map root_member (told l.root-iterator) ≡ map root_member (roots_in l.roots);
  may_stand : All MayStand (told l.root-iterator);
}
