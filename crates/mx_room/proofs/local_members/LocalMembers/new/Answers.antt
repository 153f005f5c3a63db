use Rattle.std.proofs.Common.{sym, subst}
use Rattle.std.specs.List.{IsDistinct}
use Rattle.std.specs.Str.{bytes_eq}
use Rattle.mx_room.proofs.ListingLemmas.{distinct-none}
use Rattle.mx_room.proofs.local_members.LocalMembers.new.Goals as goal

pub invariant_of-result : goal.invariant_of-result
invariant_of-result c = subst (IsDistinct bytes_eq) (sym c.new.ensures.items) distinct-none
