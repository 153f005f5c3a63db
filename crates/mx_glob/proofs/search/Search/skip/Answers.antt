use Rattle.std.proofs.Common.{◌≡◌, ◌+◌, ◌%◌, ℕ, List, slice_index, ap, ◌∙◌, subst}
use Rattle.mx_glob.specs.Search.{NoneEnds}
use Rattle.mx_glob.proofs.SearchLemmas.{skip_rules_out}
use Rattle.mx_glob.proofs.search.Search.skip.Goals as goal

pub returns-clause-ruled_out : goal.returns-clause-ruled_out
returns-clause-ruled_out c =
    let steps : c.from.result ≡ slice_index c.self.inside.skips (c.args.here % 64) =
    c.from.ensures ∙ ap (slice_index c.self.inside.skips) c.class_of.ensures in
    λ text end at_end room.
    let family : List ℕ → Type 0 = λ name. NoneEnds text name (end + 1) (end + c.from.result) in
    subst family c.self.view_is (skip_rules_out text c.self.inside.name.now c.self.inside.skips end c.args.here
    c.from.result c.self.invariant.some c.self.invariant.skips_known at_end steps)
