use Rattle.std.proofs.Common.{ℕ, List, subst, sym}
use Rattle.mx_glob.specs.Glob.{Matches}
use Rattle.mx_glob.proofs.NameLemmas.{literal_matches, matches_itself}
use Rattle.mx_glob.proofs.glob.Glob.whole_in.Goals as goal

pub returns-then-self-clause-matches : goal.returns-then-self-clause-matches
returns-then-self-clause-matches c =
    let pattern = c.self.inside.pattern in
    let value = c.args.value.now in
    let family : List ℕ → Type 0 = λ p. Matches p value in
    let literal = c.self.invariant.1 c.if-self.true in (
      λ yes. subst family c.self.view_is
          (subst (Matches pattern) (sym (c.equals.ensures.equal.0 yes)) (matches_itself pattern literal)),
      λ matched.
          c.equals.ensures.equal.1 (literal_matches pattern value literal (subst family (sym c.self.view_is) matched)),
    )
