use Rattle.std.proofs.Common.{◌≡◌, ℕ, List, take, ap, ◌∙◌, subst, sym}
use Rattle.mx_glob.specs.Words.{WordMatches, HasWord}
use Rattle.mx_glob.proofs.NameLemmas.{WordMatches-name}
use Rattle.mx_glob.proofs.glob.Glob.word_in.Goals as goal

pub returns-then-self-clause-matches : goal.returns-then-self-clause-matches
returns-then-self-clause-matches c =
    let pattern = c.self.inside.pattern in
    let value = c.args.value.now in
    let family : List ℕ → Type 0 = λ p. WordMatches p value in
    let named : List ℕ → Type 0 = λ p. HasWord p value in
    let same = WordMatches-name pattern value (c.self.invariant.2 c.if-self.true) in
    let held : take c.len.result c.deref.result.now ≡ pattern = ap (take c.len.result) c.deref.ensures.value
    ∙ ap (λ n. take n c.hold.new.self.characters.items) c.len.ensures.len ∙ c.hold.ensures.held in (
      λ told. subst family c.self.view_is (same.1 (subst named held (c.has_word.ensures.word.0 told))),
      λ matched.
          c.has_word.ensures.word.1 (subst named (sym held) (same.0 (subst family (sym c.self.view_is) matched))),
    )
