use Rattle.std.proofs.Common.{◌∙◌, ℕ, List, Option, IfSome, map, ap, sym, subst}
use Rattle.std.specs.Char.{to_ascii_lowercase}
use Rattle.mx_json.specs.Folded.{folded}
use Rattle.mx_glob.specs.Glob.{Matches}
use Rattle.mx_cond.specs.Pattern.{Spells}
use Rattle.mx_cond.proofs.PatternLemmas.{matches_spelled}
use Rattle.mx_cond.proofs.text_pattern.TextPattern.is_whole.Goals as goal

pub returns : goal.returns
returns c =
    let text = c.args.text.now in
    let pattern = c.self.inside.glob in
    let kept : Option (List ℕ) → Type 0 = λ spelled. IfSome spelled (λ text. Spells text pattern) in
    let spells : Spells c.in-Some.spelled pattern = subst kept c.in-Some.is c.self.invariant in
    let same = matches_spelled pattern c.in-Some.spelled text spells (c.is_ascii.ensures c.if-not-is_ascii.false) in
    let named = c.as_str.ensures in
    let lower : List ℕ → List ℕ = map to_ascii_lowercase in
    let of_glob : List ℕ → Type 0 = λ p. Matches p (folded text) in
    let test = c.is_same.ensures in (
      λ yes. subst of_glob c.self.view_is (same.0 (test.0 yes ∙ ap lower named)),
      λ matched. test.1 (same.1 (subst of_glob (sym c.self.view_is) matched) ∙ ap lower (sym named)),
    )
