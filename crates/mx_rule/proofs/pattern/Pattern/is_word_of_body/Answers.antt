use Rattle.std.proofs.Common.{◌≡◌, ◌∙◌, ◌↔◌, ℕ, nat_lt, Bool, true, false, List, length, Option, IsSomeAnd, IsTrue, Ok}
use Rattle.std.proofs.Common.{Err, ap, if◌then◌else◌, subst, sym}
use Rattle.std.proofs.lemmas.Result.{IfOk-weaker}
use Rattle.mx_json.specs.Folded.{folded}
use Rattle.mx_glob.specs.FoldedPattern.{folded_pattern}
use Rattle.mx_glob.specs.Words.{WordMatches}
use Rattle.mx_glob.specs.declared.error.GlobError.TheVariants.{PatternTooLong}
use Rattle.mx_rule.specs.Rule.{IsWordOfBody}
use Rattle.mx_rule.proofs.pattern.Pattern.is_word_of_body.Goals as goal

glob-folded : (text glob : List ℕ) → folded_pattern text ≡ Ok glob → glob ≡ folded text
glob-folded text glob is = by (nat_lt 1024 (length text)) is
  where
    by : (b : Bool) → (if b then Err PatternTooLong else Ok (folded text)) ≡ Ok glob → glob ≡ folded text
    by true e = cc
    by false e = cc

pub returns : goal.returns
returns c =
    let pattern = c.args.self.now in
    let event = c.args.event.now in
    let body = c.in-Some.body.now in
    let kept : c.self.inside.glob ≡ folded pattern =
    glob-folded c.self.inside.text c.self.inside.glob c.self.invariant ∙ ap folded c.self.view_is in
    let matches : List ℕ → Type 0 = λ glob. WordMatches glob (folded body) in
    let has : Option (List ℕ) → Type 0 = λ found. IsSomeAnd found
    (λ body. WordMatches (folded pattern) (folded body)) in
    IfOk-weaker _ (λ is. IsTrue is ↔ WordMatches c.self.inside.glob (folded body))
    (λ is. IsTrue is ↔ IsWordOfBody pattern event)
    (λ is h. (
      λ yes. subst has c.in-Some.ensures (subst matches kept (h.0 yes)),
      λ told. h.1 (subst matches (sym kept) (subst has (sym c.in-Some.ensures) told)),
    )) c.word_of_text.ensures.matches
