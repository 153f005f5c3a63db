use Rattle.std.proofs.Common.{◌↔◌, ◌∙◌, Bool, sym, subst, IfSome, IsAscii, IsTrue}
use Rattle.std.proofs.lemmas.Result.{IfOk-weaker}
use Rattle.mx_json.specs.Folded.{folded}
use Rattle.mx_glob.specs.Words.{WordMatches}
use Rattle.mx_cond.specs.Holds.{HasText, MatchesAt}
use Rattle.mx_cond.proofs.TextLemmas.{HasText-body}
use Rattle.mx_cond.proofs.wanted.text_matches.Goals as goal

pub returns-then-is_body : goal.returns-then-is_body
returns-then-is_body c =
    let path = c.args.path.now in
    let event = c.args.event.now in
    let pattern = c.args.pattern.now in
    let text = c.in-Some.text.now in
    let at = sym c.is_body.ensures ∙ c.if-is_body.true in
    let same = HasText-body path event pattern text (c.in-Some.ensures {u = tt}) at in
    let word : Bool → Type 0 = λ m. IsTrue m ↔ WordMatches pattern (folded text) in
    let has : Bool → Type 0 = λ m. IsTrue m ↔ HasText path event (MatchesAt path pattern) in
    let told : (m : Bool) → word m → has m = λ m h. (λ yes. same.0 (h.0 yes), λ is. h.1 (same.1 is)) in
    IfOk-weaker _ word has told c.is_word_of.ensures

pub is_whole-requires : goal.is_whole-requires
is_whole-requires c =
    λ yes. subst (λ found. IfSome found (λ t. IsAscii t)) (sym (c.in-Some.ensures {u = tt})) (c.is_ascii.ensures yes)
