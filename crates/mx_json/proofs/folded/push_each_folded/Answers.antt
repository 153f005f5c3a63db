use Rattle.std.proofs.Common.{◌++◌, sym, ap, ◌∙◌}
use Rattle.std.proofs.lemmas.Str.{IsUtf8-past_char}
use Rattle.std.specs.Str.Iter.{chars_rest}
use Rattle.mx_json.specs.Folded.{folded}
use Rattle.mx_json.proofs.FoldedLemmas.{folded-past_char, folded-ended}
use Rattle.mx_json.proofs.folded.push_each_folded.Goals as goal

pub loop-character-preserved : goal.loop-character-preserved
loop-character-preserved c =
    let held = c.loop-character.invariant in
    let text = chars_rest c.loop-character.character-iterator in
    let rest = chars_rest c.next.new.self in
    let is = c.in-Some.ensures.steps.0 in (
      IsUtf8-past_char text rest c.in-Some.character held.0 is,
      ap (λ s. s ++ folded rest) c.in_ok-push_one_folded.ensures
          ∙ folded-past_char c.loop-character.characters.items text rest c.in-Some.character held.0 is ∙ held.1,
    )

pub returns : goal.returns
returns c =
    let held = c.loop-character.invariant in
    let rest = chars_rest c.loop-character.character-iterator in
    sym (folded-ended c.loop-character.characters.items rest c.in-None.ensures.steps.0.0) ∙ held.1
