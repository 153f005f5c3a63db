use Rattle.std.proofs.Common.{◌∙◌, sym, arith}
use Rattle.mx_glob.specs.Leads.{IsWordPlace}
use Rattle.mx_glob.proofs.LeadsLemmas.{character_before-next, none_below_next}
use Rattle.mx_glob.proofs.word.find_at_each.Goals as goal

pub loop-here-preserved : goal.loop-here-preserved
loop-here-preserved c =
    let fails : IsWordPlace c.args.value.now c.args.segment.now c.args.whole c.loop-here.place → ⊥ =
    λ here. absurd (let yes = c.is_word_place.ensures.serves.1 here in cc) in (
      c.at-here.ensures.character ∙ sym (character_before-next c.args.value.now c.loop-here.place),
      (omega arith, omega arith),
      (λ j low. none_below_next (IsWordPlace c.args.value.now c.args.segment.now c.args.whole) c.loop-here.place
          (λ k below. c.loop-here.invariant.2 k (omega arith) below) fails j),
      omega arith,
    )
