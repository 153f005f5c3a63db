use Rattle.std.proofs.Common.{◌≡◌, true, sym, subst, ◌∙◌, arith}
use Rattle.std.proofs.lemmas.Bool.{leb-true}
use Rattle.mx_blocks.specs.Kept.{first_ends_upto}
use Rattle.mx_blocks.proofs.ThreadLemmas.{DropsOn, DropsOn-fits, DropsOn-more}
use Rattle.mx_blocks.proofs.block_list.drop_whole.Goals as goal

pub plus-dropped-requires-clause-notify : goal.plus-dropped-requires-clause-notify
plus-dropped-requires-clause-notify c =
    let p = c.args.position in
    let was = c.in-Some.ensures.items in
    let ends = leb-true _ _
    (subst (λ l. first_ends_upto p l ≡ true) was (sym c.ends_upto.ensures ∙ c.loop-blocks-test.true)) in
    let fits = DropsOn-fits p c.args.blocks.now.items c.in-Some.block c.pop_front.new.self.items c.loop-blocks.dropped
    c.sums.result (subst (λ l. DropsOn p c.args.blocks.now.items l c.loop-blocks.dropped) was c.loop-blocks.invariant)
    ends c.sums.ensures.rows in
    let few = c.requires.few in
    omega (arith, fits.0)

pub plus-dropped-requires-clause-highlight : goal.plus-dropped-requires-clause-highlight
plus-dropped-requires-clause-highlight c =
    let p = c.args.position in
    let was = c.in-Some.ensures.items in
    let ends = leb-true _ _
    (subst (λ l. first_ends_upto p l ≡ true) was (sym c.ends_upto.ensures ∙ c.loop-blocks-test.true)) in
    let fits = DropsOn-fits p c.args.blocks.now.items c.in-Some.block c.pop_front.new.self.items c.loop-blocks.dropped
    c.sums.result (subst (λ l. DropsOn p c.args.blocks.now.items l c.loop-blocks.dropped) was c.loop-blocks.invariant)
    ends c.sums.ensures.rows in
    let few = c.requires.few in
    omega (arith, fits.1)

pub loop-blocks-preserved-in-Some : goal.loop-blocks-preserved-in-Some
loop-blocks-preserved-in-Some c =
    let p = c.args.position in
    let was = c.in-Some.ensures.items in
    let ends = leb-true _ _
    (subst (λ l. first_ends_upto p l ≡ true) was (sym c.ends_upto.ensures ∙ c.loop-blocks-test.true)) in
    DropsOn-more p c.args.blocks.now.items c.in-Some.block c.pop_front.new.self.items c.loop-blocks.dropped
    c.sums.result c.plus-dropped.result
    (subst (λ l. DropsOn p c.args.blocks.now.items l c.loop-blocks.dropped) was c.loop-blocks.invariant)
    ends c.sums.ensures.rows c.plus-dropped.ensures.notify c.plus-dropped.ensures.highlight
