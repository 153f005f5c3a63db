use Rattle.std.proofs.Common.{◌≡◌, true, false, sym, subst, ap, ◌∙◌}
use Rattle.mx_rows.specs.Rows.{above, counts_in, is_rising, upto}
use Rattle.mx_blocks.specs.Block.{block_rows, packed_rows}
use Rattle.mx_blocks.specs.Kept.{are_alive, first_ends_upto}
use Rattle.mx_blocks.proofs.ThreadLemmas.{first-alive, first-rows, first-upto, rising_parts}
use Rattle.mx_blocks.proofs.block_list.cut_first.Goals as goal

pub cut_block-dropped-requires : goal.cut_block-dropped-requires
cut_block-dropped-requires c =
    (rising_parts (block_rows c.in-Some.block) (packed_rows c.pop_front.new.self.items)
    (subst (λ l. is_rising (packed_rows l) ≡ true) c.in-Some.ensures.items c.requires.rising)).0

pub returns-clause-rows : goal.returns-clause-rows
returns-clause-rows c =
    let b = c.in-Some.block in
    let bs = c.pop_front.new.self.items in
    let was = c.in-Some.ensures.items in
    ap packed_rows c.push_front_reserved.ensures.items
    ∙ first-rows c.args.position b c.cut_block-dropped.new.block bs
    (subst (λ l. is_rising (packed_rows l) ≡ true) was c.requires.rising)
    (subst (λ l. are_alive l ≡ true) was c.requires.alive)
    (subst (λ l. first_ends_upto c.args.position l ≡ false) was c.requires.over) c.cut_block-dropped.ensures.rows
    ∙ ap (λ l. above c.args.position (packed_rows l)) (sym was)

pub returns-clause-dropped : goal.returns-clause-dropped
returns-clause-dropped c =
    let b = c.in-Some.block in
    let bs = c.pop_front.new.self.items in
    let was = c.in-Some.ensures.items in
    c.cut_block-dropped.ensures.dropped
    ∙ ap counts_in (first-upto c.args.position b c.cut_block-dropped.new.block bs
    (subst (λ l. is_rising (packed_rows l) ≡ true) was c.requires.rising)
    (subst (λ l. are_alive l ≡ true) was c.requires.alive)
    (subst (λ l. first_ends_upto c.args.position l ≡ false) was c.requires.over) c.cut_block-dropped.ensures.rows)
    ∙ ap (λ l. counts_in (upto c.args.position (packed_rows l))) (sym was)

pub returns-clause-alive : goal.returns-clause-alive
returns-clause-alive c =
    let b = c.in-Some.block in
    let bs = c.pop_front.new.self.items in
    let was = c.in-Some.ensures.items in
    ap are_alive c.push_front_reserved.ensures.items
    ∙ first-alive c.args.position b c.cut_block-dropped.new.block bs
    (subst (λ l. is_rising (packed_rows l) ≡ true) was c.requires.rising)
    (subst (λ l. are_alive l ≡ true) was c.requires.alive)
    (subst (λ l. first_ends_upto c.args.position l ≡ false) was c.requires.over) c.cut_block-dropped.ensures.rows
