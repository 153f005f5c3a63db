use Rattle.std.proofs.Common.{◌≡◌, ◌≤◌, nat_le, true, [], ◌∷◌, ◌++◌, length, take, drop, count_by, length-drop}
use Rattle.std.proofs.Common.{length-take, sym, ap, ◌∙◌, arith}
use Rattle.std.proofs.lemmas.Bool.{cond-false, cond-true, le-leb, lt-leb}
use Rattle.std.proofs.lemmas.List.{take-append-drop}
use Rattle.std.proofs.lemmas.List.Sums.{count_by-le-length, length-filter}
use Rattle.mx_rows.specs.declared.row.Row.{Row}
use Rattle.mx_rows.specs.Rows.{are_in_range, counts_in, has_rows, is_rising, upto}
use Rattle.mx_blocks.specs.Block.{block_rows, packed_rows}
use Rattle.mx_blocks.specs.Kept.{are_alive, rows_of_parts}
use Rattle.mx_blocks.proofs.ThreadLemmas.{are_alive-push, has_rows-long, packed_same, rising_parts}
use Rattle.mx_blocks.proofs.thread_rows.ThreadRows.rotate.Goals as goal

-- how many hot rows are at or below `last`, as the call counts them
counted : (last n : _) (rows hot : _) → n ≡ count_by (λ (row : Row). nat_le row.position last) rows → rows ≡ hot
    → (length (upto last hot) ≡ n) × (n ≤ length hot)
counted last n rows hot is same =
    let filtered = length-filter (λ (row : Row). nat_le row.position last) hot in
    let here = is ∙ ap (count_by (λ (row : Row). nat_le row.position last)) same in
    let few = count_by-le-length (λ (row : Row). nat_le row.position last) hot in
    (omega arith, omega arith)

pub returns-then-rows_upto-lt-BLOCK_ROWS-clause-answer : goal.returns-then-rows_upto-lt-BLOCK_ROWS-clause-answer
returns-then-rows_upto-lt-BLOCK_ROWS-clause-answer c =
    let n =
    counted c.args.last c.rows_upto.result _ c.args.self.now.hot.items c.rows_upto.ensures c.deref.ensures.value in
    let few = c.if-rows_upto-lt-BLOCK_ROWS.true in
    sym (cond-false (nat_le 256 (length (upto c.args.last c.args.self.now.hot.items))) 256 0
    (lt-leb _ _ (omega (arith, n.0))))

pub returns-clause-answer : goal.returns-clause-answer
returns-clause-answer c =
    let n =
    counted c.args.last c.rows_upto.result _ c.args.self.now.hot.items c.rows_upto.ensures c.deref.ensures.value in
    let many = c.if-rows_upto-lt-BLOCK_ROWS.false in
    sym (cond-true (nat_le 256 (length (upto c.args.last c.args.self.now.hot.items))) 256 0
    (le-leb _ _ (omega (arith, n.0))))

pub pack-requires-clause-count : goal.pack-requires-clause-count
pack-requires-clause-count c =
    let n =
    counted c.args.last c.rows_upto.result _ c.args.self.now.hot.items c.rows_upto.ensures c.deref.ensures.value in
    let many = c.if-rows_upto-lt-BLOCK_ROWS.false in
    let first = c.first_rows.ensures ∙ ap (take 256) c.deref-2.ensures.value in
    let long : length c.first_rows.result.now ≡ 256
    = omega (arith, ap length first, length-take 256 c.args.self.now.hot.items, n.1) in
    long

pub pack-requires-clause-rising : goal.pack-requires-clause-rising
pack-requires-clause-rising c =
    let hot = c.args.self.now.hot.items in
    let first = c.first_rows.ensures ∙ ap (take 256) c.deref-2.ensures.value in
    let rising = (rising_parts (packed_rows c.args.self.now.blocks.items) hot c.args.self.now.rising).1 in
    ap is_rising first
    ∙ (rising_parts (take 256 hot) (drop 256 hot) (ap is_rising (take-append-drop 256 hot) ∙ rising)).0

pub invariant_of-self-2 : goal.invariant_of-self-2
invariant_of-self-2 c =
    let old = c.args.self.now in
    let hot = old.hot.items in
    let n = counted c.args.last c.rows_upto.result _ hot c.rows_upto.ensures c.deref.ensures.value in
    let many = c.if-rows_upto-lt-BLOCK_ROWS.false in
    let first = c.first_rows.ensures ∙ ap (take 256) c.deref-2.ensures.value in
    let block = c.in_ok-block.ensures.rows ∙ first in
    let rest = c.drop-drain.ensures.items ∙ c.drain.ensures.kept in
    let blocks = c.push_back_reserved.ensures.items
    ∙ ap (λ l. l ++ c.in_ok-block.block ∷ []) c.in_ok-reserve.ensures.items in
    let same = (λ i. rows_of_parts (blocks i) (rest i))
    ∙ packed_same old.blocks.items hot (take 256 hot) (drop 256 hot) c.in_ok-block.block
    (take-append-drop 256 hot) block in
    let some : has_rows (block_rows c.in_ok-block.block) ≡ true
    = ap has_rows block ∙ has_rows-long (take 256 hot) (let long = length-take 256 hot in omega (arith, n.1)) in
    record {
      rising = ap is_rising same ∙ old.rising;
      in_range = ap are_in_range same ∙ old.in_range;
      alive = ap are_alive blocks ∙ are_alive-push old.blocks.items c.in_ok-block.block old.alive some;
      counted = old.counted ∙ ap counts_in (sym same);
      fits = old.fits;
      capacity = λ reserved. let spare = old.capacity reserved in
          omega (
            arith,
            c.drop-drain.new.self.0.ok.0,
            old.hot.ok.0,
            ap length rest,
            length-drop 256 hot,
            c.drain.ensures.capacity,
            c.drop-drain.ensures.capacity,
          );
      countable = old.countable;
    }

pub returns-clause-rows : goal.returns-clause-rows
returns-clause-rows c =
    let old = c.args.self.now in
    let hot = old.hot.items in
    let first = c.first_rows.ensures ∙ ap (take 256) c.deref-2.ensures.value in
    let rest = c.drop-drain.ensures.items ∙ c.drain.ensures.kept in
    let blocks = c.push_back_reserved.ensures.items
    ∙ ap (λ l. l ++ c.in_ok-block.block ∷ []) c.in_ok-reserve.ensures.items in
    (λ i. rows_of_parts (blocks i) (rest i))
    ∙ packed_same old.blocks.items hot (take 256 hot) (drop 256 hot) c.in_ok-block.block (take-append-drop 256 hot)
    (c.in_ok-block.ensures.rows ∙ first)
