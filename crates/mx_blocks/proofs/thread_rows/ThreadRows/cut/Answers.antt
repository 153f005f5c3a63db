use Rattle.std.proofs.Common.{◌≡◌, ◌+◌, ◌++◌, length, count_by, nat_lt, length-append, sym, ap, ◌∙◌, arith, rules}
use Rattle.std.proofs.lemmas.Fn.{filter_same}
use Rattle.std.proofs.lemmas.List.Elements.{filter-append}
use Rattle.std.proofs.lemmas.List.Sums.{count_by-le-length}
use Rattle.mx_rows.specs.declared.counts.Counts.{Counts}
use Rattle.mx_rows.specs.declared.row.Row.{Row}
use Rattle.mx_rows.specs.Rows.{above, are_in_range, counts_in, is_rising, upto}
use Rattle.mx_rows.proofs.RowLemmas.{is_rising-above, list_all-filter}
use Rattle.mx_blocks.specs.Block.{packed_rows}
use Rattle.mx_blocks.specs.Kept.{rows_of_parts}
use Rattle.mx_blocks.proofs.ThreadLemmas.{both-highlight, both-notify, rising_parts}
use Rattle.mx_blocks.proofs.thread_rows.ThreadRows.cut.Goals as goal

pub cut_blocks-packed-requires-clause-rising : goal.cut_blocks-packed-requires-clause-rising
cut_blocks-packed-requires-clause-rising c =
    (rising_parts (packed_rows c.args.self.now.blocks.items) c.args.self.now.hot.items c.args.self.now.rising).0

pub cut_blocks-packed-requires-clause-few : goal.cut_blocks-packed-requires-clause-few
cut_blocks-packed-requires-clause-few c =
    let all = ap (λ (n : Counts). n.notify) c.args.self.now.counted in
    let long = length-append (packed_rows c.args.self.now.blocks.items) c.args.self.now.hot.items in
    let fits = c.args.self.now.fits in
    omega arith

-- what the two parts drop, and what is left
both : (p : _) (xs ys hot : _) (packed upto_hot : Counts) → packed ≡ counts_in (upto p xs) → upto_hot
    ≡ counts_in (upto p hot)
    → hot ≡ ys
    → (packed.notify + upto_hot.notify + length (above p (xs ++ ys)) ≡ length (xs ++ ys))
    × (packed.highlight + upto_hot.highlight + count_by (λ (row : Row). row.highlight) (above p (xs ++ ys))
    ≡ count_by (λ (row : Row). row.highlight) (xs ++ ys))
both p xs ys hot packed upto_hot is_packed is_hot same =
    let hot_is = is_hot ∙ ap (λ l. counts_in (upto p l)) same in (
      omega (arith, both-notify p xs ys, ap (λ (n : Counts). n.notify) is_packed, ap (λ (n : Counts). n.notify) hot_is),
      omega (
        arith,
        both-highlight p xs ys,
        ap (λ (n : Counts). n.highlight) is_packed,
        ap (λ (n : Counts). n.highlight) hot_is,
      ),
    )

pub plus-dropped-requires-clause-notify : goal.plus-dropped-requires-clause-notify
plus-dropped-requires-clause-notify c =
    let old = c.args.self.now in
    let all = both c.args.position (packed_rows old.blocks.items) old.hot.items _ c.cut_blocks-packed.result
    c.counts_upto.result c.cut_blocks-packed.ensures.dropped c.counts_upto.ensures c.deref.ensures.value in
    let counted = ap (λ (n : Counts). n.notify) old.counted in
    let fits = old.fits in
    omega (arith, all.0)

pub plus-dropped-requires-clause-highlight : goal.plus-dropped-requires-clause-highlight
plus-dropped-requires-clause-highlight c =
    let old = c.args.self.now in
    let all = both c.args.position (packed_rows old.blocks.items) old.hot.items _ c.cut_blocks-packed.result
    c.counts_upto.result c.cut_blocks-packed.ensures.dropped c.counts_upto.ensures c.deref.ensures.value in
    let long = ap (λ (n : Counts). n.notify) old.counted in
    let fits = old.fits in
    omega (
      arith,
      all.1,
      count_by-le-length (λ (row : Row). row.highlight) (rows_of_parts old.blocks.items old.hot.items),
    )

pub minus-self-requires-clause-notify : goal.minus-self-requires-clause-notify
minus-self-requires-clause-notify c =
    let old = c.args.self.now in
    let all = both c.args.position (packed_rows old.blocks.items) old.hot.items _ c.cut_blocks-packed.result
    c.counts_upto.result c.cut_blocks-packed.ensures.dropped c.counts_upto.ensures c.deref.ensures.value in
    let counted = ap (λ (n : Counts). n.notify) old.counted in
    let sum = c.plus-dropped.ensures.notify in
    omega (arith, all.0)

pub minus-self-requires-clause-highlight : goal.minus-self-requires-clause-highlight
minus-self-requires-clause-highlight c =
    let old = c.args.self.now in
    let all = both c.args.position (packed_rows old.blocks.items) old.hot.items _ c.cut_blocks-packed.result
    c.counts_upto.result c.cut_blocks-packed.ensures.dropped c.counts_upto.ensures c.deref.ensures.value in
    let counted = ap (λ (n : Counts). n.highlight) old.counted in
    let sum = c.plus-dropped.ensures.highlight in
    omega (arith, all.1)

pub invariant_of-self : goal.invariant_of-self
invariant_of-self c =
    let old = c.args.self.now in
    let p = c.args.position in
    let rows = rows_of_parts old.blocks.items old.hot.items in
    let hot : c.retain.new.self.items ≡ above p old.hot.items
    = filter_same _ _ _ (λ x b f' k. search rules) _ _ c.retain.ensures.filtered in
    let left : rows_of_parts c.cut_blocks-packed.new.blocks.items c.retain.new.self.items ≡ above p rows
    = (λ i. c.cut_blocks-packed.ensures.rows i ++ hot i)
    ∙ sym (filter-append (λ (row : Row). nat_lt p row.position) (packed_rows old.blocks.items) old.hot.items) in
    let all = both p (packed_rows old.blocks.items) old.hot.items _ c.cut_blocks-packed.result
    c.counts_upto.result c.cut_blocks-packed.ensures.dropped c.counts_upto.ensures c.deref.ensures.value in
    let notify : c.minus-self.result.notify ≡ length (above p rows)
    = omega (
      arith,
      all.0,
      c.plus-dropped.ensures.notify,
      c.minus-self.ensures.notify,
      ap (λ (n : Counts). n.notify) old.counted,
    ) in
    let highlight : c.minus-self.result.highlight ≡ count_by (λ (row : Row). row.highlight) (above p rows)
    = omega (
      arith,
      all.1,
      c.plus-dropped.ensures.highlight,
      c.minus-self.ensures.highlight,
      ap (λ (n : Counts). n.highlight) old.counted,
    ) in
    record {
      rising = ap is_rising left ∙ is_rising-above p rows old.rising;
      in_range = ap are_in_range left ∙ list_all-filter _ _ rows old.in_range;
      alive = c.cut_blocks-packed.ensures.alive;
      counted = (λ i. record { notify = notify i; highlight = highlight i }) ∙ ap counts_in (sym left);
      fits = let fits = old.fits in omega (arith, c.minus-self.ensures.notify);
      capacity = λ reserved. let spare = old.capacity reserved in omega arith;
      countable = λ reserved. let countable = old.countable reserved in let fewer
          = c.minus-self.ensures.notify in omega arith;
    }

pub returns-clause-rows : goal.returns-clause-rows
returns-clause-rows c =
    let old = c.args.self.now in
    let hot : c.retain.new.self.items ≡ above c.args.position old.hot.items
    = filter_same _ _ _ (λ x b f' k. search rules) _ _ c.retain.ensures.filtered in
    (λ i. c.cut_blocks-packed.ensures.rows i ++ hot i)
    ∙ sym (filter-append (λ (row : Row). nat_lt c.args.position row.position)
    (packed_rows old.blocks.items) old.hot.items)

pub returns-clause-hot : goal.returns-clause-hot
returns-clause-hot c = filter_same _ _ _ (λ x b f' k. search rules) _ _ c.retain.ensures.filtered
