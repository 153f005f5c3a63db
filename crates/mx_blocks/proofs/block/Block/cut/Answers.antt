use Rattle.std.proofs.Common.{◌≡◌, ◌-◌, length, count_by, sym, subst, ap, ◌∙◌, arith, length-append}
use Rattle.mx_rows.specs.declared.counts.Counts.{Counts}
use Rattle.mx_rows.specs.declared.row.Row.{Row}
use Rattle.mx_rows.specs.Rows.{above, counts_in, upto}
use Rattle.mx_blocks.specs.Block.{block_rows, Kept, packed_positions}
use Rattle.mx_blocks.specs.Differences.{differences, positions}
use Rattle.mx_blocks.specs.Inside.{kept_of}
use Rattle.mx_blocks.specs.Walk.{IsSplit}
use Rattle.mx_blocks.specs.declared.block.Block.TheInside.{Inside}
use Rattle.mx_blocks.proofs.BlockLemmas.{counts-split, cut_counts, cut_none-dropped, cut_none-rows, cut_rows, cut_start}
use Rattle.mx_blocks.proofs.block.Block.cut.Goals as goal

-- the walk over the bytes of a block is one over its positions
split_of : (block : Inside) (x passed next : _) (bytes : _) → bytes ≡ block.packed.items
    → IsSplit x passed next (positions block.first (differences bytes))
    → IsSplit x passed next (packed_positions (kept_of block))
split_of block x passed next bytes is split =
    subst (λ l. IsSplit x passed next (positions block.first (differences l))) is split

pub returns-then-stop-gone-clause-rows : goal.returns-then-stop-gone-clause-rows
returns-then-stop-gone-clause-rows c =
    let b = c.self.inside in
    let x = c.args.position in
    let split =
    split_of b x c.walk-stop.result.passed c.walk-stop.result.next _ c.deref.ensures.value c.walk-stop.ensures in
    subst (λ (kept : Kept). block_rows kept ≡ above x (block_rows kept)) c.self.view_is
    (cut_none-rows b.highlights x c.walk-stop.result.passed c.walk-stop.result.next b.gone
    (packed_positions (kept_of b)) split c.if-stop-gone.true)

pub returns-then-stop-gone-clause-dropped : goal.returns-then-stop-gone-clause-dropped
returns-then-stop-gone-clause-dropped c =
    let b = c.self.inside in
    let x = c.args.position in
    let split =
    split_of b x c.walk-stop.result.passed c.walk-stop.result.next _ c.deref.ensures.value c.walk-stop.ensures in
    ap counts_in (sym (cut_none-dropped b.highlights x c.walk-stop.result.passed c.walk-stop.result.next b.gone
    (packed_positions (kept_of b)) split c.if-stop-gone.true))
    ∙ ap (λ (kept : Kept). counts_in (upto x (block_rows kept))) c.self.view_is

pub minus-self-inside-requires-clause-notify : goal.minus-self-inside-requires-clause-notify
minus-self-inside-requires-clause-notify c =
    let b = c.self.inside in
    let x = c.args.position in
    let split =
    split_of b x c.walk-stop.result.passed c.walk-stop.result.next _ c.deref.ensures.value c.walk-stop.ensures in
    let dropped = ap (λ (counts : Counts). counts.notify) (cut_counts b.highlights x c.walk-stop.result.passed
    c.walk-stop.result.next b.gone (packed_positions (kept_of b)) split (omega arith)) in
    let sums = ap (λ (counts : Counts). counts.notify) c.self.invariant.sums in
    let all = (counts-split x (block_rows (kept_of b))).0 in
    omega arith

pub minus-self-inside-requires-clause-highlight : goal.minus-self-inside-requires-clause-highlight
minus-self-inside-requires-clause-highlight c =
    let b = c.self.inside in
    let x = c.args.position in
    let split =
    split_of b x c.walk-stop.result.passed c.walk-stop.result.next _ c.deref.ensures.value c.walk-stop.ensures in
    let dropped = ap (λ (counts : Counts). counts.highlight) (cut_counts b.highlights x c.walk-stop.result.passed
    c.walk-stop.result.next b.gone (packed_positions (kept_of b)) split (omega arith)) in
    let sums = ap (λ (counts : Counts). counts.highlight) c.self.invariant.sums in
    let all = (counts-split x (block_rows (kept_of b))).1 in
    let marked = c.count_marked.ensures in
    omega arith

pub invariant_of-self : goal.invariant_of-self
invariant_of-self c =
    let b = c.self.inside in
    let x = c.args.position in
    let passed = c.walk-stop.result.passed in
    let ps = packed_positions (kept_of b) in
    let split = split_of b x passed c.walk-stop.result.next _ c.deref.ensures.value c.walk-stop.ensures in
    let left = cut_rows b.highlights x passed c.walk-stop.result.next b.gone ps split (omega arith) in
    let dropped = cut_counts b.highlights x passed c.walk-stop.result.next b.gone ps split (omega arith) in
    let all = counts-split x (block_rows (kept_of b)) in
    let marked = c.count_marked.ensures in
    record {
      packed = c.self.invariant.packed;
      count = c.self.invariant.count;
      last = c.self.invariant.last;
      small = c.self.invariant.small;
      gone = let count = c.self.invariant.count in let parts = ap length split.parts in
          omega (arith, length-append split.done split.rest, split.count);
      sums = (λ i. record {
        notify = (let notify : c.minus-self-inside.result.notify ≡ length (above x (block_rows (kept_of b)))
            = omega (
              arith,
              all.0,
              c.minus-self-inside.ensures.notify,
              ap (λ (n : Counts). n.notify) dropped,
              ap (λ (n : Counts). n.notify) c.self.invariant.sums,
            ) in notify) i;
        highlight = (let highlight : c.minus-self-inside.result.highlight
            ≡ count_by (λ (row : Row). row.highlight) (above x (block_rows (kept_of b)))
            = omega (
              arith,
              all.1,
              c.minus-self-inside.ensures.highlight,
              marked,
              ap (λ (n : Counts). n.highlight) dropped,
              ap (λ (n : Counts). n.highlight) c.self.invariant.sums,
            ) in highlight) i;
      }) ∙ ap counts_in left;
      start = cut_start b.highlights x passed c.walk-stop.result.next b.gone ps split;
    }

pub returns-clause-rows : goal.returns-clause-rows
returns-clause-rows c =
    let b = c.self.inside in
    let x = c.args.position in
    let split =
    split_of b x c.walk-stop.result.passed c.walk-stop.result.next _ c.deref.ensures.value c.walk-stop.ensures in
    sym (cut_rows b.highlights x c.walk-stop.result.passed c.walk-stop.result.next b.gone (packed_positions (kept_of b))
    split (omega arith))
    ∙ ap (λ (kept : Kept). above x (block_rows kept)) c.self.view_is

pub returns-clause-dropped : goal.returns-clause-dropped
returns-clause-dropped c =
    let b = c.self.inside in
    let x = c.args.position in
    let split =
    split_of b x c.walk-stop.result.passed c.walk-stop.result.next _ c.deref.ensures.value c.walk-stop.ensures in
    (λ i. record { notify = c.walk-stop.result.passed - b.gone; highlight = c.count_marked.ensures i })
    ∙ sym (cut_counts b.highlights x c.walk-stop.result.passed c.walk-stop.result.next b.gone
    (packed_positions (kept_of b)) split (omega arith))
    ∙ ap (λ (kept : Kept). counts_in (upto x (block_rows kept))) c.self.view_is
