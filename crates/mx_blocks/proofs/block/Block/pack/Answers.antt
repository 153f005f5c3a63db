use Rattle.std.proofs.Common.{◌-◌, false, length, get_or, sym, ap, ◌∙◌, arith}
use Rattle.std.proofs.lemmas.List.{length-map}
use Rattle.mx_rows.specs.declared.row.Row.{Row}
use Rattle.mx_rows.specs.Rows.{counts_in, start_of}
use Rattle.mx_blocks.specs.Block.{mark_at, rows_from}
use Rattle.mx_blocks.proofs.PackLemmas.{rows_same, start_at_first}
use Rattle.mx_blocks.proofs.block.Block.pack.Goals as goal

abbrev none : Row
none = record { position = 0; highlight = false }

pub invariant_of-result : goal.invariant_of-result
invariant_of-result c =
    let rows = c.args.rows.now in
    let m = c.highlights_of.result in
    let reads = c.in_ok-packed.ensures.reads none in
    let is = ap (rows_from m 0) reads
    ∙ rows_same m 0 rows (λ j d within. ap (mark_at m) (omega arith) ∙ c.highlights_of.ensures j d within) in
    record {
      packed = c.in_ok-packed.ensures.packed;
      count = ap length reads ∙ length-map rows (λ (row : Row). row.position) ∙ c.requires.count;
      last = c.in_ok-packed.ensures.last none ∙ ap (λ n. (get_or rows (n - 1) none).position) c.requires.count
          ∙ sym c.position_of-last.ensures;
      small = omega arith;
      gone = omega arith;
      sums = c.counts_of.ensures ∙ ap counts_in (sym is);
      start = c.from.ensures ∙ start_at_first rows none (let count = c.requires.count in omega arith)
          ∙ ap start_of (sym is);
    }

pub returns-clause-rows : goal.returns-clause-rows
returns-clause-rows c =
    let rows = c.args.rows.now in
    let m = c.highlights_of.result in
    ap (rows_from m 0) (c.in_ok-packed.ensures.reads none)
    ∙ rows_same m 0 rows (λ j d within. ap (mark_at m) (omega arith) ∙ c.highlights_of.ensures j d within)
