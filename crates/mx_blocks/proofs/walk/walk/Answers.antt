use Rattle.std.proofs.Common.{◌≡◌, [], ◌∷◌, ◌++◌, drop, append-nil, append_assoc, length-append, refl, sym, ap, ◌∙◌}
use Rattle.std.proofs.Common.{arith}
use Rattle.std.proofs.lemmas.Bool.{le-leb}
use Rattle.std.proofs.Math.Seq.{drop-length}
use Rattle.mx_rows.proofs.RowLemmas.{list_all-push}
use Rattle.mx_blocks.specs.Differences.{differences, positions, total}
use Rattle.mx_blocks.proofs.BlockLemmas.{first_positions, IsFirstBelow-total, positions_above}
use Rattle.mx_blocks.proofs.walk.walk.Goals as goal

pub returns-then-at-packed : goal.returns-then-at-packed
unfolding differences
returns-then-at-packed c =
    let before = c.loop-last.invariant in
    let none : drop c.loop-last.at c.args.packed.now ≡ []
    = ap (λ n. drop n c.args.packed.now) c.if-at-packed.true ∙ drop-length c.args.packed.now in
    record {
      done = before.done ++ c.loop-last.last ∷ [];
      rest = [];
      parts = before.parts ∙ ap (λ l. before.done ++ positions c.loop-last.last (differences l)) none
          ∙ sym (append-nil _);
      count = omega (arith, length-append before.done (c.loop-last.last ∷ []), before.count);
      upto = list_all-push _ before.done c.loop-last.last before.upto (le-leb _ _ c.loop-last-test.true);
      above = refl;
      begins = refl;
    }

pub read_difference-difference-requires : goal.read_difference-difference-requires
read_difference-difference-requires c = record {
  packed = c.loop-last.invariant.whole;
  some = let within = c.loop-last.invariant.within in omega arith;
  small = IsFirstBelow-total c.loop-last.last _ c.loop-last.invariant.small;
}

pub loop-last-preserved : goal.loop-last-preserved
loop-last-preserved c =
    let before = c.loop-last.invariant in
    let read = c.read_difference-difference.ensures in
    record {
      done = before.done ++ c.loop-last.last ∷ [];
      parts = before.parts ∙ ap (λ l. before.done ++ positions c.loop-last.last l) read.reads
          ∙ sym (append_assoc before.done (c.loop-last.last ∷ []) _);
      count = omega (arith, length-append before.done (c.loop-last.last ∷ []), before.count);
      upto = list_all-push _ before.done c.loop-last.last before.upto (le-leb _ _ c.loop-last-test.true);
      whole = read.packed;
      behind = let behind = before.behind in let later = read.later in omega arith;
      within = read.within;
      small = let small = before.small in let sum = ap total read.reads in omega arith;
    }

pub returns : goal.returns
returns c =
    let before = c.loop-last.invariant in
    record {
      done = before.done;
      rest = positions c.loop-last.last (differences (drop c.loop-last.at c.args.packed.now));
      parts = before.parts;
      count = before.count;
      upto = before.upto;
      above = positions_above c.args.position c.loop-last.last _ c.loop-last-test.false;
      begins = c.from.ensures ∙ sym (first_positions c.loop-last.last _);
    }
