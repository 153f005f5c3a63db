use Rattle.std.proofs.Common.{◌≡◌, ◌+◌, Bool, true, false, cond, refl, [], ◌∷◌, append_assoc, sym, ap, ◌∙◌, arith}
use mir.Val.{bool_byte}
use Rattle.std.proofs.lemmas.Bool.{lt-ltb}
use Rattle.mx_rows.specs.Rows.{are_in_range, counts_in, is_rising}
use Rattle.mx_rows.proofs.RowLemmas.{is_rising-push, list_all-push}
use Rattle.mx_blocks.specs.Block.{packed_rows}
use Rattle.mx_blocks.specs.Kept.{rows_of_parts}
use Rattle.mx_blocks.proofs.ThreadLemmas.{counts-push}
use Rattle.mx_blocks.proofs.thread_rows.ThreadRows.push.Goals as goal

byte_is : (b : Bool) → bool_byte b ≡ cond b 1 0
byte_is true = refl
byte_is false = refl

pub invariant_of-self : goal.invariant_of-self
invariant_of-self c =
    let old = c.args.self.now in
    let row = c.args.row in
    let rows = rows_of_parts old.blocks.items old.hot.items in
    let now = ap (rows_of_parts old.blocks.items) c.push_reserved.ensures.items
    ∙ sym (append_assoc (packed_rows old.blocks.items) old.hot.items (row ∷ [])) in
    record {
      rising = ap is_rising now ∙ is_rising-push rows row c.requires.above old.rising;
      in_range = ap are_in_range now ∙ list_all-push _ rows row old.in_range (lt-ltb _ _ (omega arith));
      alive = old.alive;
      counted = counts-push rows row c.plus-self.result old.sums old.counted c.plus-self.ensures.notify
          (c.plus-self.ensures.highlight ∙ ap (λ n. old.sums.highlight + n) (c.from.ensures ∙ byte_is row.highlight))
          ∙ ap counts_in (sym now);
      fits = let countable = old.countable c.requires.capacity in omega (arith, c.plus-self.ensures.notify);
      capacity = λ never. absurd (cc);
      countable = λ never. absurd (cc);
    }
