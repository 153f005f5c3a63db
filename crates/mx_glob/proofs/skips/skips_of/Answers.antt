use Rattle.std.proofs.Common.{ℕ, length, min, ap, ◌∙◌, arith}
use Rattle.std.proofs.lemmas.List.{length-replicate}
use Rattle.mx_glob.proofs.SearchLemmas.{same_skips}
use Rattle.mx_glob.proofs.skips.skips_of.Goals as goal

pub loop-k-init : goal.loop-k-init
loop-k-init c = (
  ap length c.all_skip-skips.ensures ∙ length-replicate {A = ℕ} 64 (min (length c.args.name.now) 255),
  λ i h. let e = same_skips c.all_skip-skips.result _ i c.all_skip-skips.ensures h in omega arith,
  λ i h. let e = same_skips c.all_skip-skips.result _ i c.all_skip-skips.ensures h in omega arith,
  λ j ch h e. absurd (omega arith),
)
