use Rattle.std.proofs.Common.{ℕ, ◌∙◌, refl, arith, length-take, length-drop}
use Rattle.push_server.proofs.TransferLemmas.{wrote_more}
use Rattle.push_server.proofs.writing.write_all.Goals as goal

pub loop-at-preserved : goal.loop-at-preserved
loop-at-preserved g c = record {
  bytes = wrote_more c.args.text.now _ c.loop-at.at c.in-Moved.count _ _ _ refl c.loop-at.invariant.bytes
      c.in-Moved.ensures.bytes;
  within = omega (arith, length-take {A = ℕ}, length-drop {A = ℕ}, c.in-Moved.ensures.moved.1);
  steady = c.in-Moved.ensures.steady (λ failed. cc) ∙ c.loop-at.invariant.steady;
}
