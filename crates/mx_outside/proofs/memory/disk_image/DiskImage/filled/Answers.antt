-- Each turn gives one more byte.
use Rattle.std.proofs.Common.{◌≡◌, ◌<◌, ℕ, Bool, true, false, length, get_or, subst, sym, arith, ◌++◌, ◌∷◌, []}
use Rattle.std.proofs.lemmas.List.{get_or_default}
use Rattle.mx_outside.proofs.Filled.{filled_more}
use Rattle.mx_outside.proofs.memory.disk_image.DiskImage.filled.Goals as goal
use Rattle.mx_outside.proofs.memory.disk_image.DiskImage.filled.Goals.{then-index, else-index}

pub loop-index-preserved : goal.loop-index-preserved
loop-index-preserved c =
    let value = c.args.value in
    let n = c.loop-index.index in
    let marks = c.self.inside.fresh.items in
    let content = c.self.inside.content.items in
    let marked : n < length marks = omega (arith, c.self.invariant.0.marks) in
    let held : n < length content = omega arith in
    elim c.if-index.branch [
      | then-index w ↦
          let first = get_or content n 0 in
          let mark : true ≡ get_or marks n true = subst (λ (m : Bool). m ≡ get_or marks n m) w.if-index.true
          c.index.ensures in
          let more = filled_more value n marks content true first marked held mark
          (get_or_default content n 0 first held) in
          let pushed : c.push.new.self.items ≡ c.loop-index.bytes.items ++ c.if-index.byte ∷ [] =
          c.in_ok-push.ensures.items in
          cc
      | else-index w ↦
          let byte = c.if-index.byte in
          let mark : false ≡ get_or marks n false =
          subst (λ (m : Bool). m ≡ get_or marks n m) w.if-index.false c.index.ensures in
          let is : byte ≡ get_or content n byte = subst (λ (b : ℕ). b ≡ get_or content n b) (sym w.byte-is)
          w.index-else-index.ensures in
          let more = filled_more value n marks content false byte marked held mark is in
          let pushed : c.push.new.self.items ≡ c.loop-index.bytes.items ++ c.if-index.byte ∷ [] =
          c.in_ok-push.ensures.items in
          cc
    ]
