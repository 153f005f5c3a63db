-- The image that was chosen may be left, and the images are those of the rule.
use Rattle.std.proofs.Common.{◌∙◌}
use Rattle.mx_outside.proofs.Since.{leaves_images}
use Rattle.mx_outside.proofs.LeftBy.{leaves_made}
use Rattle.mx_outside.proofs.memory.memory_disk.MemoryDisk.left.Goals as goal

pub returns-in_err-content-clause-images : goal.returns-in_err-content-clause-images
returns-in_err-content-clause-images c =
    leaves_images c.args.self.now.changes c.args.self.now.first c.chosen.ensures.valid

pub returns-clause-image : goal.returns-clause-image
returns-clause-image c =
    leaves_made c.new.result c.args.fill c.args.self.now _ _ _ c.chosen.ensures.valid
    (c.deref.ensures.value ∙ c.in_ok-content.ensures.chosen) c.new.ensures

pub returns-clause-images : goal.returns-clause-images
returns-clause-images c =
    leaves_images c.args.self.now.changes c.args.self.now.first c.chosen.ensures.valid
