use Rattle.std.proofs.Common.{◌≡◌, take}
use Rattle.mx_outside.specs.Changes.{filled}
use Rattle.mx_outside.proofs.memory.disk_image.DiskImage.filled.Given as goal

abbrev pub invariant-loop-index : goal.invariant-loop-index
invariant-loop-index l =
    l.bytes.items ≡ filled l.value (take l.index l.self-inside.fresh.items) (take l.index l.self-inside.content.items)
