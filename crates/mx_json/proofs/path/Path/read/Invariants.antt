use Rattle.std.proofs.Common.{◌≡◌}
use Rattle.std.specs.Str.Iter.{chars_rest}
use Rattle.mx_json.specs.Path.{segments}
use Rattle.mx_json.specs.PathReader.{segments_with}
use Rattle.mx_json.proofs.path.Path.read.Given as goal

abbrev pub invariant-loop-c : goal.invariant-loop-c
invariant-loop-c l = segments_with l.reader (chars_rest l.c-iterator) ≡ segments l.text
