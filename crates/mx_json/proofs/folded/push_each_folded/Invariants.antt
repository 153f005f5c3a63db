use Rattle.std.proofs.Common.{◌≡◌, ◌++◌, IsUtf8}
use Rattle.std.specs.Str.Iter.{chars_rest}
use Rattle.mx_json.specs.Folded.{folded}
use Rattle.mx_json.proofs.folded.push_each_folded.Given as goal

abbrev pub invariant-loop-character : goal.invariant-loop-character
invariant-loop-character l =
    IsUtf8 (chars_rest l.character-iterator)
    × (l.characters.items ++ folded (chars_rest l.character-iterator) ≡ l.initial.characters.items ++ folded l.text)
