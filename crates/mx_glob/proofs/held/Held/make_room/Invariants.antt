use Rattle.std.proofs.Common.{◌-◌, ◌≤◌}
use Rattle.std.specs.Vec.{vec_len}
use Rattle.mx_glob.specs.declared.held.TheConstants.{MOST_CHARACTERS}
use Rattle.mx_glob.proofs.held.Held.make_room.Given as goal

abbrev pub invariant-loop-self : goal.invariant-loop-self
invariant-loop-self l =
    (MOST_CHARACTERS ≤ vec_len l.self.characters) × (vec_len l.self.characters ≤ vec_len l.self.falls)

abbrev pub decreases-loop-self : goal.decreases-loop-self
decreases-loop-self l = l.len - vec_len l.self.characters
