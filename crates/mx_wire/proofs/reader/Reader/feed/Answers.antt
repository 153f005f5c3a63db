-- What comes behind a settled reply isn't looked at.
use Rattle.std.proofs.Common.{List, ℕ, drop, sym, subst}
use Rattle.std.proofs.lemmas.List.{take-append-drop}
use Rattle.mx_wire.specs.Reader.{Takes}
use Rattle.mx_wire.proofs.Steps.{Takes-then, Takes-settled}
use Rattle.mx_wire.proofs.reader.Reader.feed.Goals as goal

pub returns-then-is_settled-clause-takes : goal.returns-then-is_settled-clause-takes
returns-then-is_settled-clause-takes c =
    let i = c.loop-byte.byte-index in
    let piece = c.args.piece.now in
    let old = c.args.self.now in
    let now = c.loop-byte.self in
    subst (λ (bytes : List ℕ). Takes old.stage old.status old.held.items bytes now.stage now.status now.held.items)
    (take-append-drop i piece)
    (Takes-then _ _ _ _ _ _ _ _ _ _ _ c.loop-byte.invariant.0
    (Takes-settled now.stage now.status now.held.items (drop i piece) (sym (c.if-is_settled.ensures))))
