-- That sending from the first byte of a piece is sending from the piece.
use Rattle.std.proofs.Common.{ℕ, List, length, take, subst, arith}
use Rattle.std.proofs.lemmas.List.{take-take, length-take}
use Rattle.mx_outside.specs.Link.{Entry, Sends, IsSent, Changes, with_sent}
use Rattle.mx_outside.specs.declared.link.Sent.{Sent}
use Rattle.mx_outside.specs.declared.link.Sent.TheVariants as sent

-- What was sent of the first byte was sent of the piece.
pub sends_front : (result : Sent) (exchange : ℕ) (piece : List ℕ) (old new : List Entry)
    → IsSent result (length (take 1 piece)) → Sends result exchange (take 1 piece) old new
    → Sends result exchange piece old new
sends_front (sent.Moved count) exchange piece old new is sends =
    let few = simp length-take at is.1 in
    subst (λ (l : List ℕ). Changes exchange (with_sent l) old new) (take-take count 1 piece (omega arith)) sends
sends_front sent.NotYet exchange piece old new is sends = sends
sends_front sent.Failed exchange piece old new is sends = sends
