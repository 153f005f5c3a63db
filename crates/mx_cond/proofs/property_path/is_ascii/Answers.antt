use Rattle.std.proofs.Common.{Bool, IsAscii, MatchBool, subst}
use Rattle.std.specs.Str.{IsNotAscii}
use Rattle.mx_event.specs.Event.{kind_of}
use Rattle.mx_cond.proofs.TextLemmas.{ascii_kind}
use Rattle.mx_cond.proofs.property_path.is_ascii.Goals as goal

pub returns-in-Kind : goal.returns-in-Kind
returns-in-Kind c = λ yes.
    let event = c.args.event.now in
    let cases : Bool → Type 0 = λ b. MatchBool b (IsAscii (kind_of event)) (IsNotAscii (kind_of event)) in
    rw c.in-Kind.is (ascii_kind event (subst cases yes c.has_ascii_kind.ensures))
