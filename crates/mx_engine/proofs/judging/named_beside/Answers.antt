use Rattle.std.proofs.Common.{rules, sym, ◌∙◌}
use borrow.Author.Tests.{tests}
use Rattle.std.specs.Str.{bytes_eq}
use Rattle.std.proofs.lemmas.Iterator.{YieldsList-from_slice}
use Rattle.std.proofs.lemmas.Iterator.Search.{any_from_yields_List}
use Rattle.mx_event.specs.Event.{membership_of}
use Rattle.mx_engine.proofs.NoticingLemmas.{beside-among, beside-apart}
use Rattle.mx_engine.proofs.judging.named_beside.Goals as goal

pub returns-then-any : goal.returns-then-any
returns-then-any c =
    let found = any_from_yields_List (λ member. bytes_eq member c.in-Some.named.now) _ _ c.any.result
    c.any.ensures.ran (YieldsList-from_slice c.args.members.now cc) (λ x b q k. search (rules, tests)) in
    beside-among c.args.members.now (membership_of c.args.event.now) c.in-Some.named.now c.in-Some.field-0-1.now
    c.in-Some.ensures (sym found ∙ c.if-any.true)

pub returns-in-Ok : goal.returns-in-Ok
returns-in-Ok c =
    let found = any_from_yields_List (λ member. bytes_eq member c.in-Some.named.now) _ _ c.any.result
    c.any.ensures.ran (YieldsList-from_slice c.args.members.now cc) (λ x b q k. search (rules, tests)) in
    beside-apart c.args.members.now (membership_of c.args.event.now) c.in-Some.named.now c.in-Some.field-0-1.now
    c.in-Some.ensures c.in-Ok.named (sym found ∙ c.if-any.false) c.in-Ok.ensures
