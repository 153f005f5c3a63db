use Rattle.std.proofs.Common.{◌≡◌, ◌∙◌, true, false, None, Some, rules, refl, ap, sym, arith}
use Rattle.std.specs.Prelude.{nat_le}
use Rattle.std.proofs.lemmas.Bool.Decides.{nat_tests}
use Rattle.mx_json.specs.Ids.{is_local}
use Rattle.mx_thread.specs.Place.{place_in}
use Rattle.mx_records.specs.declared.input.Input.TheVariants.{Receipt}
use Rattle.mx_records.specs.declared.refusal.Refusal.TheVariants.{NotLocal}
use Rattle.mx_records.specs.Refusing.{most_inputs}
use Rattle.mx_engine.specs.Reading.{refusal_at}
use Rattle.mx_engine.specs.View.{View}
use Rattle.mx_engine.proofs.Shown.{content-receipt, refusal-shown, unlocal-receipt}
use Rattle.mx_engine.proofs.engine.Engine.prepare_receipt.Goals as goal

pub returns-then-not-is_local-clause-exact : goal.returns-then-not-is_local-clause-exact
returns-then-not-is_local-clause-exact g c h private is =
    let server = c.args.self.now.server in
    let shown = c.args.self.now.shown in
    let other : is_local server c.args.user.now ≡ false = search rules in
    refusal-shown server h shown
    (Receipt c.args.user.now c.args.room.now c.args.event.now private c.args.thread.now) (Some NotLocal)
    shown.inputs (nat_le most_inputs shown.inputs) is
    (unlocal-receipt server h c.args.user.now c.args.room.now c.args.event.now private c.args.thread.now other)
    refl refl

pub returns-in-Err-clause-exact : goal.returns-in-Err-clause-exact
returns-in-Err-clause-exact g c h private is =
    let server = c.args.self.now.server in
    let shown = c.args.self.now.shown in
    let local : is_local server c.args.user.now ≡ true = search rules in
    refusal-shown server h shown
    (Receipt c.args.user.now c.args.room.now c.args.event.now private c.args.thread.now) (Some c.in-Err.refusal)
    shown.inputs (nat_le most_inputs shown.inputs) is
    (content-receipt server h shown c.args.user.now c.args.room.now c.args.event.now private c.args.thread.now is local
    ∙ sym (ap (λ (v : View). refusal_at c.args.room.now c.args.event.now c.args.thread.now
    (place_in v.shown.places c.args.event.now)) c.self.view_is)
    ∙ c.in-Err.ensures) refl refl

pub returns-then-self-ge-MOST_INPUTS-clause-exact : goal.returns-then-self-ge-MOST_INPUTS-clause-exact
returns-then-self-ge-MOST_INPUTS-clause-exact g c h private is =
    let server = c.args.self.now.server in
    let shown = c.args.self.now.shown in
    let local : is_local server c.args.user.now ≡ true = search rules in
    refusal-shown server h shown
    (Receipt c.args.user.now c.args.room.now c.args.event.now private c.args.thread.now) None
    c.self.inside.inputs true is
    (content-receipt server h shown c.args.user.now c.args.room.now c.args.event.now private c.args.thread.now is local
    ∙ sym (ap (λ (v : View). refusal_at c.args.room.now c.args.event.now c.args.thread.now
    (place_in v.shown.places c.args.event.now)) c.self.view_is)
    ∙ c.in-Ok.ensures.0)
    (ap (λ (v : View). v.shown.inputs) c.self.view_is) (grind (arith, nat_tests, c.if-self-ge-MOST_INPUTS.true))

pub returns-clause-exact : goal.returns-clause-exact
returns-clause-exact g c h private is =
    let server = c.args.self.now.server in
    let shown = c.args.self.now.shown in
    let local : is_local server c.args.user.now ≡ true = search rules in
    refusal-shown server h shown
    (Receipt c.args.user.now c.args.room.now c.args.event.now private c.args.thread.now) None
    c.self.inside.inputs false is
    (content-receipt server h shown c.args.user.now c.args.room.now c.args.event.now private c.args.thread.now is local
    ∙ sym (ap (λ (v : View). refusal_at c.args.room.now c.args.event.now c.args.thread.now
    (place_in v.shown.places c.args.event.now)) c.self.view_is)
    ∙ c.in-Ok.ensures.0)
    (ap (λ (v : View). v.shown.inputs) c.self.view_is) (grind (arith, nat_tests, c.if-self-ge-MOST_INPUTS.false))
