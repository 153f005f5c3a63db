use Rattle.std.proofs.Common.{◌≡◌, ◌∙◌, ◌+◌, true, false, Some, None, refl, ap, sym, subst, arith}
use Rattle.std.specs.Prelude.{nat_le}
use Rattle.std.proofs.lemmas.Bool.Decides.{nat_tests}
use Rattle.mx_thread.specs.Place.{place_in}
use Rattle.mx_records.specs.declared.input.Input.TheVariants.{Event}
use Rattle.mx_records.specs.declared.refusal.Refusal.TheVariants.{KnownEvent}
use Rattle.mx_records.specs.Refusing.{most_inputs}
use Rattle.mx_records.specs.Snapshot.{Snapshot}
use Rattle.mx_engine.specs.Planning.{IsMadeFor, Planned, adds, event_planned}
use Rattle.mx_engine.specs.View.{View}
use Rattle.mx_engine.proofs.Shown.{content-found, refusal-shown}
use Rattle.mx_engine.proofs.engine.Engine.prepare_event.Goals as goal

pub returns-in-Some-clause-exact : goal.returns-in-Some-clause-exact
returns-in-Some-clause-exact g c h is =
    refusal-shown c.args.self.now.server h c.args.self.now.shown (Event c.args.event.now)
    (Some (KnownEvent c.in-Some.place.now.position)) c.self.inside.inputs (nat_le most_inputs c.self.inside.inputs) is
    (content-found c.args.self.now.server h c.args.self.now.shown c.self.inside.places.places c.args.event.now
    c.event_id.result.now (Some c.in-Some.place.now) is (ap (λ (v : View). v.shown.places) c.self.view_is)
    c.event_id.ensures c.in-Some.ensures)
    (ap (λ (v : View). v.shown.inputs) c.self.view_is) refl

pub returns-then-self-ge-MOST_INPUTS-clause-exact : goal.returns-then-self-ge-MOST_INPUTS-clause-exact
returns-then-self-ge-MOST_INPUTS-clause-exact g c h is =
    refusal-shown c.args.self.now.server h c.args.self.now.shown (Event c.args.event.now) None
    c.self.inside.inputs true is
    (content-found c.args.self.now.server h c.args.self.now.shown c.self.inside.places.places c.args.event.now
    c.event_id.result.now None is (ap (λ (v : View). v.shown.places) c.self.view_is)
    c.event_id.ensures c.in_default.ensures)
    (ap (λ (v : View). v.shown.inputs) c.self.view_is) (grind (arith, nat_tests, c.if-self-ge-MOST_INPUTS.true))

pub returns-clause-exact : goal.returns-clause-exact
returns-clause-exact g c h is =
    refusal-shown c.args.self.now.server h c.args.self.now.shown (Event c.args.event.now) None
    c.self.inside.inputs false is
    (content-found c.args.self.now.server h c.args.self.now.shown c.self.inside.places.places c.args.event.now
    c.event_id.result.now None is (ap (λ (v : View). v.shown.places) c.self.view_is)
    c.event_id.ensures c.in_default.ensures)
    (ap (λ (v : View). v.shown.inputs) c.self.view_is) (grind (arith, nat_tests, c.if-self-ge-MOST_INPUTS.false))

pub returns-clause-made : goal.returns-clause-made
returns-clause-made g c =
    let plan : Planned = record {
      position = c.self-2.inside.inputs + 1;
      change = adds (event_planned c.in_ok-plan.plan);
      payload = c.new.result.items;
    } in
    let now = c.reserve.new.self in
    let meaning : now.shown ≡ c.args.self.now.shown = c.reserve.ensures.meaning in
    let inputs : c.self.inside.inputs ≡ now.shown.inputs =
    ap (λ (v : View). v.shown.inputs) c.self.view_is ∙ ap (λ (s : Snapshot). s.inputs) (sym meaning) in
    let later : c.self-2.inside.inputs ≡ now.shown.inputs = ap (λ (v : View). v.shown.inputs) c.self-2.view_is in
    let places : now.shown.places ≡ c.self.inside.places.places =
    ap (λ (s : Snapshot). s.places) meaning ∙ sym (ap (λ (v : View). v.shown.places) c.self.view_is) in
    let id = c.in_ok-plan.ensures.planned.id ∙ sym c.event_id.ensures in
    subst (λ (s : Snapshot). IsMadeFor c.plan_event.new.self.server s plan) (sym c.in_ok-plan.ensures.meaning)
    (record {
      next = ap (λ n. n + 1) later;
      in_range = omega (arith, inputs, later, c.if-self-ge-MOST_INPUTS.false);
      fits = (λ i. place_in (places i) (id i)) ∙ sym c.in_default.ensures;
    })
