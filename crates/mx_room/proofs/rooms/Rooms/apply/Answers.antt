use Rattle.std.proofs.Common.{◌≡◌, ℕ, List, true, is_some, IsSome, refl, sym, subst, ap, ◌∙◌}
use Rattle.std.specs.FinSet as set
use Rattle.std.specs.String.{string_bytes}
use Rattle.std.proofs.lemmas.Bool.{false≢true}
use Rattle.mx_room.specs.Hosted.{IsListing, ready_in, states_in}
use Rattle.mx_room.specs.Rooms.{PlannedRoom, RoomsView, with_room}
use Rattle.mx_room.proofs.HostedLemmas.{hosted-applied, hosted-found, ready-found, ready-there, states-applied}
use Rattle.mx_room.proofs.RoomsLemmas.{rooms_of-planned}
use Rattle.mx_room.proofs.rooms.Rooms.apply.Goals as goal
use Rattle.mx_room.proofs.rooms.Rooms.apply.Goals.{After-drop-id-inside}

pub apply-requires-clause-capacity : goal.apply-requires-clause-capacity
apply-requires-clause-capacity c =
    let rooms = c.self.inside.rooms.entries in
    let ready : set.contains (ready_in rooms) c.plan.inside.id ≡ true
    = ap (λ (plan : PlannedRoom). set.contains (ready_in rooms) plan.id) c.plan.view_is
    ∙ ap (λ (view : RoomsView). set.contains view.capacity c.args.plan.id) c.self.view_is ∙ c.requires in
    ready-found (string_bytes c.self.inside.server) rooms c.plan.inside.id c.in-Some.hosted.now c.self.invariant
    (sym c.in-Some.ensures.value) ready

pub unreachable-requires : goal.unreachable-requires
unreachable-requires c =
    let rooms = c.self.inside.rooms.entries in
    let ready : set.contains (ready_in rooms) c.plan.inside.id ≡ true
    = ap (λ (plan : PlannedRoom). set.contains (ready_in rooms) plan.id) c.plan.view_is
    ∙ ap (λ (view : RoomsView). set.contains view.capacity c.args.plan.id) c.self.view_is ∙ c.requires in
    false≢true
    (ap is_some c.in-None.ensures.value
    ∙ ready-there (string_bytes c.self.inside.server) rooms c.plan.inside.id c.self.invariant ready)

pub invariant_of-self : goal.invariant_of-self
invariant_of-self c =
    let server = string_bytes c.self.inside.server in
    let rooms = c.self.inside.rooms.entries in
    let was = c.in-Some.hosted.now in
    let now = c.apply.new.self in
    let written = c.get_mut.follows.holds now in
    let listing : IsListing server was.room.state was.local.users → IsListing server now.room.state now.local.users
    = subst
    (λ (at : List ℕ). IsListing at was.room.state was.local.users → IsListing at now.room.state now.local.users)
    c.as_str.ensures.value c.apply.ensures.listing in
    hosted-applied rooms (c.get_mut.follows.lender now).entries c.plan.inside.id now
    (written.3 (subst IsSome c.in-Some.ensures.value refl)).0 server c.self.invariant written.4
    (listing (hosted-found server rooms c.plan.inside.id was c.self.invariant
    (sym c.in-Some.ensures.value)).listing)
    c.apply.ensures.known

changed : (c : After-drop-id-inside)
    → states_in (c.get_mut.follows.lender c.apply.new.self).entries
    ≡ with_room c.args.plan.id c.args.plan.sets c.args.self.now.states
changed c =
    let now = c.apply.new.self in
    let written = c.get_mut.follows.holds now in
    states-applied c.self.inside.rooms.entries (c.get_mut.follows.lender now).entries c.plan.inside.id now
    (written.3 (subst IsSome c.in-Some.ensures.value refl)).0 (string_bytes c.self.inside.server)
    c.in-Some.hosted.now c.plan.inside.room c.self.invariant written.4 (sym c.in-Some.ensures.value)
    c.apply.ensures.state c.apply.ensures.known
    ∙ (λ i. with_room (c.plan.view_is i).id (c.plan.view_is i).sets (c.self.view_is i).states)

pub returns-clause-states : goal.returns-clause-states
returns-clause-states c = changed c

pub returns-clause-step : goal.returns-clause-step
returns-clause-step c = λ events event before planned.
    rooms_of-planned c.args.self.now.states _ c.args.plan events event (changed c) before planned
