use Rattle.std.proofs.Common.{◌≡◌, ℕ, List, true, IsSome, refl, sym, subst}
use Rattle.std.specs.FinSet as set
use Rattle.std.proofs.lemmas.Result.{on_ok_weaker}
use Rattle.mx_room.specs.Hosted.{is_ready, ready_in}
use Rattle.mx_room.proofs.HostedLemmas.{keeps-prepared, ready-now}
use Rattle.mx_room.proofs.rooms.prepare_in.Goals as goal

pub returns-clause-keeps : goal.returns-clause-keeps
returns-clause-keeps c = λ server are.
    let now = c.prepare.new.self in
    let written = c.get_mut.follows.holds now in
    keeps-prepared c.args.rooms.now.entries (c.get_mut.follows.lender now).entries c.room_id.result.now now
    (written.3 (subst IsSome c.in-Some.ensures.value refl)).0 server c.in-Some.hosted.now are written.4
    (sym c.in-Some.ensures.value) c.prepare.ensures.state c.prepare.ensures.users c.prepare.ensures.known

pub returns-clause-capacity : goal.returns-clause-capacity
returns-clause-capacity c =
    let now = c.prepare.new.self in
    let written = c.get_mut.follows.holds now in
    on_ok_weaker {P = is_ready now ≡ true} c.prepare.result
    (λ ready.
    subst (λ (id : List ℕ). set.contains (ready_in (c.get_mut.follows.lender now).entries) id ≡ true)
    c.room_id.ensures
    (ready-now c.args.rooms.now.entries (c.get_mut.follows.lender now).entries c.room_id.result.now now
    (written.3 (subst IsSome c.in-Some.ensures.value refl)).0 written.4 ready))
    c.prepare.ensures.capacity
