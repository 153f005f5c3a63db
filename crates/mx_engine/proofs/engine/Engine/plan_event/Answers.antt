use Rattle.std.proofs.Common.{◌≡◌, ◌∙◌, ap, sym}
use Rattle.std.specs.List.{list_any}
use Rattle.std.specs.Map.{keys_of}
use Rattle.std.specs.Str.{bytes_eq}
use Rattle.mx_room.specs.Rooms.{PlannedRoom}
use Rattle.mx_thread.specs.declared.place.Place.{Place}
use Rattle.mx_engine.specs.KeptRows.{has_capacity}
use Rattle.mx_engine.proofs.TellingLemmas.{capacity-some}
use Rattle.mx_engine.proofs.engine.Engine.plan_event.Goals as goal

pub returns-clause-rows : goal.returns-clause-rows
returns-clause-rows g c = λ user some.
    let here : c.in_ok-place.place.room ≡ c.room.inside.id =
    ap (λ (place : Place). place.room) c.in_ok-place.ensures
    ∙ sym (ap (λ (room : PlannedRoom). room.id) (c.room.view_is ∙ c.requires.room)) in
    ap (λ room. has_capacity c.reserve_rows.new.unread.capacity user room c.in_ok-place.place.thread) (sym here)
    ∙ c.in_ok-reserve_rows.ensures.capacity user
    (ap (λ users. list_any (bytes_eq user) (keys_of users)) c.as_slice.ensures.value
    ∙ capacity-some c.in_ok-users.users.items user some)
