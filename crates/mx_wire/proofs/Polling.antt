-- What one poll did, by what its call of the link answered.
use Rattle.std.proofs.Common.{◌≡◌, ℕ, ◌+◌, ◌≤◌, false, List, length, take, drop, Option, Some, None, refl, ap, sym}
use Rattle.std.proofs.Common.{subst, ◌∙◌, append-nil, add-zero, arith}
use Rattle.std.specs.Prelude.{IfSome}
use Rattle.std.proofs.lemmas.List.{length-drop, length-take-le}
use Rattle.mx_outside.specs.Told.{WhereTold}
use Rattle.mx_outside.specs.Link.{Entry, IsSent, Sends, IsReceived, Receives, Changes, IsOpen, with_received}
use Rattle.mx_outside.specs.declared.link.Sent.TheVariants as sent
use Rattle.mx_outside.specs.declared.link.Received.TheVariants as received
use Rattle.mx_wire.specs.Standing.{Standing, Call, Polls, Heard, greatest_reply, Logs}
use Rattle.mx_wire.specs.Standing.Call.{idle, sends, gets, waits, ends, fails}
use Rattle.mx_wire.specs.declared.turn.Turn.{Turn}
use Rattle.mx_wire.specs.declared.turn.Turn.TheVariants as turn

-- Some of the request was sent.
pub polls_sends : (before now : Option (List Entry)) (old : Standing) (count : ℕ) (piece : List ℕ) → old.done ≡ false
    → old.sent ≤ length old.request → piece ≡ drop old.sent old.request → IsSent (sent.Moved count) (length piece)
    → WhereTold before now (Sends (sent.Moved count) old.number piece)
    → Polls before now old (record old { sent = old.sent + count }) turn.Moved
polls_sends before now old count piece going within is moved log =
    let long : length piece ≡ length (drop old.sent old.request) = ap (λ (l : List ℕ). length l) is in
    let few : old.sent + count ≤ length old.request = omega (arith, moved.1, simp length-drop at long) in
    record {
      call = sends count;
      does = record {
        may = (moved.0, few);
        log = subst (λ (l : List ℕ). WhereTold before now (Sends (sent.Moved count) old.number l)) is log;
        opened_at = refl;
        number = refl;
        request = refl;
        sent = refl;
        received = sym (append-nil old.received);
      };
      answers = refl;
      done = going;
    }

-- Some of the reply was received.
pub polls_gets : (before now : Option (List Entry)) (old new : Standing) (result : Turn) (count : ℕ)
    (window piece : List ℕ)
    → old.sent ≡ length old.request → length old.received + count ≤ greatest_reply
    → IsReceived (received.Bytes count) (length window) → piece ≡ take count window
    → WhereTold before now (Receives (received.Bytes count) old.number window) → Heard (gets piece) old new result
    → Polls before now old new result
polls_gets before now old new result count window piece sent room given is log heard =
    let long : length piece ≡ count = ap (λ (l : List ℕ). length l) is ∙ length-take-le count window given.1 in
    record {
      call = gets piece;
      does = record {
        may = (omega (arith, given.0), sent, omega arith);
        log = subst (λ (l : List ℕ). WhereTold before now (Changes old.number (with_received l))) (sym is) log;
        opened_at = heard.opened_at;
        number = heard.number;
        request = heard.request;
        sent = heard.sent ∙ sym (add-zero old.sent);
        received = heard.received;
      };
      answers = heard.answers;
      done = heard.done;
    }

-- An open exchange stays open where its entry keeps both marks.
changed-open : (number : ℕ) (change : Entry → Entry) (before now : List Entry) → Changes number change before now
    → ((e : Entry) → ((change e).unopened ≡ e.unopened) × ((change e).closed ≡ e.closed))
    → IsOpen before number → IsOpen now number
changed-open number change before now changes keeps was =
    record {
      entry = change was.entry;
      is = changes.changed was.entry was.is;
      opened = (keeps was.entry).0 ∙ was.opened;
      going = (keeps was.entry).1 ∙ was.going;
    }

call-open : (call : Call) (s : Standing) (before now : List Entry) → Logs call s before now → IsOpen before s.number
    → IsOpen now s.number
call-open idle s before now logs was = subst (λ (l : List Entry). IsOpen l s.number) (sym logs) was
call-open (sends n) s before now logs was = changed-open s.number _ before now logs (λ e. (refl, refl)) was
call-open (gets bytes) s before now logs was = changed-open s.number _ before now logs (λ e. (refl, refl)) was
call-open waits s before now logs was = subst (λ (l : List Entry). IsOpen l s.number) (sym logs) was
call-open ends s before now logs was = changed-open s.number _ before now logs (λ e. (refl, refl)) was
call-open fails s before now logs was = changed-open s.number _ before now logs (λ e. (refl, refl)) was

told-open : (call : Call) (s : Standing) (before now : Option (List Entry)) → WhereTold before now (Logs call s)
    → IfSome before (λ log. IsOpen log s.number) → IfSome now (λ log. IsOpen log s.number)
told-open call s None None told was = tt
told-open call s None (Some now) told was = absurd told
told-open call s (Some before) None told was = tt
told-open call s (Some before) (Some now) told was = call-open call s before now told was

-- The exchange is open after a poll as it was before.
pub polls_open : (before now : Option (List Entry)) (old new : Standing) (result : Turn)
    → Polls before now old new result
    → IfSome before (λ log. IsOpen log old.number) → IfSome now (λ log. IsOpen log new.number)
polls_open before now old new result polls was =
    subst (λ (n : ℕ). IfSome now (λ log. IsOpen log n)) (sym polls.does.number)
    (told-open polls.call old before now polls.does.log was)
