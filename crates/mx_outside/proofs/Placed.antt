-- How a scripted link's exchanges, and its log, change where one of them does.
use Rattle.std.proofs.Common.{◌≡◌, ◌≢◌, ℕ, zero, suc, ◌+◌, ◌-◌, ◌<◌, ◌≤◌, Bool, false, List, [], ◌∷◌, ◌++◌, length, map}
use Rattle.std.proofs.Common.{get_or, take, drop, Some, refl, ap, sym, subst, ◌∙◌, append_assoc, arith}
use Rattle.std.specs.Prelude.{slice_get, replicate}
use Rattle.std.proofs.Math.ListN.{set}
use Rattle.std.proofs.lemmas.List.{length-set, length-take, length-map, length-append, drop-set-lt, drop-drop}
use Rattle.std.proofs.lemmas.List.{drop_more, drop_all, length-drop, take_more_set, take_all, get_or-take}
use Rattle.std.proofs.lemmas.List.{replicate_more}
use Rattle.mx_outside.specs.Link.{Entry, entry_at, IsOpen, Changes, Sends, Receives, with_sent, with_received}
use Rattle.mx_outside.specs.Link.{with_failed, with_ended, with_closed}
use Rattle.mx_outside.specs.ScriptLink.{Place, Scripted, entry_of, log_of, place_for, places_for, next_place}
use Rattle.mx_outside.specs.ScriptLink.{OpensPlace, OpensNext, Acts, AreToCome, SendsPlace, ReceivesPlace, ClosesPlace}
use Rattle.mx_outside.specs.Script.{Play, unscripted}
use Rattle.mx_outside.specs.declared.link.Sent.{Sent}
use Rattle.mx_outside.specs.declared.link.Sent.TheVariants as sent
use Rattle.mx_outside.specs.declared.link.Received.{Received}
use Rattle.mx_outside.specs.declared.link.Received.TheVariants as received

-- What stands at an index is within the list.
pub got_within : (places : List Place) (i : ℕ) (p : Place) → slice_get places i ≡ Some p → i < length places
got_within [] i p is = cc
got_within (q ∷ places) zero p is = omega arith
got_within (q ∷ places) (suc i) p is = let rest : i < length places = got_within places i p is in omega arith

-- It is the same read in another way.
pub got_or : (places : List Place) (i : ℕ) (p d : Place) → slice_get places i ≡ Some p → get_or places i d ≡ p
got_or [] i p d is = cc
got_or (q ∷ places) zero p d is = cc
got_or (q ∷ places) (suc i) p d is = got_or places i p d is

-- Its entry stands at that index of the log.
pub got_entry : (places : List Place) (i : ℕ) (p : Place) → slice_get places i ≡ Some p
    → slice_get (map entry_of places) i ≡ Some p.entry
got_entry [] i p is = cc
got_entry (q ∷ places) zero p is = let same : q ≡ p = cc in ap (λ (x : Place). Some x.entry) same
got_entry (q ∷ places) (suc i) p is = got_entry places i p is

-- An entry of the log is that of an exchange.
pub entry_got : (places : List Place) (i : ℕ) (e : Entry) → slice_get (map entry_of places) i ≡ Some e
    → (p : Place) × (slice_get places i ≡ Some p)
entry_got [] i e is = cc
entry_got (q ∷ places) zero e is = (q, refl)
entry_got (q ∷ places) (suc i) e is = entry_got places i e is

-- What was put at an index stands there.
pub set_got : (places : List Place) (i : ℕ) (q : Place) → i < length places → slice_get (set places i q) i ≡ Some q
set_got [] i q within = absurd (omega arith)
set_got (p ∷ places) zero q within = refl
set_got (p ∷ places) (suc i) q within = set_got places i q (omega arith)

-- Elsewhere nothing changes.
pub set_other : (places : List Place) (i k : ℕ) (q : Place) → k ≢ i
    → slice_get (map entry_of (set places i q)) k ≡ slice_get (map entry_of places) k
set_other [] i k q other = refl
set_other (p ∷ places) zero zero q other = absurd (other refl)
set_other (p ∷ places) zero (suc k) q other = refl
set_other (p ∷ places) (suc i) zero q other = refl
set_other (p ∷ places) (suc i) (suc k) q other = set_other places i k q (λ same. other (ap (λ n. suc n) same))

-- Where the entry stays, so does the log.
pub set_same : (places : List Place) (i : ℕ) (p q : Place) → slice_get places i ≡ Some p → q.entry ≡ p.entry
    → map entry_of (set places i q) ≡ map entry_of places
set_same [] i p q is same = refl
set_same (r ∷ places) zero p q is same =
    let first : r ≡ p = cc in
    let entry : q.entry ≡ r.entry = same ∙ ap (λ (x : Place). x.entry) (sym first) in
    ap (λ (e : Entry). e ∷ map entry_of places) entry
set_same (r ∷ places) (suc i) p q is same =
    ap (λ (l : List Entry). r.entry ∷ l) (set_same places i p q is same)

-- The entry of one exchange changed, by its index.
changes_suc : (places : List Place) (i : ℕ) (p q : Place) (f : Entry → Entry) → slice_get places i ≡ Some p
    → q.entry ≡ f p.entry → Changes (suc i) f (map entry_of places) (map entry_of (set places i q))
changes_suc places i p q f is changed =
    record {
      same_length = simp (length-map, length-set);
      changed = λ e at.
          let same : p.entry ≡ e = entries_same (sym (got_entry places i p is) ∙ at) in
          got_entry (set places i q) i q (set_got places i q (got_within places i p is))
          ∙ ap (λ (x : Entry). Some x) (changed ∙ ap f same);
      others = λ k other. others_at k other;
    }
  where
    entries_same : {e d : Entry} → Some e ≡ Some d → e ≡ d
    entries_same same = cc

    others_at : (k : ℕ) → k ≢ suc i → entry_at (map entry_of (set places i q)) k ≡ entry_at (map entry_of places) k
    others_at zero other = refl
    others_at (suc k) other = set_other places i k q (λ same. other (ap (λ n. suc n) same))

-- The entry of one exchange changed, by its number.
pub changes_at : (places : List Place) (number : ℕ) (p q : Place) (f : Entry → Entry) → 0 < number
    → slice_get places (number - 1) ≡ Some p → q.entry ≡ f p.entry
    → Changes number f (map entry_of places) (map entry_of (set places (number - 1) q))
changes_at places number p q f some is changed =
    let next : suc (number - 1) ≡ number = omega arith in
    subst (λ n. Changes n f (map entry_of places) (map entry_of (set places (number - 1) q))) next
    (changes_suc places (number - 1) p q f is changed)

-- No exchange has the number 0.
no_entry : (log : List Entry) (e : Entry) → entry_at log zero ≡ Some e → ⊥
no_entry log e is = cc

-- An open exchange has a place, and its number isn't 0.
pub open_place : (places : List Place) (number : ℕ) → IsOpen (map entry_of places) number
    → (p : Place) × (0 < number) × (slice_get places (number - 1) ≡ Some p)
open_place places zero going = absurd (no_entry (map entry_of places) going.entry going.is)
open_place places (suc i) going =
    let found = entry_got places i going.entry going.is in
    let less : i ≡ suc i - 1 = omega arith in
    (found.0, omega arith, subst (λ n. slice_get places n ≡ Some found.0) less found.1)

-- Exchanges to come stay to come where one before them changes.
pub still_to_come : (opened i : ℕ) (places : List Place) (q : Place) → i < opened → AreToCome (drop opened places)
    → AreToCome (drop opened (set places i q))
still_to_come opened i places q within are =
    subst (λ (l : List Place). AreToCome l) (sym (drop-set-lt opened places i q within)) are

-- A change before the end of a front is one of the front.
pub take-set_lt : (n i : ℕ) (places : List Place) (q : Place) → i < n
    → take n (set places i q) ≡ set (take n places) i q
take-set_lt zero i places q within = absurd (omega arith)
take-set_lt (suc n) i [] q within = refl
take-set_lt (suc n) zero (p ∷ places) q within = refl
take-set_lt (suc n) (suc i) (p ∷ places) q within =
    ap (λ (l : List Place). p ∷ l) (take-set_lt n i places q (omega arith))

-- An open exchange is one of those that were opened.
pub open_within : (opened : ℕ) (places : List Place) (number : ℕ) → IsOpen (map entry_of (take opened places)) number
    → number - 1 < opened
open_within opened places number going =
    let found = open_place (take opened places) number going in
    let within : number - 1 < length (take opened places) =
    got_within (take opened places) (number - 1) found.0 found.2 in
    let long : length (take opened places) ≤ opened = simp length-take (omega arith) in
    omega arith

-- A call on an open exchange changed it alone.
pub acts_at : (opened number : ℕ) (places : List Place) (r q : Place) (P : Place → Place → Type 0)
    (faults waits faults' waits' : ℕ) → IsOpen (map entry_of (take opened places)) number
    → r ≡ get_or places (number - 1) r → P r q
    → Acts number P
    (record { opened = take opened places; coming = drop opened places; faults = faults; waits = waits })
    (record {
      opened = take opened (set places (number - 1) q);
      coming = drop opened (set places (number - 1) q);
      faults = faults';
      waits = waits';
    })
acts_at opened number places r q P faults waits faults' waits' going is holds =
    let i = number - 1 in
    let within : i < opened = open_within opened places number going in
    record {
      coming = drop-set-lt opened places i q within;
      place = λ before at.
          let same : r ≡ before = is ∙ sym (get_or-take opened places i r within)
          ∙ got_or (take opened places) i before r at in
          (q, take-set_lt opened i places q within, subst (λ (p : Place). P p q) same holds);
    }

-- What a call on an open exchange did to the log, by what it did to its entry.
changed_log : (number : ℕ) (P : Place → Place → Type 0) (f : Entry → Entry) (old new : Scripted)
    → IsOpen (log_of old) number → Acts number P old new → ((p q : Place) → P p q → q.entry ≡ f p.entry)
    → Changes number f (log_of old) (log_of new)
changed_log number P f old new going acts changes =
    let found = open_place old.opened number going in
    let after = acts.place found.0 found.2 in
    subst (λ (l : List Place). Changes number f (log_of old) (map entry_of l)) (sym after.1)
    (changes_at old.opened number found.0 after.0 f found.1 found.2 (changes found.0 after.0 after.2))

-- The log stays where the entry does.
same_log : (number : ℕ) (P : Place → Place → Type 0) (old new : Scripted) → IsOpen (log_of old) number
    → Acts number P old new → ((p q : Place) → P p q → q.entry ≡ p.entry) → log_of new ≡ log_of old
same_log number P old new going acts stays =
    let found = open_place old.opened number going in
    let after = acts.place found.0 found.2 in
    ap (λ (l : List Place). map entry_of l) after.1
    ∙ set_same old.opened (number - 1) found.0 after.0 found.2 (stays found.0 after.0 after.2)

-- What closing does to the log.
pub closes_log : (number : ℕ) (old new : Scripted) → IsOpen (log_of old) number → Acts number ClosesPlace old new
    → Changes number with_closed (log_of old) (log_of new)
closes_log number old new going acts =
    changed_log number ClosesPlace with_closed old new going acts (λ p q closed. ap (λ (x : Place). x.entry) closed)

-- What sending does to the log.
pub sends_log : (result : Sent) (number : ℕ) (piece : List ℕ) (old new : Scripted) → IsOpen (log_of old) number
    → Acts number (SendsPlace result piece) old new → Sends result number piece (log_of old) (log_of new)
sends_log (sent.Moved count) number piece old new going acts =
    changed_log number (SendsPlace (sent.Moved count) piece) (with_sent (take count piece)) old new going acts
    (λ p q sends. sends.2 ∙ ap (λ (l : List ℕ). with_sent l p.entry)
    (sym (take_all count piece (omega (arith, sends.1)))))
sends_log sent.NotYet number piece old new going acts =
    same_log number (SendsPlace sent.NotYet piece) old new going acts (λ p q sends. sends.1)
sends_log sent.Failed number piece old new going acts =
    changed_log number (SendsPlace sent.Failed piece) with_failed old new going acts (λ p q sends. sends.0)

-- What receiving does to the log.
pub receives_log : (result : Received) (number : ℕ) (into : List ℕ) (old new : Scripted) → IsOpen (log_of old) number
    → Acts number (ReceivesPlace result into) old new → Receives result number into (log_of old) (log_of new)
receives_log (received.Bytes count) number into old new going acts =
    changed_log number (ReceivesPlace (received.Bytes count) into) (with_received (take count into)) old new going acts
    (λ p q gives. gives.2)
receives_log received.NotYet number into old new going acts =
    same_log number (ReceivesPlace received.NotYet into) old new going acts (λ p q gives. gives.0)
receives_log received.End number into old new going acts =
    changed_log number (ReceivesPlace received.End into) with_ended old new going acts (λ p q gives. gives.1)
receives_log received.Failed number into old new going acts =
    changed_log number (ReceivesPlace received.Failed into) with_failed old new going acts (λ p q gives. gives.0)

-- The next exchange that has a place was opened.
pub opens_scripted : (opened : ℕ) (places : List Place) (r q : Place) (address : List ℕ) (failed : Bool)
    (faults waits faults' waits' : ℕ) → opened < length places → r ≡ get_or places opened r → failed ≡ r.play.fails
    → OpensPlace address r q → OpensNext failed address
    (record { opened = take opened places; coming = drop opened places; faults = faults; waits = waits })
    (record {
      opened = take (opened + 1) (set places opened q);
      coming = drop (opened + 1) (set places opened q);
      faults = faults';
      waits = waits';
    })
opens_scripted opened places r q address failed faults waits faults' waits' within is fails opens =
    let front : drop opened places ≡ get_or places opened r ∷ drop (opened + 1) places =
    drop_more places opened r within in
    let next : next_place (drop opened places) ≡ r = ap next_place front ∙ sym is in
    record {
      place = q;
      opened = take_more_set places opened q within;
      coming = drop-set-lt (opened + 1) places opened q (omega arith) ∙ sym (drop-drop 1 opened places);
      opens = subst (λ (p : Place). OpensPlace address p q) (sym next) opens;
      by_script = ap (λ (p : Place). p.play.fails) next ∙ sym fails;
    }

-- An exchange was opened past those that have a place.
pub opens_past : (opened : ℕ) (places : List Place) (q : Place) (address : List ℕ) (failed : Bool)
    (faults waits faults' waits' : ℕ) → opened ≤ length places → drop opened places ≡ [] → failed ≡ false
    → OpensPlace address (place_for 0 unscripted) q
    → OpensNext failed address
    (record { opened = take opened places; coming = drop opened places; faults = faults; waits = waits })
    (record {
      opened = take (opened + 1) (places ++ q ∷ []);
      coming = drop (opened + 1) (places ++ q ∷ []);
      faults = faults';
      waits = waits';
    })
opens_past opened places q address failed faults waits faults' waits' within none fails opens =
    let far : length (drop opened places) ≡ 0 = ap (λ (l : List Place). length l) none in
    let all : length places ≤ opened = omega (arith, simp length-drop at far) in
    let long : length (places ++ q ∷ []) ≤ opened + 1 = simp length-append (omega arith) in
    record {
      place = q;
      opened = take_all (opened + 1) (places ++ q ∷ []) long
          ∙ ap (λ (l : List Place). l ++ q ∷ []) (sym (take_all opened places all));
      coming = drop_all (opened + 1) (places ++ q ∷ []) long ∙ sym (ap (λ (l : List Place). drop 1 l) none);
      opens = subst (λ (l : List Place). OpensPlace address (next_place l) q) (sym none) opens;
      by_script = ap (λ (l : List Place). (next_place l).play.fails) none ∙ sym fails;
    }

-- What is opened stays opened where the counts change.
pub opens_counted : (failed : Bool) (address : List ℕ) (old new : Scripted) (faults waits : ℕ)
    → OpensNext failed address old new → OpensNext failed address old
    (record { opened = new.opened; coming = new.coming; faults = faults; waits = waits })
opens_counted failed address old new faults waits opens =
    record {
      place = opens.place;
      opened = opens.opened;
      coming = opens.coming;
      opens = opens.opens;
      by_script = opens.by_script;
    }

-- One more place stands behind those that were added.
pub one_more_place : (first old new : List Place) (q p : Place) (n : ℕ) → old ≡ first ++ replicate n p → q ≡ p
    → new ≡ old ++ q ∷ [] → new ≡ first ++ replicate (n + 1) p
one_more_place first old new q p n are is added =
    added
    ∙ ap (λ (l : List Place). l ++ q ∷ []) are
    ∙ ap (λ (r : Place). first ++ replicate n p ++ r ∷ []) is
    ∙ append_assoc first (replicate n p) (p ∷ [])
    ∙ ap (λ (l : List Place). first ++ l) (replicate_more n p)

-- On none of the exchanges that scripts make a call was made.
to_come_all : (room : ℕ) (plays : List Play) (rest : List Place) → AreToCome rest
    → AreToCome (map (place_for room) plays ++ rest)
to_come_all room [] rest are = are
to_come_all room (play ∷ plays) rest are = (refl, to_come_all room plays rest are)

to_come_bare : (room n : ℕ) → AreToCome (replicate n (place_for room unscripted))
to_come_bare room zero = tt
to_come_bare room (suc n) = (refl, to_come_bare room n)

pub to_come : (room : ℕ) (plays : List Play) (calls : ℕ) → AreToCome (places_for room plays calls)
to_come room plays calls =
    to_come_all room plays (replicate (calls - length plays) (place_for room unscripted))
    (to_come_bare room (calls - length plays))

-- The places of these scripts, and those added to them.
pub added_are : (room : ℕ) (plays : List Play) (calls : ℕ) (scripted added : List Place)
    → scripted ≡ map (place_for room) plays → added ≡ scripted
    ++ replicate (calls - length scripted) (place_for room unscripted) → added ≡ places_for room plays calls
added_are room plays calls scripted added first then =
    let long : length scripted ≡ length plays = ap (λ (l : List Place). length l) first
    ∙ length-map plays (place_for room) in
    then
    ∙ ap (λ n. scripted ++ replicate (calls - n) (place_for room unscripted)) long
    ∙ ap (λ (l : List Place). l ++ replicate (calls - length plays) (place_for room unscripted)) first
