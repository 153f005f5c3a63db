-- Whom an event notifies is a member of its room; and the row of an event, by whom it notifies.
use Rattle.std.proofs.Common.{◌≡◌, ℕ, ◌+◌, Bool, true, false, cond, not, ◌&&◌, ◌||◌, List, [], ◌∷◌, ◌++◌, codes, Option}
use Rattle.std.proofs.Common.{Some, None, ◌⊎◌, inl, inr, is_some, option_map, option_and_then, refl, ap, subst, sym}
use Rattle.std.proofs.Common.{◌∙◌}
use Rattle.std.specs.FinMap.{get, keys}
use Rattle.std.specs.List.{filter_map, list_any}
use Rattle.std.specs.Option.{option_map_or}
use Rattle.std.specs.Str.{bytes_eq}
use Rattle.mx_json.specs.declared.value.Json.{Json}
use Rattle.mx_json.specs.Ids.{is_user_id, localpart_of}
use Rattle.mx_event.specs.Event.{membership_of, room_id_of, sender_of}
use Rattle.mx_cond.specs.Facts.{EventFacts}
use Rattle.mx_room.specs.Change.{member_set_by, sets_of, with_member, with_sets}
use Rattle.mx_room.specs.Facts.{facts_of}
use Rattle.mx_room.specs.Members.{membership_at}
use Rattle.mx_room.specs.Rooms.{events_in}
use Rattle.mx_room.specs.State.{RoomState, member_by, member_in, named_by, room_of}
use Rattle.mx_room.specs.Texts.{Texts}
use Rattle.mx_room.specs.declared.member.Member.{Member}
use Rattle.mx_room.proofs.JoinedLemmas.{has_key}
use Rattle.mx_room.proofs.StateLemmas.{member_in-covered, room_of-push}
use Rattle.mx_room.proofs.TextsLemmas.{IsCovered, bytes_eq-flip, get-put, get-table}
use Rattle.mx_rows.specs.declared.row.Row.{Row}
use Rattle.mx_rows.specs.declared.thread_key.ThreadKey.{ThreadKey}
use Rattle.mx_rows.specs.Threads.{same_thread}
use Rattle.mx_rule.specs.declared.verdict.Verdict.{Verdict}
use Rattle.mx_rule.specs.Judged.{invites, is_judged, judged, verdict_by}
use Rattle.mx_rule.specs.Ruleset.{PushRuleset, flat}
use Rattle.mx_records.specs.Counting.{is_in}
use Rattle.mx_records.specs.History.{History, Happening, inputs_of}
use Rattle.mx_records.specs.Judging.{notice_in, notice_of, notices_in, notifies, verdict_for}
use Rattle.mx_records.specs.Places.{thread}
use Rattle.mx_records.specs.Rooms.{events_of, room_after}
use Rattle.mx_records.specs.Rules.{rules_of}
use Rattle.mx_records.proofs.HistoryLemmas.{next_event}
use Rattle.mx_records.proofs.UnreadLemmas.{next_row}

-- ---- who is notified is a member

-- an event invites nobody of whom the state after it says nothing
uninvited : (told : Option (List ℕ × List ℕ)) (members : Texts Member) (member : Member) (q : List ℕ)
    → get (with_member (option_map (λ user. (user, member)) (option_map (λ t. t.0) told)) members) q ≡ None
    → option_map_or (λ t. bytes_eq t.0 q && bytes_eq t.1 (codes "invite")) told false ≡ false
uninvited None members member q none = refl
uninvited (Some told) members member q none =
    by (bytes_eq q told.0) refl
  where
    by : (b : Bool) → bytes_eq q told.0 ≡ b → (bytes_eq told.0 q && bytes_eq told.1 (codes "invite")) ≡ false
    by true is =
        absurd (let e : Some member ≡ None =
        ap (λ c. cond c (Some member) (get members q)) (sym is) ∙ sym (get-put members told.0 member q) ∙ none in cc)
    by false is = ap (λ c. c && bytes_eq told.1 (codes "invite")) (bytes_eq-flip told.0 q ∙ is)

last_fails : (a b c d : Bool) → d ≡ false → (a && b && c && d) ≡ false
last_fails true true true d fails = fails
last_fails true true false d fails = refl
last_fails true false c d fails = refl
last_fails false b c d fails = refl

-- of an event that isn't judged for a user nothing is said
pub unjudged : (server membership user : List ℕ) (rules : PushRuleset) (facts : EventFacts)
    → is_judged server user membership facts.event ≡ false → judged server user membership rules facts ≡ None
unfolding judged
unjudged server membership user rules facts is = ap (λ b. cond b (Some (verdict_by facts (flat rules))) None) is

module _ (server : List ℕ) (rules : List ℕ → PushRuleset) (before : RoomState) (event : Json) (q : List ℕ) where
  abbrev room : RoomState
  room = with_sets (sets_of event) before

  invites-none : get room.members q ≡ None → invites event q ≡ false
  unfolding member_set_by
  invites-none none = uninvited (membership_of event) before.members (member_by event) q none

  notice-none : get room.members q ≡ None → notice_in server rules room event q ≡ None
  notice-none none = ap (option_and_then notice_of)
      (unjudged server (membership_at room q) q (rules q) (facts_of event q room)
      (last_fails (is_user_id q) (is_some (localpart_of server q)) (not (bytes_eq (sender_of event) q)) _
      (ap (λ (m : Option Member).
      bytes_eq (option_map_or (λ (m : Member). m.membership) m (codes "leave")) (codes "join") || invites event q) none
      ∙ invites-none none)))

  covered_by : (o : Option Member) → get room.members q ≡ o
      → (notice_in server rules room event q ≡ None) ⊎ (list_any (bytes_eq q) (keys room.members) ≡ true)
  covered_by None is = inl (notice-none is)
  covered_by (Some member) is = inr (sym (has_key room.members q) ∙ ap is_some is)

-- whom an event notifies is a member after it
pub notices-covered : (server : List ℕ) (rules : List ℕ → PushRuleset) (before : RoomState) (event : Json)
    → IsCovered (notice_in server rules (with_sets (sets_of event) before) event)
    (keys (with_sets (sets_of event) before).members)
notices-covered server rules before event q = covered_by server rules before event q _ refl

-- what is said of a user among those whom an event notifies
pub get-notices : (server : List ℕ) (rules : List ℕ → PushRuleset) (before : RoomState) (event : Json) (user : List ℕ)
    → get (notices_in server rules (with_sets (sets_of event) before) event) user
    ≡ notice_in server rules (with_sets (sets_of event) before) event user
get-notices server rules before event user =
    get-table (notice_in server rules (with_sets (sets_of event) before) event) _
    (notices-covered server rules before event) user

-- what is said of a user among those whom an event notifies, which happens
pub get-noticed : (server user : List ℕ) (x : Happening)
    → get (notices_in server (rules_of server x.before) (room_after x) x.event) user
    ≡ notice_in server (rules_of server x.before) (room_after x) x.event user
unfolding room_after
get-noticed server user x =
    let events = events_in (room_id_of x.event) (events_of x.before) in
    subst (λ (room : RoomState). get (notices_in server (rules_of server x.before) room x.event) user
    ≡ notice_in server (rules_of server x.before) room x.event user) (sym (room_of-push events x.event))
    (get-notices server (rules_of server x.before) (room_of events) x.event user)

is_noticed : (v : Option Verdict)
    → is_some (option_and_then notice_of v) ≡ option_map_or (λ (verdict : Verdict). verdict.notify) v false
is_noticed None = refl
is_noticed (Some verdict) = by verdict.notify
  where
    by : (b : Bool) → is_some (cond b (Some verdict.highlight) None) ≡ b
    by true = refl
    by false = refl

-- an event notifies the users of whom something is said
pub notifies-noticed : (server user : List ℕ) (x : Happening)
    → is_some (notice_in server (rules_of server x.before) (room_after x) x.event user) ≡ notifies server user x
notifies-noticed server user x = is_noticed (verdict_for server user x)

-- whom an event notifies is named by an event of its room
pub notice-unnamed : (server user : List ℕ) (x : Happening)
    → member_in (events_in (room_id_of x.event) (events_of x.before) ++ x.event ∷ []) user ≡ None
    → notifies server user x ≡ false
unfolding room_after room_of
notice-unnamed server user x none =
    let before = events_in (room_id_of x.event) (events_of x.before) in
    let after = before ++ x.event ∷ [] in
    let absent : get (with_sets (sets_of x.event) (room_of before)).members user ≡ None =
    ap (λ (room : RoomState). get room.members user) (sym (room_of-push before x.event))
    ∙ get-table (member_in after) (filter_map named_by after) (member_in-covered after) user ∙ none in
    let unsaid : notice_in server (rules_of server x.before) (room_after x) x.event user ≡ None =
    subst (λ (room : RoomState). notice_in server (rules_of server x.before) room x.event user ≡ None)
    (sym (room_of-push before x.event))
    (notice-none server (rules_of server x.before) (room_of before) x.event user absent) in
    sym (notifies-noticed server user x) ∙ ap is_some unsaid

-- ---- the row of an event

-- the row of what is said of an event, if anything is
abbrev pub rows_by : ℕ → Option Bool → List Row
rows_by position None = []
rows_by position (Some highlight) = record { position = position; highlight = highlight } ∷ []

row_by : (position : ℕ) (in_thread in_room : Bool) (v : Option Verdict)
    → cond (in_thread && (in_room && option_map_or (λ (verdict : Verdict). verdict.notify) v false))
    (record {
      position = position;
      highlight = option_map_or (λ (verdict : Verdict). verdict.highlight) v false;
    } ∷ []) []
    ≡ cond (in_room && in_thread) (rows_by position (option_and_then notice_of v)) []
row_by position true true None = refl
row_by position true true (Some verdict) = by verdict.notify
  where
    by : (b : Bool)
        → cond b (record { position = position; highlight = verdict.highlight } ∷ []) []
        ≡ rows_by position (cond b (Some verdict.highlight) None)
    by true = refl
    by false = refl
row_by position true false v = refl
row_by position false true v = refl
row_by position false false v = refl

-- the row of the next event, by what is said of it
pub next_row-noticed : (server : List ℕ) (h : History) (event : Json) (user room : List ℕ) (of : ThreadKey)
    → next_row server h event user room of
    ≡ cond (is_in room event && same_thread of (thread h event))
    (rows_by (inputs_of h + 1)
    (notice_in server (rules_of server h) (room_after (next_event h event)) event user)) []
next_row-noticed server h event user room of =
    row_by (inputs_of h + 1) (same_thread of (thread h event)) (is_in room event)
    (verdict_for server user (next_event h event))
