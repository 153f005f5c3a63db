-- Whom an event notifies, found among the joined local users before it and the one whom it makes a member.
use Rattle.std.proofs.Common.{◌≡◌, ℕ, ◌+◌, ◌<◌, Bool, true, false, cond, not, ◌&&◌, ◌||◌, List, [], ◌∷◌, ◌++◌, length}
use Rattle.std.proofs.Common.{get_or, take, codes, Option, Some, None, Ok, Err, ◌⊎◌, inl, inr, is_some, option_map}
use Rattle.std.proofs.Common.{option_and_then, refl, ap, ap₂, subst, sym, ◌∙◌}
use Rattle.std.specs.Cmp.Lexicographic.{nat_list_eq_equiv, slice_cmp}
use Rattle.std.specs.FinMap.{from_entries, get, keys}
use Rattle.std.specs.List.{AllByRecursion, IsDistinct, cons_option, list_any}
use Rattle.std.specs.Map.{keys_of}
use Rattle.std.specs.Option.{option_map_or}
use Rattle.std.specs.Ordering.{nat_cmp}
use Rattle.std.specs.Str.{bytes_eq}
use Rattle.std.proofs.lemmas.Bool.{cases_Bool}
use Rattle.std.proofs.lemmas.List.{take_more}
use Rattle.std.proofs.lemmas.List.Elements.{filter_map-append}
use Rattle.std.proofs.lemmas.List.Folds.{list_any-append}
use Rattle.std.proofs.lemmas.Map.Keys.{IsDistinct-cons, IsDistinct-head, IsDistinct-push, IsDistinct-tail}
use Rattle.mx_json.specs.declared.value.Json.{Json}
use Rattle.mx_json.specs.Ids.{is_user_id, localpart_of, read_user_id}
use Rattle.mx_json.specs.declared.id.IdError.TheVariants.{BadId}
use Rattle.mx_event.specs.Event.{membership_of, sender_of}
use Rattle.mx_room.specs.Change.{member_set_by, sets_of, with_member, with_sets}
use Rattle.mx_room.specs.Facts.{facts_of}
use Rattle.mx_room.specs.Members.{joins, membership_at}
use Rattle.mx_room.specs.Rooms.{is_local_member}
use Rattle.mx_room.specs.State.{RoomState, member_by, named_by}
use Rattle.mx_room.specs.Texts.{Texts, table}
use Rattle.mx_room.specs.declared.member.Member.{Member}
use Rattle.mx_room.proofs.TextsLemmas.{IsCovered, bytes_eq-flip, bytes_eq-same, get-put, same_table}
use Rattle.mx_rule.specs.Judged.{invites, is_judged}
use Rattle.mx_rule.specs.Ruleset.{PushRuleset}
use Rattle.mx_records.specs.Judging.{notice_in, notice_of, notices_in}
use Rattle.mx_records.proofs.NoticeLemmas.{notices-covered, unjudged}
use Rattle.mx_engine.specs.Noticing.{IsListed, beside, said_of}

-- ---- what is said of users, one more at a time

pub said-more : (f : List ℕ → Option Bool) (users : List (List ℕ)) (i : ℕ) (user : List ℕ) → i < length users
    → get_or users i user ≡ user
    → said_of f (take i users) ++ said_of f (user ∷ []) ≡ said_of f (take (i + 1) users)
said-more f users i user within is =
    sym (filter_map-append (λ user. option_map (λ said. (user, said)) (f user)) (take i users) (user ∷ []))
    ∙ ap (λ x. said_of f (take i users ++ x ∷ [])) (sym is)
    ∙ ap (said_of f) (sym (take_more users i user within))

-- ---- who is walked

-- these users, and the one beside them, if any
abbrev pub walked : List (List ℕ) → Option (List ℕ) → List (List ℕ)
walked users None = users
walked users (Some user) = users ++ user ∷ []

pub said-walked : (f : List ℕ → Option Bool) (users : List (List ℕ)) (user : List ℕ)
    → said_of f users ++ said_of f (user ∷ []) ≡ said_of f (walked users (Some user))
said-walked f users user =
    sym (filter_map-append (λ user. option_map (λ said. (user, said)) (f user)) users (user ∷ []))

or_true : (b : Bool) → (b || true) ≡ true
or_true true = refl
or_true false = refl

any-walked : (q : List ℕ) (users : List (List ℕ)) (o : Option (List ℕ)) → list_any (bytes_eq q) users ≡ true
    → list_any (bytes_eq q) (walked users o) ≡ true
any-walked q users None is = is
any-walked q users (Some user) is =
    list_any-append (bytes_eq q) users (user ∷ []) ∙ ap (λ b. b || list_any (bytes_eq q) (user ∷ [])) is

any-last : (q user : List ℕ) (users : List (List ℕ)) → bytes_eq q user ≡ true
    → list_any (bytes_eq q) (users ++ user ∷ []) ≡ true
any-last q user users is =
    list_any-append (bytes_eq q) users (user ∷ [])
    ∙ ap (λ b. list_any (bytes_eq q) users || (b || false)) is
    ∙ or_true (list_any (bytes_eq q) users)

-- ---- these cover whom an event notifies

-- the event names this user
abbrev names : Option (List ℕ) → List ℕ → Bool
names named q = option_map_or (bytes_eq q) named false

module _ (q : List ℕ) (users : List (List ℕ)) (f : List ℕ → Option Bool) where
  abbrev Among : List (List ℕ) → Type 0
  Among those = (f q ≡ None) ⊎ (list_any (bytes_eq q) those ≡ true)

  among-walked : (o : Option (List ℕ)) → Among users → Among (walked users o)
  among-walked o (inl none) = inl none
  among-walked o (inr there) = inr (any-walked q users o there)

  among-named : (user : List ℕ) → (is_user_id q ≡ false → f q ≡ None) → bytes_eq q user ≡ true
      → Among (walked users (beside users (Some user)))
  among-named user no_id is = by (is_user_id user) (list_any (bytes_eq user) users) refl refl
    where
      same : q ≡ user
      same = bytes_eq-same q user is

      by : (b c : Bool) → is_user_id user ≡ b → list_any (bytes_eq user) users ≡ c
          → Among (walked users (cond (b && not c) (Some user) None))
      by false c id there = inl (no_id (ap is_user_id same ∙ id))
      by true true id there = inr (ap (λ x. list_any (bytes_eq x) users) same ∙ there)
      by true false id there = inr (any-last q user users is)

  among-beside : (named : Option (List ℕ)) → (is_user_id q ≡ false → f q ≡ None)
      → (names named q ≡ false → Among users) → Among (walked users (beside users named))
  among-beside None no_id apart = apart refl
  among-beside (Some user) no_id apart =
      elim (cases_Bool (bytes_eq q user)) [
        | inl is ↦ among-named user no_id is
        | inr differs ↦ among-walked (beside users (Some user)) (apart differs)
      ]

uninvited : (told : Option (List ℕ × List ℕ)) (q : List ℕ) → names (option_map (λ t. t.0) told) q ≡ false
    → option_map_or (λ t. bytes_eq t.0 q && bytes_eq t.1 (codes "invite")) told false ≡ false
uninvited None q apart = refl
uninvited (Some told) q apart =
    ap (λ b. b && bytes_eq told.1 (codes "invite")) (bytes_eq-flip told.0 q ∙ apart)

untouched : (named : Option (List ℕ)) (member : Member) (members : Texts Member) (q : List ℕ) → names named q ≡ false
    → get (with_member (option_map (λ user. (user, member)) named) members) q ≡ get members q
untouched None member members q apart = refl
untouched (Some user) member members q apart =
    get-put members user member q ∙ ap (λ b. cond b (Some member) (get members q)) apart

as_joined : (o : Option Member)
    → bytes_eq (option_map_or (λ (m : Member). m.membership) o (codes "leave")) (codes "join")
    ≡ option_map_or joins o false
as_joined None = refl
as_joined (Some member) = refl

judged-listed : (a b c j i l : Bool) → i ≡ false → l ≡ ((a && b) && j)
    → ((a && b && c && (j || i)) ≡ false) ⊎ (l ≡ true)
judged-listed true true c true i l uninvites is = inr is
judged-listed true true true false i l uninvites is = inl uninvites
judged-listed true true false false i l uninvites is = inl refl
judged-listed true false c j i l uninvites is = inl refl
judged-listed false b c j i l uninvites is = inl refl

module _ (server : List ℕ) (rules : List ℕ → PushRuleset) (event : Json) (before : RoomState) where
  abbrev room : RoomState
  room = with_sets (sets_of event) before

  abbrev notice : List ℕ → Option Bool
  notice = notice_in server rules room event

  module _ (q : List ℕ) where
    notice-unjudged : is_judged server q (membership_at room q) event ≡ false → notice q ≡ None
    notice-unjudged is =
        ap (option_and_then notice_of) (unjudged server (membership_at room q) q (rules q) (facts_of event q room) is)

    notice-no_id : is_user_id q ≡ false → notice q ≡ None
    notice-no_id is = notice-unjudged (ap (λ b.
        b && is_some (localpart_of server q) && not (bytes_eq (sender_of event) q)
        && (bytes_eq (membership_at room q) (codes "join") || invites event q)) is)

    stays : names (named_by event) q ≡ false → get room.members q ≡ get before.members q
    unfolding member_set_by
    stays apart = untouched (named_by event) (member_by event) before.members q apart

    join-stays : names (named_by event) q ≡ false
        → bytes_eq (membership_at room q) (codes "join") ≡ option_map_or joins (get before.members q) false
    join-stays apart = as_joined (get room.members q) ∙ ap (λ o. option_map_or joins o false) (stays apart)

    among-listed : (users : List (List ℕ)) → list_any (bytes_eq q) users ≡ is_local_member server before q
        → names (named_by event) q ≡ false → (notice q ≡ None) ⊎ (list_any (bytes_eq q) users ≡ true)
    among-listed users is apart =
        elim (judged-listed (is_user_id q) (is_some (localpart_of server q)) (not (bytes_eq (sender_of event) q))
        (bytes_eq (membership_at room q) (codes "join")) (invites event q) (list_any (bytes_eq q) users)
        (uninvited (membership_of event) q apart)
        (is ∙ ap (λ b. (is_user_id q && is_some (localpart_of server q)) && b) (sym (join-stays apart)))) [
          | inl is ↦ inl (notice-unjudged is)
          | inr there ↦ inr there
        ]

  walked-covers : (users : List (List ℕ))
      → ((q : List ℕ) → list_any (bytes_eq q) users ≡ is_local_member server before q)
      → IsCovered notice (walked users (beside users (named_by event)))
  walked-covers users listed q =
      among-beside q users notice (named_by event) (notice-no_id q) (among-listed q users (listed q))

  entries-noticed : (users : List (List ℕ)) (named : Option (List ℕ)) (said : List (List ℕ × Bool))
      → ((q : List ℕ) → list_any (bytes_eq q) users ≡ is_local_member server before q)
      → named ≡ beside users (named_by event) → said ≡ said_of notice (walked users named)
      → from_entries {R = slice_cmp nat_cmp} said ≡ notices_in server rules room event
  unfolding table
  entries-noticed users named said listed is items =
      ap (λ es. from_entries {R = slice_cmp nat_cmp} es) items
      ∙ ap (λ o. from_entries {R = slice_cmp nat_cmp} (said_of notice (walked users o))) is
      ∙ same_table notice notice (keys room.members) (walked users (beside users (named_by event)))
      (notices-covered server rules before event) (walked-covers users listed) (λ q. refl)

-- what is said of those who are walked is whom the event notifies
pub notices-walked : (server : List ℕ) (rules : List ℕ → PushRuleset) (event : Json) (here : RoomState)
    (users : List (List ℕ)) (named : Option (List ℕ)) (said : List (List ℕ × Bool))
    → IsListed server event here users → named ≡ beside users (named_by event)
    → said ≡ said_of (notice_in server rules here event) (walked users named)
    → from_entries {R = slice_cmp nat_cmp} said ≡ notices_in server rules here event
notices-walked server rules event here users named said listed is items =
    let items_after = subst (λ (r : RoomState). said ≡ said_of (notice_in server rules r event) (walked users named))
    listed.after items in
    subst (λ (r : RoomState). from_entries {R = slice_cmp nat_cmp} said ≡ notices_in server rules r event)
    (sym listed.after) (entries-noticed server rules event listed.before users named said listed.listed is items_after)

-- ---- the one whom an event names

any-flip : (q : List ℕ) (users : List (List ℕ)) → list_any (λ user. bytes_eq user q) users ≡ list_any (bytes_eq q) users
any-flip q [] = refl
any-flip q (user ∷ users) = λ i. bytes_eq-flip user q i || any-flip q users i

read_text : (b : Bool) (text id : List ℕ) → cond b (Ok text) (Err BadId) ≡ Ok id → (text ≡ id) × (b ≡ true)
read_text true text id reads = (cc, refl)
read_text false text id reads = absurd cc

module _ (users : List (List ℕ)) (told : Option (List ℕ × List ℕ)) (user membership : List ℕ)
    (is : Some (user, membership) ≡ told) where
  named-told : Some user ≡ option_map (λ (t : List ℕ × List ℕ). t.0) told
  named-told = ap (option_map (λ (t : List ℕ × List ℕ). t.0)) is

  pub beside-among : list_any (λ listed. bytes_eq listed user) users ≡ true
      → None ≡ beside users (option_map (λ (t : List ℕ × List ℕ). t.0) told)
  beside-among there =
      sym (by (is_user_id user) (list_any (bytes_eq user) users) (sym (any-flip user users) ∙ there))
      ∙ ap (beside users) named-told
    where
      by : (b c : Bool) → c ≡ true → cond (b && not c) (Some user) None ≡ None
      by true c there = ap (λ c. cond (not c) (Some user) None) there
      by false c there = refl

  pub beside-apart : (id : List ℕ) → list_any (λ listed. bytes_eq listed user) users ≡ false
      → read_user_id user ≡ Ok id → Some id ≡ beside users (option_map (λ (t : List ℕ × List ℕ). t.0) told)
  beside-apart id apart reads =
      let read = read_text (is_user_id user) user id reads in
      ap (λ x. Some x) (sym read.0)
      ∙ ap₂ (λ b c. cond (b && not c) (Some user) None) (sym read.1) (sym (sym (any-flip user users) ∙ apart))
      ∙ ap (beside users) named-told

-- ---- each user once

-- who is none of these users is none of those of whom something is said
said-apart : (f : List ℕ → Option Bool) (user : List ℕ) (users : List (List ℕ))
    → AllByRecursion (λ other. bytes_eq user other ≡ false) users
    → AllByRecursion (λ other. bytes_eq user other ≡ false) (keys_of (said_of f users))
said-apart f user [] apart = apart
said-apart f user (first ∷ users) apart = by (f first) (said-apart f user users apart.1)
  where
    by : (said : Option Bool)
        → AllByRecursion (λ other. bytes_eq user other ≡ false) (keys_of (said_of f users))
        → AllByRecursion (λ other. bytes_eq user other ≡ false)
        (keys_of (cons_option (option_map (λ s. (first, s)) said) (said_of f users)))
    by None rest = rest
    by (Some s) rest = (apart.0, rest)

said-once : (f : List ℕ → Option Bool) (users : List (List ℕ)) → IsDistinct bytes_eq users
    → IsDistinct bytes_eq (keys_of (said_of f users))
said-once f [] once = once
said-once f (user ∷ users) once =
    by (f user) (said-once f users (IsDistinct-tail bytes_eq user users once))
    (said-apart f user users (IsDistinct-head bytes_eq user users once))
  where
    by : (said : Option Bool) → IsDistinct bytes_eq (keys_of (said_of f users))
        → AllByRecursion (λ other. bytes_eq user other ≡ false) (keys_of (said_of f users))
        → IsDistinct bytes_eq (keys_of (cons_option (option_map (λ s. (user, s)) said) (said_of f users)))
    by None rest apart = rest
    by (Some s) rest apart = IsDistinct-cons bytes_eq user (keys_of (said_of f users)) apart rest

walked-once : (users : List (List ℕ)) (named : Option (List ℕ)) → IsDistinct bytes_eq users
    → IsDistinct bytes_eq (walked users (beside users named))
walked-once users None once = once
walked-once users (Some user) once = by (is_user_id user) (list_any (bytes_eq user) users) refl
  where
    by : (id there : Bool) → list_any (bytes_eq user) users ≡ there
        → IsDistinct bytes_eq (walked users (cond (id && not there) (Some user) None))
    by true true is = once
    by true false is = IsDistinct-push nat_list_eq_equiv users user once is
    by false there is = once

-- each user of whom something is said stands once
pub notices-once : (f : List ℕ → Option Bool) (users : List (List ℕ)) (named told : Option (List ℕ))
    (said : List (List ℕ × Bool)) → IsDistinct bytes_eq users → named ≡ beside users told
    → said ≡ said_of f (walked users named) → IsDistinct bytes_eq (keys_of said)
notices-once f users named told said once is items =
    subst (λ (es : List (List ℕ × Bool)). IsDistinct bytes_eq (keys_of es))
    (sym (items ∙ ap (λ o. said_of f (walked users o)) is))
    (said-once f (walked users (beside users told)) (walked-once users told once))
