-- What is shown of the rules that are kept, what an entry more or a changed one changes there, and what the rules say.
use Rattle.std.proofs.Common.{◌≡◌, ℕ, Bor, Bool, true, false, cond, not, ◌&&◌, ◌||◌, List, [], ◌∷◌, codes, Option, Some}
use Rattle.std.proofs.Common.{None, Result, IfOk, IfSome, is_some, option_and_then, option_map, unwrap_or, refl, ap}
use Rattle.std.proofs.Common.{subst, sym, ◌∙◌}
use Rattle.std.specs.Cmp.Lexicographic.{nat_list_cmp_total, nat_list_eq_equiv, slice_cmp}
use Rattle.std.specs.FinMap.{find, get, get-from_entries, insert}
use Rattle.std.specs.FinSet as set
use Rattle.std.specs.List.{IsDistinct, cons_option, filter_map, list_any}
use Rattle.std.specs.Map.{keys_of, lookup}
use Rattle.std.specs.Option.{option_copied}
use Rattle.std.specs.Ordering.{eq_by_cmp, nat_cmp}
use Rattle.std.specs.Str.{bytes_eq}
use Rattle.std.proofs.lemmas.Bool.{false≢true}
use Rattle.std.proofs.lemmas.Map.{lookup-none}
use Rattle.std.proofs.lemmas.Map.Entries.{none_past_head}
use Rattle.std.proofs.lemmas.Map.Keys.{IsDistinct-tail}
use Rattle.std.proofs.lemmas.Map.Made.{is_some-lookup}
use Rattle.mx_json.specs.declared.value.Json.{Json}
use Rattle.mx_json.specs.Ids.{is_user_id, localpart_of}
use Rattle.mx_event.specs.Event.{sender_of}
use Rattle.mx_room.specs.Facts.{facts_of}
use Rattle.mx_room.specs.Members.{membership_at}
use Rattle.mx_room.specs.State.{RoomState}
use Rattle.mx_room.specs.Texts.{Texts}
use Rattle.mx_room.proofs.TextsLemmas.{bytes_eq-flip, bytes_eq-itself, bytes_eq-same, get-put, same_texts, ties}
use Rattle.mx_rule.specs.declared.verdict.Verdict.{Verdict}
use Rattle.mx_rule.specs.Judged.{invites, judged}
use Rattle.mx_rule.specs.Predefined.{predefined_rules}
use Rattle.mx_rule.specs.Ruleset.{PushRuleset}
use Rattle.mx_records.specs.Judging.{verdict_in}
use Rattle.mx_records.specs.Rules.{rules_among}
use Rattle.mx_records.proofs.NoticeLemmas.{unjudged}
use Rattle.mx_engine.specs.declared.rules.KeptRules.{KeptRules}
use Rattle.mx_engine.specs.KeptRules.{AreKept, IsKept, KeepsRules, RulesByUser, edited_in, shown_rules, users_in}

-- ---- what is shown

abbrev shown_in : RulesByUser → List (List ℕ × PushRuleset)
shown_in kept = filter_map (λ entry. option_map (λ rules. (entry.0, rules)) (shown_rules entry.1)) kept

find-here : (user q : List ℕ) (found : KeptRules) (kept : RulesByUser) (is_here edited : Bool)
    → IsDistinct bytes_eq (keys_of ((user, found) ∷ kept)) → bytes_eq q user ≡ is_here → found.edited ≡ edited
    → find (slice_cmp nat_cmp) q (shown_in kept) ≡ option_and_then shown_rules (lookup (bytes_eq q) kept)
    → find (slice_cmp nat_cmp) q
    (cons_option (option_map (λ rules. (user, rules)) (cond edited (Some found.rules) None)) (shown_in kept))
    ≡ option_and_then shown_rules (cond is_here (Some found) (lookup (bytes_eq q) kept))
find-here user q found kept is_here true distinct here flag rest =
    ap (λ b. cond b (Some found.rules) (find (slice_cmp nat_cmp) q (shown_in kept))) (ties q user ∙ here)
    ∙ by is_here
  where
    by : (b : Bool) → cond b (Some found.rules) (find (slice_cmp nat_cmp) q (shown_in kept))
        ≡ option_and_then shown_rules (cond b (Some found) (lookup (bytes_eq q) kept))
    by true = sym (ap (λ b. cond b (Some found.rules) None) flag)
    by false = rest
find-here user q found kept true false distinct here flag rest =
    rest
    ∙ ap (option_and_then shown_rules)
    (lookup-none (bytes_eq q) kept (none_past_head nat_list_eq_equiv q (user, found) kept distinct here))
    ∙ sym (ap (λ b. cond b (Some found.rules) None) flag)
find-here user q found kept false false distinct here flag rest = rest

find-shown : (kept : RulesByUser) → IsDistinct bytes_eq (keys_of kept) → (q : List ℕ)
    → find (slice_cmp nat_cmp) q (shown_in kept) ≡ option_and_then shown_rules (lookup (bytes_eq q) kept)
find-shown [] distinct q = refl
find-shown ((user, found) ∷ kept) distinct q =
    find-here user q found kept (bytes_eq q user) found.edited distinct refl refl
    (find-shown kept (IsDistinct-tail bytes_eq user (keys_of kept) distinct) q)

get-edited_in : (kept : RulesByUser) → IsDistinct bytes_eq (keys_of kept) → (q : List ℕ)
    → get (edited_in kept) q ≡ option_and_then shown_rules (lookup (bytes_eq q) kept)
get-edited_in kept distinct q = get-from_entries nat_list_cmp_total (shown_in kept) q ∙ find-shown kept distinct q

any-ties : (q : List ℕ) (users : List (List ℕ))
    → list_any (eq_by_cmp (slice_cmp nat_cmp) q) users ≡ list_any (bytes_eq q) users
any-ties q [] = refl
any-ties q (user ∷ users) = rw (ties q user, any-ties q users)

pub contains-users_in : (kept : RulesByUser) (q : List ℕ)
    → set.contains (users_in kept) q ≡ is_some (lookup (bytes_eq q) kept)
contains-users_in kept q =
    set.contains-from_list nat_list_cmp_total (keys_of kept) q ∙ any-ties q (keys_of kept)
    ∙ sym (is_some-lookup (bytes_eq q) kept)

-- the rules that are kept of a user are in force
pub rules_among-found : (server : List ℕ) (kept : RulesByUser) (user : List ℕ) (found : KeptRules)
    → AreKept server kept → lookup (bytes_eq user) kept ≡ Some found
    → rules_among server (edited_in kept) user ≡ found.rules
rules_among-found server kept user found are is =
    ap (λ (rules : Option PushRuleset). unwrap_or rules (predefined_rules server user))
    (get-edited_in kept are.distinct user ∙ ap (option_and_then shown_rules) is)
    ∙ by found.edited refl
    (subst (λ (o : Option KeptRules). IfSome o (IsKept server user)) is (are.each user))
  where
    by : (edited : Bool) → found.edited ≡ edited → IsKept server user found
        → unwrap_or (cond edited (Some found.rules) None) (predefined_rules server user) ≡ found.rules
    by true flag is = refl
    by false flag is = sym (is flag)

-- where none are kept the predefined ones are
pub rules_among-none : (server : List ℕ) (kept : RulesByUser) (user : List ℕ)
    → AreKept server kept → lookup (bytes_eq user) kept ≡ None
    → rules_among server (edited_in kept) user ≡ predefined_rules server user
rules_among-none server kept user are none =
    ap (λ (rules : Option PushRuleset). unwrap_or rules (predefined_rules server user))
    (get-edited_in kept are.distinct user ∙ ap (option_and_then shown_rules) none)

-- so are those that were made of a user of whom none were found
pub rules_among-made : (server : List ℕ) (edited : Texts PushRuleset) (user name : List ℕ) (made : PushRuleset)
    (found : Option (Bor PushRuleset)) → name ≡ server → made ≡ predefined_rules name user → found ≡ None
    → rules_among server edited user ≡ unwrap_or (option_copied found) (predefined_rules server user)
    → made ≡ rules_among server edited user
rules_among-made server edited user name made found named is none among =
    is ∙ ap (λ (n : List ℕ). predefined_rules n user) named
    ∙ sym (among
    ∙ ap (λ (o : Option (Bor PushRuleset)). unwrap_or (option_copied o) (predefined_rules server user)) none)

pub keeps-same : (server : List ℕ) (kept : RulesByUser) → AreKept server kept → KeepsRules server kept kept
keeps-same server kept are = record { kept = are; edited = refl; grows = λ user there. there }

-- the rules that are shown of a user
pub get-shown : (server : List ℕ) (kept : RulesByUser) (user : List ℕ) → AreKept server kept
    → get (edited_in kept) user ≡ option_and_then shown_rules (lookup (bytes_eq user) kept)
get-shown server kept user are = get-edited_in kept are.distinct user

-- ---- one user's rules as kept now

module _ (old new : RulesByUser) (user : List ℕ) (now : KeptRules)
    (updated : (q : List ℕ)
    → lookup (bytes_eq q) new ≡ cond (bytes_eq user q) (Some now) (lookup (bytes_eq q) old)) where
  kept-put : (server : List ℕ) → AreKept server old → IsDistinct bytes_eq (keys_of new) → IsKept server user now
      → AreKept server new
  kept-put server are distinct is = record {
    distinct = distinct;
    each = λ q. subst (λ (o : Option KeptRules). IfSome o (IsKept server q)) (sym (updated q))
        (by q (bytes_eq user q) refl);
  }
    where
      by : (q : List ℕ) (b : Bool) → bytes_eq user q ≡ b
          → IfSome (cond b (Some now) (lookup (bytes_eq q) old)) (IsKept server q)
      by q true same = λ unedited. is unedited ∙ ap (predefined_rules server) (bytes_eq-same user q same)
      by q false apart = are.each q

  edited-same : IsDistinct bytes_eq (keys_of old) → IsDistinct bytes_eq (keys_of new)
      → shown_rules now ≡ option_and_then shown_rules (lookup (bytes_eq user) old) → edited_in new ≡ edited_in old
  edited-same once still same =
      same_texts (edited_in new) (edited_in old) (λ q.
      get-edited_in new still q ∙ ap (option_and_then shown_rules) (updated q) ∙ by q (bytes_eq user q) refl
      ∙ sym (get-edited_in old once q))
    where
      by : (q : List ℕ) (b : Bool) → bytes_eq user q ≡ b
          → option_and_then shown_rules (cond b (Some now) (lookup (bytes_eq q) old))
          ≡ option_and_then shown_rules (lookup (bytes_eq q) old)
      by q true is =
          same
          ∙ ap (λ (at : List ℕ). option_and_then shown_rules (lookup (bytes_eq at) old)) (bytes_eq-same user q is)
      by q false apart = refl

  edited-put : IsDistinct bytes_eq (keys_of old) → IsDistinct bytes_eq (keys_of new) → (rules : PushRuleset)
      → shown_rules now ≡ Some rules → edited_in new ≡ insert (edited_in old) user rules
  edited-put once still rules is =
      same_texts (edited_in new) (insert (edited_in old) user rules) (λ q.
      get-edited_in new still q ∙ ap (option_and_then shown_rules) (updated q) ∙ by q (bytes_eq user q)
      ∙ ap (λ b. cond b (Some rules) (option_and_then shown_rules (lookup (bytes_eq q) old))) (bytes_eq-flip user q)
      ∙ ap (cond (bytes_eq q user) (Some rules)) (sym (get-edited_in old once q))
      ∙ sym (get-put (edited_in old) user rules q))
    where
      by : (q : List ℕ) (b : Bool) → option_and_then shown_rules (cond b (Some now) (lookup (bytes_eq q) old))
          ≡ cond b (Some rules) (option_and_then shown_rules (lookup (bytes_eq q) old))
      by q true = is
      by q false = refl

  pub user-there : set.contains (users_in new) user ≡ true
  user-there =
      contains-users_in new user ∙ ap is_some (updated user)
      ∙ ap (λ b. is_some (cond b (Some now) (lookup (bytes_eq user) old))) (bytes_eq-itself user)

  users-grow : (q : List ℕ) → set.contains (users_in old) q ≡ true → set.contains (users_in new) q ≡ true
  users-grow q there =
      contains-users_in new q ∙ ap is_some (updated q)
      ∙ by (bytes_eq user q) (sym (contains-users_in old q) ∙ there)
    where
      by : (b : Bool) → is_some (lookup (bytes_eq q) old) ≡ true
          → is_some (cond b (Some now) (lookup (bytes_eq q) old)) ≡ true
      by true there = refl
      by false there = there

  -- the predefined rules of a user are kept
  pub keeps-entered : (server : List ℕ) → AreKept server old → IsDistinct bytes_eq (keys_of new)
      → lookup (bytes_eq user) old ≡ None → now.rules ≡ predefined_rules server user → now.edited ≡ false
      → KeepsRules server old new
  keeps-entered server are distinct none rules unedited = record {
    kept = kept-put server are distinct (λ _. rules);
    edited = edited-same are.distinct distinct
        (ap (λ b. cond b (Some now.rules) None) unedited ∙ ap (option_and_then shown_rules) (sym none));
    grows = users-grow;
  }

  -- a user's rules were edited
  pub kept-edited : (server : List ℕ) → AreKept server old → IsDistinct bytes_eq (keys_of new) → now.edited ≡ true
      → AreKept server new
  kept-edited server are distinct edited =
      kept-put server are distinct (λ unedited. absurd (false≢true (sym unedited ∙ edited)))

  pub edited-edited : (server : List ℕ) (rules : PushRuleset) → AreKept server old → IsDistinct bytes_eq (keys_of new)
      → now.rules ≡ rules → now.edited ≡ true → edited_in new ≡ insert (edited_in old) user rules
  edited-edited server rules are distinct is edited =
      edited-put are.distinct distinct rules (ap (λ b. cond b (Some now.rules) None) edited ∙ ap Some is)

pub none_from : {X : Type 0} (o : Option X) → is_some o ≡ false → o ≡ None
none_from None none = refl
none_from (Some x) some = absurd (false≢true (sym some))

-- ---- what the rules say

remote_fails : (a b c d : Bool) → b ≡ false → (a && b && c && d) ≡ false
remote_fails true b c d fails = ap (λ b. b && c && d) fails
remote_fails false b c d fails = refl

-- of an event nothing is said for a user of another server
pub verdict-remote : (server : List ℕ) (rules : List ℕ → PushRuleset) (room : RoomState) (event : Json)
    (user : List ℕ) → is_some (localpart_of server user) ≡ false → None ≡ verdict_in server rules room event user
verdict-remote server rules room event user remote =
    sym (unjudged server (membership_at room user) user (rules user) (facts_of event user room)
    (remote_fails (is_user_id user) (is_some (localpart_of server user))
    (not (bytes_eq (sender_of event) user))
    (bytes_eq (membership_at room user) (codes "join") || invites event user) remote))

-- what rules say that are the user's
pub verdict-by : {E : Type 0} (server : List ℕ) (rules : List ℕ → PushRuleset) (room : RoomState) (event : Json)
    (user name : List ℕ) (own : PushRuleset) (said : Result (Option Verdict) E) → name ≡ server → own ≡ rules user
    → IfOk said (λ verdict. verdict ≡ judged name user (membership_at room user) own (facts_of event user room))
    → IfOk said (λ verdict. verdict ≡ verdict_in server rules room event user)
verdict-by server rules room event user name own said named is by =
    subst (λ (n : List ℕ). IfOk said
    (λ verdict. verdict ≡ judged n user (membership_at room user) (rules user) (facts_of event user room))) named
    (subst (λ (r : PushRuleset). IfOk said
    (λ verdict. verdict ≡ judged name user (membership_at room user) r (facts_of event user room))) is by)
