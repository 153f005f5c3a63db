-- Whether and how an event is judged for a user: the Client-Server API v1.11, "Push rules";
-- for whom, and by which state of the room, is ours.
use Rattle.std.specs.Prelude.{◌≡◌, ℕ, Bool, false, not, ◌&&◌, ◌||◌, if◌then◌else◌, List, [], ◌∷◌, codes, Option, Some}
use Rattle.std.specs.Prelude.{None, ◌⊎◌, IsSomeAnd, MatchBool}
use Rattle.std.specs.Option.{option_map_or}
use Rattle.std.specs.Str.{bytes_eq}
use Rattle.mx_json.specs.declared.value.Json.{Json}
use Rattle.mx_json.specs.Ids.{is_local, is_user_id}
use Rattle.mx_event.specs.Event.{membership_of, sender_of}
use Rattle.mx_cond.specs.Facts.{EventFacts}
use Rattle.mx_rule.specs.declared.verdict.Verdict.{Verdict}
use Rattle.mx_rule.specs.Actions.{no_notification, verdict_of}
use Rattle.mx_rule.specs.Deciding.{may_decide}
use Rattle.mx_rule.specs.Rule.{MayDecide}
use Rattle.mx_rule.specs.Ruleset.{Placed, PushRuleset, flat}

-- ---- for whom

-- the event is an invitation of this user
abbrev pub invites : Json → List ℕ → Bool
invites event user =
    option_map_or (λ told. bytes_eq told.0 user && bytes_eq told.1 (codes "invite")) (membership_of event) false

-- an event is judged for a local user who didn't send it, and who is joined after it or whom it invites
abbrev pub is_judged : List ℕ → List ℕ → List ℕ → Json → Bool
is_judged server owner membership_after event =
    is_user_id owner
    && is_local server owner
    && not (bytes_eq (sender_of event) owner)
    && (bytes_eq membership_after (codes "join") || invites event owner)

-- ---- how

-- by these rules, in order of importance, this is said of the event: what the first says that is enabled and matches;
-- where none does, it doesn't notify
abbrev pub IsVerdict : EventFacts → List Placed → Verdict → Type 0
IsVerdict facts [] verdict = verdict ≡ no_notification
IsVerdict facts (first ∷ rest) verdict =
    (MayDecide first.rule facts × (verdict ≡ verdict_of first.rule.actions))
    ⊎ ((¬ MayDecide first.rule facts) × IsVerdict facts rest verdict)

-- of an event that is judged for the owner, this is the verdict by the owner's rules before it and the facts after it;
-- of another there is none
abbrev pub IsJudged : List ℕ → List ℕ → List ℕ → PushRuleset → EventFacts → Option Verdict → Type 0
IsJudged server owner membership_after rules facts judged =
    MatchBool (is_judged server owner membership_after facts.event)
    (IsSomeAnd judged (IsVerdict facts (flat rules)))
    (judged ≡ None)

-- ---- the same as functions, by which events can be filtered

-- what is said of an event by these rules, in order of importance: what the first says that may decide;
-- where none may, it doesn't notify
abbrev pub verdict_by : EventFacts → List Placed → Verdict
verdict_by facts [] = no_notification
verdict_by facts (first ∷ rest) =
    if may_decide first.rule facts then verdict_of first.rule.actions else verdict_by facts rest

-- what is said of an event for the owner, by the owner's rules before it and the facts after it;
-- of an event that isn't judged for the owner nothing is
unfoldable pub judged : List ℕ → List ℕ → List ℕ → PushRuleset → EventFacts → Option Verdict
judged server owner membership_after rules facts =
    if is_judged server owner membership_after facts.event then Some (verdict_by facts (flat rules)) else None
