-- What the actions of a push rule mean: the Client-Server API v1.11, "Actions";
-- what other texts, other tweaks and repeated tweaks do is ours.
use Rattle.std.specs.Prelude.{ℕ, Bool, true, false, if◌then◌else◌, List, [], ◌∷◌, map, codes, Option, Some, None}
use Rattle.std.specs.Prelude.{unwrap_or}
use Rattle.std.specs.List.{list_any}
use Rattle.std.specs.Option.{option_map_or, option_or}
use Rattle.std.specs.Str.{bytes_eq}
use Rattle.mx_json.specs.declared.value.Json.{Json}
use Rattle.mx_json.specs.Json.{member, text_at, text_of, truth_of}
use Rattle.mx_rule.specs.declared.action.Action.{Action}
use Rattle.mx_rule.specs.declared.action.Action.TheVariants.{Notify, Inert, Sound, Highlight}
use Rattle.mx_rule.specs.declared.verdict.Verdict.{Verdict}

-- ---- what one action does

-- the value is the truth value true
abbrev pub is_true : Json → Bool
is_true json = unwrap_or (truth_of json) false

-- a tweak `highlight` is on where it has no value, or the value true
abbrev pub is_on : Json → Bool
is_on tweak = option_map_or is_true (member (codes "value") tweak) true

-- what a tweak of this name does: `sound` gives a sound where its value is a text
abbrev pub tweak_of : List ℕ → Json → Action
tweak_of name tweak =
    if bytes_eq name (codes "sound") then Sound (text_at (codes "value") tweak)
    else (if bytes_eq name (codes "highlight") then Highlight (is_on tweak)
    else Inert)

-- what an action that is no text does: it sets the tweak that its `set_tweak` names
abbrev pub setting_of : Json → Action
setting_of json = option_map_or (λ name. tweak_of name json) (text_at (codes "set_tweak") json) Inert

-- what an action that is this text does: `dont_notify` and `coalesce` do nothing
abbrev pub word_of : List ℕ → Action
word_of word = if bytes_eq word (codes "notify") then Notify else Inert

-- what an action does
unfoldable pub action_of : Json → Action
action_of json = option_map_or word_of (text_of json) (setting_of json)

-- ---- what the actions of a rule mean together

-- the action is `notify`
abbrev pub is_notify : Action → Bool
is_notify Notify = true
is_notify other = false

-- what a tweak `highlight` says; other actions say nothing of it
abbrev pub highlight_in : Action → Option Bool
highlight_in (Highlight on) = Some on
highlight_in other = None

-- what a tweak `sound` says: a sound, or that there is none; other actions say nothing of it
abbrev pub sound_in : Action → Option (Option (List ℕ))
sound_in (Sound sound) = Some sound
sound_in other = None

-- what the last of the actions that say something says
abbrev pub last_said : {A : Type 0} → (Action → Option A) → List Action → Option A
last_said says [] = None
last_said says (action ∷ actions) = option_or (last_said says actions) (says action)

-- a rule notifies where one of its actions is `notify`
abbrev pub says_notify : List Action → Bool
says_notify actions = list_any is_notify actions

-- it highlights where its last tweak `highlight` is on
abbrev pub says_highlight : List Action → Bool
says_highlight actions = unwrap_or (last_said highlight_in actions) false

-- its sound is that of its last tweak `sound`
abbrev pub sound_of : List Action → Option (List ℕ)
sound_of actions = unwrap_or (last_said sound_in actions) None

-- what these actions say together of an event
abbrev pub meaning_of : List Action → Verdict
meaning_of actions =
    record { notify = says_notify actions; highlight = says_highlight actions; sound = sound_of actions }

-- what a rule with these actions says of an event for which it decides
abbrev pub verdict_of : List Json → Verdict
verdict_of actions = meaning_of (map action_of actions)

-- what is said of an event for which no rule decides
abbrev pub no_notification : Verdict
no_notification = record { notify = false; highlight = false; sound = None }
