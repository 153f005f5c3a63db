-- The pushers that live after a history: ours; what a setting does is of the Client-Server API v1.11,
-- 'Push notifications', `POST /_matrix/client/v3/pushers/set`.
use Rattle.std.specs.Prelude.{ℕ, Bool, false, not, ◌&&◌, nat_eq, if◌then◌else◌, List, [], ◌∷◌, ◌++◌, map, filter, find}
use Rattle.std.specs.Prelude.{fold, Option, Some, None, option_map, unwrap_or}
use Rattle.std.specs.List.{list_any}
use Rattle.std.specs.Str.{bytes_eq}
use Rattle.mx_records.specs.declared.entry.Entry.{Entry}
use Rattle.mx_records.specs.declared.entry.Entry.TheVariants.{Input as InputEntry, Outcome as OutcomeEntry}
use Rattle.mx_records.specs.declared.entry.Outcome.{Outcome}
use Rattle.mx_records.specs.declared.entry.Outcome.TheVariants.{Pushed, GaveUp, Rejected}
use Rattle.mx_records.specs.declared.input.Input.{Input}
use Rattle.mx_records.specs.declared.input.Input.TheVariants.{Event, Edit, Receipt, Pusher}
use Rattle.mx_records.specs.declared.pusher_spec.HttpPusher.{HttpPusher}
use Rattle.mx_records.specs.declared.pusher_spec.PusherSpec.{PusherSpec}
use Rattle.mx_records.specs.History.{Addition, History, additions, position_after}

-- A pusher that lives. Its cursor is the position of its last outcome, or its number where it has none.
pub record Living : Type 0 where
  pub number : ℕ  -- the position of the setting that made it
  pub spec : PusherSpec  -- how it was last set
  pub settled : ℕ  -- its cursor

-- the pusher has this number
abbrev pub has_number : ℕ → Living → Bool
has_number number pusher = nat_eq pusher.number number

-- two settings are of the same app and pushkey
abbrev pub has_same_key : PusherSpec → PusherSpec → Bool
has_same_key a b = bytes_eq a.app_id b.app_id && bytes_eq a.pushkey b.pushkey

-- ---- settings

-- a setting is of this pusher: of the same user, app and pushkey
abbrev pub is_set_by : PusherSpec → Living → Bool
is_set_by spec pusher = bytes_eq spec.user pusher.spec.user && has_same_key spec pusher.spec

-- a setting is of the app and pushkey of this pusher of another user
abbrev pub is_taken_by : PusherSpec → Living → Bool
is_taken_by spec pusher = not (bytes_eq spec.user pusher.spec.user) && has_same_key spec pusher.spec

-- the pushers after those of other users went that a setting takes away: those of its app and pushkey,
-- unless its `append` is true
abbrev pub without_taken : PusherSpec → HttpPusher → List Living → List Living
without_taken spec http pushers =
    if unwrap_or http.append false then pushers else filter (λ pusher. not (is_taken_by spec pusher)) pushers

-- how a pusher posts: all that its setting says but `append`, which is of the setting alone
abbrev pub kept_http : HttpPusher → HttpPusher
kept_http http = record {
  app_display_name = http.app_display_name;
  device_display_name = http.device_display_name;
  lang = http.lang;
  details = http.details;
  append = None;
  ts = http.ts;
}

-- how a pusher is set, as it is kept
abbrev pub kept_spec : PusherSpec → PusherSpec
kept_spec spec = record {
  user = spec.user;
  pushkey = spec.pushkey;
  app_id = spec.app_id;
  http = option_map kept_http spec.http;
}

-- a pusher after a setting, which replaces how it was set where it is of this pusher; the number and the
-- cursor stay
abbrev pub set_again : PusherSpec → Living → Living
set_again spec pusher =
    if is_set_by spec pusher then record {
      number = pusher.number;
      spec = kept_spec spec;
      settled = pusher.settled;
    }
    else pusher

-- the pusher that a setting at this position makes
abbrev pub made_at : ℕ → PusherSpec → Living
made_at position spec = record { number = position; spec = kept_spec spec; settled = position }

-- the pushers after a setting at this position made one, or set the one that it is of again
abbrev pub with_set : ℕ → PusherSpec → List Living → List Living
with_set position spec pushers =
    if list_any (is_set_by spec) pushers then map (set_again spec) pushers
    else pushers ++ made_at position spec ∷ []

-- the pushers after a setting at this position: where it doesn't say how to post, its pusher goes; else
-- others go that it takes away, and its pusher is made or set again
abbrev pub after_setting : ℕ → PusherSpec → Option HttpPusher → List Living → List Living
after_setting position spec None pushers = filter (λ pusher. not (is_set_by spec pusher)) pushers
after_setting position spec (Some http) pushers = with_set position spec (without_taken spec http pushers)

-- the pushers after an input at this position: only settings change them
abbrev pub after_input : ℕ → Input → List Living → List Living
after_input position (Event event) pushers = pushers
after_input position (Edit user edit) pushers = pushers
after_input position (Receipt user room id private thread) pushers = pushers
after_input position (Pusher spec) pushers = after_setting position spec spec.http pushers

-- ---- outcomes

-- a pusher after the one with this number settled this position
abbrev pub settled_at : ℕ → ℕ → Living → Living
settled_at number position pusher =
    if has_number number pusher then record {
      number = pusher.number;
      spec = pusher.spec;
      settled = position;
    }
    else pusher

-- the pushers after this one was rejected, if it is there: all with its app and pushkey go
abbrev pub without_key : Option Living → List Living → List Living
without_key None pushers = pushers
without_key (Some rejected) pushers = filter (λ pusher. not (has_same_key rejected.spec pusher.spec)) pushers

-- the pushers after an outcome: one that was pushed or given up moves its pusher's cursor
abbrev pub after_outcome : Outcome → List Living → List Living
after_outcome (Pushed number position) pushers = map (settled_at number position) pushers
after_outcome (GaveUp number position) pushers = map (settled_at number position) pushers
after_outcome (Rejected number position) pushers = without_key (find (has_number number) pushers) pushers

-- ---- over a history

-- the pushers after an entry, the next input having this position
abbrev pub after_entry : ℕ → Entry → List Living → List Living
after_entry position (InputEntry input) pushers = after_input position input pushers
after_entry position (OutcomeEntry outcome) pushers = after_outcome outcome pushers

-- the pushers after an addition
abbrev pub after_addition : List Living → Addition → List Living
after_addition pushers addition = after_entry (position_after addition.before) addition.entry pushers

-- The living pushers of a history, by rising number: each entry in turn changes those before it.
unfoldable pub pushers_of : History → List Living
pushers_of h = fold after_addition [] (additions h)
