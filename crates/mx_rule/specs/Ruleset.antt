-- The push rules of a user, in order of importance, and which of them decides:
-- the Client-Server API v1.11, "Push rules"; where user rules stand among predefined ones is ours.
use Rattle.std.specs.Prelude.{◌≡◌, ℕ, ◌+◌, nat_le, Bool, true, false, not, ◌&&◌, if◌then◌else◌, List, [], ◌∷◌, ◌++◌}
use Rattle.std.specs.Prelude.{map, filter, count_by, codes, Option, Some, None, ◌⊎◌}
use Rattle.std.specs.List.{flat_map, list_all, list_any}
use Rattle.std.specs.Str.{bytes_eq}
use Rattle.mx_cond.specs.Facts.{EventFacts}
use Rattle.mx_rule.specs.declared.criterion.Criterion.{Criterion}
use Rattle.mx_rule.specs.declared.criterion.Criterion.TheVariants.{Conditions, Word, InRoom, FromSender}
use Rattle.mx_rule.specs.declared.kind.Kind.{Kind}
use Rattle.mx_rule.specs.declared.kind.Kind.TheVariants.{Override, Content, Room, Sender, Underride}
use Rattle.mx_rule.specs.declared.kind.RulePlace.{RulePlace}
use Rattle.mx_rule.specs.Rule.{PushRule, MayDecide}

-- ---- five lists of rules

-- a user's rules, by kind
pub record PushRuleset : Type 0 where
  pub override : List PushRule
  pub content : List PushRule
  pub room : List PushRule
  pub sender : List PushRule
  pub underride : List PushRule

-- the rules of a kind
abbrev pub rules_of_kind : Kind → PushRuleset → List PushRule
rules_of_kind Override rules = rules.override
rules_of_kind Content rules = rules.content
rules_of_kind Room rules = rules.room
rules_of_kind Sender rules = rules.sender
rules_of_kind Underride rules = rules.underride

-- ---- the order of importance

-- a rule, and where it stands in the list of its kind
pub record Placed : Type 0 where
  pub place : RulePlace
  pub rule : PushRule

-- the rules of a kind, each with its place, from this place on
abbrev pub placed_from : Kind → ℕ → List PushRule → List Placed
placed_from kind index [] = []
placed_from kind index (rule ∷ rules) =
    record { place = record { kind = kind; index = index }; rule = rule } ∷ placed_from kind (index + 1) rules

-- the rules of a kind, each with its place
abbrev pub placed : Kind → PushRuleset → List Placed
placed kind rules = placed_from kind 0 (rules_of_kind kind rules)

-- the rule that switches all others off: the override rule `.m.rule.master`
abbrev pub is_master : Kind → PushRule → Bool
is_master Override rule = bytes_eq rule.id (codes ".m.rule.master")
is_master kind rule = false

-- a rule that the user made
abbrev pub is_own : Kind → PushRule → Bool
is_own kind rule = not (is_master kind rule) && not rule.predefined

-- how many of a kind's rules the user made
abbrev pub own_among : Kind → List PushRule → ℕ
own_among kind rules = count_by (is_own kind) rules

-- a predefined rule but the master
abbrev pub is_given : Kind → PushRule → Bool
is_given kind rule = not (is_master kind rule) && rule.predefined

-- the rules of a kind by importance: the master, then the user's rules, then the predefined ones
abbrev pub by_importance : Kind → List Placed → List Placed
by_importance kind rules =
    filter (λ each. is_master kind each.rule) rules
    ++ (filter (λ each. is_own kind each.rule) rules ++ filter (λ each. is_given kind each.rule) rules)

-- the kinds in order of importance
abbrev pub kinds : List Kind
kinds = Override ∷ Content ∷ Room ∷ Sender ∷ Underride ∷ []

-- all rules in order of importance: kind by kind, within a kind by importance
unfoldable pub flat : PushRuleset → List Placed
flat rules = flat_map (λ kind. by_importance kind (placed kind rules)) kinds

-- ---- the first match

-- of rules in order of importance, this one decides, or none: the first that is enabled and matches the event
abbrev pub IsFirstMatch : EventFacts → List Placed → Option RulePlace → Type 0
IsFirstMatch facts [] found = found ≡ None
IsFirstMatch facts (first ∷ rest) found =
    (MayDecide first.rule facts × (found ≡ Some first.place))
    ⊎ ((¬ MayDecide first.rule facts) × IsFirstMatch facts rest found)

-- ---- which lists are a ruleset

-- the criterion of a rule of this kind
abbrev pub fits : Kind → Criterion → Bool
fits Override (Conditions conditions) = true
fits Content (Word pattern) = true
fits Room InRoom = true
fits Sender FromSender = true
fits Underride (Conditions conditions) = true
fits kind criterion = false

-- how far back a rule stands among those of its kind
abbrev pub rank_of : Kind → PushRule → ℕ
rank_of kind rule = if is_master kind rule then 0 else (if rule.predefined then 2 else 1)

-- no rule stands before one that is more important
abbrev pub are_ranked : Kind → List PushRule → Bool
are_ranked kind [] = true
are_ranked kind (rule ∷ rules) =
    list_all (λ later. nat_le (rank_of kind rule) (rank_of kind later)) rules && are_ranked kind rules

-- no two texts are equal
abbrev pub are_distinct : List (List ℕ) → Bool
are_distinct [] = true
are_distinct (text ∷ texts) = not (list_any (λ later. bytes_eq later text) texts) && are_distinct texts

-- the ids of these rules
abbrev pub ids_of : List PushRule → List (List ℕ)
ids_of rules = map (λ rule. rule.id) rules

-- these can be the rules of a kind: each has its criterion, they stand in order of importance, and no two have one id
abbrev pub are_rules_of : Kind → List PushRule → Bool
are_rules_of kind rules =
    list_all (λ rule. fits kind rule.criterion) rules && (are_ranked kind rules && are_distinct (ids_of rules))

-- these five lists are a ruleset
abbrev pub IsRuleset : PushRuleset → Type 0
IsRuleset rules = (kind : Kind) → are_rules_of kind (rules_of_kind kind rules) ≡ true
