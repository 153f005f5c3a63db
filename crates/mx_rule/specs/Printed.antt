-- How a push rule is printed: the object of the Client-Server API v1.11, "Push rules: API", as canonical JSON.
use Rattle.std.specs.Prelude.{ℕ, List, [], ◌∷◌, ◌++◌, codes, map}
use Rattle.mx_json.specs.declared.value.Json.{Json, Truth, Text, List as ListOf, Object}
use Rattle.json.specs.Print.{quoted}
use Rattle.mx_json.specs.Canonical.{canonical}
use Rattle.mx_rule.specs.declared.criterion.Criterion.{Criterion}
use Rattle.mx_rule.specs.declared.criterion.Criterion.TheVariants.{Conditions, Word}
use Rattle.mx_rule.specs.Rule.{PushRule}
use Rattle.mx_rule.specs.Ruleset.{PushRuleset}

-- the conditions of an override or underride rule
abbrev pub conditions_pair : Criterion → List (List ℕ × Json)
conditions_pair (Conditions conditions) = (codes "conditions", ListOf record { items = conditions }) ∷ []
conditions_pair other = []

-- the pattern of a content rule
abbrev pub pattern_pair : Criterion → List (List ℕ × Json)
pattern_pair (Word pattern) = (codes "pattern", Text pattern) ∷ []
pattern_pair other = []

-- the members of a rule's object, by rising key
abbrev pub rule_pairs : PushRule → List (List ℕ × Json)
rule_pairs rule =
    (codes "actions", ListOf record { items = rule.actions })
    ∷ (conditions_pair rule.criterion
    ++ ((codes "default", Truth rule.predefined)
    ∷ (codes "enabled", Truth rule.enabled)
    ∷ (pattern_pair rule.criterion
    ++ ((codes "rule_id", Text rule.id) ∷ []))))

-- a rule as a JSON object
abbrev pub rule_object : PushRule → Json
rule_object rule = Object record { pairs = rule_pairs rule }

-- a rule as text
unfoldable pub printed : PushRule → List ℕ
printed rule = canonical (rule_object rule)

-- ---- the rules of a user

-- rules as a JSON list, in their order
abbrev pub rules_list : List PushRule → Json
rules_list rules = ListOf record { items = map rule_object rules }

-- The rules of a user as a JSON object: a list for each kind, in order of importance.
abbrev pub rules_object : PushRuleset → Json
rules_object rules = Object record {
  pairs =
      (codes "content", rules_list rules.content) ∷ (codes "override", rules_list rules.override)
      ∷ (codes "room", rules_list rules.room) ∷ (codes "sender", rules_list rules.sender)
      ∷ (codes "underride", rules_list rules.underride) ∷ [];
}

-- The rules of a user as text.
unfoldable pub printed_rules : PushRuleset → List ℕ
printed_rules rules = canonical (rules_object rules)

-- ---- the parts of the text, in order; for private clauses

-- a comma, the key and the value's text
abbrev pub member_text : List ℕ → Json → List ℕ
member_text key value = codes "," ++ (quoted key ++ (codes ":" ++ canonical value))

-- the values' texts: this one before the first, a comma before each other
abbrev pub separated : List ℕ → List Json → List ℕ
separated before [] = []
separated before (item ∷ items) = before ++ (canonical item ++ separated (codes ",") items)

-- the conditions of an override or underride rule, as a member that comes after others
abbrev pub conditions_text : Criterion → List ℕ
conditions_text (Conditions conditions) = member_text (codes "conditions") (ListOf record { items = conditions })
conditions_text other = []

-- the pattern of a content rule, as a member that comes after others
abbrev pub pattern_text : Criterion → List ℕ
pattern_text (Word pattern) = member_text (codes "pattern") (Text pattern)
pattern_text other = []
