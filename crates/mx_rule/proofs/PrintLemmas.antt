-- The text of a rule, part by part.
use Rattle.std.proofs.Common.{◌≡◌, ℕ, ◌+◌, ◌<◌, ◌≤◌, Bool, true, false, List, [], ◌∷◌, ◌++◌, map, length, drop, get_or}
use Rattle.std.proofs.Common.{codes, refl, sym, ap, ◌∙◌, append_assoc, rules}
use Rattle.std.proofs.lemmas.List.{at_drop_more, at_drop_all, append-nil}
use Rattle.std.specs.List.{join_with_byte}
use Rattle.json.specs.Print.{escape_byte}
use Rattle.mx_json.specs.declared.value.Json.{Json, Truth, Text, List as ListOf, Object, the_lemmas}
use Rattle.mx_json.specs.Canonical.{canonical, comma}
use Rattle.mx_json.proofs.CanonicalLemmas.{canonical-List, object_rest, object-written}
use Rattle.mx_json.proofs.JsonLemmas.{with_value}
use Rattle.mx_rule.specs.declared.criterion.Criterion.{Criterion}
use Rattle.mx_rule.specs.declared.criterion.Criterion.TheVariants.{Conditions, Word, InRoom, FromSender}
use Rattle.mx_rule.specs.Rule.{PushRule}
use Rattle.mx_rule.specs.Ruleset.{PushRuleset}
use Rattle.mx_rule.specs.Printed.{conditions_pair, conditions_text, pattern_pair, pattern_text, printed, separated}
use Rattle.mx_rule.specs.Printed.{printed_rules, rule_object, rules_list}

-- ---- the texts of a list, one after another

joined : (item : Json) (items : List Json)
    → join_with_byte comma (map canonical (item ∷ items)) ≡ canonical item ++ separated (codes ",") items
joined item [] = sym (append-nil (canonical item))
joined item (next ∷ items) = ap (λ text. canonical item ++ comma ∷ text) (joined next items)

pub canonical-separated : (items : List Json)
    → canonical (ListOf record { items = items }) ≡ codes "[" ++ (separated [] items ++ codes "]")
canonical-separated [] = canonical-List record { items = [] }
canonical-separated (item ∷ items) =
    canonical-List record { items = item ∷ items } ∙ ap (λ text. codes "[" ++ (text ++ codes "]")) (joined item items)

-- one more text of a list
pub separated-more : (out separator : List ℕ) (items : List Json) (i : ℕ) (item : Json) → i < length items
    → item ≡ get_or items i item
    → ((out ++ separator) ++ canonical item) ++ separated (codes ",") (drop (i + 1) items)
    ≡ out ++ separated separator (drop i items)
separated-more out separator items i item within is =
    let rest = separated (codes ",") (drop (i + 1) items) in
    append_assoc (out ++ separator) (canonical item) rest
    ∙ append_assoc out separator (canonical item ++ rest)
    ∙ ap (λ x. out ++ (separator ++ (canonical x ++ rest))) is
    ∙ ap (λ text. out ++ text) (sym (at_drop_more (separated separator) items i item within))

-- all texts of a list
pub separated-written : (before out separator : List ℕ) (items : List Json) (i : ℕ) → length items ≤ i
    → out ++ separated separator (drop i items) ≡ (before ++ codes "[") ++ separated [] items
    → out ++ codes "]" ≡ before ++ canonical (ListOf record { items = items })
separated-written before out separator items i over written =
    let none = sym (append-nil out) ∙ ap (λ text. out ++ text) (sym (at_drop_all (separated separator) items i over)) in
    ap (λ text. text ++ codes "]") (none ∙ written)
    ∙ append_assoc (before ++ codes "[") (separated [] items) (codes "]")
    ∙ append_assoc before (codes "[") (separated [] items ++ codes "]")
    ∙ ap (λ text. before ++ text) (sym (canonical-separated items))

-- ---- a truth

pub canonical-true : (truth : Bool) → truth ≡ true → codes "true" ≡ canonical (Truth truth)
canonical-true true is = sym (search (rules, the_lemmas))
canonical-true false is = cc

pub canonical-false : (truth : Bool) → truth ≡ false → codes "false" ≡ canonical (Truth truth)
canonical-false false is = sym (search (rules, the_lemmas))
canonical-false true is = cc

-- ---- the parts of a rule

pub conditions_text-is : (criterion : Criterion) (conditions : List Json) → criterion ≡ Conditions conditions
    → codes ",\"conditions\":" ++ canonical (ListOf record { items = conditions }) ≡ conditions_text criterion
unfolding escape_byte
conditions_text-is criterion conditions is = rw is refl

pub pattern_text-is : (criterion : Criterion) (pattern : List ℕ) → criterion ≡ Word pattern
    → codes ",\"pattern\":" ++ canonical (Text pattern) ≡ pattern_text criterion
unfolding escape_byte
pattern_text-is criterion pattern is = rw is refl

-- its text, from its criterion on
abbrev rest_of : PushRule → List ℕ
rest_of rule =
    conditions_text rule.criterion
    ++ ((codes ",\"default\":" ++ canonical (Truth rule.predefined))
    ++ ((codes ",\"enabled\":" ++ canonical (Truth rule.enabled))
    ++ (pattern_text rule.criterion
    ++ (codes ",\"rule_id\":" ++ (canonical (Text rule.id) ++ codes "}")))))

-- the members after the actions
abbrev pairs_after : PushRule → List (List ℕ × Json)
pairs_after rule =
    conditions_pair rule.criterion
    ++ ((codes "default", Truth rule.predefined)
    ∷ (codes "enabled", Truth rule.enabled)
    ∷ (pattern_pair rule.criterion
    ++ ((codes "rule_id", Text rule.id) ∷ [])))

rest-written : (id : List ℕ) (predefined enabled : Bool) (actions : List Json) (criterion : Criterion)
    → let rule : PushRule =
    record { id = id; predefined = predefined; enabled = enabled; actions = actions; criterion = criterion } in
    object_rest (map (with_value canonical) (pairs_after rule)) ≡ rest_of rule
unfolding escape_byte
rest-written id predefined enabled actions (Conditions conditions) = refl
rest-written id predefined enabled actions (Word pattern) = refl
rest-written id predefined enabled actions InRoom = refl
rest-written id predefined enabled actions FromSender = refl

pub printed-parts : (rule : PushRule)
    → printed rule ≡ codes "{\"actions\":" ++ (canonical (ListOf record { items = rule.actions }) ++ rest_of rule)
unfolding escape_byte printed
printed-parts rule =
    object-written (codes "actions", ListOf record { items = rule.actions }) (pairs_after rule)
    ∙ ap (λ text. codes "{\"actions\":" ++ (canonical (ListOf record { items = rule.actions }) ++ text))
    (rest-written rule.id rule.predefined rule.enabled rule.actions rule.criterion)

-- the parts, one after another
pub printed-assembled : (before : List ℕ) (rule : PushRule)
    → ((((((((before ++ codes "{\"actions\":") ++ canonical (ListOf record { items = rule.actions }))
    ++ conditions_text rule.criterion)
    ++ (codes ",\"default\":" ++ canonical (Truth rule.predefined)))
    ++ (codes ",\"enabled\":" ++ canonical (Truth rule.enabled)))
    ++ pattern_text rule.criterion)
    ++ codes ",\"rule_id\":")
    ++ canonical (Text rule.id)) ++ codes "}"
    ≡ before ++ printed rule
printed-assembled before rule =
    let a = canonical (ListOf record { items = rule.actions }) in
    let d = codes ",\"default\":" ++ canonical (Truth rule.predefined) in
    let e = codes ",\"enabled\":" ++ canonical (Truth rule.enabled) in
    nine before (codes "{\"actions\":") a (conditions_text rule.criterion) d e (pattern_text rule.criterion)
    (codes ",\"rule_id\":") (canonical (Text rule.id)) (codes "}")
    ∙ ap (λ text. before ++ text) (sym (printed-parts rule))
  where
    nine : (o k a c d e p r i z : List ℕ) → ((((((((o ++ k) ++ a) ++ c) ++ d) ++ e) ++ p) ++ r) ++ i) ++ z
        ≡ o ++ (k ++ (a ++ (c ++ (d ++ (e ++ (p ++ (r ++ (i ++ z))))))))
    nine o k a c d e p r i z = simp append_assoc

-- ---- the rules of a user

-- the texts of these rules: this one before the first, a comma before each other
abbrev pub rules_text : List ℕ → List PushRule → List ℕ
rules_text before rules = separated before (map rule_object rules)

-- one more rule of a list
pub rules-more : (out separator : List ℕ) (rules : List PushRule) (i : ℕ) (rule : PushRule)
    → i < length rules → rule ≡ get_or rules i rule
    → ((out ++ separator) ++ printed rule) ++ rules_text (codes ",") (drop (i + 1) rules)
    ≡ out ++ rules_text separator (drop i rules)
unfolding printed
rules-more out separator rules i rule within is =
    let rest = rules_text (codes ",") (drop (i + 1) rules) in
    append_assoc (out ++ separator) (printed rule) rest
    ∙ append_assoc out separator (printed rule ++ rest)
    ∙ ap (λ x. out ++ (separator ++ (printed x ++ rest))) is
    ∙ ap (λ text. out ++ text) (sym (at_drop_more (rules_text separator) rules i rule within))

-- all rules of a list
pub rules-written : (before out separator : List ℕ) (rules : List PushRule) (i : ℕ) → length rules ≤ i
    → out ++ rules_text separator (drop i rules) ≡ (before ++ codes "[") ++ rules_text [] rules
    → out ++ codes "]" ≡ before ++ canonical (rules_list rules)
rules-written before out separator rules i over written =
    let none =
    sym (append-nil out) ∙ ap (λ text. out ++ text) (sym (at_drop_all (rules_text separator) rules i over)) in
    ap (λ text. text ++ codes "]") (none ∙ written)
    ∙ append_assoc (before ++ codes "[") (rules_text [] rules) (codes "]")
    ∙ append_assoc before (codes "[") (rules_text [] rules ++ codes "]")
    ∙ ap (λ text. before ++ text) (sym (canonical-separated (map rule_object rules)))

-- the text of a list of rules behind its key
abbrev pub list_text : List ℕ → List PushRule → List ℕ
list_text key rules = key ++ canonical (rules_list rules)

-- the five lists, one after another
printed_rules-parts : (rules : PushRuleset)
    → printed_rules rules ≡ codes "{" ++ (list_text (codes "\"content\":") rules.content
    ++ (list_text (codes ",\"override\":") rules.override ++ (list_text (codes ",\"room\":") rules.room
    ++ (list_text (codes ",\"sender\":") rules.sender
    ++ (list_text (codes ",\"underride\":") rules.underride ++ codes "}")))))
unfolding escape_byte printed_rules
printed_rules-parts rules =
    object-written (codes "content", rules_list rules.content)
    ((codes "override", rules_list rules.override) ∷ (codes "room", rules_list rules.room)
    ∷ (codes "sender", rules_list rules.sender) ∷ (codes "underride", rules_list rules.underride) ∷ [])

-- the lists appended, one after another
pub printed_rules-assembled : (before : List ℕ) (rules : PushRuleset)
    → ((((((before ++ codes "{") ++ list_text (codes "\"content\":") rules.content)
    ++ list_text (codes ",\"override\":") rules.override) ++ list_text (codes ",\"room\":") rules.room)
    ++ list_text (codes ",\"sender\":") rules.sender)
    ++ list_text (codes ",\"underride\":") rules.underride) ++ codes "}"
    ≡ before ++ printed_rules rules
printed_rules-assembled before rules =
    seven before (codes "{") (list_text (codes "\"content\":") rules.content)
    (list_text (codes ",\"override\":") rules.override) (list_text (codes ",\"room\":") rules.room)
    (list_text (codes ",\"sender\":") rules.sender) (list_text (codes ",\"underride\":") rules.underride) (codes "}")
    ∙ ap (λ text. before ++ text) (sym (printed_rules-parts rules))
  where
    seven : (o b c d e f g z : List ℕ)
        → ((((((o ++ b) ++ c) ++ d) ++ e) ++ f) ++ g) ++ z ≡ o ++ (b ++ (c ++ (d ++ (e ++ (f ++ (g ++ z))))))
    seven o b c d e f g z = simp append_assoc
