-- The reply to a question for rules, by what a state answers of those who edited theirs.
use Rattle.std.proofs.Common.{◌≡◌, ℕ, List, ◌++◌, Option, Some, None, Result, OnOk, unwrap_or, subst, sym, ap, ◌∙◌}
use Rattle.mx_rule.specs.Predefined.{predefined_rules}
use Rattle.mx_rule.specs.Printed.{rules_object}
use Rattle.mx_rule.specs.Ruleset.{PushRuleset}
use Rattle.mx_records.specs.History.{History}
use Rattle.mx_records.specs.Rules.{own_rules, rules_of}
use Rattle.mx_records.proofs.RulesLemmas.{get-edited_rules, rules_among-of}
use Rattle.mx_lines.specs.declared.command.Command.{Command}
use Rattle.mx_lines.specs.declared.command.Command.TheVariants.{Rules}
use Rattle.mx_lines.specs.Admission.{reply_to}
use Rattle.mx_lines.specs.Lines.{with_feed}
use Rattle.mx_lines.specs.Replies.{reply_text}

rules_of-own : (server : List ℕ) (h : History) (user : List ℕ)
    → rules_of server h user ≡ unwrap_or (own_rules server h user) (predefined_rules server user)
rules_of-own server h user =
    sym (rules_among-of server h user)
    ∙ ap (λ own. unwrap_or own (predefined_rules server user)) (get-edited_rules server h user)

-- the reply to who asks for rules, by those that stand for a user
reply-of : (server : List ℕ) (h : History) (user : List ℕ) (command : Command) (own : Option PushRuleset)
    → command ≡ Rules user → own ≡ own_rules server h user
    → rules_object (unwrap_or own (predefined_rules server user)) ≡ reply_to server h command
reply-of server h user command own asked is =
    ap (λ own. rules_object (unwrap_or own (predefined_rules server user))) is
    ∙ ap rules_object (sym (rules_of-own server h user))
    ∙ ap (reply_to server h) (sym asked)

-- who edited the rules is told those that the state answers
pub edited_reply : {A E : Type 0} (result : Result A E) (old new server : List ℕ) (h : History) (user : List ℕ)
    (command : Command) (rules : PushRuleset) → command ≡ Rules user → Some rules ≡ own_rules server h user
    → OnOk result (new ≡ old ++ with_feed (reply_text (rules_object rules)))
    → OnOk result (new ≡ old ++ with_feed (reply_text (reply_to server h command)))
edited_reply result old new server h user command rules asked own told =
    subst (λ value. OnOk result (new ≡ old ++ with_feed (reply_text value)))
    (reply-of server h user command (Some rules) asked own) told

-- every other user is told the predefined ones
pub predefined_reply : {A E : Type 0} (result : Result A E) (old new server name : List ℕ) (h : History)
    (user : List ℕ) (command : Command) → command ≡ Rules user → name ≡ server → None ≡ own_rules server h user
    → OnOk result (new ≡ old ++ with_feed (reply_text (rules_object (predefined_rules name user))))
    → OnOk result (new ≡ old ++ with_feed (reply_text (reply_to server h command)))
predefined_reply result old new server name h user command asked named own told =
    subst (λ value. OnOk result (new ≡ old ++ with_feed (reply_text value)))
    (ap (λ name. rules_object (predefined_rules name user)) named
    ∙ reply-of server h user command None asked own) told
