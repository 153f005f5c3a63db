-- How each user's rules go on by one entry, and the rules of those who edited them.
use Rattle.std.proofs.Common.{◌≡◌, ℕ, Bool, true, false, cond, ◌||◌, List, [], ◌∷◌, ◌++◌, Option, Some, None, ◌⊎◌, inl}
use Rattle.std.proofs.Common.{inr, is_some, unwrap_or, refl, ap, sym, ◌∙◌}
use Rattle.std.specs.FinMap.{get, insert}
use Rattle.std.specs.List.{cons_option, filter_map, fold, list_any}
use Rattle.std.specs.Str.{bytes_eq}
use Rattle.std.proofs.lemmas.List.Elements.{filter_map-append}
use Rattle.std.proofs.lemmas.List.Folds.{list_any-append}
use Rattle.std.proofs.lemmas.List.Sums.{fold-append}
use Rattle.mx_json.specs.declared.value.Json.{Json}
use Rattle.mx_rows.specs.declared.thread_key.ThreadKey.{ThreadKey}
use Rattle.mx_room.specs.Texts.{table}
use Rattle.mx_room.proofs.TextsLemmas.{IsCovered, bytes_eq-itself, bytes_eq-same, get-table, same_table, table-set}
use Rattle.mx_rule.specs.declared.edit.Edit.{Edit}
use Rattle.mx_rule.specs.Editing.{edited}
use Rattle.mx_rule.specs.Predefined.{predefined_rules}
use Rattle.mx_rule.specs.Ruleset.{PushRuleset}
use Rattle.mx_records.specs.declared.entry.Outcome.{Outcome}
use Rattle.mx_records.specs.declared.input.Input.{Input}
use Rattle.mx_records.specs.declared.input.Input.TheVariants.{Event, Edit as EditInput, Receipt, Pusher}
use Rattle.mx_records.specs.History.{History, inputs_in, with_input, with_outcome}
use Rattle.mx_records.specs.Rules.{edit_by, edited_rules, editor_of, editors_of, edits_of, has_edited, is_edit_of}
use Rattle.mx_records.specs.Rules.{own_rules, rules_among, rules_of}
use Rattle.mx_records.proofs.HistoryLemmas.{inputs_in-outcome, inputs_in-push}

-- ---- the rules after one more input

edits_of-push : (h : History) (input : Input) (user : List ℕ)
    → edits_of (with_input h input) user ≡ edits_of h user ++ cons_option (edit_by user input) []
edits_of-push h input user =
    ap (filter_map (edit_by user)) (inputs_in-push h input)
    ∙ filter_map-append (edit_by user) (inputs_in h) (input ∷ [])

-- the rules, changed by the edit that there is, if there is one
abbrev changed_by : PushRuleset → Option Edit → PushRuleset
changed_by rules edit = fold edited rules (cons_option edit [])

rules_of-push : (server : List ℕ) (h : History) (input : Input) (user : List ℕ)
    → rules_of server (with_input h input) user ≡ changed_by (rules_of server h user) (edit_by user input)
unfolding rules_of
rules_of-push server h input user =
    ap (fold edited (predefined_rules server user)) (edits_of-push h input user)
    ∙ fold-append edited (predefined_rules server user) (edits_of h user) (cons_option (edit_by user input) [])

-- an input that edits no rules
abbrev pub IsNoEdit : Input → Type 0
IsNoEdit input = (user : List ℕ) → edit_by user input ≡ None

-- an event is no edit
pub event-no_edit : (event : Json) → IsNoEdit (Event event)
event-no_edit event user = refl

-- a receipt is no edit
pub receipt-no_edit : (reader room id : List ℕ) (private : Bool) (named : Option ThreadKey)
    → IsNoEdit (Receipt reader room id private named)
receipt-no_edit reader room id private named user = refl

rules_of-other_at : (server : List ℕ) (h : History) (input : Input) → IsNoEdit input → (user : List ℕ)
    → rules_of server (with_input h input) user ≡ rules_of server h user
rules_of-other_at server h input none user =
    rules_of-push server h input user ∙ ap (changed_by (rules_of server h user)) (none user)

-- an input that is no edit changes no rules
pub rules_of-other : (server : List ℕ) (h : History) (input : Input) → IsNoEdit input
    → rules_of server (with_input h input) ≡ rules_of server h
rules_of-other server h input none = λ i user. rules_of-other_at server h input none user i

-- an event changes no rules
pub rules_of-event : (server : List ℕ) (h : History) (event : Json)
    → rules_of server (with_input h (Event event)) ≡ rules_of server h
rules_of-event server h event = rules_of-other server h (Event event) (event-no_edit event)

-- an edit changes the rules of its user
pub rules_of-edit : (server : List ℕ) (h : History) (user : List ℕ) (edit : Edit)
    → rules_of server (with_input h (EditInput user edit)) user ≡ edited (rules_of server h user) edit
rules_of-edit server h user edit =
    rules_of-push server h (EditInput user edit) user
    ∙ ap (λ b. changed_by (rules_of server h user) (cond b (Some edit) None)) (bytes_eq-itself user)

-- an edit leaves the rules of every other user as they were
pub rules_of-others : (server : List ℕ) (h : History) (editor : List ℕ) (edit : Edit) (user : List ℕ)
    → bytes_eq user editor ≡ false
    → rules_of server (with_input h (EditInput editor edit)) user ≡ rules_of server h user
rules_of-others server h editor edit user apart =
    rules_of-push server h (EditInput editor edit) user
    ∙ ap (λ b. changed_by (rules_of server h user) (cond b (Some edit) None)) apart

-- ---- who edited the rules

has_edited-push : (h : History) (input : Input) (user : List ℕ)
    → has_edited (with_input h input) user ≡ (has_edited h user || (is_edit_of user input || false))
has_edited-push h input user =
    ap (list_any (is_edit_of user)) (inputs_in-push h input)
    ∙ list_any-append (is_edit_of user) (inputs_in h) (input ∷ [])

or_false : (b : Bool) → (b || false) ≡ b
or_false true = refl
or_false false = refl

is_some-given : {X : Type 0} (b : Bool) (x : X) → is_some (cond b (Some x) None) ≡ b
is_some-given true x = refl
is_some-given false x = refl

-- who made an edit is among the editors
any_edit-editors : (inputs : List Input) (user : List ℕ)
    → list_any (is_edit_of user) inputs ≡ list_any (bytes_eq user) (filter_map editor_of inputs)
any_edit-editors [] user = refl
any_edit-editors (Event event ∷ inputs) user = any_edit-editors inputs user
any_edit-editors (Receipt reader room id private named ∷ inputs) user = any_edit-editors inputs user
any_edit-editors (Pusher spec ∷ inputs) user = any_edit-editors inputs user
any_edit-editors (EditInput editor edit ∷ inputs) user =
    ap (λ b. b || list_any (is_edit_of user) inputs) (is_some-given (bytes_eq user editor) edit)
    ∙ ap (λ b. bytes_eq user editor || b) (any_edit-editors inputs user)

has_edited-editors : (h : History) (user : List ℕ) → has_edited h user ≡ list_any (bytes_eq user) (editors_of h)
has_edited-editors h user = any_edit-editors (inputs_in h) user

none_by : (edit : Option Edit) (edits : List Edit) (others : Bool) → (is_some edit || others) ≡ false
    → (others ≡ false → edits ≡ []) → cons_option edit edits ≡ []
none_by None edits others none rest = rest none
none_by (Some edit) edits others none rest = absurd cc

edits_none : (inputs : List Input) (user : List ℕ) → list_any (is_edit_of user) inputs ≡ false
    → filter_map (edit_by user) inputs ≡ []
edits_none [] user none = refl
edits_none (input ∷ inputs) user none =
    none_by (edit_by user input) (filter_map (edit_by user) inputs) (list_any (is_edit_of user) inputs) none
    (edits_none inputs user)

-- who edited nothing has no edits
no_edits : (h : History) (user : List ℕ) → has_edited h user ≡ false → edits_of h user ≡ []
no_edits h user none = edits_none (inputs_in h) user none

-- ---- the rules of those who edited them

own_by : (server : List ℕ) (h : History) (user : List ℕ) (has : Bool) → has_edited h user ≡ has
    → own_rules server h user ≡ cond has (Some (rules_of server h user)) None
unfolding own_rules
own_by server h user has is = ap (λ b. cond b (Some (rules_of server h user)) None) is

own_rules-covered : (server : List ℕ) (h : History) → IsCovered (own_rules server h) (editors_of h)
own_rules-covered server h user = by (has_edited h user) refl
  where
    by : (has : Bool) → has_edited h user ≡ has
        → (own_rules server h user ≡ None) ⊎ (list_any (bytes_eq user) (editors_of h) ≡ true)
    by true is = inr (sym (has_edited-editors h user) ∙ is)
    by false is = inl (own_by server h user false is)

-- the map has the rules of each user who edited them
pub get-edited_rules : (server : List ℕ) (h : History) (user : List ℕ)
    → get (edited_rules server h) user ≡ own_rules server h user
unfolding edited_rules
get-edited_rules server h user =
    get-table (own_rules server h) (editors_of h) (own_rules-covered server h) user

rules-by : (server : List ℕ) (h : History) (user : List ℕ) (has : Bool) → has_edited h user ≡ has
    → unwrap_or (cond has (Some (rules_of server h user)) None) (predefined_rules server user)
    ≡ rules_of server h user
unfolding rules_of
rules-by server h user true is = refl
rules-by server h user false is =
    ap (fold edited (predefined_rules server user)) (sym (no_edits h user is))

-- the rules of each user, read off those of who edited them
pub rules_among-edited : (server : List ℕ) (h : History)
    → rules_among server (edited_rules server h) ≡ rules_of server h
rules_among-edited server h = λ i user. of user i
  where
    of : (user : List ℕ) → rules_among server (edited_rules server h) user ≡ rules_of server h user
    of user =
        ap (λ own. unwrap_or own (predefined_rules server user))
        (get-edited_rules server h user ∙ own_by server h user (has_edited h user) refl)
        ∙ rules-by server h user (has_edited h user) refl

-- the rules of one user, read off those of who edited them
pub rules_among-of : (server : List ℕ) (h : History) (user : List ℕ)
    → rules_among server (edited_rules server h) user ≡ rules_of server h user
rules_among-of server h user = λ i. rules_among-edited server h i user

own_rules-other : (server : List ℕ) (h : History) (input : Input) → IsNoEdit input → (user : List ℕ)
    → own_rules server (with_input h input) user ≡ own_rules server h user
unfolding own_rules
own_rules-other server h input none user =
    ap (λ b. cond b (Some (rules_of server (with_input h input) user)) None)
    (has_edited-push h input user
    ∙ ap (λ (edit : Option Edit). has_edited h user || (is_some edit || false)) (none user)
    ∙ or_false (has_edited h user))
    ∙ ap (λ rules. cond (has_edited h user) (Some rules) None) (rules_of-other_at server h input none user)

or_true : (b : Bool) → (b || true) ≡ true
or_true true = refl
or_true false = refl

-- the rules of those who edited them, after one more edit
pub own_rules-edit : (server : List ℕ) (h : History) (editor : List ℕ) (edit : Edit) (user : List ℕ)
    → own_rules server (with_input h (EditInput editor edit)) user
    ≡ cond (bytes_eq user editor) (Some (edited (rules_of server h editor) edit)) (own_rules server h user)
unfolding own_rules
own_rules-edit server h editor edit user =
    ap (λ b. cond b (Some (rules_of server (with_input h (EditInput editor edit)) user)) None)
    (has_edited-push h (EditInput editor edit) user
    ∙ ap (λ b. has_edited h user || (b || false)) (is_some-given (bytes_eq user editor) edit))
    ∙ by (bytes_eq user editor) refl
  where
    by : (b : Bool) → bytes_eq user editor ≡ b
        → cond (has_edited h user || (b || false))
        (Some (rules_of server (with_input h (EditInput editor edit)) user)) None
        ≡ cond b (Some (edited (rules_of server h editor) edit)) (own_rules server h user)
    by true is =
        let same = bytes_eq-same user editor is in
        ap (λ b. cond b (Some (rules_of server (with_input h (EditInput editor edit)) user)) None)
        (or_true (has_edited h user))
        ∙ ap (λ (u : List ℕ). Some (rules_of server (with_input h (EditInput editor edit)) u)) same
        ∙ ap (λ rules. Some rules) (rules_of-edit server h editor edit)
    by false is =
        ap (λ b. cond b (Some (rules_of server (with_input h (EditInput editor edit)) user)) None)
        (or_false (has_edited h user))
        ∙ ap (λ rules. cond (has_edited h user) (Some rules) None) (rules_of-others server h editor edit user is)

-- the map after an input that is no edit
pub edited_rules-other : (server : List ℕ) (h : History) (input : Input) → IsNoEdit input
    → edited_rules server (with_input h input) ≡ edited_rules server h
unfolding edited_rules
edited_rules-other server h input none =
    same_table (own_rules server h) (own_rules server (with_input h input)) (editors_of h)
    (editors_of (with_input h input)) (own_rules-covered server h)
    (own_rules-covered server (with_input h input)) (own_rules-other server h input none)

-- the map after an edit
pub edited_rules-edit : (server : List ℕ) (h : History) (user : List ℕ) (edit : Edit)
    → edited_rules server (with_input h (EditInput user edit))
    ≡ insert (edited_rules server h) user (edited (rules_of server h user) edit)
unfolding edited_rules
edited_rules-edit server h user edit =
    table-set (own_rules server h) (own_rules server (with_input h (EditInput user edit))) (editors_of h)
    (editors_of (with_input h (EditInput user edit))) user
    (Some (edited (rules_of server h user) edit)) (own_rules-covered server h)
    (own_rules-covered server (with_input h (EditInput user edit))) (own_rules-edit server h user edit)

-- ---- an outcome

-- an outcome changes no rules
pub rules_of-outcome : (server : List ℕ) (h : History) (outcome : Outcome)
    → rules_of server (with_outcome h outcome) ≡ rules_of server h
unfolding rules_of
rules_of-outcome server h outcome = λ i user.
    fold edited (predefined_rules server user) (filter_map (edit_by user) (inputs_in-outcome h outcome i))

own_rules-outcome : (server : List ℕ) (h : History) (outcome : Outcome)
    → own_rules server (with_outcome h outcome) ≡ own_rules server h
unfolding own_rules
own_rules-outcome server h outcome = λ i user.
    cond (list_any (is_edit_of user) (inputs_in-outcome h outcome i))
    (Some (rules_of-outcome server h outcome i user)) None

pub edited_rules-outcome : (server : List ℕ) (h : History) (outcome : Outcome)
    → edited_rules server (with_outcome h outcome) ≡ edited_rules server h
unfolding edited_rules
edited_rules-outcome server h outcome = λ i.
    table (own_rules-outcome server h outcome i) (filter_map editor_of (inputs_in-outcome h outcome i))
