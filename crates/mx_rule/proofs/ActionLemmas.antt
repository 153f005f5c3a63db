-- What the last of some actions says, action by action.
use Rattle.std.proofs.Common.{◌≡◌, ℕ, ◌+◌, ◌<◌, length, get_or, take, List, [], ◌∷◌, ◌++◌, Option, Some, None}
use Rattle.std.proofs.Common.{option_map, refl, ap, sym, ◌∙◌}
use Rattle.std.proofs.lemmas.List.{take_more}
use Rattle.std.specs.Option.{option_or}
use Rattle.mx_rule.specs.declared.action.Action.{Action}
use Rattle.mx_rule.specs.Actions.{last_said}

option_or-assoc : {A : Type 0} (a b c : Option A) → option_or (option_or a b) c ≡ option_or a (option_or b c)
option_or-assoc None b c = refl
option_or-assoc (Some x) b c = refl

option_or-none : {A : Type 0} (a : Option A) → a ≡ option_or a None
option_or-none None = refl
option_or-none (Some x) = refl

last_said-append : {A : Type 0} (says : Action → Option A) (actions : List Action) (last : Action)
    → last_said says (actions ++ last ∷ []) ≡ option_or (says last) (last_said says actions)
last_said-append says [] last = option_or-none (says last)
last_said-append says (action ∷ actions) last =
    ap (λ said. option_or said (says action)) (last_said-append says actions last)
    ∙ option_or-assoc (says last) (last_said says actions) (says action)

-- one more action
pub last_said-more : {A : Type 0} (says : Action → Option A) (actions : List Action) (i : ℕ) (action : Action)
    → i < length actions → action ≡ get_or actions i action
    → last_said says (take (i + 1) actions) ≡ option_or (says action) (last_said says (take i actions))
last_said-more says actions i action within is =
    ap (last_said says) (take_more actions i action within)
    ∙ last_said-append says (take i actions) (get_or actions i action)
    ∙ ap (λ a. option_or (says a) (last_said says (take i actions))) (sym is)

-- what is said of two answers one after the other
pub option_map-option_or : {A B : Type 0} (f : A → B) (a b : Option A)
    → option_map f (option_or a b) ≡ option_or (option_map f a) (option_map f b)
option_map-option_or f None b = refl
option_map-option_or f (Some x) b = refl
