-- Finite maps and finite sets of texts: ours.
use Rattle.std.specs.Prelude.{ℕ, Bool, if◌then◌else◌, List, Option, Some, None, option_map}
use Rattle.std.specs.Cmp.Lexicographic.{slice_cmp}
use Rattle.std.specs.FinMap.{FinMap, from_entries}
use Rattle.std.specs.List.{filter_map}
use Rattle.std.specs.Ordering.{nat_cmp}

-- a finite map from texts, each by its bytes
abbrev pub Texts : Type 0 → Type 0
Texts X = FinMap (slice_cmp nat_cmp) X

-- a finite set of texts
abbrev pub TextSet : Type 0
TextSet = Texts (Unit {0})

-- the map of what `f` gives at each of these texts
unfoldable pub table : {X : Type 0} → (List ℕ → Option X) → List (List ℕ) → Texts X
table f texts = from_entries (filter_map (λ text. option_map (λ x. (text, x)) (f text)) texts)

-- how a set has a text, or has it not
abbrev pub marked : Bool → Option (Unit {0})
marked is_there = if is_there then Some tt else None
