-- Each place that an engine keeps is at a position that an input may have.
use Rattle.std.proofs.Common.{◌≡◌, ℕ, ◌≤◌, List, Bool, true, false, cond, Option, Some, None, IfSome, sym, subst}
use Rattle.std.specs.Cmp.Lexicographic.{nat_list_cmp_total, slice_cmp}
use Rattle.std.specs.FinMap.{empty, get, get-empty, get-insert, insert}
use Rattle.std.specs.Ordering.{eq_by_cmp, nat_cmp}
use Rattle.mx_thread.specs.declared.place.Place.{Place}
use Rattle.mx_thread.specs.Place.{Places, place_in}
use Rattle.mx_records.specs.Refusing.{most_inputs}

abbrev IsLow : Option Place → Type 0
IsLow found = IfSome found (λ (place : Place). place.position ≤ most_inputs)

-- the event with this id is at such a position, if it has a place
abbrev pub IsInRange : Places → List ℕ → Type 0
IsInRange places id = IsLow (place_in places id)

pub in_range-empty : (id : List ℕ) → IsInRange empty id
in_range-empty id = subst IsLow (sym (get-empty (slice_cmp nat_cmp) id)) tt

pub in_range-insert : (places : Places) (id : List ℕ) (place : Place) → place.position ≤ most_inputs
    → ((other : List ℕ) → IsInRange places other) → (other : List ℕ) → IsInRange (insert places id place) other
in_range-insert places id place in_range others other =
    subst IsLow (sym (get-insert nat_list_cmp_total places id place other))
    (by (eq_by_cmp (slice_cmp nat_cmp) other id))
  where
    by : (b : Bool) → IsLow (cond b (Some place) (get places other))
    by true = in_range
    by false = others other
