-- What is gathered of a room's threads, for private clauses: ours.
use Rattle.std.specs.Prelude.{◌≡◌, ℕ, ◌≤◌, true, List, map}
use Rattle.std.specs.Borrow.{Bor}
use Rattle.std.specs.BTreeMap.{BTreeMap}
use Rattle.std.specs.Str.{is_utf8}
use Rattle.mx_rows.specs.declared.counts.Counts.{Counts}
use Rattle.mx_records.specs.Refusing.{most_inputs}

-- each root's id with its counts, the ids rising
abbrev pub roots_in : BTreeMap (Bor (List ℕ)) Counts → List (List ℕ × Counts)
roots_in roots = map (λ entry. (entry.0.now, entry.1)) roots.entries

-- the counts are those of no more events than there may be
abbrev pub AreInRange : Counts → Type 0
AreInRange counts = (counts.notify ≤ most_inputs) × (counts.highlight ≤ most_inputs)

-- the entry may stand in the object of a reply
abbrev pub MayStand : List ℕ × Counts → Type 0
MayStand entry = (is_utf8 entry.0 ≡ true) × AreInRange entry.1
