-- What is kept of users' push rules, and what it shows: for private clauses, ours.
use Rattle.std.specs.Prelude.{◌≡◌, ℕ, true, false, if◌then◌else◌, List, Option, Some, None, option_map, IfSome}
use Rattle.std.specs.Cmp.Lexicographic.{slice_cmp}
use Rattle.std.specs.FinMap.{from_entries}
use Rattle.std.specs.FinSet as set
use Rattle.std.specs.List.{IsDistinct, filter_map}
use Rattle.std.specs.Map.{keys_of, lookup}
use Rattle.std.specs.Ordering.{nat_cmp}
use Rattle.std.specs.Str.{bytes_eq}
use Rattle.mx_engine.specs.declared.rules.KeptRules.{KeptRules}
use Rattle.mx_room.specs.Texts.{Texts}
use Rattle.mx_rule.specs.Predefined.{predefined_rules}
use Rattle.mx_rule.specs.Ruleset.{PushRuleset}

-- The name of the server, the rules of those who edited them, and the users for whose next edit
-- there is memory.
pub record RulesView : Type 0 where
  pub server : List ℕ
  pub edited : Texts PushRuleset
  pub capacity : set.FinSet (slice_cmp nat_cmp)

-- ---- what is kept

-- the rules that are kept, by their users
abbrev pub RulesByUser : Type 0
RulesByUser = List (List ℕ × KeptRules)

-- the rules that are shown: none before the first edit
abbrev pub shown_rules : KeptRules → Option PushRuleset
shown_rules kept = if kept.edited then Some kept.rules else None

-- the rules of those who edited them
abbrev pub edited_in : RulesByUser → Texts PushRuleset
edited_in kept =
    from_entries (filter_map (λ entry. option_map (λ rules. (entry.0, rules)) (shown_rules entry.1)) kept)

-- the users of whom rules are kept: an edit of these takes no memory to be kept
abbrev pub users_in : RulesByUser → set.FinSet (slice_cmp nat_cmp)
users_in kept = set.from_list (keys_of kept)

-- what is seen of the rules that a server keeps
abbrev pub view_of : List ℕ → RulesByUser → RulesView
view_of server kept = record {
  server = server;
  edited = edited_in kept;
  capacity = users_in kept;
}

-- before their first edit a user's rules are the predefined ones
abbrev pub IsKept : List ℕ → List ℕ → KeptRules → Type 0
IsKept server user kept = kept.edited ≡ false → kept.rules ≡ predefined_rules server user

-- each user stands once, with rules of the user's
pub record AreKept (server : List ℕ) (kept : RulesByUser) : Type 0 where
  pub distinct : IsDistinct bytes_eq (keys_of kept)
  pub each : (user : List ℕ) → IfSome (lookup (bytes_eq user) kept) (IsKept server user)

-- what was kept stays so: the same rules are shown, and nobody is forgotten
pub record KeepsRules (server : List ℕ) (old new : RulesByUser) : Type 0 where
  pub kept : AreKept server new
  pub edited : edited_in new ≡ edited_in old
  pub grows : (user : List ℕ) → set.contains (users_in old) user ≡ true → set.contains (users_in new) user ≡ true
