-- Each test of `specs/Deciding.antt` is true exactly where the relation that it stands for holds.
use Rattle.std.proofs.Common.{◌≡◌, ℕ, suc, ◌<◌, ◌≤◌, ◌≤ℤ◌, ℤ, int_le, int_eq, Bool, true, false, not, ◌==◌, nat_le}
use Rattle.std.proofs.Common.{◌&&◌, if◌then◌else◌, T, List, [], ◌∷◌, length, drop, Option, Some, None, refl, sym, ap}
use Rattle.std.proofs.Common.{◌∙◌, subst, arith, Any, HoldsAt, IsSomeAnd, IsTrue, MatchBool, slice_get, slice_index_or}
use Rattle.std.proofs.Common.{slice_range, option_and_then}
use Rattle.std.specs.Bool.{Decides, beq}
use Rattle.std.specs.Cmp.{booleans_Decides}
use Rattle.std.specs.Int.Signed.{le_z_yes}
use Rattle.std.specs.List.{list_all, list_any}
use Rattle.std.specs.Option.{option_map_or}
use Rattle.std.specs.Str.{bytes_eq}
use Rattle.std.proofs.lemmas.Bool.{false≢true, le-leb, leb-true}
use Rattle.std.proofs.lemmas.Bool.Decides.{Decides-and, Decides-below_or, Decides-by_and, Decides-by_or, Decides-eqb}
use Rattle.std.proofs.lemmas.Bool.Decides.{Decides-int_eq, Decides-like, Decides-ltb, Decides-not}
use Rattle.std.proofs.lemmas.List.{get_or_default}
use Rattle.std.proofs.lemmas.Slice.Eq.{bytes_eq-Decides}
use Rattle.mx_json.specs.declared.value.Json.{Json, Null as NullJson}
use Rattle.mx_json.specs.Folded.{folded}
use Rattle.mx_json.specs.Json.{text_of}
use Rattle.mx_json.specs.Path.{look}
use Rattle.mx_glob.specs.Glob.{After, AfterAny, Matches, question, star}
use Rattle.mx_glob.specs.Words.{HasWord, IsWordAt, WordMatches, character_before, is_outside}
use Rattle.mx_event.specs.Event.{room_id_of, sender_of}
use Rattle.mx_cond.specs.declared.count.Comparison.{Comparison}
use Rattle.mx_cond.specs.declared.count.Comparison.TheVariants.{Equal, Below, Above, AtLeast, AtMost}
use Rattle.mx_cond.specs.declared.plain.Plain.{Plain}
use Rattle.mx_cond.specs.declared.plain.Plain.TheVariants.{Null, Truth, Whole, Text}
use Rattle.mx_cond.specs.declared.wanted.Wanted.{Wanted}
use Rattle.mx_cond.specs.declared.wanted.Wanted.TheVariants.{EventMatch, EventPropertyIs, EventPropertyContains}
use Rattle.mx_cond.specs.declared.wanted.Wanted.TheVariants.{RoomMemberCount, SenderNotificationPermission}
use Rattle.mx_cond.specs.declared.wanted.Wanted.TheVariants.{ContainsDisplayName, Unknown}
use Rattle.mx_cond.specs.Condition.{plain_of, wanted_by}
use Rattle.mx_cond.specs.Facts.{EventFacts}
use Rattle.mx_cond.specs.Holds.{Equals, HasText, Holds, IsMet, MatchesAt, NamesOwner, body_path, is_body, members_of}
use Rattle.mx_cond.specs.MemberCount.{Compares}
use Rattle.mx_cond.specs.PowerLevels.{needed_power}
use Rattle.mx_rule.specs.declared.criterion.Criterion.{Criterion}
use Rattle.mx_rule.specs.declared.criterion.Criterion.TheVariants.{Conditions, Word, InRoom, FromSender}
use Rattle.mx_rule.specs.Rule.{MayDecide, Meets, PushRule, is_passed_over}
use Rattle.mx_rule.specs.Deciding.{after_any, after_character, compares, equals, glob, glob_word, has_text, has_word}
use Rattle.mx_rule.specs.Deciding.{holds, is_met, is_word_at, matches_at, may_decide, meets, names_owner, same_plain}
use Rattle.mx_rule.specs.Deciding.{some_below, some_upto, some_word}

-- ---- by the form of a statement

shown : {P : Type 0} → P → Decides true P
shown p = (λ e. p, λ q. refl)

refuted : {P : Type 0} → (P → ⊥) → Decides false P
refuted never = (λ e. absurd (false≢true e), λ p. absurd (never p))

if-Decides : (test a b : Bool) (P Q : Type 0) → Decides a P → Decides b Q
    → Decides (if test then a else b) (MatchBool test P Q)
if-Decides true a b P Q d e = d
if-Decides false a b P Q d e = e

true-Decides : (test : Bool) → Decides test (IsTrue test)
true-Decides test = (λ e. e, λ e. e)

not-Decides : (test : Bool) → Decides (not test) (test ≡ false)
not-Decides true = refuted (λ e. false≢true (sym e))
not-Decides false = shown refl

at_most-Decides : (a b : ℕ) → Decides (nat_le a b) (a ≤ b)
at_most-Decides a b = (leb-true a b, le-leb a b)

is_true : (test : Bool) → T test → test ≡ true
is_true true t = refl
is_true false t = absurd t

at_most_whole-Decides : (a b : ℤ) → Decides (int_le a b) (a ≤ℤ b)
at_most_whole-Decides a b = (λ e. le_z_yes (subst T (sym e) tt), λ most. is_true (int_le a b) most.le)

some-Decides : {A : Type 0} (test : A → Bool) (P : A → Type 0) → ((x : A) → Decides (test x) (P x))
    → (found : Option A) → Decides (option_map_or test found false) (IsSomeAnd found P)
some-Decides test P each None = refuted (λ never. never)
some-Decides test P each (Some x) = each x

-- ---- searching

some_upto-Decides : (test : ℕ → Bool) (P : ℕ → Type 0) → ((k : ℕ) → Decides (test k) (P k))
    → (n : ℕ) → Decides (some_upto test n) ((k : ℕ) × (k ≤ n) × P k)
some_upto-Decides test P each n =
    Decides-like (some_upto test n)
    (λ (w : (k : ℕ) × (k < suc n) × P k). (w.0, omega (arith, w.1), w.2))
    (λ (w : (k : ℕ) × (k ≤ n) × P k). (w.0, omega (arith, w.1), w.2))
    (Decides-below_or test P (some_below test) each refl (λ _. refl) (suc n))

list_any-Decides : (test : Json → Bool) (P : Json → Type 0) → ((x : Json) → Decides (test x) (P x))
    → (xs : List Json) → Decides (list_any test xs) (Any P xs)
list_any-Decides test P each xs =
    Decides-like (list_any test xs)
    (λ (w : (k : ℕ) × (k < length xs) × HoldsAt P xs k).
    let x = slice_index_or xs w.0 NullJson in (w.0, x, w.1, get_or_default xs w.0 x NullJson w.1, w.2 NullJson))
    (λ (w : Any P xs). (w.0, w.2, λ d. subst P (sym (get_or_default xs w.0 d w.1 w.2 ∙ w.3)) w.4))
    (Decides-by_or test P (list_any test) each refl (λ _ _. refl) xs)

-- ---- globs and words

after_any-Decides : (test : List ℕ → Bool) (Rest : List ℕ → Type 0)
    → ((text : List ℕ) → Decides (test text) (Rest text))
    → (text : List ℕ) → Decides (after_any test text) (AfterAny Rest text)
after_any-Decides test Rest rest [] = refuted (λ never. never)
after_any-Decides test Rest rest (first ∷ tail) = rest tail

after_character-Decides : (c : ℕ) (test : List ℕ → Bool) (Rest : List ℕ → Type 0)
    → ((text : List ℕ) → Decides (test text) (Rest text))
    → (text : List ℕ) → Decides (after_character c test text) (After c Rest text)
after_character-Decides c test Rest rest [] = refuted (λ never. never)
after_character-Decides c test Rest rest (first ∷ tail) =
    Decides-and (first == c) (test tail) (Decides-eqb first c) (rest tail)

glob-Decides : (pattern text : List ℕ) → Decides (glob pattern text) (Matches pattern text)
glob-Decides [] text = bytes_eq-Decides text []
glob-Decides (c ∷ rest) text =
    if-Decides (c == star) _ _ _ _
    (some_upto-Decides (λ k. glob rest (drop k text)) (λ k. Matches rest (drop k text))
    (λ k. glob-Decides rest (drop k text)) (length text))
    (if-Decides (c == question) _ _ _ _ (after_any-Decides (glob rest) (Matches rest) (glob-Decides rest) text)
    (after_character-Decides c (glob rest) (Matches rest) (glob-Decides rest) text))

is_word_at-Decides : (text : List ℕ) (a b : ℕ) → Decides (is_word_at text a b) (IsWordAt text a b)
is_word_at-Decides text a b =
    let begins = is_outside (character_before text a) in
    let ends = is_outside (slice_get text b) in
    Decides-like (is_word_at text a b)
    (λ (w : (a ≤ b) × ((b ≤ length text) × (IsTrue begins × IsTrue ends))).
    record { in_order = w.0; in_text = w.1.0; begins = w.1.1.0; ends = w.1.1.1 })
    (λ (w : IsWordAt text a b). (w.in_order, (w.in_text, (w.begins, w.ends))))
    (Decides-and (nat_le a b) _ (at_most-Decides a b)
    (Decides-and (nat_le b (length text)) _ (at_most-Decides b (length text))
    (Decides-and begins ends (true-Decides begins) (true-Decides ends))))

-- some word of the text is such
abbrev SomeWord : (List ℕ → Type 0) → List ℕ → Type 0
SomeWord P text = (a : ℕ) × (b : ℕ) × IsWordAt text a b × P (slice_range text a b)

some_word-Decides : (test : List ℕ → Bool) (P : List ℕ → Type 0) → ((part : List ℕ) → Decides (test part) (P part))
    → (text : List ℕ) → Decides (some_word test text) (SomeWord P text)
some_word-Decides test P part text =
    let here : ℕ → ℕ → Bool = λ a b. is_word_at text a b && test (slice_range text a b) in
    let IsHere : ℕ → ℕ → Type 0 = λ a b. IsWordAt text a b × P (slice_range text a b) in
    let from : ℕ → Bool = λ a. some_upto (here a) (length text) in
    let IsFrom : ℕ → Type 0 = λ a. (b : ℕ) × (b ≤ length text) × IsHere a b in
    Decides-like (some_word test text)
    (λ (w : (a : ℕ) × (a ≤ length text) × IsFrom a). (w.0, w.2.0, w.2.2.0, w.2.2.1))
    (λ (w : SomeWord P text).
    (w.0, omega (arith, w.2.in_order, w.2.in_text), (w.1, w.2.in_text, (w.2, w.3))))
    (some_upto-Decides from IsFrom
    (λ a. some_upto-Decides (here a) (IsHere a)
    (λ b. Decides-and (is_word_at text a b) (test (slice_range text a b)) (is_word_at-Decides text a b)
    (part (slice_range text a b)))
    (length text))
    (length text))

glob_word-Decides : (pattern text : List ℕ) → Decides (glob_word pattern text) (WordMatches pattern text)
glob_word-Decides pattern text = some_word-Decides (glob pattern) (Matches pattern) (glob-Decides pattern) text

has_word-Decides : (name text : List ℕ) → Decides (has_word name text) (HasWord name text)
has_word-Decides name text =
    some_word-Decides (λ word. bytes_eq word name) (λ word. word ≡ name) (λ word. bytes_eq-Decides word name) text

-- ---- conditions

has_text-Decides : (path : List (List ℕ)) (event : Json) (test : List ℕ → Bool) (P : List ℕ → Type 0)
    → ((text : List ℕ) → Decides (test text) (P text)) → Decides (has_text path event test) (HasText path event P)
has_text-Decides path event test P each = some-Decides test P each (option_and_then text_of (look path event))

matches_at-Decides : (path : List (List ℕ)) (pattern text : List ℕ)
    → Decides (matches_at path pattern text) (MatchesAt path pattern text)
matches_at-Decides path pattern text =
    if-Decides (is_body path) _ _ _ _ (glob_word-Decides pattern (folded text)) (glob-Decides pattern (folded text))

same_plain-Decides : (a b : Plain) → Decides (same_plain a b) (a ≡ b)
same_plain-Decides Null Null = shown refl
same_plain-Decides (Truth a) (Truth b) =
    Decides-like (beq a b) (λ (e : a ≡ b). ap Truth e) (λ (e : Truth a ≡ Truth b). cc) (booleans_Decides a b)
same_plain-Decides (Whole a) (Whole b) =
    Decides-like (int_eq a b) (λ (e : a ≡ b). ap Whole e) (λ (e : Whole a ≡ Whole b). cc) (Decides-int_eq a b)
same_plain-Decides (Text a) (Text b) =
    Decides-like (bytes_eq a b) (λ (e : a ≡ b). ap Text e) (λ (e : Text a ≡ Text b). cc) (bytes_eq-Decides a b)
same_plain-Decides a b = refuted (λ (e : a ≡ b). cc)

is_plain-Decides : (value : Plain) (found : Option Plain)
    → Decides (option_map_or (λ plain. same_plain plain value) found false) (found ≡ Some value)
is_plain-Decides value None = refuted (λ (e : None ≡ Some value). cc)
is_plain-Decides value (Some plain) =
    Decides-like (same_plain plain value)
    (λ (e : plain ≡ value). ap (λ (p : Plain). Some p) e)
    (λ (e : Some plain ≡ Some value). cc)
    (same_plain-Decides plain value)

equals-Decides : (value : Plain) (found : Json) → Decides (equals value found) (Equals value found)
equals-Decides value found = is_plain-Decides value (plain_of found)

compares-Decides : (comparison : Comparison) (count number : ℕ)
    → Decides (compares comparison count number) (Compares comparison count number)
compares-Decides Equal count number = Decides-eqb count number
compares-Decides Below count number = Decides-ltb count number
compares-Decides Above count number = Decides-ltb number count
compares-Decides AtLeast count number = at_most-Decides number count
compares-Decides AtMost count number = at_most-Decides count number

names_owner-Decides : (owner_name : Option (List ℕ)) (event : Json)
    → Decides (names_owner owner_name event) (NamesOwner owner_name event)
names_owner-Decides owner_name event =
    some-Decides _ _
    (λ name.
    let test : List ℕ → Bool = λ body. has_word (folded name) (folded body) in
    let P : List ℕ → Type 0 = λ body. HasWord (folded name) (folded body) in
    Decides-and (not (bytes_eq name [])) _ (Decides-not (bytes_eq name []) (bytes_eq-Decides name []))
    (has_text-Decides body_path event test P (λ body. has_word-Decides (folded name) (folded body))))
    owner_name

is_met-Decides : (wanted : Wanted) (facts : EventFacts) → Decides (is_met wanted facts) (IsMet wanted facts)
is_met-Decides (EventMatch path pattern) facts =
    has_text-Decides path facts.event (matches_at path pattern) (MatchesAt path pattern)
    (matches_at-Decides path pattern)
is_met-Decides (EventPropertyIs path value) facts =
    some-Decides (equals value) (Equals value) (equals-Decides value) (look path facts.event)
is_met-Decides (EventPropertyContains path value) facts =
    some-Decides _ _ (λ found. list_any-Decides (equals value) (Equals value) (equals-Decides value) (members_of found))
    (look path facts.event)
is_met-Decides (RoomMemberCount asked) facts =
    some-Decides _ _ (λ count. compares-Decides count.comparison facts.joined count.number) asked
is_met-Decides (SenderNotificationPermission key) facts =
    at_most_whole-Decides (needed_power key facts.power_levels) facts.sender_power
is_met-Decides ContainsDisplayName facts = names_owner-Decides facts.owner_name facts.event
is_met-Decides Unknown facts = refuted (λ never. never)

holds-Decides : (condition : Json) (facts : EventFacts) → Decides (holds condition facts) (Holds condition facts)
holds-Decides condition facts =
    some-Decides (λ wanted. is_met wanted facts) (λ wanted. IsMet wanted facts) (λ wanted. is_met-Decides wanted facts)
    (wanted_by condition)

-- ---- rules

meets-Decides : (criterion : Criterion) (id : List ℕ) (facts : EventFacts)
    → Decides (meets criterion id facts) (Meets criterion id facts)
meets-Decides (Conditions conditions) id facts =
    let test : Json → Bool = λ condition. holds condition facts in
    Decides-by_and test (λ condition. Holds condition facts) (list_all test)
    (λ condition. holds-Decides condition facts) refl (λ _ _. refl) conditions
meets-Decides (Word pattern) id facts =
    has_text-Decides body_path facts.event (λ body. glob_word (folded pattern) (folded body))
    (λ body. WordMatches (folded pattern) (folded body)) (λ body. glob_word-Decides (folded pattern) (folded body))
meets-Decides InRoom id facts = bytes_eq-Decides (room_id_of facts.event) id
meets-Decides FromSender id facts = bytes_eq-Decides (sender_of facts.event) id

-- the test says of each rule and event what the relation says
pub may_decide-Decides : (rule : PushRule) (facts : EventFacts) → Decides (may_decide rule facts) (MayDecide rule facts)
unfolding may_decide
may_decide-Decides rule facts =
    let passed_over = is_passed_over rule.id facts.event in
    Decides-and rule.enabled _ (true-Decides rule.enabled)
    (Decides-and (not passed_over) _ (not-Decides passed_over) (meets-Decides rule.criterion rule.id facts))
