-- Lemmas on the words of the command line.
use Rattle.std.proofs.Common.{◌≡◌, ◌≢◌, inl, inr, ℕ, ◌==◌, Bool, true, false, List, [], ◌∷◌, ◌++◌, map, length, codes}
use Rattle.std.proofs.Common.{Option, None, Some, MatchOption, IsTrue, Bor, sym, ap, refl, ◌∙◌, subst, arith}
use Rattle.std.specs.Str.{bytes_eq}
use Rattle.std.proofs.lemmas.Bool.Decides.{nat_tests}
use Rattle.std.proofs.lemmas.List.{append_cancel_left, append-nil}
use Rattle.std.proofs.lemmas.Slice.Eq.{bytes_eq-Decides}
use Rattle.push_server.specs.declared.command_line.Subcommand.{Subcommand}
use Rattle.push_server.specs.declared.command_line.Subcommand.TheVariants.{Run, Check}
use Rattle.push_server.specs.CommandLine.{BeginWith, AreEnded, AreInTurn, AreOptions, word_of, AreWordsOf}

-- the value behind an option and `=`
pub value_behind : (word option rest : List ℕ) (found : Option (Bor (List ℕ))) → word ≡ option ++ rest
    → MatchOption found ((later : List ℕ) → rest ≢ 61 ∷ later) (λ value. rest ≡ 61 ∷ value.now)
    → MatchOption found ((value : List ℕ) → word ≢ option ++ (61 ∷ value)) (λ value. word ≡ option ++ (61 ∷ value.now))
value_behind word option rest None is none =
    λ value same. none value (append_cancel_left option rest (61 ∷ value) (sym is ∙ same))
value_behind word option rest (Some value) is some = is ∙ ap (λ r. option ++ r) some

-- the words after the first
pub after_first : {A B : Type 0} (f : A → B) (xs : List A) (x : A) (rest : List A) (y : B) (ys : List B)
    → xs ≡ x ∷ rest → map f xs ≡ y ∷ ys → ys ≡ map f rest
after_first f xs x rest y ys is same =
    let both : f x ∷ map f rest ≡ y ∷ ys = sym (ap (map f) is) ∙ same in
    cc

ended_by : (word : List ℕ) (is : Bool) → is ≡ bytes_eq word (codes "--") → AreEnded (word ∷ []) → IsTrue is
ended_by word is test (inl none) = absurd cc
ended_by word is test (inr same) =
    let dashes : word ≡ codes "--" = cc in
    test ∙ (bytes_eq-Decides word (codes "--")).1 dashes

-- one word is the end where it is `--`
pub ends_by_one : {A : Type 0} (f : A → List ℕ) (xs : List A) (x : A) (rest : List A) (word : List ℕ) (is : Bool)
    → xs ≡ x ∷ rest → true ≡ (length rest == 0) → word ≡ f x → is ≡ bytes_eq word (codes "--")
    → (IsTrue is → AreEnded (map f xs)) × (AreEnded (map f xs) → IsTrue is)
ends_by_one f xs x [] word is split empty text test =
    let words : map f xs ≡ word ∷ [] = ap (map f) split ∙ ap (λ w. w ∷ []) (sym text) in (
      λ holds. inr (words ∙ ap (λ w. w ∷ []) ((bytes_eq-Decides word (codes "--")).0 (sym test ∙ holds))),
      λ ended. ended_by word is test (subst AreEnded words ended),
    )
ends_by_one f xs x (y ∷ rest) word is split empty text test = absurd (grind (arith, nat_tests))

-- ---- options in turn

no_value : (option value : List ℕ) → option ≡ option ++ (codes "=" ++ value) → ⊥
no_value option value same =
    let both : [] ≡ codes "=" ++ value = append_cancel_left option [] (codes "=" ++ value) (append-nil option ∙ same) in
    absurd cc

-- an option at the front has one value
pub BeginWith-unique : (option a b : List ℕ) (rest later words : List (List ℕ)) → BeginWith option a rest words
    → BeginWith option b later words → (a ≡ b) × (rest ≡ later)
BeginWith-unique option a b rest later words (inl p) (inl q) = let e = sym p ∙ q in (cc, cc)
BeginWith-unique option a b rest later words (inl p) (inr q) =
    let e = sym p ∙ q in
    let same : option ≡ option ++ (codes "=" ++ b) = cc in
    absurd (no_value option b same)
BeginWith-unique option a b rest later words (inr p) (inl q) =
    let e = sym p ∙ q in
    let same : option ≡ option ++ (codes "=" ++ a) = cc in
    absurd (no_value option a same)
BeginWith-unique option a b rest later words (inr p) (inr q) =
    let e = sym p ∙ q in
    let same : option ++ (codes "=" ++ a) ≡ option ++ (codes "=" ++ b) = cc in
    let values = append_cancel_left option (codes "=" ++ a) (codes "=" ++ b) same in
    (cc, cc)

-- the third byte of the first word is an `s`
abbrev has_s : List (List ℕ) → Bool
has_s [] = false
has_s ([] ∷ words) = false
has_s ((a ∷ []) ∷ words) = false
has_s ((a ∷ b ∷ []) ∷ words) = false
has_s ((a ∷ b ∷ c ∷ rest) ∷ words) = c == 115

-- the words don't begin with two options
pub server_or_journal : (a b : List ℕ) (rest later words : List (List ℕ)) → BeginWith (codes "--server") a rest words
    → BeginWith (codes "--journal") b later words → ⊥
server_or_journal a b rest later words (inl p) (inl q) = let both : true ≡ false = ap has_s (sym p ∙ q) in absurd cc
server_or_journal a b rest later words (inl p) (inr q) = let both : true ≡ false = ap has_s (sym p ∙ q) in absurd cc
server_or_journal a b rest later words (inr p) (inl q) = let both : true ≡ false = ap has_s (sym p ∙ q) in absurd cc
server_or_journal a b rest later words (inr p) (inr q) = let both : true ≡ false = ap has_s (sym p ∙ q) in absurd cc

-- what follows the first of two options in turn
pub after_one : (first a one second two : List ℕ) (rest words : List (List ℕ)) → BeginWith first a rest words
    → AreInTurn first one second two words → (later : List (List ℕ)) × BeginWith second two later rest × AreEnded later
after_one first a one second two rest words begins turn =
    let same = BeginWith-unique first a one rest turn.rest words begins turn.begins in (
      turn.later,
      subst (λ (ws : List (List ℕ)). BeginWith second two turn.later ws) (sym same.1) turn.goes_on,
      turn.ended,
    )

-- what follows both of two options in turn is ended
pub after_two : (first a one second b two : List ℕ) (rest later words : List (List ℕ)) → BeginWith first a rest words
    → BeginWith second b later rest → AreInTurn first one second two words → AreEnded later
after_two first a one second b two rest later words begins goes_on turn =
    let then = after_one first a one second two rest words begins turn in
    let same = BeginWith-unique second b two later then.0 rest goes_on then.1 in
    subst AreEnded (sym same.1) then.2

AreInTurn-unique : (first a c second b d : List ℕ) (words : List (List ℕ)) → AreInTurn first a second b words
    → AreInTurn first c second d words → (a ≡ c) × (b ≡ d)
AreInTurn-unique first a c second b d words p q =
    let firsts = BeginWith-unique first a c p.rest q.rest words p.begins q.begins in
    let then = after_one first a c second d p.rest words p.begins q in
    let seconds = BeginWith-unique second b d p.later then.0 p.rest p.goes_on then.1 in
    (firsts.0, seconds.0)

-- where the options are in neither order they aren't these two
pub in_no_order : (server journal : List ℕ) (words : List (List ℕ))
    → ((name path : List ℕ) → AreInTurn (codes "--server") name (codes "--journal") path words → ⊥)
    → ((path name : List ℕ) → AreInTurn (codes "--journal") path (codes "--server") name words → ⊥)
    → AreOptions server journal words → ⊥
in_no_order server journal words first second (inl turn) = first server journal turn
in_no_order server journal words first second (inr turn) = second journal server turn

AreOptions-unique : (server journal name path : List ℕ) (words : List (List ℕ)) → AreOptions server journal words
    → AreOptions name path words → (server ≡ name) × (journal ≡ path)
AreOptions-unique server journal name path words (inl p) (inl q) = AreInTurn-unique _ _ _ _ _ _ words p q
AreOptions-unique server journal name path words (inl p) (inr q) =
    absurd (server_or_journal server path p.rest q.rest words p.begins q.begins)
AreOptions-unique server journal name path words (inr p) (inl q) =
    absurd (server_or_journal name journal q.rest p.rest words q.begins p.begins)
AreOptions-unique server journal name path words (inr p) (inr q) =
    let both = AreInTurn-unique _ _ _ _ _ _ words p q in
    (both.1, both.0)

-- a word names one subcommand
pub word_of-unique : (a b : Subcommand) → word_of a ≡ word_of b → a ≡ b
word_of-unique Run Run same = refl
word_of-unique Run Check same = absurd cc
word_of-unique Check Run same = absurd cc
word_of-unique Check Check same = refl

-- the words after the subcommand are its options
pub options_after : {A : Type 0} (f : A
    → List ℕ) (xs : List A) (x : A) (rest : List A) (subcommand : Subcommand) (server journal : List ℕ)
    → xs ≡ x ∷ rest → AreWordsOf (map f xs) subcommand server journal → AreOptions server journal (map f rest)
options_after f xs x rest subcommand server journal is words =
    subst (AreOptions server journal)
    (after_first f xs x rest (word_of subcommand) words.options is words.first) words.given

-- the words say one subcommand, one server's name and one journal
pub AreWordsOf-unique : (words : List (List ℕ)) (a b : Subcommand) (server journal name path : List ℕ)
    → AreWordsOf words a server journal → AreWordsOf words b name path → (a ≡ b) × (server ≡ name) × (journal ≡ path)
AreWordsOf-unique words a b server journal name path p q =
    let both : word_of a ∷ p.options ≡ word_of b ∷ q.options = sym p.first ∙ q.first in
    let options : p.options ≡ q.options = cc in
    let first : word_of a ≡ word_of b = cc in
    let values =
    AreOptions-unique server journal name path q.options (subst (AreOptions server journal) options p.given) q.given in
    (word_of-unique a b first, values.0, values.1)
