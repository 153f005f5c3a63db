-- The words of the command line: ours.
use Rattle.std.specs.Prelude.{◌≡◌, ℕ, ◌≤◌, Bool, false, not, ◌||◌, ◌&&◌, ◌==◌, ◌⊎◌, nat_le, IsTrue, All, List, [], ◌∷◌}
use Rattle.std.specs.Prelude.{◌++◌, length, codes}
use Rattle.push_server.specs.declared.command_line.Subcommand.{Subcommand}
use Rattle.push_server.specs.declared.command_line.Subcommand.TheVariants.{Run, Check}

-- ---- options in general

-- a value of an option isn't empty, and doesn't begin with `-`
abbrev pub is_value : List ℕ → Bool
is_value [] = false
is_value (first ∷ rest) = not (first == 45)

-- The words are an option with this value, and then the rest. It is spelled `--name value` or `--name=value`.
abbrev pub BeginWith : List ℕ → List ℕ → List (List ℕ) → List (List ℕ) → Type 0
BeginWith option value rest words =
    (words ≡ option ∷ value ∷ rest) ⊎ (words ≡ (option ++ (codes "=" ++ value)) ∷ rest)

-- no option follows: a last word `--` alone means nothing
abbrev pub AreEnded : List (List ℕ) → Type 0
AreEnded words = (words ≡ []) ⊎ (words ≡ codes "--" ∷ [])

-- The words are two options in this order, each once and with its value, and nothing after them.
pub record AreInTurn (first one second two : List ℕ) (words : List (List ℕ)) : Type 0 where
  pub rest : List (List ℕ)
  pub later : List (List ℕ)
  pub begins : BeginWith first one rest words
  pub goes_on : BeginWith second two later rest
  pub ended : AreEnded later

-- ---- a server's name

-- the byte is from the first of these to the last
abbrev pub is_between : ℕ → ℕ → ℕ → Bool
is_between first last b = nat_le first b && nat_le b last

-- the byte is one of `a-z A-Z 0-9 . - : [ ]`
abbrev pub is_name_byte : ℕ → Bool
is_name_byte b =
    is_between 97 122 b || is_between 65 90 b || is_between 48 57 b || b == 46 || b == 45 || b == 58 || b
    == 91 || b == 93

-- a server's name is a value of 1 to 200 such bytes
pub record IsServerName (name : List ℕ) : Type 0 where
  pub value : IsTrue (is_value name)
  pub limit : length name ≤ 200
  pub bytes : All (λ b. IsTrue (is_name_byte b)) name

-- ---- the words of a subcommand

-- the word that names a subcommand
abbrev pub word_of : Subcommand → List ℕ
word_of Run = codes "run"
word_of Check = codes "check"

-- The words are the options `--server` and `--journal` with these values, in one of the two orders.
abbrev pub AreOptions : List ℕ → List ℕ → List (List ℕ) → Type 0
AreOptions server journal words =
    AreInTurn (codes "--server") server (codes "--journal") journal words
    ⊎ AreInTurn (codes "--journal") journal (codes "--server") server words

-- The words are this subcommand, for the homeserver with this name and the journal at this path.
pub record AreWordsOf (words : List (List ℕ)) (subcommand : Subcommand) (server journal : List ℕ) : Type 0 where
  pub options : List (List ℕ)
  pub first : words ≡ word_of subcommand ∷ options
  pub given : AreOptions server journal options
  pub name : IsServerName server
  pub path : IsTrue (is_value journal)
