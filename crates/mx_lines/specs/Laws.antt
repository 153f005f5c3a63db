-- The laws that each output line of a run keeps, and lawful runs: ours.
use Rattle.std.specs.Prelude.{◌≡◌, ℕ, true, false, ◌⊎◌, List, [], ◌++◌, length, Some, slice_get}
use Rattle.mx_records.specs.History.{History}
use Rattle.mx_lines.specs.Admission.{reply}
use Rattle.mx_lines.specs.Runs.{Run, point_at, point_now, input_lines, output_lines, begun, is_answer}

-- this line is a turn that the server accepts, which none is while there are no turns
unfoldable pub IsTurn : List ℕ → History → List ℕ → Type 0
IsTurn server h line = ⊥

-- the reply law: an answer stands where a line waits for one, and is its reply unless that line is an accepted turn
abbrev pub Replies : List ℕ → History → Run → ℕ → List ℕ → Type 0
Replies server h0 run k out =
    let p = point_at server h0 run k in
    is_answer out ≡ true
    → (line : List ℕ) × (slice_get (input_lines run) p.answered ≡ Some line)
    × ((IsTurn server p.history line → ⊥) → out ≡ reply server p.history line)

-- the notice law: a notice stands only where the next line without an answer is an accepted turn
abbrev pub StandsInTurn : List ℕ → History → Run → ℕ → List ℕ → Type 0
StandsInTurn server h0 run k out =
    let p = point_at server h0 run k in
    is_answer out ≡ false
    → (line : List ℕ) × (slice_get (input_lines run) p.answered ≡ Some line) × IsTurn server p.history line

-- the laws of output line k, counted from 0, whose whole text is `out`
pub record LineLaws (server : List ℕ) (h0 : History) (run : Run) (k : ℕ) (out : List ℕ) : Type 0 where
  pub reply_law : Replies server h0 run k out
  pub notice_law : StandsInTurn server h0 run k out

-- each whole output line keeps the laws
abbrev pub WholeLaws : List ℕ → History → Run → Type 0
WholeLaws server h0 run =
    (k : ℕ) (out : List ℕ) → slice_get (output_lines run) k ≡ Some out → LineLaws server h0 run k out

-- no line is begun, or the one that is could go on so that it keeps the laws
abbrev pub BegunLaws : List ℕ → History → Run → Type 0
BegunLaws server h0 run =
    (begun run ≡ [])
    ⊎ ((more : List ℕ) × LineLaws server h0 run (length (output_lines run)) (begun run ++ more))

-- a lawful run, over the history h0 at its start
pub record IsLawful (server : List ℕ) (h0 : History) (run : Run) : Type 0 where
  pub whole : WholeLaws server h0 run
  pub part : BegunLaws server h0 run

-- the run is lawful, stands at a line's end, and has taken the history to `now`
pub record Agrees (server : List ℕ) (h0 : History) (run : Run) (now : History) : Type 0 where
  pub whole : WholeLaws server h0 run
  pub at_line_end : begun run ≡ []
  pub history : (point_now server h0 run).history ≡ now

-- each line that came in has its whole answer
abbrev pub EachAnswered : List ℕ → History → Run → Type 0
EachAnswered server h0 run =
    ((point_now server h0 run).answered ≡ length (input_lines run)) × (begun run ≡ [])
