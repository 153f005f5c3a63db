-- Lemmas on the points of a run.
use Rattle.std.proofs.Common.{◌≡◌, ℕ, ◌≤◌, Bool, true, false, List, [], ◌∷◌, ◌++◌, Some, None, Option, length, refl}
use Rattle.std.proofs.Common.{sym, ap, ◌∙◌, suc, zero, add-one, arith, if◌then◌else◌}
use Rattle.std.specs.List.{slice_get}
use Rattle.std.proofs.lemmas.List.{length_push, append-nil}
use Rattle.mx_records.specs.History.{History}
use Rattle.mx_lines.specs.Lines.{Lines, IsOneLine, with_feed}
use Rattle.mx_lines.specs.Runs.{Run, Point, is_answer, past, past_line, past_answer, past_notice, point_of, point_at}
use Rattle.mx_lines.specs.Runs.{point_now, input_lines, output_lines, begun, told}
use Rattle.mx_lines.proofs.ListLemmas.{slice_get-more, slice_get-left, slice_get-seam}
use Rattle.mx_lines.proofs.LinesLemmas.{lines_of-part, lines_of-line}

-- an answer has an input line to answer
abbrev HasLine : List (List ℕ) → Point → List ℕ → Type 0
HasLine inputs p out = is_answer out ≡ true → (line : List ℕ) × (slice_get inputs p.answered ≡ Some line)

-- each whole output line that is an answer has an input line to answer
abbrev pub HaveLines : List ℕ → History → List (List ℕ) → List (List ℕ) → Type 0
HaveLines server h0 inputs outputs =
    (k : ℕ) (out : List ℕ) → slice_get outputs k ≡ Some out → HasLine inputs (point_of server h0 inputs outputs k) out

past_line-more : (server : List ℕ) (inputs more : List (List ℕ)) (p : Point) (out : List ℕ) (t : Bool)
    → (t ≡ true → (line : List ℕ) × (slice_get inputs p.answered ≡ Some line))
    → (if t then past_answer server p (slice_get (inputs ++ more) p.answered) else past_notice server p out)
    ≡ (if t then past_answer server p (slice_get inputs p.answered) else past_notice server p out)
past_line-more server inputs more p out true h =
    let had = h refl in
    let later : slice_get (inputs ++ more) p.answered ≡ Some had.0 =
    slice_get-more inputs more p.answered had.0 had.1 in
    ap (past_answer server p) (later ∙ sym had.1)
past_line-more server inputs more p out false h = refl

past-more : (server : List ℕ) (inputs more : List (List ℕ)) (p : Point) (o : Option (List ℕ))
    → ((out : List ℕ) → o ≡ Some out → HasLine inputs p out)
    → past server (inputs ++ more) p o ≡ past server inputs p o
past-more server inputs more p None h = refl
past-more server inputs more p (Some out) h = past_line-more server inputs more p out (is_answer out) (h out refl)

-- more input and more output leave each earlier point as it is
pub point_of-grows : (server : List ℕ) (h0 : History) (inputs more_in outputs more_out : List (List ℕ))
    → HaveLines server h0 inputs outputs → (k : ℕ) → k ≤ length outputs
    → point_of server h0 (inputs ++ more_in) (outputs ++ more_out) k ≡ point_of server h0 inputs outputs k
unfolding point_of
point_of-grows server h0 inputs more_in outputs more_out have zero le = refl
point_of-grows server h0 inputs more_in outputs more_out have (suc k) le =
    let before = point_of-grows server h0 inputs more_in outputs more_out have k (omega arith) in
    rw (slice_get-left outputs more_out k (omega arith), before)
    (past-more server inputs more_in (point_of server h0 inputs outputs k) (slice_get outputs k) (have k))

-- a run that went on: more lines came in, more went out, and none of the earlier ones changed
pub record Grows (run new : Run) : Type 0 where
  pub more_in : List (List ℕ)
  pub more_out : List (List ℕ)
  pub inputs : input_lines new ≡ input_lines run ++ more_in
  pub outputs : output_lines new ≡ output_lines run ++ more_out

pub point_at-grows : (server : List ℕ) (h0 : History) (run new : Run) → Grows run new
    → HaveLines server h0 (input_lines run) (output_lines run) → (k : ℕ) → k ≤ length (output_lines run)
    → point_at server h0 new k ≡ point_at server h0 run k
point_at-grows server h0 run new grows have k le =
    rw (grows.inputs, grows.outputs)
    (point_of-grows server h0 (input_lines run) grows.more_in (output_lines run) grows.more_out have k le)

-- the output after one more whole line
pub output_lines-told : (run : Run) (out : List ℕ) → begun run ≡ [] → IsOneLine out
    → output_lines (told run (with_feed out)) ≡ output_lines run ++ out ∷ []
output_lines-told run out at_end one =
    ap (λ (lines : Lines). lines.whole) (lines_of-line run.output out one)
    ∙ ap (λ (rest : List ℕ). output_lines run ++ (rest ++ out) ∷ []) at_end

pub begun-told : (run : Run) (out : List ℕ) → IsOneLine out → begun (told run (with_feed out)) ≡ []
begun-told run out one = ap (λ (lines : Lines). lines.rest) (lines_of-line run.output out one)

-- the output after the beginning of one more line
pub output_lines-part : (run : Run) (part : List ℕ) → IsOneLine part → output_lines (told run part) ≡ output_lines run
output_lines-part run part one = ap (λ (lines : Lines). lines.whole) (lines_of-part run.output part one)

pub begun-part : (run : Run) (part : List ℕ) → begun run ≡ [] → IsOneLine part → begun (told run part) ≡ part
begun-part run part at_end one =
    ap (λ (lines : Lines). lines.rest) (lines_of-part run.output part one) ∙ ap (λ (rest : List ℕ). rest ++ part) at_end

pub Grows-told : (run : Run) (out : List ℕ) → begun run ≡ [] → IsOneLine out → Grows run (told run (with_feed out))
Grows-told run out at_end one = record {
  more_in = [];
  more_out = out ∷ [];
  inputs = sym (append-nil (input_lines run));
  outputs = output_lines-told run out at_end one;
}

pub Grows-part : (run : Run) (part : List ℕ) → IsOneLine part → Grows run (told run part)
Grows-part run part one = record {
  more_in = [];
  more_out = [];
  inputs = sym (append-nil (input_lines run));
  outputs = output_lines-part run part one ∙ sym (append-nil (output_lines run));
}

-- the point after one more line
pub point_of-push : (server : List ℕ) (h0 : History) (inputs outputs : List (List ℕ)) (out : List ℕ)
    → HaveLines server h0 inputs outputs
    → point_of server h0 inputs (outputs ++ out ∷ []) (suc (length outputs))
    ≡ past_line server inputs (point_of server h0 inputs outputs (length outputs)) out
unfolding point_of
point_of-push server h0 inputs outputs out have =
    let same : point_of server h0 inputs (outputs ++ out ∷ []) (length outputs)
    ≡ point_of server h0 inputs outputs (length outputs) =
    rw append-nil at (point_of-grows server h0 inputs [] outputs (out ∷ []) have (length outputs) (omega arith)) in
    rw (slice_get-seam outputs out [], same)

pub point_now-told : (server : List ℕ) (h0 : History) (run : Run) (out : List ℕ)
    → HaveLines server h0 (input_lines run) (output_lines run) → begun run ≡ [] → IsOneLine out
    → point_now server h0 (told run (with_feed out)) ≡ past_line server (input_lines run) (point_now server h0 run) out
point_now-told server h0 run out have at_end one =
    rw (output_lines-told run out at_end one, length_push (output_lines run) out, add-one)
    (point_of-push server h0 (input_lines run) (output_lines run) out have)

-- the point is as it was while a line is only begun
pub point_now-part : (server : List ℕ) (h0 : History) (run : Run) (part : List ℕ) → IsOneLine part
    → point_now server h0 (told run part) ≡ point_now server h0 run
point_now-part server h0 run part one =
    ap (λ (outputs : List (List ℕ)). point_of server h0 (input_lines run) outputs (length outputs))
    (output_lines-part run part one)
