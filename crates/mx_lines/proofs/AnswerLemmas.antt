-- Lemmas on the answer to the next line of a run, and on a run that takes more input.
use Rattle.std.proofs.Common.{◌≡◌, ℕ, ◌+◌, true, List, [], ◌++◌, Some, length, refl, sym, ap, ◌∙◌, arith}
use Rattle.std.specs.List.{slice_get}
use Rattle.std.proofs.lemmas.List.{append-nil}
use Rattle.std.proofs.lemmas.Bool.{false≢true}
use Rattle.mx_records.specs.History.{History}
use Rattle.mx_lines.specs.Lines.{lines_of, IsOneLine, with_feed}
use Rattle.mx_lines.specs.Admission.{after, reply}
use Rattle.mx_lines.specs.Runs.{Run, Point, is_answer, past_line, point_at, point_now, input_lines, output_lines, told}
use Rattle.mx_lines.specs.Laws.{LineLaws, Agrees}
use Rattle.mx_lines.proofs.RunsLemmas.{Grows, point_at-grows, point_now-told}
use Rattle.mx_lines.proofs.LawsLemmas.{HaveLines-laws, WholeLaws-more}
use Rattle.mx_lines.proofs.ReplyLemmas.{is_answer-reply}

-- this is the next line without an answer
abbrev pub IsNext : List ℕ → History → Run → List ℕ → Type 0
IsNext server h0 run line = slice_get (input_lines run) (point_now server h0 run).answered ≡ Some line

-- the reply to the next line keeps the laws
pub LineLaws-reply : (server : List ℕ) (h0 : History) (run : Run) (now : History) (line : List ℕ)
    → Agrees server h0 run now → IsNext server h0 run line
    → LineLaws server h0 run (length (output_lines run)) (reply server now line)
LineLaws-reply server h0 run now line agrees next = record {
  reply_law = λ _. (line, next, λ _. ap (λ (h : History). reply server h line) (sym agrees.history));
  notice_law = λ notice. absurd (false≢true (sym notice ∙ is_answer-reply server now line));
}

-- past the answer to the next line
pub past_line-answer : (server : List ℕ) (inputs : List (List ℕ)) (p : Point) (out line : List ℕ)
    → is_answer out ≡ true → slice_get inputs p.answered ≡ Some line
    → past_line server inputs p out ≡ record { history = after server p.history line; answered = p.answered + 1 }
past_line-answer server inputs p out line answer next = rw (answer, next) refl

pub point_now-answer : (server : List ℕ) (h0 : History) (run : Run) (now : History) (line : List ℕ)
    → Agrees server h0 run now → IsNext server h0 run line → IsOneLine (reply server now line)
    → point_now server h0 (told run (with_feed (reply server now line)))
    ≡ record {
      history = after server (point_now server h0 run).history line;
      answered = (point_now server h0 run).answered + 1;
    }
point_now-answer server h0 run now line agrees next one =
    point_now-told server h0 run (reply server now line)
    (HaveLines-laws server h0 run agrees.whole) agrees.at_line_end one
    ∙ past_line-answer server (input_lines run) (point_now server h0 run) (reply server now line) line
    (is_answer-reply server now line) next

-- more input changes nothing of what was answered
pub Agrees-more : (server : List ℕ) (h0 : History) (run new : Run) (more : List (List ℕ)) (now : History)
    → new.output ≡ run.output → input_lines new ≡ input_lines run ++ more → Agrees server h0 run now
    → Agrees server h0 new now × (point_now server h0 new ≡ point_now server h0 run)
Agrees-more server h0 run new more now output inputs agrees =
    let outputs : output_lines new ≡ output_lines run = ap (λ (bytes : List ℕ). (lines_of bytes).whole) output in
    let grows : Grows run new = record {
      more_in = more;
      more_out = [];
      inputs = inputs;
      outputs = outputs ∙ sym (append-nil (output_lines run));
    } in
    let count : length (output_lines new) ≡ length (output_lines run) = ap length outputs in
    let point : point_now server h0 new ≡ point_now server h0 run =
    ap (point_at server h0 new) count
    ∙ point_at-grows server h0 run new grows (HaveLines-laws server h0 run agrees.whole) (length (output_lines run))
    (omega arith) in (
      record {
        whole = WholeLaws-more server h0 run new more inputs outputs agrees.whole;
        at_line_end = ap (λ (bytes : List ℕ). (lines_of bytes).rest) output ∙ agrees.at_line_end;
        history = ap (λ (p : Point). p.history) point ∙ agrees.history;
      },
      point,
    )
