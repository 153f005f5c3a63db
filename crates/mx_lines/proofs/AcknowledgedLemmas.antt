-- Lemmas on what a run acknowledges.
use Rattle.std.proofs.Common.{◌≡◌, ℕ, ◌+◌, ◌<◌, ◌≤◌, ◌⊎◌, inl, inr, Bool, true, false, cond, if◌then◌else◌, List, []}
use Rattle.std.proofs.Common.{◌∷◌, ◌++◌, Some, length, take, refl, sym, ap, ap₂, ◌∙◌, arith, suc, zero, add-one}
use Rattle.std.specs.List.{slice_get, filter, count_by}
use Rattle.std.proofs.lemmas.List.{append-nil, take-append-le}
use Rattle.std.proofs.lemmas.List.Sums.{length-filter, sum_by_push}
use Rattle.mx_records.specs.History.{History}
use Rattle.mx_lines.specs.Lines.{IsOneLine, with_feed}
use Rattle.mx_lines.specs.Admission.{after, reply}
use Rattle.mx_lines.specs.Runs.{Run, Point, is_answer, past_begun, past_line, past, point_of, point_at, point_now}
use Rattle.mx_lines.specs.Runs.{input_lines, output_lines, begun, last_line, acknowledged, answers_begun, after_lines}
use Rattle.mx_lines.specs.Runs.{told}
use Rattle.mx_lines.specs.Laws.{IsTurn, LineLaws, WholeLaws, IsLawful, Agrees}
use Rattle.mx_lines.proofs.LinesLemmas.{IsOneLine-take}
use Rattle.mx_lines.proofs.RunsLemmas.{begun-part, point_now-part}
use Rattle.mx_lines.proofs.AnswerLemmas.{IsNext, past_line-answer}
use Rattle.mx_lines.proofs.ReplyLemmas.{is_answer-reply}

-- at a line's end each answer counts
pub acknowledged-whole : (server : List ℕ) (h0 : History) (run : Run) (now : History) → Agrees server h0 run now
    → acknowledged server h0 run ≡ now
acknowledged-whole server h0 run now agrees =
    ap (λ (part : List ℕ). (past_begun server (input_lines run) (point_now server h0 run) part).history)
    agrees.at_line_end
    ∙ agrees.history

is_answer-take : (out : List ℕ) (k : ℕ) → 0 < k → is_answer out ≡ true → is_answer (take k out) ≡ true
is_answer-take out zero some answer = absurd (omega arith)
is_answer-take [] (suc k) some answer = answer
is_answer-take (b ∷ out) (suc k) some answer = answer

past_begun-answer : (server : List ℕ) (inputs : List (List ℕ)) (p : Point) (part line : List ℕ)
    → is_answer part ≡ true → slice_get inputs p.answered ≡ Some line
    → (past_begun server inputs p part).history ≡ after server p.history line
past_begun-answer server inputs p part line answer next = rw (answer, next) refl

acknowledged-part : (server : List ℕ) (h0 : History) (run : Run) (part line : List ℕ) → begun run ≡ [] → IsOneLine part
    → is_answer part ≡ true → IsNext server h0 run line
    → acknowledged server h0 (told run part) ≡ after server (point_now server h0 run).history line
acknowledged-part server h0 run part line at_end one answer next =
    ap (λ (b : List ℕ). (past_begun server (input_lines run) (point_now server h0 (told run part)) b).history)
    (begun-part run part at_end one)
    ∙ ap (λ (p : Point). (past_begun server (input_lines run) p part).history) (point_now-part server h0 run part one)
    ∙ past_begun-answer server (input_lines run) (point_now server h0 run) part line answer next

-- an answer counts from its first byte on
pub acknowledged-begun : (server : List ℕ) (h0 : History) (run : Run) (now : History) (line : List ℕ) (count : ℕ)
    → Agrees server h0 run now → IsNext server h0 run line → IsOneLine (reply server now line)
    → 0 < count → count ≤ length (reply server now line)
    → acknowledged server h0 (told run (take count (with_feed (reply server now line)))) ≡ after server now line
acknowledged-begun server h0 run now line count agrees next one some within =
    rw (take-append-le count (reply server now line) (10 ∷ []) within)
    (acknowledged-part server h0 run (take count (reply server now line)) line agrees.at_line_end
    (IsOneLine-take count (reply server now line) one)
    (is_answer-take (reply server now line) count some (is_answer-reply server now line)) next
    ∙ ap (λ (h : History). after server h line) agrees.history)

-- ---- what is acknowledged are the lines whose answer was begun

after_lines-push : (server : List ℕ) (h : History) (lines : List (List ℕ)) (line : List ℕ)
    → after_lines server h (lines ++ line ∷ []) ≡ after server (after_lines server h lines) line
after_lines-push server h [] line = refl
after_lines-push server h (first ∷ lines) line = after_lines-push server (after server h first) lines line

-- one more element at the front
take-next : {A : Type 0} (xs : List A) (k : ℕ) (x : A) → slice_get xs k ≡ Some x → take (suc k) xs ≡ take k xs ++ x ∷ []
take-next [] k x at = cc
take-next (y ∷ xs) zero x at = cc
take-next (y ∷ xs) (suc k) x at = ap (λ rest. y ∷ rest) (take-next xs k x at)

-- the element at each place below the length
pub slice_get-below : {A : Type 0} (xs : List A) (k : ℕ) → k < length xs → (x : A) × (slice_get xs k ≡ Some x)
slice_get-below [] k below = absurd (omega arith)
slice_get-below (x ∷ xs) zero below = (x, refl)
slice_get-below (x ∷ xs) (suc k) below = slice_get-below xs k (omega arith)

-- while no turn is accepted, each line that keeps the laws is an answer to a line
record IsAnswerTo (server : List ℕ) (inputs : List (List ℕ)) (p : Point) (out : List ℕ) : Type 0 where
  line : List ℕ
  answer : is_answer out ≡ true
  at : slice_get inputs p.answered ≡ Some line

IsAnswerTo-by : (server : List ℕ) (h0 : History) (run : Run) (k : ℕ) (out : List ℕ) (t : Bool) → is_answer out ≡ t
    → LineLaws server h0 run k out → IsAnswerTo server (input_lines run) (point_at server h0 run k) out
unfolding IsTurn
IsAnswerTo-by server h0 run k out true is laws =
    let had = laws.reply_law is in
    record { line = had.0; answer = is; at = had.1 }
IsAnswerTo-by server h0 run k out false is laws = absurd ((laws.notice_law is).2)

-- the point before output line k, where so many lines were answered
abbrev point_after : List ℕ → History → List (List ℕ) → ℕ → Point
point_after server h0 inputs k = record { history = after_lines server h0 (take k inputs); answered = k }

point-next : (server : List ℕ) (h0 : History) (inputs : List (List ℕ)) (p : Point) (out : List ℕ) (k : ℕ)
    → p ≡ point_after server h0 inputs k → IsAnswerTo server inputs p out
    → past_line server inputs p out ≡ point_after server h0 inputs (suc k)
point-next server h0 inputs p out k is answer =
    let at : slice_get inputs k ≡ Some answer.line =
    ap (λ (q : Point). slice_get inputs q.answered) (sym is) ∙ answer.at in
    let history : after server p.history answer.line ≡ after_lines server h0 (take (suc k) inputs) =
    ap (λ (q : Point). after server q.history answer.line) is
    ∙ sym (after_lines-push server h0 (take k inputs) answer.line)
    ∙ ap (after_lines server h0) (sym (take-next inputs k answer.line at)) in
    let count : p.answered + 1 ≡ suc k = add-one p.answered ∙ ap (λ (q : Point). suc q.answered) is in
    past_line-answer server inputs p out answer.line answer.answer answer.at
    ∙ ap₂ (λ (h : History) (n : ℕ). record { history = h; answered = n }) history count

point_at-after : (server : List ℕ) (h0 : History) (run : Run) → WholeLaws server h0 run → (k : ℕ)
    → k ≤ length (output_lines run)
    → point_at server h0 run k ≡ point_after server h0 (input_lines run) k
unfolding point_of
point_at-after server h0 run laws zero within = refl
point_at-after server h0 run laws (suc k) within =
    let before = point_at-after server h0 run laws k (omega arith) in
    let out = slice_get-below (output_lines run) k (omega arith) in
    let answer = IsAnswerTo-by server h0 run k out.0 (is_answer out.0) refl (laws k out.0 out.1) in
    ap (past server (input_lines run) (point_at server h0 run k)) out.1
    ∙ point-next server h0 (input_lines run) (point_at server h0 run k) out.0 k before answer

-- lines that all are answers
all_answers : (lines : List (List ℕ)) → ((k : ℕ) (out : List ℕ) → slice_get lines k ≡ Some out → is_answer out ≡ true)
    → filter is_answer lines ≡ lines
all_answers [] each = refl
all_answers (line ∷ lines) each =
    rw (each zero line refl) (ap (λ rest. line ∷ rest) (all_answers lines (λ k out at. each (suc k) out at)))

count-answers : (server : List ℕ) (h0 : History) (run : Run) → WholeLaws server h0 run
    → count_by is_answer (output_lines run) ≡ length (output_lines run)
count-answers server h0 run laws =
    sym (length-filter is_answer (output_lines run))
    ∙ ap length (all_answers (output_lines run)
    (λ k out at. (IsAnswerTo-by server h0 run k out (is_answer out) refl (laws k out at)).answer))

-- so many of the input lines have an answer that was begun
abbrev begun_count : Run → List ℕ → ℕ
begun_count run part = count_by is_answer (output_lines run ++ last_line true part)

count-begun : (outputs : List (List ℕ)) (part : List ℕ) (count : ℕ) → count_by is_answer outputs ≡ count
    → is_answer part ≡ true
    → count_by is_answer (outputs ++ part ∷ []) ≡ suc count
count-begun outputs part count before answer =
    let pushed = sum_by_push (λ (out : List ℕ). cond (is_answer out) 1 0) outputs part in
    let one = ap (λ (t : Bool). cond {A = ℕ} t 1 0) answer in
    omega (arith, pushed, before, one)

acknowledged-by : (server : List ℕ) (h0 : History) (run : Run) (part : List ℕ) → WholeLaws server h0 run
    → (part ≡ []) ⊎ ((more : List ℕ) × LineLaws server h0 run (length (output_lines run)) (part ++ more))
    → (past_begun server (input_lines run) (point_now server h0 run) part).history
    ≡ after_lines server h0 (take (begun_count run part) (input_lines run))
acknowledged-by server h0 run [] laws begun_laws =
    let count = count-answers server h0 run laws in
    let point = point_at-after server h0 run laws (length (output_lines run)) (omega arith) in
    rw (append-nil, count) (ap (λ (p : Point). p.history) point)
acknowledged-by server h0 run (b ∷ part) laws (inl none) = absurd cc
acknowledged-by server h0 run (b ∷ part) laws (inr law) =
    let outputs = output_lines run in
    let whole = IsAnswerTo-by server h0 run (length outputs) (b ∷ (part ++ law.0)) (is_answer (b ∷ part)) refl law.1 in
    let count = count-begun outputs (b ∷ part) (length outputs) (count-answers server h0 run laws) whole.answer in
    let point = point_at-after server h0 run laws (length outputs) (omega arith) in
    let next = point-next server h0 (input_lines run) (point_now server h0 run) (b ∷ part) (length outputs) point
    (record { line = whole.line; answer = whole.answer; at = whole.at }) in
    ap (λ (t : Bool). (if t then past_line server (input_lines run) (point_now server h0 run) (b ∷ part)
    else point_now server h0 run).history) whole.answer
    ∙ ap (λ (p : Point). p.history) next
    ∙ ap (λ (n : ℕ). after_lines server h0 (take n (input_lines run))) (sym count)

-- a lawful run acknowledges the lines whose answer was begun, and no others
pub acknowledged-lawful : (server : List ℕ) (h0 : History) (run : Run) → IsLawful server h0 run
    → acknowledged server h0 run ≡ after_lines server h0 (take (answers_begun run) (input_lines run))
acknowledged-lawful server h0 run lawful = acknowledged-by server h0 run (begun run) lawful.whole lawful.part
