-- Lemmas on one step of a run.
use Rattle.std.proofs.Common.{◌≡◌, ◌⊎◌, inl, inr, ℕ, zero, suc, ◌+◌, ◌<◌, ◌≤◌, List, [], ◌∷◌, ◌++◌, Some, Option}
use Rattle.std.proofs.Common.{length, take, refl, sym, ap, subst, ◌∙◌, arith, length-append, add-zero}
use Rattle.std.specs.List.{slice_get}
use Rattle.std.proofs.lemmas.List.{append-nil, take-append-le}
use Rattle.std.proofs.lemmas.Option.{slice_get_within}
use Rattle.mx_outside.specs.Told.{WhereTold, Writes}
use Rattle.mx_outside.proofs.Told.{WhereTold-at}
use Rattle.mx_lines.specs.declared.cut.Cut.{Cut}
use Rattle.mx_lines.specs.declared.cut.Cut.TheVariants.{Line, TooLong, More}
use Rattle.mx_lines.specs.Cutting.{shown_count}
use Rattle.mx_lines.specs.Lines.{IsOneLine, with_feed}
use Rattle.mx_lines.proofs.LinesLemmas.{IsOneLine-take}
use Rattle.mx_records.specs.History.{History}
use Rattle.mx_records.specs.Snapshot.{Snapshot}
use Rattle.push_server.specs.declared.answer.AnswerError.{AnswerError}
use Rattle.push_server.specs.declared.answer.AnswerError.TheVariants as answer
use Rattle.push_server.specs.declared.halt.Halt.TheVariants as halt
use Rattle.mx_lines.specs.Admission.{after, reply, admission_of}
use Rattle.push_server.specs.Answered.{after_cut, halt_of, IsAnswered}
use Rattle.mx_lines.specs.Runs.{Run, Point, acknowledged, point_now, input_lines, told}
use Rattle.mx_lines.specs.Laws.{Agrees}
use Rattle.mx_lines.proofs.AcknowledgedLemmas.{acknowledged-begun, acknowledged-whole}
use Rattle.mx_lines.proofs.AnswerLemmas.{IsNext, LineLaws-reply, point_now-answer}
use Rattle.mx_store.specs.Standing.{StandsFor, StandsForEitherHistory}
use Rattle.push_server.specs.Crash.{GoesOnFrom, IsAfterNextLine, LeavesFronts, StandsBetween}
use Rattle.push_server.specs.Headline.{HaltsAt}
use Rattle.push_server.specs.Steps.{GoesOn, AnswersCut, ShowsNext, IsHalted}
use Rattle.mx_lines.proofs.RunsLemmas.{begun-told, point_now-part}
use Rattle.mx_lines.proofs.LawsLemmas.{WholeLaws-told, IsLawful-whole, IsLawful-begun}
use Rattle.mx_lines.proofs.ReplyLemmas.{IsOneLine-reply}
use Rattle.push_server.proofs.AdmissionLemmas.{after-long, reply-answered}
use Rattle.push_server.proofs.CrashLemmas.{between_either, between_one, front_same}

-- after the whole answer the run goes on
GoesOn-answer : (server : List ℕ) (h0 : History) (run : Run) (now : History) (line : List ℕ) (stands : History → Type 0)
    → Agrees server h0 run now → IsNext server h0 run line → IsOneLine (reply server now line)
    → stands (after server now line)
    → GoesOn server h0 (told run (with_feed (reply server now line))) stands ((point_now server h0 run).answered + 1)
GoesOn-answer server h0 run now line stands agrees next one stands_for =
    let point = point_now-answer server h0 run now line agrees next one in
    record {
      now = after server now line;
      agrees = record {
        whole = WholeLaws-told server h0 run (reply server now line) agrees.whole agrees.at_line_end one
            (LineLaws-reply server h0 run now line agrees next);
        at_line_end = begun-told run (reply server now line) one;
        history = ap (λ (p : Point). p.history) point ∙ ap (λ (h : History). after server h line) agrees.history;
      };
      stands_for = stands_for;
      count = ap (λ (p : Point). p.answered) point;
    }

-- where nothing was written, memory or the disk may have failed
pub HaltsAt-nothing : (error : AnswerError) (server : List ℕ) (h0 : History) (run : Run) (now : History)
    → Agrees server h0 run now → HaltsAt (halt_of error) server h0 run
HaltsAt-nothing answer.DiskFault server h0 run now agrees = agrees.at_line_end
HaltsAt-nothing answer.OutOfMemory server h0 run now agrees = agrees.at_line_end

IsHalted-nothing : (error : AnswerError) (server : List ℕ) (h0 : History) (run : Run) (now : History)
    (leaves : Run → Type 0) → Agrees server h0 run now → leaves run
    → IsHalted (halt_of error) server h0 (told run []) leaves
IsHalted-nothing error server h0 run now leaves agrees left =
    rw append-nil (record {
      may_end = λ status. IsLawful-whole server h0 run status agrees.whole agrees.at_line_end;
      halts = HaltsAt-nothing error server h0 run now agrees;
      left = left;
    })

pub halted_before_writing : (error : AnswerError) (server : List ℕ) (h0 : History) (run : Run)
    (stands : History → Type 0)
    (leaves : Run → Type 0) (answered : ℕ) (a : Option (List ℕ)) → GoesOn server h0 run stands answered → leaves run
    → Writes a a (λ out. IsHalted (halt_of error) server h0 (told run out) leaves)
halted_before_writing error server h0 run stands leaves answered a goes_on left before is = (
  [],
  is ∙ ap Some (sym (append-nil before)),
  IsHalted-nothing error server h0 run goes_on.now leaves goes_on.agrees left,
)

-- where the answer was cut short, the line has no whole answer
HaltsAt-part : (server : List ℕ) (h0 : History) (run : Run) (now : History) (line : List ℕ) (count : ℕ)
    → IsNext server h0 run line → IsOneLine (reply server now line) → count ≤ length (reply server now line)
    → HaltsAt halt.WriteFault server h0 (told run (take count (with_feed (reply server now line))))
HaltsAt-part server h0 run now line count next one le =
    let within = slice_get_within (input_lines run) (point_now server h0 run).answered line next in
    let part = IsOneLine-take count (reply server now line) one in
    let same =
    ap (λ (p : Point). p.answered) (point_now-part server h0 run (take count (reply server now line)) part) in
    rw (take-append-le count (reply server now line) (10 ∷ []) le) (omega (arith, within, same))

-- ---- the answer to the line that a cut shows

-- the next line without an answer, its answer as a text, and the history after it
pub record HasAnswer (server : List ℕ) (h0 : History) (run : Run) (now next : History) (text : List ℕ) : Type 0 where
  pub line : List ℕ
  pub waits : IsNext server h0 run line
  pub one_line : IsOneLine (reply server now line)
  pub is : text ≡ with_feed (reply server now line)
  pub goes_to : after server now line ≡ next

HasAnswer-line : (server : List ℕ) (h0 : History) (run : Run) (old : History → Type 0) (shown : Snapshot)
    (answered : ℕ) (next : History) (before text line : List ℕ) → (goes_on : GoesOn server h0 run old answered)
    → slice_get (input_lines run) answered ≡ Some line → before ≡ []
    → IsAnswered server goes_on.now (admission_of server goes_on.now line) shown before text
    → after server goes_on.now line ≡ next → HasAnswer server h0 run goes_on.now next text
HasAnswer-line server h0 run old shown answered next before text line goes_on at empty answer to =
    let now = goes_on.now in
    record {
      line = line;
      waits = rw goes_on.count at;
      one_line = IsOneLine-reply server now line;
      is = reply-answered server line now shown before text answer
          ∙ ap (λ (front : List ℕ). front ++ with_feed (reply server now line)) empty;
      goes_to = to;
    }

-- after the whole text was written the run goes on
wrote_whole : (server : List ℕ) (h0 : History) (run : Run) (old new : History → Type 0) (answered : ℕ) (next : History)
    (text : List ℕ) (a b : Option (List ℕ)) → (goes_on : GoesOn server h0 run old answered)
    → HasAnswer server h0 run goes_on.now next text → new next
    → WhereTold a b (λ before now. now ≡ before ++ text)
    → Writes a b (λ out. GoesOn server h0 (told run out) new (answered + 1))
wrote_whole server h0 run old new answered next text a b goes_on has stands written before told_before =
    let t = WhereTold-at _ a b before written told_before in (
      text,
      t.1 ∙ ap Some t.2,
      rw (has.is, ← goes_on.count)
          (GoesOn-answer server h0 run goes_on.now has.line new goes_on.agrees has.waits has.one_line
          (subst new (sym has.goes_to) stands)),
    )

-- where no line was shown, nothing is written
wrote_none : (server : List ℕ) (h0 : History) (run : Run) (old new : History → Type 0) (answered : ℕ) (text : List ℕ)
    (a b : Option (List ℕ)) → (goes_on : GoesOn server h0 run old answered) → text ≡ [] → new goes_on.now
    → WhereTold a b (λ before now. now ≡ before ++ text)
    → Writes a b (λ out. GoesOn server h0 (told run out) new (answered + 0))
wrote_none server h0 run old new answered text a b goes_on nothing stands written taken told_taken =
    let t = WhereTold-at _ a b taken written told_taken in (
      [],
      t.1 ∙ ap Some (t.2 ∙ ap (λ (more : List ℕ). taken ++ more) nothing),
      rw (append-nil, add-zero)
          (record { now = goes_on.now; agrees = goes_on.agrees; stands_for = stands; count = goes_on.count }),
    )

-- after the text for a cut was written the run goes on
pub wrote_cut : (cut : Cut) (server : List ℕ) (h0 : History) (run : Run) (old new : History → Type 0) (shown : Snapshot)
    (answered : ℕ) (before text : List ℕ) (a b : Option (List ℕ)) → (goes_on : GoesOn server h0 run old answered)
    → ShowsNext cut (input_lines run) answered → before ≡ [] → AnswersCut server goes_on.now cut shown before text
    → new (after_cut server goes_on.now cut) → WhereTold a b (λ old_told new_told. new_told ≡ old_told ++ text)
    → Writes a b (λ out. GoesOn server h0 (told run out) new (answered + shown_count cut))
wrote_cut (Line bytes) server h0 run old new shown answered before text a b goes_on shows empty answer stands written =
    wrote_whole server h0 run old new answered (after server goes_on.now bytes.now) text a b goes_on
    (HasAnswer-line server h0 run old shown answered (after server goes_on.now bytes.now) before text bytes.now goes_on
    shows empty answer refl) stands written
wrote_cut TooLong server h0 run old new shown answered before text a b goes_on shows empty answer stands written =
    wrote_whole server h0 run old new answered goes_on.now text a b goes_on
    (HasAnswer-line server h0 run old shown answered goes_on.now before text shows.0 goes_on shows.1 empty
    (answer shows.0 shows.2) (after-long server goes_on.now shows.0 shows.2)) stands written
wrote_cut More server h0 run old new shown answered before text a b goes_on shows empty answer stands written =
    wrote_none server h0 run old new answered text a b goes_on (answer.1 ∙ empty) stands written

-- ---- where a part of the text was written

IsHalted-part : (server : List ℕ) (h0 : History) (run : Run) (now : History) (line text : List ℕ) (count : ℕ)
    (leaves : Run → Type 0) → Agrees server h0 run now → IsNext server h0 run line → IsOneLine (reply server now line)
    → text ≡ with_feed (reply server now line) → count ≤ length (reply server now line)
    → leaves (told run (take count text)) → IsHalted halt.WriteFault server h0 (told run (take count text)) leaves
IsHalted-part server h0 run now line text count leaves agrees next one is le left =
    let laws = LineLaws-reply server h0 run now line agrees next in
    record {
      may_end = λ status. rw is (IsLawful-begun server h0 run (reply server now line) count status agrees.whole
          agrees.at_line_end one laws le);
      halts = rw is (HaltsAt-part server h0 run now line count next one le);
      left = left;
    }

part_within : (text reply : List ℕ) (count : ℕ) → text ≡ with_feed reply → count < length text → count ≤ length reply
part_within text reply count is below = omega (arith, below, ap length is, length-append reply (10 ∷ []))

wrote_part : (server : List ℕ) (h0 : History) (run : Run) (old : History → Type 0) (leaves : Run → Type 0)
    (answered : ℕ) (next : History) (text : List ℕ) (a b : Option (List ℕ))
    → (goes_on : GoesOn server h0 run old answered) → HasAnswer server h0 run goes_on.now next text
    → ((count : ℕ) → count < length text → leaves (told run (take count text)))
    → WhereTold a b (λ before now. (count : ℕ) × (count < length text) × (now ≡ before ++ take count text))
    → Writes a b (λ out. IsHalted halt.WriteFault server h0 (told run out) leaves)
wrote_part server h0 run old leaves answered next text a b goes_on has left written before told_before =
    let t = WhereTold-at _ a b before written told_before in
    let le = part_within text (reply server goes_on.now has.line) t.2.0 has.is t.2.1 in (
      take t.2.0 text,
      t.1 ∙ ap Some t.2.2,
      IsHalted-part server h0 run goes_on.now has.line text t.2.0 leaves goes_on.agrees has.waits has.one_line has.is le
          (left t.2.0 t.2.1),
    )

no_part : (text : List ℕ) (count : ℕ) → text ≡ [] → count < length text → ⊥
no_part text count is below = omega (arith, below, ap length is)

part_of_no_text : (server : List ℕ) (h0 : History) (run : Run) (leaves : Run → Type 0) (text : List ℕ)
    (a b : Option (List ℕ)) → text ≡ []
    → WhereTold a b
    (λ old_told new_told. (count : ℕ) × (count < length text) × (new_told ≡ old_told ++ take count text))
    → Writes a b (λ out. IsHalted halt.WriteFault server h0 (told run out) leaves)
part_of_no_text server h0 run leaves text a b is written taken told_taken =
    let t = WhereTold-at _ a b taken written told_taken in
    absurd (no_part text t.2.0 is t.2.1)

-- where a part of the text for a cut was written the run may end
pub wrote_part_of_cut : (cut : Cut) (server : List ℕ) (h0 : History) (run : Run) (old : History → Type 0)
    (leaves : Run → Type 0) (shown : Snapshot) (answered : ℕ) (before text : List ℕ) (a b : Option (List ℕ))
    → (goes_on : GoesOn server h0 run old answered) → ShowsNext cut (input_lines run) answered → before ≡ []
    → AnswersCut server goes_on.now cut shown before text
    → (HasAnswer server h0 run goes_on.now (after_cut server goes_on.now cut) text
    → (count : ℕ) → count < length text → leaves (told run (take count text)))
    → WhereTold a b
    (λ old_told new_told. (count : ℕ) × (count < length text) × (new_told ≡ old_told ++ take count text))
    → Writes a b (λ out. IsHalted halt.WriteFault server h0 (told run out) leaves)
wrote_part_of_cut (Line bytes) server h0 run old leaves shown answered before text a b goes_on shows empty answer
    left written =
    let has = HasAnswer-line server h0 run old shown answered (after server goes_on.now bytes.now) before text bytes.now
    goes_on shows empty answer refl in
    wrote_part server h0 run old leaves answered (after server goes_on.now bytes.now) text a b goes_on has
    (left has) written
wrote_part_of_cut TooLong server h0 run old leaves shown answered before text a b goes_on shows empty answer
    left written =
    let has = HasAnswer-line server h0 run old shown answered goes_on.now before text shows.0 goes_on shows.1 empty
    (answer shows.0 shows.2) (after-long server goes_on.now shows.0 shows.2) in
    wrote_part server h0 run old leaves answered goes_on.now text a b goes_on has (left has) written
wrote_part_of_cut More server h0 run old leaves shown answered before text a b goes_on shows empty answer left written =
    part_of_no_text server h0 run leaves text a b (answer.1 ∙ empty) written

-- ---- what a stop leaves

-- what may come next: what stands, or the history after the next line
abbrev pub IsNextHistory : List ℕ → History → Run → History → History → Type 0
IsNextHistory server h0 run now next =
    (next ≡ now) ⊎ ((line : List ℕ) × IsNext server h0 run line × (next ≡ after server now line))

pub IsNextHistory-cut : (cut : Cut) (server : List ℕ) (h0 : History) (run : Run) (old : History → Type 0) (answered : ℕ)
    → (goes_on : GoesOn server h0 run old answered) → ShowsNext cut (input_lines run) answered
    → IsNextHistory server h0 run goes_on.now (after_cut server goes_on.now cut)
IsNextHistory-cut (Line bytes) server h0 run old answered goes_on shows = inr (bytes.now, rw goes_on.count shows, refl)
IsNextHistory-cut TooLong server h0 run old answered goes_on shows = inl refl
IsNextHistory-cut More server h0 run old answered goes_on shows = inl refl

-- at a line's end
pub leaves_at_end : (server : List ℕ) (h0 : History) (run : Run) (now next : History)
    (left_now left_since : List ℕ → Type 0)
    → Agrees server h0 run now → IsNextHistory server h0 run now next → GoesOnFrom now next
    → ((image : List ℕ) → left_now image → StandsForEitherHistory server now next image)
    → ((image : List ℕ) → left_since image → StandsBetween server h0 next image)
    → LeavesFronts server h0 run left_now left_since
leaves_at_end server h0 run now next left_now left_since agrees ahead to at_now at_since =
    let whole : acknowledged server h0 run ≡ now = acknowledged-whole server h0 run now agrees in
    record {
      ahead = next;
      is_ahead = is_ahead whole ahead;
      now_fronts = λ image left.
          rw whole (between_either server image now now next (front_same now) to (at_now image left));
      since_fronts = at_since;
    }
  where
    is_ahead : acknowledged server h0 run ≡ now → IsNextHistory server h0 run now next
        → (next ≡ acknowledged server h0 run) ⊎ IsAfterNextLine server h0 run next
    is_ahead whole (inl same) = inl (same ∙ sym whole)
    is_ahead whole (inr after_line) = inr (record {
      line = after_line.0;
      next = after_line.1;
      at_line_end = agrees.at_line_end;
      is = after_line.2 ∙ ap (λ (h : History). after server h after_line.0) (sym whole);
    })

-- where a part of an answer was written
pub leaves_part : (server : List ℕ) (h0 : History) (run : Run) (now next : History) (text : List ℕ) (count : ℕ)
    (left_now left_since : List ℕ → Type 0) → Agrees server h0 run now → HasAnswer server h0 run now next text
    → count < length text → GoesOnFrom now next
    → ((image : List ℕ) → left_now image → StandsFor server image next)
    → ((image : List ℕ) → left_since image → StandsBetween server h0 next image)
    → LeavesFronts server h0 (told run (take count text)) left_now left_since
leaves_part server h0 run now next text zero left_now left_since agrees has below to at_now at_since =
    rw append-nil
    (leaves_at_end server h0 run now next left_now left_since agrees (inr (has.line, has.waits, sym has.goes_to)) to
    (λ image left. inr (at_now image left)) at_since)
leaves_part server h0 run now next text (suc count) left_now left_since agrees has below to at_now at_since =
    let le = part_within text (reply server now has.line) (suc count) has.is below in
    let begun : acknowledged server h0 (told run (take (suc count) text)) ≡ next =
    ap (λ (t : List ℕ). acknowledged server h0 (told run (take (suc count) t))) has.is
    ∙ acknowledged-begun server h0 run now has.line (suc count) agrees has.waits has.one_line (omega arith) le
    ∙ has.goes_to in
    record {
      ahead = next;
      is_ahead = inl (sym begun);
      now_fronts = λ image left.
          rw begun (between_one server image next next next (at_now image left) (front_same next) (front_same next));
      since_fronts = at_since;
    }
