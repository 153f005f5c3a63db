-- Lemmas on lawful runs that go on.
use Rattle.std.proofs.Common.{◌≡◌, ℕ, ◌≤◌, true, false, List, [], ◌∷◌, ◌++◌, Some, length, take, drop, refl, sym, ap}
use Rattle.std.proofs.Common.{◌∙◌, inl, inr, arith}
use Rattle.std.specs.List.{slice_get}
use Rattle.std.proofs.lemmas.Option.{slice_get_within}
use Rattle.std.proofs.lemmas.List.{append-nil, take-append-drop, take-append-le}
use Rattle.mx_records.specs.History.{History}
use Rattle.mx_lines.specs.Admission.{reply}
use Rattle.mx_lines.specs.Lines.{IsOneLine, with_feed}
use Rattle.mx_lines.specs.Runs.{Run, Point, is_answer, point_at, input_lines, output_lines, begun, told, halted}
use Rattle.mx_lines.specs.Laws.{IsTurn, LineLaws, WholeLaws, IsLawful}
use Rattle.mx_lines.proofs.ListLemmas.{slice_get-more, slice_get-push_cases}
use Rattle.mx_lines.proofs.LinesLemmas.{IsOneLine-take}
use Rattle.mx_lines.proofs.RunsLemmas.{HaveLines, Grows, Grows-told, Grows-part, point_at-grows, output_lines-told}
use Rattle.mx_lines.proofs.RunsLemmas.{output_lines-part, begun-part}

-- each answer of a run that keeps the laws has its line
pub HaveLines-laws : (server : List ℕ) (h0 : History) (run : Run) → WholeLaws server h0 run
    → HaveLines server h0 (input_lines run) (output_lines run)
HaveLines-laws server h0 run laws k out at answer =
    let law = (laws k out at).reply_law answer in
    (law.0, law.1)

-- the reply law at a point
abbrev RepliesAt : List ℕ → List (List ℕ) → Point → List ℕ → Type 0
RepliesAt server inputs p out =
    is_answer out ≡ true → (line : List ℕ) × (slice_get inputs p.answered ≡ Some line)
    × ((IsTurn server p.history line → ⊥) → out ≡ reply server p.history line)

-- the notice law at a point
abbrev StandsAt : List ℕ → List (List ℕ) → Point → List ℕ → Type 0
StandsAt server inputs p out =
    is_answer out ≡ false → (line : List ℕ) × (slice_get inputs p.answered ≡ Some line) × IsTurn server p.history line

RepliesAt-more : (server : List ℕ) (inputs more later : List (List ℕ)) (p q : Point) (out : List ℕ)
    → later ≡ inputs ++ more → q ≡ p → RepliesAt server inputs p out → RepliesAt server later q out
RepliesAt-more server inputs more later p q out is same law =
    rw (is, same) (λ answer.
    let had = law answer in
    (had.0, slice_get-more inputs more p.answered had.0 had.1, had.2))

StandsAt-more : (server : List ℕ) (inputs more later : List (List ℕ)) (p q : Point) (out : List ℕ)
    → later ≡ inputs ++ more → q ≡ p → StandsAt server inputs p out → StandsAt server later q out
StandsAt-more server inputs more later p q out is same law =
    rw (is, same) (λ notice.
    let had = law notice in
    (had.0, slice_get-more inputs more p.answered had.0 had.1, had.2))

-- the laws of an earlier line stay kept
pub LineLaws-grows : (server : List ℕ) (h0 : History) (run new : Run) → Grows run new → WholeLaws server h0 run
    → (k : ℕ) (out : List ℕ) → k ≤ length (output_lines run)
    → LineLaws server h0 run k out → LineLaws server h0 new k out
LineLaws-grows server h0 run new grows laws k out le law =
    let same = point_at-grows server h0 run new grows (HaveLines-laws server h0 run laws) k le in
    record {
      reply_law = RepliesAt-more server (input_lines run) grows.more_in (input_lines new) (point_at server h0 run k)
          (point_at server h0 new k) out grows.inputs same law.reply_law;
      notice_law = StandsAt-more server (input_lines run) grows.more_in (input_lines new) (point_at server h0 run k)
          (point_at server h0 new k) out grows.inputs same law.notice_law;
    }

within : {A : Type 0} (xs : List A) (k : ℕ) (x : A) → slice_get xs k ≡ Some x → k ≤ length xs
within xs k x at = let l = slice_get_within xs k x at in omega arith

-- one more line that keeps the laws
pub WholeLaws-told : (server : List ℕ) (h0 : History) (run : Run) (out : List ℕ) → WholeLaws server h0 run
    → begun run ≡ [] → IsOneLine out → LineLaws server h0 run (length (output_lines run)) out
    → WholeLaws server h0 (told run (with_feed out))
WholeLaws-told server h0 run out laws at_end one law k line at =
    let grows = Grows-told run out at_end one in
    let pushed : slice_get (output_lines run ++ out ∷ []) k ≡ Some line =
    rw (output_lines-told run out at_end one) at at in
    let cases = slice_get-push_cases (output_lines run) out k line pushed in
    elim cases [
      | inl l ↦
          LineLaws-grows server h0 run (told run (with_feed out)) grows laws k line (omega arith) (laws k line l.1)
      | inr r ↦ rw (r.0, r.1) (LineLaws-grows server h0 run (told run (with_feed out)) grows laws
          (length (output_lines run)) out (omega arith) law)
    ]

-- more input and no further whole line leave the laws kept
pub WholeLaws-more : (server : List ℕ) (h0 : History) (run new : Run) (more : List (List ℕ))
    → input_lines new ≡ input_lines run ++ more → output_lines new ≡ output_lines run
    → WholeLaws server h0 run → WholeLaws server h0 new
WholeLaws-more server h0 run new more inputs outputs laws k line at =
    let grows : Grows run new = record {
      more_in = more;
      more_out = [];
      inputs = inputs;
      outputs = outputs ∙ sym (append-nil (output_lines run));
    } in
    let old : slice_get (output_lines run) k ≡ Some line = rw outputs at at in
    LineLaws-grows server h0 run new grows laws k line (within (output_lines run) k line old) (laws k line old)

-- a line that is only begun leaves the laws of the whole lines kept
pub WholeLaws-part : (server : List ℕ) (h0 : History) (run : Run) (part : List ℕ) → WholeLaws server h0 run
    → IsOneLine part → WholeLaws server h0 (told run part)
WholeLaws-part server h0 run part laws one =
    WholeLaws-more server h0 run (told run part) [] (sym (append-nil (input_lines run)))
    (output_lines-part run part one) laws

-- how the run ends leaves the laws kept
pub WholeLaws-halted : (server : List ℕ) (h0 : History) (run : Run) (status : ℕ) → WholeLaws server h0 run
    → WholeLaws server h0 (halted run status)
WholeLaws-halted server h0 run status laws =
    WholeLaws-more server h0 run (halted run status) [] (sym (append-nil (input_lines run))) refl laws

pub Grows-halted : (run : Run) (status : ℕ) → Grows run (halted run status)
Grows-halted run status = record {
  more_in = [];
  more_out = [];
  inputs = sym (append-nil (input_lines run));
  outputs = sym (append-nil (output_lines run));
}

-- a run whose output ends with a line feed is lawful however it ends
pub IsLawful-whole : (server : List ℕ) (h0 : History) (run : Run) (status : ℕ) → WholeLaws server h0 run
    → begun run ≡ []
    → IsLawful server h0 (halted run status)
IsLawful-whole server h0 run status laws at_end =
    record { whole = WholeLaws-halted server h0 run status laws; part = inl at_end }

-- a line feed is not reached
take_before_feed : (out : List ℕ) (k : ℕ) → k ≤ length out → take k (with_feed out) ≡ take k out
take_before_feed out k le = take-append-le k out (10 ∷ []) le

-- the laws of the line that is begun, as the run ends within it
LineLaws-begun : (server : List ℕ) (h0 : History) (run : Run) (out part rest : List ℕ) (status : ℕ)
    → WholeLaws server h0 run
    → begun run ≡ [] → IsOneLine part → part ++ rest ≡ out → LineLaws server h0 run (length (output_lines run)) out
    → LineLaws server h0 (halted (told run part) status) (length (output_lines (told run part)))
    (begun (told run part) ++ rest)
LineLaws-begun server h0 run out part rest status laws at_end one is law =
    let wrote : begun (told run part) ++ rest ≡ out =
    ap (λ (b : List ℕ). b ++ rest) (begun-part run part at_end one) ∙ is in
    let begin = LineLaws-grows server h0 run (told run part) (Grows-part run part one) laws
    (length (output_lines run)) out (omega arith) law in
    let part_laws = WholeLaws-part server h0 run part laws one in
    let count : length (output_lines run) ≡ length (output_lines (told run part)) =
    ap length (sym (output_lines-part run part one)) in
    let le : length (output_lines run) ≤ length (output_lines (told run part)) = omega arith in
    rw (wrote, ← count)
    (LineLaws-grows server h0 (told run part) (halted (told run part) status)
    (Grows-halted (told run part) status) part_laws (length (output_lines run)) out le begin)

-- a run that ends within a line that would keep the laws is lawful
pub IsLawful-begun : (server : List ℕ) (h0 : History) (run : Run) (out : List ℕ) (k status : ℕ)
    → WholeLaws server h0 run
    → begun run ≡ [] → IsOneLine out → LineLaws server h0 run (length (output_lines run)) out → k ≤ length out
    → IsLawful server h0 (halted (told run (take k (with_feed out))) status)
IsLawful-begun server h0 run out k status laws at_end one law le =
    let part_one = IsOneLine-take k out one in
    rw (take_before_feed out k le) (record {
      whole = WholeLaws-halted server h0 (told run (take k out)) status
          (WholeLaws-part server h0 run (take k out) laws part_one);
      part = inr (
        drop k out,
        LineLaws-begun server h0 run out (take k out) (drop k out) status laws at_end part_one
            (take-append-drop k out) law,
      );
    })
