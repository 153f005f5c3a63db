-- What stands behind the header is still to be read.
use Rattle.std.proofs.Common.{Err, [], ◌∷◌, ◌++◌, inl, refl, sym, ◌∙◌, ap, length}
use Rattle.std.proofs.lemmas.List.{append-nil, drop_at}
use Rattle.mx_journal.specs.Image.{header, closed_gate, StandsForPayloads}
use Rattle.mx_journal.proofs.Bytes.{length-header}
use Rattle.mx_journal.proofs.Images.{fault_stands_for_none, stands_for_one}
use Rattle.mx_journal.proofs.Moments.{LeavesOnly-weaker}
use Rattle.mx_journal.proofs.Opens.{StandsForPayloads-opening}
use Rattle.mx_journal.proofs.journal.Journal.open.Goals as goal

pub returns-in-Ok-clause-short : goal.returns-in-Ok-clause-short
returns-in-Ok-clause-short g c = λ content told short. record {
  told = c.in-Ok.ensures.short content told short;
  whole = λ _. refl;
  front = ap (λ h. h ++ closed_gate ∷ []) (sym (append-nil header))
      ∙ ap (λ back. (header ++ []) ++ back) (sym (drop_at header (closed_gate ∷ []) 16 length-header));
  place = ap length (append-nil header) ∙ length-header;
  fit = tt;
}

pub returns-in-Ok-clause-any_moment : goal.returns-in-Ok-clause-any_moment
returns-in-Ok-clause-any_moment g c = λ content payloads told only stands.
    LeavesOnly-weaker (λ image. StandsForPayloads image payloads) (c.in-Ok.ensures.any_moment content told only)
    (λ image left. StandsForPayloads-opening content image payloads stands left)

pub returns-in-Err-clause-any_moment : goal.returns-in-Err-clause-any_moment
returns-in-Err-clause-any_moment g c = λ content payloads told only stands.
    LeavesOnly-weaker (λ image. StandsForPayloads image payloads) (c.in-Err.ensures.any_moment content told only)
    (λ image left. StandsForPayloads-opening content image payloads stands left)

pub returns-in-Err-clause-not_a_journal : goal.returns-in-Err-clause-not_a_journal
returns-in-Err-clause-not_a_journal g c = λ content offset told is.
    c.in-Err.ensures.not_a_journal content offset told (ap Err is)

pub returns-in-Err-clause-stands_for_none : goal.returns-in-Err-clause-stands_for_none
returns-in-Err-clause-stands_for_none g c = λ content offset told is payloads stands.
    let fault = c.in-Err.ensures.not_a_journal content offset told (ap Err is) in
    fault_stands_for_none content offset payloads (fault.0, inl fault.1) stands

pub returns-in-Ok-clause-one_list : goal.returns-in-Ok-clause-one_list
returns-in-Ok-clause-one_list g c = stands_for_one

pub returns-in-Err-clause-one_list : goal.returns-in-Err-clause-one_list
returns-in-Err-clause-one_list g c = stands_for_one
