-- What a short disk holds and gets, and what opening leaves.
use Rattle.std.proofs.Common.{◌≡◌, ◌↔◌, inl, inr, ℕ, ◌+◌, ◌≤◌, List, [], ◌∷◌, ◌++◌, length, take, drop, get_or, sym}
use Rattle.std.proofs.Common.{◌∙◌, ap, subst, arith}
use Rattle.std.proofs.lemmas.List.{append-nil, length-append, take-append-drop, drop_all, drop_more, get_or_at}
use Rattle.mx_outside.specs.Disk.{put_at}
use Rattle.mx_journal.specs.Image.{header, closed_gate, StandsForPayloads, empty_journal}
use Rattle.mx_journal.specs.Opening.{IsLeftByOpening}
use Rattle.mx_journal.proofs.Bytes.{length-header}
use Rattle.mx_journal.proofs.Images.{stands_for_short}

pub length-empty_journal : length empty_journal ≡ 17
length-empty_journal = length-append header (closed_gate ∷ []) ∙ ap (λ n. n + 1) length-header

-- A piece over a shorter disk is all of it.
pub put_at-all : (old piece : List ℕ) → length old ≤ length piece → put_at 0 piece old ≡ piece
put_at-all old piece short = ap (λ rest. piece ++ rest) (drop_all (0 + length piece) old (omega arith))
    ∙ append-nil piece

pub IsEmpty-read : (content : List ℕ) (gate : ℕ) → length content ≡ 17 → take 16 content ≡ header
    → gate ≡ get_or content 16 0 → (gate ≡ closed_gate) ↔ (content ≡ empty_journal)
IsEmpty-read content gate long front is =
    let whole : content ≡ header ++ gate ∷ [] = sym (take-append-drop 16 content)
    ∙ ap (λ f. f ++ drop 16 content) front ∙ ap (λ back. header ++ back)
    (drop_more content 16 0 (omega arith) ∙ ap (λ g. g ∷ drop 17 content) (sym is)
    ∙ ap (λ rest. gate ∷ rest) (drop_all 17 content (omega arith))) in (
      λ closed. whole ∙ ap (λ g. header ++ g ∷ []) closed,
      λ empty. is ∙ ap (λ c. get_or c 16 0) empty
          ∙ get_or_at header closed_gate [] 0 16 length-header,
    )

-- What opening leaves stands for what was there.
pub StandsForPayloads-opening : (content image : List ℕ) (payloads : List (List ℕ))
    → StandsForPayloads content payloads → IsLeftByOpening content image → StandsForPayloads image payloads
StandsForPayloads-opening content image payloads stands (inl same) =
    subst (λ (i : List ℕ). StandsForPayloads i payloads) (sym same) stands
StandsForPayloads-opening content image payloads stands (inr short) = inl
    (short.1, stands_for_short content payloads short.0 stands)
