-- The front that was read is compared with the header.
use Rattle.std.proofs.Common.{◌≡◌, ℕ, List, take, length, sym, ◌∙◌, ap}
use Rattle.std.proofs.lemmas.Bool.Decides.{Decides-eqb}
use Rattle.std.proofs.lemmas.Slice.Eq.{slice_eq-Decides}
use Rattle.mx_journal.specs.Image.{number_bytes, header}
use Rattle.mx_journal.proofs.Steps.{told_before}
use Rattle.mx_journal.proofs.open.has_header.Goals as goal

pub returns-clause-value : goal.returns-clause-value
unfolding header number_bytes
returns-clause-value g c = λ content told.
    let read = told_before (λ (content : List ℕ). c.read.new.into ≡ take (length c.read.new.into) content) _ _ content
    c.in_ok-read.ensures.bytes told in
    let front : c.read.new.into ≡ take 16 content = read ∙ ap (λ n. take n content) c.read.auto.into in
    let tests = slice_eq-Decides Decides-eqb c.read.new.into header c.eq.result c.eq.ensures in
    (λ yes. sym front ∙ tests.0 yes, λ is. tests.1 (front ∙ is))
