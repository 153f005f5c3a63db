-- Lemmas on what a cutter holds once a cut is let go.
use Rattle.std.proofs.Common.{◌≡◌, ℕ, Bool, true, false, List, Option, refl, add-zero}
use Rattle.mx_lines.specs.Lines.{lines_of}
use Rattle.mx_lines.specs.Cutting.{Held, nothing_held, HasGiven, CutsNext, IsNextLine}
use Rattle.mx_lines.specs.Buffers.{Shows}
use Rattle.mx_lines.specs.Resting.{GivesNext}
use Rattle.mx_lines.specs.declared.cut.Cut.{Cut}
use Rattle.mx_lines.specs.declared.cut.Cut.TheVariants.{More}
use Rattle.mx_lines.proofs.CuttingLemmas.{held, HasGiven-shown, HasGiven-all, CutsNext-shown, IsNextLine-shown}

-- what a call of next promises
pub record Next (cut : Cut) (old new : Held) : Type 0 where
  pub gives : GivesNext cut old new
  pub cuts : CutsNext cut old
  pub lines : (bytes : List ℕ) (count : ℕ) → HasGiven old (lines_of bytes) count
      → IsNextLine cut (lines_of bytes).whole count

-- where no line ended
pub Next-more : (kept : Option (List ℕ)) (ended : Bool) → ended ≡ false → Next More (held kept ended) (held kept ended)
Next-more kept ended going =
    rw going (record {
      gives = record { held = refl; lines = λ lines count had. rw add-zero had };
      cuts = refl;
      lines = λ bytes count had. HasGiven-all kept (lines_of bytes) count had;
    })

-- where the line that is held ended
pub Next-shown : (cut : Cut) (kept : Option (List ℕ)) (ended : Bool) → ended ≡ true → Shows cut kept
    → Next cut (held kept ended) nothing_held
Next-shown cut kept ended has_ended shows =
    rw has_ended (record {
      gives = record { held = refl; lines = λ lines count had. HasGiven-shown cut kept lines count shows had };
      cuts = CutsNext-shown cut kept shows;
      lines = λ bytes count had. IsNextLine-shown cut kept (lines_of bytes) count shows had;
    })
