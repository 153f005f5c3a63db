-- The moments that a clock of a list gave, one after another.
use Rattle.std.proofs.Common.{◌≡◌, ℕ, zero, suc, List, [], ◌∷◌, ◌++◌, length, refl, ap, sym, ◌∙◌, arith}
use Rattle.std.proofs.lemmas.List.{length-append}
use Rattle.mx_outside.specs.Told.{raised}
use Rattle.mx_outside.specs.Clock.{GivesMoment}
use Rattle.mx_outside.specs.ListClock.{moment_after, moments_given}

-- So many were given.
pub length-moments_given : (moments : List ℕ) (given : ℕ) → length (moments_given moments given) ≡ given
length-moments_given moments zero = refl
length-moments_given moments (suc given) =
    let before : length (moments_given moments given) ≡ given = length-moments_given moments given in
    simp length-append (omega arith)

-- One more is given, as long as their number fits a count.
pub gives_moment : (moments : List ℕ) (given : ℕ) (moment count : ℕ) → moment ≡ moment_after moments given
    → count ≡ raised given → GivesMoment moment (moments_given moments given) (moments_given moments count)
gives_moment moments given moment count is rises few =
    let before : length (moments_given moments given) ≡ given = length-moments_given moments given in
    let next : count ≡ suc given = omega arith in
    ap (λ n. moments_given moments n) next ∙ ap (λ m. moments_given moments given ++ m ∷ []) (sym is)
