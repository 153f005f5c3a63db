-- How a call that may want for memory gives an exact result: ours.
use Rattle.std.specs.Prelude.{◌≡◌, ◌⊎◌, Result, Ok, Err, MatchResult}

-- The result is the expected one, or the error that says that there was no memory.
abbrev pub Gives : {A E : Type 0} → E → Result A E → Result A E → Type 0
Gives out_of_memory result expected =
    MatchResult result (λ value. expected ≡ Ok value) (λ error. (expected ≡ Err error) ⊎ (error ≡ out_of_memory))
