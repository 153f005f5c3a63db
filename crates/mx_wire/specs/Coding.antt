-- What is read of the bytes to come, by where in a body one stands: ours.
use Rattle.std.specs.Prelude.{◌≡◌, ℕ, suc, Bool, true, false, List, [], ◌∷◌}
use Rattle.mx_wire.specs.Reading.{Reading, ◌>>=◌, with_front}
use Rattle.mx_wire.specs.Reading.Reading.{Got, Refused}
use Rattle.mx_wire.specs.Bodies.{feed, crlf, extension, digits, counted, trailer, after_size, chunked}
use Rattle.mx_wire.specs.declared.coding.Coding.{Coding}
use Rattle.mx_wire.specs.declared.coding.Coding.TheVariants as coding

-- What stands behind this size line, and all that follows it.
abbrev pub sized : Reading ℕ → Reading (List ℕ)
sized r = r >>= (λ size. after_size chunked size.0 size.1)

-- Where one stands so in a body, this is read of the bytes to come.
abbrev pub rest_of : Coding → List ℕ → Reading (List ℕ)
rest_of (coding.Counted more) u = counted (suc more) u
rest_of (coding.Digits size) u = sized (digits size.digits size.value u)
rest_of (coding.Extension value) u = sized (extension value u)
rest_of (coding.SizeFeed value) u = sized (feed value u)
rest_of (coding.Chunk more) u =
    counted (suc more) u >>= (λ piece. crlf piece.1 >>= (λ end. with_front piece.0 (chunked end.1)))
rest_of coding.ChunkCr u = crlf u >>= (λ end. chunked end.1)
rest_of coding.ChunkFeed u = let none : List ℕ = [] in feed none u >>= (λ end. chunked end.1)
rest_of (coding.Trailer place) u = trailer place u
rest_of coding.LastFeed u = let none : List ℕ = [] in feed none u
rest_of coding.Complete u = Got [] u
rest_of coding.Broken u = Refused

-- The byte is taken, and isn't one of the body.
abbrev pub Eats : Coding → ℕ → Coding → Type 0
Eats old b new = (u : List ℕ) → rest_of old (b ∷ u) ≡ rest_of new u

-- The byte is taken, and is the next one of the body.
abbrev pub Keeps : Coding → ℕ → Coding → Type 0
Keeps old b new = (u : List ℕ) → rest_of old (b ∷ u) ≡ with_front (b ∷ []) (rest_of new u)

-- The next byte is one of the body.
abbrev pub is_within : Coding → Bool
is_within (coding.Counted more) = true
is_within (coding.Digits size) = false
is_within (coding.Extension value) = false
is_within (coding.SizeFeed value) = false
is_within (coding.Chunk more) = true
is_within coding.ChunkCr = false
is_within coding.ChunkFeed = false
is_within (coding.Trailer place) = false
is_within coding.LastFeed = false
is_within coding.Complete = false
is_within coding.Broken = false

-- The byte is taken, and is one of the body where it has to be.
abbrev pub TakesByte : Bool → Coding → ℕ → Coding → Type 0
TakesByte true old b new = Keeps old b new
TakesByte false old b new = Eats old b new

-- Nothing is read any more: all came, or no further bytes make a body.
abbrev pub is_over : Coding → Bool
is_over (coding.Counted more) = false
is_over (coding.Digits size) = false
is_over (coding.Extension value) = false
is_over (coding.SizeFeed value) = false
is_over (coding.Chunk more) = false
is_over coding.ChunkCr = false
is_over coding.ChunkFeed = false
is_over (coding.Trailer place) = false
is_over coding.LastFeed = false
is_over coding.Complete = true
is_over coding.Broken = true
