-- Reading one thing from the front of bytes: ours.
use Rattle.std.specs.Prelude.{ℕ, List, ◌++◌}

-- What reading gives: the thing and the bytes after it, or that no further bytes make one, or that
-- further bytes are lacking.
pub data Reading (A : Type 0) : Type 0 where
  Got : A → List ℕ → Reading A
  Refused : Reading A
  Lacking : Reading A

-- Reads one thing, and then goes on with it and the bytes after it.
infixl 10 ◌>>=◌
abbrev pub ◌>>=◌ : {A B : Type 0} → Reading A → (A × List ℕ → Reading B) → Reading B
(Got a rest) >>= f = f (a, rest)
Refused >>= f = Refused
Lacking >>= f = Lacking

-- With these bytes before those that were read.
abbrev pub with_front : List ℕ → Reading (List ℕ) → Reading (List ℕ)
with_front front (Got bytes rest) = Got (front ++ bytes) rest
with_front front Refused = Refused
with_front front Lacking = Lacking
