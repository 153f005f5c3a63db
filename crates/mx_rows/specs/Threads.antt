-- How threads are told apart: the Client-Server API v1.11, 'Threading'.
use Rattle.std.specs.Prelude.{◌≡◌, Bool, true, false, IsTrue, List, refl}
use Rattle.std.specs.Cmp.{IsEquivalence}
use Rattle.std.specs.Cmp.Lexicographic.{nat_list_eq_equiv}
use Rattle.std.proofs.lemmas.Bool.{false≢true}
use Rattle.std.specs.List.{list_any}
use Rattle.std.specs.Hash.{HashWrites}
use Rattle.std.specs.Hash as fed
use Rattle.std.proofs.Common.{ap}
use Rattle.std.proofs.lemmas.Slice.Eq.{bytes_eq-Decides}
use Rattle.std.specs.Str.{bytes_eq}
use Rattle.mx_rows.specs.declared.thread_key.ThreadKey.{ThreadKey}
use Rattle.mx_rows.specs.declared.thread_key.ThreadKey.TheVariants.{Main, Root}

-- Two keys name the same thread where both name the main one, or both the thread of one root.
abbrev pub same_thread : ThreadKey → ThreadKey → Bool
same_thread Main Main = true
same_thread Main (Root id) = false
same_thread (Root id) Main = false
same_thread (Root a) (Root b) = bytes_eq a b

-- the thread is one of these
abbrev pub has_thread : ThreadKey → List ThreadKey → Bool
has_thread thread threads = list_any (same_thread thread) threads

-- ---- `same_thread` is an equivalence, as maps by threads ask

same_thread-itself : (t : ThreadKey) → same_thread t t ≡ true
same_thread-itself Main = refl
same_thread-itself (Root id) = nat_list_eq_equiv.refl id

same_thread-symm : (s t : ThreadKey) → same_thread s t ≡ same_thread t s
same_thread-symm Main Main = refl
same_thread-symm Main (Root id) = refl
same_thread-symm (Root id) Main = refl
same_thread-symm (Root a) (Root b) = nat_list_eq_equiv.symm a b

same_thread-congr : (s t u : ThreadKey) → same_thread s t ≡ true → same_thread s u ≡ same_thread t u
same_thread-congr Main Main u same = refl
same_thread-congr Main (Root id) u same = absurd (false≢true same)
same_thread-congr (Root id) Main u same = absurd (false≢true same)
same_thread-congr (Root a) (Root b) Main same = refl
same_thread-congr (Root a) (Root b) (Root c) same = nat_list_eq_equiv.congr a b c same

-- `same_thread` is an equivalence, as maps by threads ask.
pub same_thread-equiv : IsEquivalence same_thread
same_thread-equiv = record {
  refl = same_thread-itself;
  symm = same_thread-symm;
  congr = same_thread-congr;
}

-- ---- what is hashed of a key

-- What is hashed of a key.
abbrev pub hash_input : ThreadKey → HashWrites
hash_input Main = fed.u8 0
hash_input (Root id) = fed.str id

-- Of two keys of one thread the same is hashed.
pub hash_input-same : (s t : ThreadKey) → IsTrue (same_thread s t) → hash_input s ≡ hash_input t
hash_input-same Main Main same = refl
hash_input-same Main (Root id) same = absurd (false≢true same)
hash_input-same (Root id) Main same = absurd (false≢true same)
hash_input-same (Root a) (Root b) same = ap fed.str ((bytes_eq-Decides a b).0 same)
