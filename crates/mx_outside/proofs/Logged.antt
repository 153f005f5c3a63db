-- What logged calls changed, with one more.
use Rattle.std.proofs.Common.{◌≡◌, ℕ, ◌+◌, ◌≤◌, List, [], ◌∷◌, ◌++◌, length, take, drop, ◌<◌, refl, ap, sym, subst}
use Rattle.std.proofs.Common.{◌∙◌, arith}
use Rattle.std.proofs.lemmas.List.{length-take, length-drop, take-append-le, drop-append-le, take_all}
use Rattle.mx_outside.specs.Budget.{Covers}
use Rattle.mx_outside.specs.Changes.{Change}
use Rattle.mx_outside.specs.Changes.Change.{written, cut_to, synced}
use Rattle.mx_outside.specs.DiskLog.{Log, log_budget, changes_after, logged_bytes, written_bytes}
use Rattle.mx_outside.specs.declared.memory.disk_log.Logged.{Logged}
use Rattle.mx_outside.specs.declared.memory.disk_log.Logged.TheVariants as logged

-- One more write.
pub changes_after-written : (earlier : List Change) (calls : List Logged) (bytes : List ℕ) (at count : ℕ)
    (piece : List ℕ) → length bytes ≡ logged_bytes calls → length piece ≡ count
    → changes_after earlier (calls ++ logged.Written at count ∷ []) (bytes ++ piece)
    ≡ written at piece ∷ changes_after earlier calls bytes
changes_after-written earlier [] [] at count piece all is =
    ap (λ (p : List ℕ). written at p ∷ earlier) (take_all count piece (omega arith))
changes_after-written earlier [] (byte ∷ bytes) at count piece all is = absurd (omega arith)
changes_after-written earlier (logged.Written to more ∷ calls) bytes at count piece all is =
    let fits : more ≤ length bytes = omega arith in
    let rest : length (drop more bytes) ≡ logged_bytes calls = simp length-drop (omega arith) in
    let first : take more (bytes ++ piece) ≡ take more bytes = take-append-le more bytes piece fits in
    let next : drop more (bytes ++ piece) ≡ drop more bytes ++ piece = drop-append-le more bytes piece fits in
    ap (λ (p : List ℕ). changes_after (written to p ∷ earlier) (calls ++ logged.Written at count ∷ [])
    (drop more (bytes ++ piece))) first
    ∙ ap (λ (b : List ℕ). changes_after (written to (take more bytes) ∷ earlier)
    (calls ++ logged.Written at count ∷ []) b) next
    ∙ changes_after-written (written to (take more bytes) ∷ earlier) calls (drop more bytes) at count piece rest is
changes_after-written earlier (logged.Cut n ∷ calls) bytes at count piece all is =
    changes_after-written (cut_to n ∷ earlier) calls bytes at count piece all is
changes_after-written earlier (logged.Synced ∷ calls) bytes at count piece all is =
    changes_after-written (synced ∷ earlier) calls bytes at count piece all is

-- One more cut.
pub changes_after-cut : (earlier : List Change) (calls : List Logged) (bytes : List ℕ) (n : ℕ)
    → changes_after earlier (calls ++ logged.Cut n ∷ []) bytes ≡ cut_to n ∷ changes_after earlier calls bytes
changes_after-cut earlier [] bytes n = refl
changes_after-cut earlier (logged.Written to more ∷ calls) bytes n =
    changes_after-cut (written to (take more bytes) ∷ earlier) calls (drop more bytes) n
changes_after-cut earlier (logged.Cut m ∷ calls) bytes n =
    changes_after-cut (cut_to m ∷ earlier) calls bytes n
changes_after-cut earlier (logged.Synced ∷ calls) bytes n =
    changes_after-cut (synced ∷ earlier) calls bytes n

-- One more sync.
pub changes_after-synced : (earlier : List Change) (calls : List Logged) (bytes : List ℕ)
    → changes_after earlier (calls ++ logged.Synced ∷ []) bytes ≡ synced ∷ changes_after earlier calls bytes
changes_after-synced earlier [] bytes = refl
changes_after-synced earlier (logged.Written to more ∷ calls) bytes =
    changes_after-synced (written to (take more bytes) ∷ earlier) calls (drop more bytes)
changes_after-synced earlier (logged.Cut m ∷ calls) bytes =
    changes_after-synced (cut_to m ∷ earlier) calls bytes
changes_after-synced earlier (logged.Synced ∷ calls) bytes =
    changes_after-synced (synced ∷ earlier) calls bytes

-- A call is a change.
pub length-changes_after : (earlier : List Change) (calls : List Logged) (bytes : List ℕ)
    → length (changes_after earlier calls bytes) ≡ length calls + length earlier
length-changes_after earlier [] bytes = omega arith
length-changes_after earlier (logged.Written to more ∷ calls) bytes =
    let rest = length-changes_after (written to (take more bytes) ∷ earlier) calls (drop more bytes) in omega arith
length-changes_after earlier (logged.Cut m ∷ calls) bytes =
    let rest = length-changes_after (cut_to m ∷ earlier) calls bytes in omega arith
length-changes_after earlier (logged.Synced ∷ calls) bytes =
    let rest = length-changes_after (synced ∷ earlier) calls bytes in omega arith

-- The bytes that are logged are those that were written.
pub written_bytes-changes_after : (earlier : List Change) (calls : List Logged) (bytes : List ℕ)
    → length bytes ≡ logged_bytes calls
    → written_bytes (changes_after earlier calls bytes) ≡ logged_bytes calls + written_bytes earlier
written_bytes-changes_after earlier [] bytes all = omega arith
written_bytes-changes_after earlier (logged.Written to more ∷ calls) bytes all =
    let some : length (take more bytes) ≡ more = simp length-take (omega arith) in
    let left : length (drop more bytes) ≡ logged_bytes calls = simp length-drop (omega arith) in
    let rest = written_bytes-changes_after (written to (take more bytes) ∷ earlier) calls (drop more bytes) left in
    omega arith
written_bytes-changes_after earlier (logged.Cut m ∷ calls) bytes all =
    written_bytes-changes_after (cut_to m ∷ earlier) calls bytes all
written_bytes-changes_after earlier (logged.Synced ∷ calls) bytes all =
    written_bytes-changes_after (synced ∷ earlier) calls bytes all

-- One more call counts for the bytes that it wrote.
pub logged_bytes-append : (calls more : List Logged)
    → logged_bytes (calls ++ more) ≡ logged_bytes calls + logged_bytes more
logged_bytes-append [] more = omega arith
logged_bytes-append (logged.Written to count ∷ calls) more =
    let rest = logged_bytes-append calls more in omega arith
logged_bytes-append (logged.Cut m ∷ calls) more = logged_bytes-append calls more
logged_bytes-append (logged.Synced ∷ calls) more = logged_bytes-append calls more

-- What a log has memory for, told of what it holds.
pub record Fits (calls : List Logged) (bytes : List ℕ) (byte_capacity call_capacity count : ℕ) : Type 0 where
  pub bytes_fit : length bytes + count ≤ byte_capacity
  pub calls_fit : length calls < call_capacity

pub covered_fits : (calls : List Logged) (bytes : List ℕ) (byte_capacity call_capacity count : ℕ) (log : Log)
    → record { changes = changes_after [] calls bytes; byte_capacity = byte_capacity; call_capacity = call_capacity }
    ≡ log
    → length bytes ≡ logged_bytes calls → length bytes ≤ byte_capacity → Covers (log_budget log) count
    → Fits calls bytes byte_capacity call_capacity count
covered_fits calls bytes byte_capacity call_capacity count log is all held covers =
    let some = written_bytes-changes_after [] calls bytes all in
    let many = length-changes_after [] calls bytes in
    let told = subst (λ (l : Log). Covers (log_budget l) count) (sym is) covers in
    record { bytes_fit = omega arith; calls_fit = omega arith }

pub fits_covered : (calls : List Logged) (bytes : List ℕ) (byte_capacity call_capacity count : ℕ)
    → length bytes ≡ logged_bytes calls → Fits calls bytes byte_capacity call_capacity count
    → Covers (log_budget (record {
      changes = changes_after [] calls bytes;
      byte_capacity = byte_capacity;
      call_capacity = call_capacity;
    })) count
fits_covered calls bytes byte_capacity call_capacity count all fits =
    let some = written_bytes-changes_after [] calls bytes all in
    let many = length-changes_after [] calls bytes in
    record { bytes = omega arith; calls = omega arith }
