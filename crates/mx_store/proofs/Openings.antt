-- What opening a store comes to.
use Rattle.std.proofs.Common.{◌≡◌, ⊎_elim, inl, inr, ℕ, ◌<◌, ◌≤◌, List, [], Option, Some, IfSome, length, refl, sym, ap}
use Rattle.std.proofs.Common.{subst, ◌∙◌, arith}
use Rattle.std.proofs.lemmas.Bool.{cases_lt}
use Rattle.mx_outside.specs.Disk.{LeavesOnly, Only}
use Rattle.mx_journal.specs.Image.{empty_journal, StandsForPayloads}
use Rattle.mx_journal.specs.Journal.{Opened, HasRead, Rests}
use Rattle.mx_journal.proofs.Images.{stands_for_short}
use Rattle.mx_journal.proofs.Moments.{LeavesOnly-then, LeavesOnly-weaker}
use Rattle.mx_journal.proofs.Opens.{length-empty_journal}
use Rattle.mx_journal.proofs.Steps.{IfSome-at}
use Rattle.mx_records.specs.History.{History, inputs_of}
use Rattle.mx_records.specs.Refusing.{IsValid, payloads_of}
use Rattle.mx_records.specs.Snapshot.{Snapshot, snapshot_of}
use Rattle.mx_store.specs.Standing.{HasFirstFaultAt, StandsFor}
use Rattle.mx_store.specs.Store.{HasReadAll, IsReplayed, Keeps, Knows, Stored, Tallies}
use Rattle.mx_store.specs.declared.tally.Tally.{Tally}
use Rattle.mx_records.proofs.ValidLemmas.{IsValid-none, length-payloads_of, payloads_of-none, valid-inputs_of}
use Rattle.mx_store.proofs.Laws.{one_history}

-- what a short disk stands for, once the empty journal was read
short_stands : (server content : List ℕ) (h : History) → IsValid server h → length content ≤ 17
    → StandsForPayloads empty_journal (payloads_of h) → StandsFor server content h
short_stands server content h valid short stands = record {
  valid = valid;
  payloads = inl (
    short,
    stands_for_short empty_journal (payloads_of h) (omega (arith, length-empty_journal)) stands,
  );
}

module _ {D : Type 0} (seen : D → Option (List ℕ)) (disk : D) (old : Opened D)
    (short : (content : List ℕ) → seen disk ≡ Some content → length content ≤ 17 → HasRead seen old empty_journal [])
    (long : (content : List ℕ) → seen disk ≡ Some content → 17 < length content → HasRead seen old content []) where
  -- All entries of a journal that was opened were read.
  pub replayed : (may_leave : D → List ℕ → Type 0) (new : Opened D) (server : List ℕ) (shown : Snapshot) (count : ℕ)
      (h : History)
      → ((content : List ℕ) → seen disk ≡ Some content → Only content (may_leave disk)
      → IfSome (seen old.disk) (λ now. Only now (may_leave old.disk)))
      → HasReadAll seen may_leave old new server shown count h
      → IsReplayed seen may_leave disk new server shown count h
  replayed may_leave new server shown count h durable all = record {
    knows = all.knows;
    counted = all.counted;
    stands = λ content told.
        ⊎_elim (λ (is_long : 17 < length content). record {
          valid = all.knows.valid;
          payloads = all.stands content (long content told is_long);
        })
        (λ (is_short : length content ≤ 17). short_stands server content h all.knows.valid is_short
        (all.stands empty_journal (short content told is_short))) (cases_lt 17 (length content));
    rests = λ content told only.
        ⊎_elim (λ (is_long : 17 < length content).
        let had = long content told is_long in
        all.rests content had (IfSome-at (λ now. Only now (may_leave old.disk)) (seen old.disk) content
        (durable content told only) had.told))
        (λ (is_short : length content ≤ 17).
        let had = short content told is_short in
        all.rests empty_journal had (IfSome-at (λ now. Only now (may_leave old.disk)) (seen old.disk) empty_journal
        (durable content told only) had.told)) (cases_lt 17 (length content));
  }

  -- The first fault of what was opened is that of the disk.
  pub replay_fault : (server : List ℕ) (offset : ℕ)
      → ((content : List ℕ) → HasRead seen old content [] → HasFirstFaultAt server content offset)
      → (content : List ℕ) → seen disk ≡ Some content → HasFirstFaultAt server content offset
  replay_fault server offset fault content told =
      ⊎_elim (λ (is_long : 17 < length content). fault content (long content told is_long))
      (λ (is_short : length content ≤ 17).
      let has = fault empty_journal (short content told is_short) in
      absurd (omega (arith, has.0, length-empty_journal))) (cases_lt 17 (length content))

-- One run that leaves what P allows, and then one that only reads.
pub moments_then : {D : Type 0} {moment : D → ℕ} {left_since : D → ℕ → List ℕ → Type 0}
    (may_leave : D → List ℕ → Type 0) {old mid new : D} (P : List ℕ → Type 0)
    → ((disk : D) (t : ℕ) (image : List ℕ) → t ≤ moment disk → may_leave disk image → left_since disk t image)
    → LeavesOnly moment left_since old mid P → LeavesOnly moment left_since mid new (may_leave mid)
    → LeavesOnly moment left_since old new P
moments_then {moment = moment} may_leave {old = old} {mid = mid} P counts first second =
    LeavesOnly-then first (LeavesOnly-weaker P second
    (λ image may. first.each image (counts mid (moment old) image first.later may)))

-- What leaves the payloads of a valid history leaves the history.
pub moments_stand : {D : Type 0} {moment : D → ℕ} {left_since : D → ℕ → List ℕ → Type 0} {old new : D}
    (server : List ℕ) (h : History) → IsValid server h
    → LeavesOnly moment left_since old new (λ image. StandsForPayloads image (payloads_of h))
    → LeavesOnly moment left_since old new (λ image. StandsFor server image h)
moments_stand server h valid leaves =
    LeavesOnly-weaker (λ image. StandsFor server image h) leaves
    (λ image stands. record { valid = valid; payloads = stands })

-- The same under the name that was given.
pub moments_named : {D : Type 0} {moment : D → ℕ} {left_since : D → ℕ → List ℕ → Type 0} {old new : D}
    (server name content : List ℕ) (h : History) → server ≡ name
    → (StandsFor server content h → LeavesOnly moment left_since old new (λ image. StandsFor server image h))
    → StandsFor name content h → LeavesOnly moment left_since old new (λ image. StandsFor name image h)
moments_named {moment = moment} {left_since = left_since} {old = old} {new = new} server name content h same
    leaves stands =
    subst (λ (s : List ℕ). LeavesOnly moment left_since old new (λ image. StandsFor s image h)) same
    (leaves (subst (λ (s : List ℕ). StandsFor s content h) (sym same) stands))

module _ {D : Type 0} (seen : D → Option (List ℕ)) (may_leave : D → List ℕ → Type 0) (disk : D)
    (journal : Opened D) (server name : List ℕ) (shown : Snapshot) (count : ℕ) (same : server ≡ name)
    (all : (h : History) × IsReplayed seen may_leave disk journal server shown count h) where
  named : (content : List ℕ) → seen disk ≡ Some content → StandsFor name content all.0
  named content told = subst (λ (s : List ℕ). StandsFor s content all.0) same (all.1.stands content told)

  pub opened_stands : (content : List ℕ) → seen disk ≡ Some content
      → (h : History) × StandsFor name content h × Knows name shown h
  opened_stands content told = (
    all.0,
    named content told,
    subst (λ (s : List ℕ). Knows s shown all.0) same all.1.knows,
  )

  -- the history that was read is the one for which the disk stands
  the_history : (content : List ℕ) (h : History) → seen disk ≡ Some content → StandsFor name content h → all.0 ≡ h
  the_history content h told stands = one_history name content all.0 h (named content told) stands

  pub opened_shown : (content : List ℕ) (h : History) → seen disk ≡ Some content → StandsFor name content h
      → shown ≡ snapshot_of name h
  opened_shown content h told stands =
      all.1.knows.is ∙ ap (λ (s : List ℕ). snapshot_of s all.0) same
      ∙ ap (λ (g : History). snapshot_of name g) (the_history content h told stands)

  pub opened_keeps : (content : List ℕ) (h : History) → seen disk ≡ Some content → Only content (may_leave disk)
      → StandsFor name content h
      → Keeps seen may_leave (record { journal = journal; server = server; shown = shown }) h
  opened_keeps content h told only stands =
      let is = the_history content h told stands in
      record {
        knows = subst (λ (g : History). Knows server shown g) is all.1.knows;
        rests =
            subst (λ (g : History). Rests seen may_leave journal (payloads_of g)) is (all.1.rests content told only);
      }

  pub opened_tally : (content : List ℕ) → seen disk ≡ Some content
      → (h : History) × StandsFor name content h × Tallies (record { entries = count; inputs = count }) h
  opened_tally content told = (
    all.0,
    named content told,
    record {
      entries = all.1.counted;
      inputs = all.1.counted ∙ length-payloads_of all.0 ∙ sym (valid-inputs_of server all.0 all.1.knows.valid);
    },
  )

-- A short disk stands for no entry.
pub short_tally : (server content : List ℕ) → length content ≤ 17
    → (h : History) × StandsFor server content h × Tallies (record { entries = 0; inputs = 0 }) h
short_tally server content short = (
  [],
  record { valid = IsValid-none server; payloads = inl (short, payloads_of-none) },
  record { entries = sym (ap length payloads_of-none); inputs = refl },
)
