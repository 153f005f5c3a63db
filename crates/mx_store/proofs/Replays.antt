-- How reading the entries of a journal goes on.
use Rattle.std.proofs.Common.{◌≡◌, ℕ, ◌+◌, ◌≤◌, List, [], ◌∷◌, ◌++◌, Option, Some, None, IfSome, inl, length, map, refl}
use Rattle.std.proofs.Common.{sym, ap, subst, ◌∙◌, arith, rules}
use Rattle.std.proofs.lemmas.List.{length_push}
use Rattle.mx_outside.specs.Told.{WhereTold}
use Rattle.mx_journal.specs.Calls.{OnlyReads}
use Rattle.mx_journal.specs.Journal.{Opened, HasRead, LeavesAlike, Rests}
use Rattle.mx_journal.specs.Image.{StandsForPayloads}
use Rattle.mx_journal.specs.declared.error.JournalError.{JournalError}
use Rattle.mx_journal.specs.declared.error.JournalError.TheVariants as journal
use Rattle.mx_journal.proofs.Moments.{LeavesOnly-none}
use Rattle.mx_records.specs.History.{History, position_after, with_entry}
use Rattle.mx_records.specs.Refusing.{IsValid, most_inputs, payloads_of}
use Rattle.mx_records.specs.Snapshot.{Snapshot, snapshot_of}
use Rattle.mx_store.specs.declared.error.StoreError.TheVariants.{NotAJournal}
use Rattle.mx_store.specs.Opening.{store_error, GoesOnWith, HasReadMore, HasReadSoFar}
use Rattle.mx_store.specs.Store.{HasReadAll, Knows}
use Rattle.mx_records.proofs.ValidLemmas.{IsValid-none, IsValid-push, length-payloads_of, payloads_of-none}
use Rattle.mx_records.proofs.ValidLemmas.{payloads_of-push, valid-inputs_of}

-- One entry more.
pub read_more : {D : Type 0} (seen : D → Option (List ℕ)) (old new : Opened D) (server before : List ℕ)
    (shown : Snapshot) (h : History) (payload : List ℕ) → server ≡ before → IsValid before h
    → GoesOnWith payload server shown h → position_after h ≤ most_inputs
    → ((content : List ℕ) → HasRead seen old content (payloads_of h)
    → HasRead seen new content (payloads_of h ++ payload ∷ []))
    → (next : History) × HasReadMore seen old new server shown h next
read_more seen old new server before shown h payload same valid goes few read =
    let next = with_entry h goes.entry in
    let is : payloads_of h ++ payload ∷ [] ≡ payloads_of next =
    ap (λ (p : List ℕ). payloads_of h ++ p ∷ []) goes.payload_is ∙ sym (payloads_of-push h goes.entry) in
    let one : length (payloads_of next) ≡ length (payloads_of h) + 1 =
    sym (ap length is) ∙ length_push (payloads_of h) payload in (
      next,
      record {
        knows = record {
          valid =
              IsValid-push server h goes.entry (subst (λ (s : List ℕ). IsValid s h) (sym same) valid) goes.acceptable;
          is = goes.is;
        };
        one = one;
        few = omega (arith, length-payloads_of h, valid-inputs_of before h valid);
        read = λ content had.
            subst (λ (ps : List (List ℕ)). HasRead seen new content ps) is (read content had);
      },
    )

-- One entry more than so far.
pub so_far_more : {D : Type 0} (seen : D → Option (List ℕ)) (old mid new : Opened D) (server : List ℕ)
    (shown : Snapshot) (count more : ℕ) (h next : History) {before : List ℕ} {earlier : Snapshot}
    → HasReadSoFar seen old mid before earlier count h → HasReadMore seen mid new server shown h next
    → more ≡ count + 1 → HasReadSoFar seen old new server shown more next
so_far_more seen old mid new server shown count more h next so_far one is = record {
  knows = one.knows;
  counted = omega (arith, so_far.counted, one.one);
  few = omega (arith, so_far.counted, one.one, one.few);
  read = λ content had. one.read content (so_far.read content had);
}

-- The cause for which a journal can't be read.
pub journal_error : (error : JournalError) (offset : ℕ) → store_error error ≡ NotAJournal offset
    → error ≡ journal.NotAJournal offset
journal_error (journal.NotAJournal other) offset is = cc
journal_error journal.DiskFault offset is = absurd cc
journal_error journal.OutOfMemory offset is = absurd cc

told_now : (seen : Option (List ℕ)) → WhereTold seen seen (λ before after. after ≡ before)
told_now None = tt
told_now (Some content) = refl

-- Before the first call.
pub OnlyReads-none : {D : Type 0} {same_disk : D → D → Type 0} {seen : D → Option (List ℕ)}
    {may_leave : D → List ℕ → Type 0} {moment : D → ℕ} {left_since : D → ℕ → List ℕ → Type 0} (disk : D)
    → same_disk disk disk → ((image : List ℕ) → left_since disk (moment disk) image → may_leave disk image)
    → OnlyReads same_disk seen may_leave moment left_since disk disk
OnlyReads-none {seen = seen} {may_leave = may_leave} disk stays now = record {
  stays = stays;
  same = told_now (seen disk);
  images = λ image. (λ may. may, λ may. may);
  any_moment = LeavesOnly-none disk (may_leave disk) now;
  remains = λ one. one;
}

-- None was read so far.
pub so_far_none : {D : Type 0} (seen : D → Option (List ℕ)) (journal : Opened D) (server : List ℕ) (shown : Snapshot)
    → shown ≡ snapshot_of server [] → HasReadSoFar seen journal journal server shown 0 []
so_far_none seen journal server shown is = record {
  knows = record { valid = IsValid-none server; is = is };
  counted = sym (ap length payloads_of-none);
  few = omega arith;
  read = λ content had. subst (λ (ps : List (List ℕ)). HasRead seen journal content ps) (sym payloads_of-none) had;
}

-- All were read.
pub read_all : {D : Type 0} (seen : D → Option (List ℕ)) (may_leave : D → List ℕ → Type 0) (old mid new : Opened D)
    (server before : List ℕ) (shown earlier : Snapshot) (count : ℕ) (h : History) → server ≡ before → shown ≡ earlier
    → HasReadSoFar seen old mid before earlier count h
    → ((content : List ℕ) (payloads : List (List ℕ)) → HasRead seen mid content payloads
    → StandsForPayloads content payloads)
    → ((content : List ℕ) (payloads : List (List ℕ)) → HasRead seen mid content payloads
    → LeavesAlike content payloads (may_leave mid.disk) → Rests seen may_leave new payloads)
    → ((image : List ℕ) → may_leave mid.disk image → may_leave old.disk image)
    → HasReadAll seen may_leave old new server shown count h
read_all seen may_leave old mid new server before shown earlier count h same_server same_shown so_far stands
    rests back =
    record {
      knows = record {
        valid = subst (λ (s : List ℕ). IsValid s h) (sym same_server) so_far.knows.valid;
        is = same_shown ∙ so_far.knows.is ∙ ap (λ (s : List ℕ). snapshot_of s h) (sym same_server);
      };
      counted = so_far.counted;
      stands = λ content had. stands content (payloads_of h) (so_far.read content had);
      rests = λ content had only.
          rests content (payloads_of h) (so_far.read content had) (λ image may. inl (only image (back image may)));
    }
