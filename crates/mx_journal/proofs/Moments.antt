-- How a run of calls of a disk goes on.
use Rattle.std.proofs.Common.{◌≡◌, ◌∙◌, inl, inr, ⊎_elim, ℕ, List, Option, IfSome, arith}
use Rattle.mx_outside.specs.Told.{WhereTold}
use Rattle.mx_outside.specs.Disk.{Torn, Follows, SameImages, Elapses, LeavesOnly}
use Rattle.mx_outside.proofs.Told.{WhereTold-then}
use Rattle.mx_outside.proofs.Torn.{torn_same}
use Rattle.mx_journal.specs.Calls.{OnlyReads, IsTornFrom}

-- Before the first call a crash leaves what it may leave now.
pub LeavesOnly-none : {D : Type 0} {moment : D → ℕ} {left_since : D → ℕ → List ℕ → Type 0} (disk : D)
    (P : List ℕ → Type 0)
    → ((image : List ℕ) → left_since disk (moment disk) image → P image) → LeavesOnly moment left_since disk disk P
LeavesOnly-none disk P now = record { later = omega arith; each = now; before = λ t image early left. inl left }

-- One call more, after which a crash may leave what P allows.
pub LeavesOnly-more : {D : Type 0} {moment : D → ℕ} {left_since : D → ℕ → List ℕ → Type 0} {old mid : D}
    {P : List ℕ → Type 0} (new : D) {may_leave : List ℕ → Type 0}
    → LeavesOnly moment left_since old mid P → Elapses (moment mid) (moment new) (left_since mid) (left_since new)
    may_leave
    → ((image : List ℕ) → may_leave image → P image) → LeavesOnly moment left_since old new P
LeavesOnly-more {moment = moment} {old = old} new so_far time now = record {
  later = omega (arith, so_far.later, time.later);
  each = λ image left. ⊎_elim (λ past. so_far.each image past) (λ may. now image may)
      (time.nothing_else (moment old) image so_far.later left);
  before = λ t image early left. ⊎_elim (λ past. so_far.before t image early past) (λ may. inr (now image may))
      (time.nothing_else t image (omega (arith, early, so_far.later)) left);
}

-- What P allows, Q allows.
pub LeavesOnly-weaker : {D : Type 0} {moment : D → ℕ} {left_since : D → ℕ → List ℕ → Type 0} {old new : D}
    {P : List ℕ → Type 0} (Q : List ℕ → Type 0)
    → LeavesOnly moment left_since old new P → ((image : List ℕ) → P image → Q image)
    → LeavesOnly moment left_since old new Q
LeavesOnly-weaker Q so_far weaker = record {
  later = so_far.later;
  each = λ image left. weaker image (so_far.each image left);
  before = λ t image early left. ⊎_elim (λ past. inl past) (λ p. inr (weaker image p))
      (so_far.before t image early left);
}

-- One run and then another.
pub LeavesOnly-then : {D : Type 0} {moment : D → ℕ} {left_since : D → ℕ → List ℕ → Type 0} {old mid new : D}
    {P : List ℕ → Type 0} → LeavesOnly moment left_since old mid P → LeavesOnly moment left_since mid new P
    → LeavesOnly moment left_since old new P
LeavesOnly-then {moment = moment} {old = old} first second = record {
  later = omega (arith, first.later, second.later);
  each = λ image left. ⊎_elim (λ past. first.each image past) (λ p. p)
      (second.before (moment old) image first.later left);
  before = λ t image early left. ⊎_elim (λ past. first.before t image early past) (λ p. inr p)
      (second.before t image (omega (arith, early, first.later)) left);
}

-- One call that reads.
pub OnlyReads-call : {D : Type 0} {same_disk : D → D → Type 0} {seen : D → Option (List ℕ)}
    {may_leave : D → List ℕ → Type 0} {moment : D → ℕ} {left_since : D → ℕ → List ℕ → Type 0} (old new : D)
    → ((image : List ℕ) → left_since old (moment old) image → may_leave old image) → same_disk old new
    → WhereTold (seen old) (seen new) (λ before after. after ≡ before) → SameImages (may_leave old) (may_leave new)
    → Elapses (moment old) (moment new) (left_since old) (left_since new) (may_leave new)
    → (IfSome (seen old) (may_leave old) → IfSome (seen new) (may_leave new))
    → OnlyReads same_disk seen may_leave moment left_since old new
OnlyReads-call {may_leave = may_leave} old new now stays same images time remains = record {
  stays = stays;
  same = same;
  images = images;
  any_moment = LeavesOnly-more new (LeavesOnly-none old (may_leave old) now) time (λ image may. (images image).0 may);
  remains = remains;
}

-- Calls that read, one after another.
pub OnlyReads-then : {D : Type 0} {same_disk : D → D → Type 0} {seen : D → Option (List ℕ)}
    {may_leave : D → List ℕ → Type 0} {moment : D → ℕ} {left_since : D → ℕ → List ℕ → Type 0} (old mid new : D)
    → (same_disk old mid → same_disk mid new → same_disk old new)
    → OnlyReads same_disk seen may_leave moment left_since old mid
    → OnlyReads same_disk seen may_leave moment left_since mid new
    → OnlyReads same_disk seen may_leave moment left_since old new
OnlyReads-then {seen = seen} {may_leave = may_leave} old mid new stays first second = record {
  stays = stays first.stays second.stays;
  same = WhereTold-then (λ before after. after ≡ before) (λ before after. after ≡ before)
      (λ before after. after ≡ before) (seen old) (seen mid) (seen new) first.same second.same
      (λ x y z one two. two ∙ one);
  images = λ image. (
    λ may. (first.images image).0 ((second.images image).0 may),
    λ may. (second.images image).1
        ((first.images image).1 may),
  );
  any_moment = LeavesOnly-then first.any_moment (LeavesOnly-weaker (may_leave old) second.any_moment
      (λ image may. (first.images image).0 may));
  remains = λ one. second.remains (first.remains one);
}

-- A write.
pub LeavesOnly-write : {D : Type 0} {moment : D → ℕ} {left_since : D → ℕ → List ℕ → Type 0}
    (may_leave : D → List ℕ → Type 0) (old new : D) (at n : ℕ)
    → ((image : List ℕ) → left_since old (moment old) image → may_leave old image)
    → Elapses (moment old) (moment new) (left_since old) (left_since new) (may_leave new)
    → Follows (Torn at n) (may_leave old) (may_leave new)
    → LeavesOnly moment left_since old new (IsTornFrom (may_leave old) at n)
LeavesOnly-write may_leave old new at n now time follows =
    LeavesOnly-more new (LeavesOnly-none old (IsTornFrom (may_leave old) at n)
    (λ image left. (image, now image left, torn_same at n image))) time follows
