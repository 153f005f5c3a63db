-- The entry is on the disk before the engine goes on.
use Rattle.std.proofs.Common.{◌≡◌, ◌<◌, ◌≤◌, ◌∷◌, ◌++◌, [], List, ℕ, Err, length, refl, sym, ap, subst, ◌∙◌, arith}
use Rattle.mx_outside.specs.Disk.{LeavesOnly}
use Rattle.mx_journal.specs.Journal.{Opened, Rests}
use Rattle.mx_journal.proofs.Moments.{LeavesOnly-weaker}
use Rattle.mx_records.specs.History.{with_input}
use Rattle.mx_records.specs.Refusing.{payloads_of}
use Rattle.mx_records.specs.Snapshot.{snapshot_of}
use Rattle.mx_store.specs.Standing.{StandsForEitherHistory}
use Rattle.mx_store.specs.Store.{Keeps, Knows, Stored}
use Rattle.mx_store.proofs.Normals.{valid_input}
use Rattle.mx_records.specs.declared.entry.Entry.TheVariants.{Input}
use Rattle.mx_records.proofs.ValidLemmas.{payloads_of-push}
use Rattle.mx_store.proofs.Histories.{either_history, knows_more, payload_fits, payload_some}
use Rattle.mx_store.proofs.store.Store.accept.Goals as goal

pub prepare-requires-clause-valid : goal.prepare-requires-clause-valid
prepare-requires-clause-valid g c = valid_input c.args.input.now c.requires.normal

pub stage-requires : goal.stage-requires
stage-requires g c =
    subst (λ (p : List ℕ). 0 < length p) (sym (c.payload.ensures ∙ c.in-Ok.ensures.payload))
    (payload_some (Input c.args.input.now))

pub unreachable-requires : goal.unreachable-requires
unreachable-requires g c =
    let k = c.self.invariant in
    let fits = payload_fits c.self.inside.engine.server k.0 c.args.input.now (c.in-Ok.ensures.exact k.0 k.1.is) in
    let long = c.stage.ensures.too_long.0 (c.in-Err-TooLong.is ∙ ap Err c.in-Err-TooLong.field-0-is) in
    let same = ap length (c.payload.ensures ∙ c.in-Ok.ensures.payload) in
    omega (arith, fits, long, same)

pub commit-requires-clause-staged : goal.commit-requires-clause-staged
commit-requires-clause-staged g c =
    subst (λ (p : List ℕ). 0 < length p)
    (sym (ap (λ (j : Opened g.row.D.Denot). j.staged) c.in-Ok-stage.ensures.staged ∙ c.payload.ensures
    ∙ c.in-Ok.ensures.payload))
    (payload_some (Input c.args.input.now))

pub invariant_of-self-in-Ok-commit : goal.invariant_of-self-in-Ok-commit
invariant_of-self-in-Ok-commit g c =
    let k = c.self.invariant in
    let stands =
    c.prepare.ensures.meaning ∙ k.1.is ∙ ap (λ (s : List ℕ). snapshot_of s k.0) (sym c.prepare.ensures.server) in (
      with_input k.0 c.args.input.now,
      knows_more c.apply.new.self.server c.self.inside.engine.server c.apply.new.self.shown c.self.inside.engine.shown
          k.0 c.args.input.now (c.apply.ensures.server ∙ c.prepare.ensures.server) k.1
          (c.in-Ok.ensures.exact k.0 k.1.is)
          (c.apply.ensures.step k.0 c.args.input.now stands c.in-Ok.ensures.suits),
    )

pub returns-in-Ok-commit-clause-shown : goal.returns-in-Ok-commit-clause-shown
returns-in-Ok-commit-clause-shown g c = λ h knows.
    let k = subst (λ (s : Stored g.row.D.Denot). Knows s.server s.shown h) (sym c.self.view_is) knows in
    let stands =
    c.prepare.ensures.meaning ∙ k.is ∙ ap (λ (s : List ℕ). snapshot_of s h) (sym c.prepare.ensures.server) in
    knows_more c.apply.new.self.server c.self.inside.engine.server c.apply.new.self.shown c.self.inside.engine.shown
    h c.args.input.now (c.apply.ensures.server ∙ c.prepare.ensures.server) k (c.in-Ok.ensures.exact h k.is)
    (c.apply.ensures.step h c.args.input.now stands c.in-Ok.ensures.suits)

pub returns-in-Ok-commit-clause-accepted : goal.returns-in-Ok-commit-clause-accepted
returns-in-Ok-commit-clause-accepted g c = λ h keeps.
    let inside = subst (λ (s : Stored g.row.D.Denot). Keeps g.D.Disk.seen g.D.Disk.may_leave s h) (sym c.self.view_is)
    keeps in
    let k = inside.knows in
    let stands =
    c.prepare.ensures.meaning ∙ k.is ∙ ap (λ (s : List ℕ). snapshot_of s h) (sym c.prepare.ensures.server) in
    let rests = subst (λ (j : Opened g.row.D.Denot). Rests g.D.Disk.seen g.D.Disk.may_leave j (payloads_of h))
    (sym c.in-Ok-stage.ensures.staged) inside.rests in
    let staged = ap (λ (j : Opened g.row.D.Denot). j.staged) c.in-Ok-stage.ensures.staged ∙ c.payload.ensures
    ∙ c.in-Ok.ensures.payload in
    record {
      knows = knows_more c.apply.new.self.server c.self.inside.engine.server c.apply.new.self.shown
          c.self.inside.engine.shown h c.args.input.now (c.apply.ensures.server ∙ c.prepare.ensures.server) k
          (c.in-Ok.ensures.exact h k.is)
          (c.apply.ensures.step h c.args.input.now stands c.in-Ok.ensures.suits);
      rests = subst
          (λ (ps : List (List ℕ)). Rests g.D.Disk.seen g.D.Disk.may_leave c.commit.new.self ps)
          (ap (λ (p : List ℕ). payloads_of h ++ p ∷ []) staged ∙ sym (payloads_of-push h (Input c.args.input.now)))
          (c.in-Ok-commit.ensures.acknowledged (payloads_of h) rests);
    }

pub returns-in-Ok-commit-clause-any_moment : goal.returns-in-Ok-commit-clause-any_moment
returns-in-Ok-commit-clause-any_moment g c = λ h keeps.
    let inside = subst (λ (s : Stored g.row.D.Denot). Keeps g.D.Disk.seen g.D.Disk.may_leave s h) (sym c.self.view_is)
    keeps in
    let rests = subst (λ (j : Opened g.row.D.Denot). Rests g.D.Disk.seen g.D.Disk.may_leave j (payloads_of h))
    (sym c.in-Ok-stage.ensures.staged) inside.rests in
    let staged = ap (λ (j : Opened g.row.D.Denot). j.staged) c.in-Ok-stage.ensures.staged ∙ c.payload.ensures
    ∙ c.in-Ok.ensures.payload in
    let leaves = LeavesOnly-weaker
    (StandsForEitherHistory c.self.inside.engine.server h (with_input h c.args.input.now))
    (c.commit.ensures.any_moment (payloads_of h) rests)
    (λ image either. either_history c.self.inside.engine.server h c.args.input.now c.stage.new.self.staged image
    inside.knows.valid (c.in-Ok.ensures.exact h inside.knows.is) staged either) in
    subst (λ (s : Stored g.row.D.Denot). LeavesOnly g.D.Disk.moment g.D.Disk.left_since s.journal.disk
    c.commit.new.self.disk (StandsForEitherHistory s.server h (with_input h c.args.input.now))) c.self.view_is
    (subst (λ (j : Opened g.row.D.Denot). LeavesOnly g.D.Disk.moment g.D.Disk.left_since j.disk
    c.commit.new.self.disk (StandsForEitherHistory c.self.inside.engine.server h (with_input h c.args.input.now)))
    c.in-Ok-stage.ensures.staged leaves)

pub returns-in-Ok-commit-clause-stopped : goal.returns-in-Ok-commit-clause-stopped
returns-in-Ok-commit-clause-stopped g c = λ h image keeps may.
    let leaves = returns-in-Ok-commit-clause-any_moment g c h keeps in
    leaves.each image (g.met.D.Disk.counts_now c.commit.new.self.disk _ image leaves.later may)

pub returns-in-Err-DiskFault-clause-any_moment : goal.returns-in-Err-DiskFault-clause-any_moment
returns-in-Err-DiskFault-clause-any_moment g c = λ h keeps.
    let inside = subst (λ (s : Stored g.row.D.Denot). Keeps g.D.Disk.seen g.D.Disk.may_leave s h) (sym c.self.view_is)
    keeps in
    let rests = subst (λ (j : Opened g.row.D.Denot). Rests g.D.Disk.seen g.D.Disk.may_leave j (payloads_of h))
    (sym c.in-Ok-stage.ensures.staged) inside.rests in
    let staged = ap (λ (j : Opened g.row.D.Denot). j.staged) c.in-Ok-stage.ensures.staged ∙ c.payload.ensures
    ∙ c.in-Ok.ensures.payload in
    let leaves = LeavesOnly-weaker
    (StandsForEitherHistory c.self.inside.engine.server h (with_input h c.args.input.now))
    (c.commit.ensures.any_moment (payloads_of h) rests)
    (λ image either. either_history c.self.inside.engine.server h c.args.input.now c.stage.new.self.staged image
    inside.knows.valid (c.in-Ok.ensures.exact h inside.knows.is) staged either) in
    subst (λ (s : Stored g.row.D.Denot). LeavesOnly g.D.Disk.moment g.D.Disk.left_since s.journal.disk
    c.commit.new.self.disk (StandsForEitherHistory s.server h (with_input h c.args.input.now))) c.self.view_is
    (subst (λ (j : Opened g.row.D.Denot). LeavesOnly g.D.Disk.moment g.D.Disk.left_since j.disk
    c.commit.new.self.disk (StandsForEitherHistory c.self.inside.engine.server h (with_input h c.args.input.now)))
    c.in-Ok-stage.ensures.staged leaves)

pub returns-in-Err-DiskFault-clause-stopped : goal.returns-in-Err-DiskFault-clause-stopped
returns-in-Err-DiskFault-clause-stopped g c = λ h image keeps may.
    let leaves = returns-in-Err-DiskFault-clause-any_moment g c h keeps in
    leaves.each image (g.met.D.Disk.counts_now c.commit.new.self.disk _ image leaves.later may)
