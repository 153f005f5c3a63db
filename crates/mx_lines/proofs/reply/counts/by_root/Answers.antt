use Rattle.std.proofs.Common.{◌≡◌, ℕ, ◌≤◌, List, length, Some, sym, ap, ◌∙◌, arith, Bor, BTreeMap}
use Rattle.std.proofs.lemmas.List.{take_all}
use Rattle.std.proofs.lemmas.Str.{is_utf8-from_IsUtf8}
use Rattle.std.specs.FinMap.{entries}
use Rattle.std.specs.List.{slice_get}
use Rattle.std.specs.Option.{option_copied}
use Rattle.mx_records.specs.Counting.{counts_of, room_counts_of, threads_of}
use Rattle.mx_records.specs.History.{History}
use Rattle.mx_records.specs.Snapshot.{snapshot_of}
use Rattle.mx_rows.specs.declared.counts.Counts.{Counts}
use Rattle.mx_lines.specs.Replies.{by_root}
use Rattle.mx_lines.specs.Roots.{MayStand}
use Rattle.mx_lines.proofs.RootsLemmas.{entries-none, may_stand-none, next-main, next-root, past-none, stand-insert}
use Rattle.mx_lines.proofs.RootsLemmas.{threads_le}
use Rattle.mx_lines.proofs.reply.counts.by_root.Goals as goal
use Rattle.mx_lines.proofs.reply.counts.by_root.Goals.{else-loop-k-test, then-loop-k-test+in_default}
use Rattle.mx_lines.proofs.reply.counts.by_root.Goals.{in-Root+in_ok-insert, in_default-thread}

pub loop-k-init : goal.loop-k-init
loop-k-init g c =
    let server = g.Q.Questions.server c.args.questions.now in
    record {
      roots = λ h stands.
          entries-none (counts_of server h c.args.user.now c.args.room.now) c.new-roots.result
          c.new-roots.ensures.empty;
      may_stand = may_stand-none c.new-roots.result c.new-roots.ensures.empty;
    }

pub loop-k-preserved : goal.loop-k-preserved
loop-k-preserved g c =
    let server = g.Q.Questions.server c.args.questions.now in
    let counts = λ (h : History). counts_of server h c.args.user.now c.args.room.now in
    let threads = λ (h : History). threads_of server h c.args.user.now c.args.room.now in
    let at : (h : History) → g.Q.Questions.snapshot c.args.questions.now ≡ snapshot_of server h
    → slice_get (threads h) c.loop-k.k ≡ Some c.in-Some.thread.now =
    λ h stands. sym (c.thread_at.ensures h stands) ∙ ap option_copied c.in-Some.is in
    elim c.match-thread.branch [
      | in-Root+in_ok-insert w ↦
          let entries = ap (λ (roots : BTreeMap (Bor (List ℕ)) Counts). roots.entries) w.roots-is
          ∙ w.in_ok-insert.ensures.entries in
          let may : MayStand (w.as_text.result.now, w.counts.result) = (
            is_utf8-from_IsUtf8 w.as_text.result.now w.as_text.utf8,
            (w.counts.ensures.notify_in_range, w.counts.ensures.highlight_in_range),
          ) in
          record {
            roots = λ h stands.
                next-root (counts h) (threads h) c.loop-k.k c.in-Some.thread.now (at h stands) c.loop-k.roots
                c.match-thread.roots w.as_text.result
                w.counts.result w.in-Root.id w.in-Root.is w.as_text.ensures.text (w.counts.ensures.exact h stands)
                entries
                (c.loop-k.invariant.roots h stands);
            may_stand =
                stand-insert c.loop-k.roots c.match-thread.roots w.as_text.result w.counts.result may entries
                c.loop-k.invariant.may_stand;
          }
      | in_default-thread w ↦ record {
        roots = λ h stands. rw w.roots-is
            (next-main (counts h) (threads h) c.loop-k.k c.in-Some.thread.now (at h stands) c.loop-k.roots
            w.in_default-thread.is
            (c.loop-k.invariant.roots h stands));
        may_stand = rw w.roots-is c.loop-k.invariant.may_stand;
      }
    ]

pub returns-clause-roots : goal.returns-clause-roots
returns-clause-roots g c = λ h stands.
    let server = g.Q.Questions.server c.args.questions.now in
    let counts = counts_of server h c.args.user.now c.args.room.now in
    let threads = threads_of server h c.args.user.now c.args.room.now in
    let in_room : Counts = room_counts_of server h c.args.user.now c.args.room.now in
    let few = threads_le server h c.args.user.now c.args.room.now in
    let rows : c.room_counts-k-end.result.notify ≡ in_room.notify =
    ap (λ (counts : Counts). counts.notify) (c.room_counts-k-end.ensures.exact h stands) in
    let all : length threads ≤ c.loop-k.k = elim c.loop-k-test.branch [
      | else-loop-k-test w ↦ omega (arith, few, rows, w.loop-k-test)
      | then-loop-k-test+in_default w ↦
          past-none threads c.loop-k.k (sym (w.thread_at.ensures h stands) ∙ ap option_copied w.in_default.is)
    ] in
    c.loop-k.invariant.roots h stands
    ∙ ap (λ first. entries (by_root counts first)) (take_all c.loop-k.k threads all)

pub returns-clause-may_stand : goal.returns-clause-may_stand
returns-clause-may_stand g c = c.loop-k.invariant.may_stand
