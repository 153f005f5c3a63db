use Rattle.std.proofs.Common.{◌≡◌, All, take}
use Rattle.std.specs.FinMap.{entries}
use Rattle.mx_records.specs.Counting.{counts_of, threads_of}
use Rattle.mx_records.specs.History.{History}
use Rattle.mx_records.specs.Snapshot.{snapshot_of}
use Rattle.mx_lines.specs.Replies.{by_root}
use Rattle.mx_lines.specs.Roots.{MayStand, roots_in}
use Rattle.mx_lines.proofs.reply.counts.by_root.Given as goal

abbrev pub invariant-loop-k : goal.invariant-loop-k
invariant-loop-k g l = record {
  roots : (h : History) → g.Q.Questions.snapshot l.questions ≡ snapshot_of (g.Q.Questions.server l.questions) h
      → roots_in l.roots ≡ entries (by_root (counts_of (g.Q.Questions.server l.questions) h l.user l.room)
      (take l.k (threads_of (g.Q.Questions.server l.questions) h l.user l.room)));
  may_stand : All MayStand (roots_in l.roots);
}
