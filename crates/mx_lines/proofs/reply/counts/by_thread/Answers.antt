use Rattle.std.proofs.Common.{◌≡◌, ◌++◌, [], ◌∷◌, codes, map, IfOk, subst, List, ℕ}
use Rattle.mx_rows.specs.declared.counts.Counts.{Counts}
use Rattle.mx_records.specs.Counting.{counts_of, threads_of}
use Rattle.mx_lines.specs.Replies.{by_root, numbers_of, object_of, root_member, roots_value}
use Rattle.mx_lines.proofs.reply.counts.by_thread.Goals as goal

pub returns-clause-value : goal.returns-clause-value
returns-clause-value g c = λ h stands.
    let counts = counts_of (g.Q.Questions.server c.args.questions.now) h c.args.user.now c.args.room.now in
    let threads = threads_of (g.Q.Questions.server c.args.questions.now) h c.args.user.now c.args.room.now in
    subst
    (λ (main : Counts). IfOk c.with_roots.result (λ value.
    value ≡ object_of (numbers_of main ++ (codes "threads", roots_value (by_root counts threads)) ∷ [])))
    (c.counts.ensures.exact h stands)
    (subst
    (λ (roots : List (List ℕ × Counts)). IfOk c.with_roots.result (λ value.
    value ≡ object_of (numbers_of c.counts.result ++ (codes "threads", object_of (map root_member roots)) ∷ [])))
    (c.in_ok-roots.ensures.roots h stands) c.with_roots.ensures.value)
