use Rattle.std.proofs.Common.{◌≡◌, nat_le, rules, arith}
use Rattle.std.proofs.lemmas.Bool.{leb-true, leb-false}
use Rattle.std.proofs.lemmas.Fn.{always_returns_same}
use Rattle.mx_rows.specs.declared.thread_key.ThreadKey.{ThreadKey}
use Rattle.mx_blocks.specs.declared.thread_rows.ThreadRows.{ThreadRows}
use Rattle.mx_blocks.specs.Entries.{start_at}
use Rattle.mx_blocks.proofs.threads.threads_upto.Goals as goal

pub returns-clause-before : goal.returns-clause-before
returns-clause-before c =
    let p : ThreadKey × ThreadRows → _ = λ e. nat_le (start_at e) c.args.start in
    let parted = c.partition_point.ensures.partitioned p
    (always_returns_same _ (λ a r. r ≡ p (a.0.now, a.1.0.now)) _ (λ a r f' called. search rules))
    c.requires in
    λ k d below. leb-true _ _ (parted.0 k d (omega arith) below)

pub returns-clause-after : goal.returns-clause-after
returns-clause-after c =
    let p : ThreadKey × ThreadRows → _ = λ e. nat_le (start_at e) c.args.start in
    let parted = c.partition_point.ensures.partitioned p
    (always_returns_same _ (λ a r. r ≡ p (a.0.now, a.1.0.now)) _ (λ a r f' called. search rules))
    c.requires in
    λ k d from below. leb-false _ _ (parted.1 k d from below)
