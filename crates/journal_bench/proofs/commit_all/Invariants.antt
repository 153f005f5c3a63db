use Rattle.std.proofs.Common.{◌≡◌}
use Rattle.mx_journal.specs.declared.phase.Phase.TheVariants.{Writing}
use Rattle.journal_bench.proofs.commit_all.Given as goal

-- All payloads were read.
abbrev pub invariant-loop-commit : goal.invariant-loop-commit
invariant-loop-commit l = l.journal.phase ≡ Writing
