use Rattle.std.proofs.Common.{◌+◌, ◌≤◌, arith}
use Rattle.std.proofs.lemmas.List.Edits.{length-remove}
use Rattle.mx_blocks.specs.Entries.{start_at}
use Rattle.mx_rows.proofs.EntryLemmas.{at_remove}
use Rattle.mx_blocks.proofs.threads.place_of.Goals as goal

pub returns-then-index-upto : goal.returns-then-index-upto
returns-then-index-upto c =
    let es = c.args.threads.now.entries in
    let shorter = length-remove es c.args.index c.requires.within in
    let upto = c.threads_upto-upto.ensures in
    record {
      within = omega arith;
      before = λ k d below. at_remove (λ e. start_at e ≤ c.args.start) es c.args.index k d c.requires.within
          (λ lt. upto.before k d (omega arith)) (λ le. upto.before (k + 1) d (omega arith));
      after = λ k d from below. at_remove (λ e. c.args.start ≤ start_at e) es c.args.index k d c.requires.within
          (λ lt. absurd (omega arith))
          (λ le. let past = upto.after (k + 1) d (omega arith) (omega arith) in omega arith);
    }

pub returns-else-index-upto : goal.returns-else-index-upto
returns-else-index-upto c =
    let es = c.args.threads.now.entries in
    let shorter = length-remove es c.args.index c.requires.within in
    let upto = c.threads_upto-upto.ensures in
    record {
      within = omega arith;
      before = λ k d below. at_remove (λ e. start_at e ≤ c.args.start) es c.args.index k d c.requires.within
          (λ lt. upto.before k d below) (λ le. absurd (omega arith));
      after = λ k d from below. at_remove (λ e. c.args.start ≤ start_at e) es c.args.index k d c.requires.within
          (λ lt. let past = upto.after k d from (omega arith) in omega arith)
          (λ le. let past = upto.after (k + 1) d (omega arith) (omega arith) in omega arith);
    }
