use Rattle.mx_store.proofs.Laws.{no_history}
use Rattle.push_server.proofs.ServeLemmas.{journal_cause}
use Rattle.push_server.proofs.serve.check.Goals as goal

pub returns-in-Ok-write_all-clause-no_journal : goal.returns-in-Ok-write_all-clause-no_journal
returns-in-Ok-write_all-clause-no_journal g c content offset told fault done =
    let stands = c.in-Ok.ensures.tally content told in
    no_history c.args.server.now content offset stands.0 fault stands.1

pub returns-clause-not_a_journal : goal.returns-clause-not_a_journal
returns-clause-not_a_journal g c content told is =
    let cause = journal_cause c.in-Err.error.cause c.tell.result c.tell.ensures.ends is in
    record {
      offset = cause.0;
      at = c.in-Err.ensures.not_a_journal content cause.0 told cause.1;
      wrote = (c.tell.ensures.told cause.0 cause.1 is);
    }

pub returns-clause-a_journal : goal.returns-clause-a_journal
returns-clause-a_journal g c content h told stands is =
    let cause = journal_cause c.in-Err.error.cause c.tell.result c.tell.ensures.ends is in
    no_history c.args.server.now content cause.0 h (c.in-Err.ensures.not_a_journal content cause.0 told cause.1) stands
