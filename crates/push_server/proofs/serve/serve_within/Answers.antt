use Rattle.std.proofs.Common.{refl, arith}
use Rattle.push_server.specs.declared.command_line.Subcommand.TheVariants.{Run}
use Rattle.mx_store.proofs.Laws.{no_history}
use Rattle.push_server.proofs.CommandLineLemmas.{AreWordsOf-unique}
use Rattle.push_server.proofs.ServeLemmas.{no_other, only_journal, only_memory}
use Rattle.push_server.proofs.serve.serve_within.Goals as goal

pub returns-in_default-clause-only_usage : goal.returns-in_default-clause-only_usage
returns-in_default-clause-only_usage g c usage subcommand server journal words =
    c.in_default.ensures.none refl subcommand server journal words

pub returns-in_default-clause-lawful : goal.returns-in_default-clause-lawful
returns-in_default-clause-lawful g c server journal content h0 words =
    absurd (c.in_default.ensures.none refl Run server journal words)

pub returns-in_default-clause-no_journal : goal.returns-in_default-clause-no_journal
returns-in_default-clause-no_journal g c subcommand server journal content offset words =
    absurd (c.in_default.ensures.none refl subcommand server journal words)

pub returns-in_default-clause-done : goal.returns-in_default-clause-done
returns-in_default-clause-done g c subcommand server journal content left h words =
    absurd (c.in_default.ensures.none refl subcommand server journal words)

pub returns-in-Run-clause-lawful : goal.returns-in-Run-clause-lawful
returns-in-Run-clause-lawful g c server journal content h0 words told stands left left_told before taken_told =
    let said = c.in-Some.said in
    let same = AreWordsOf-unique _ said.subcommand Run said.server.now said.journal.now server journal
    c.in-Some.ensures.some words in
    rw (← same.1) (c.run.ensures.lawful content h0 told (rw (← same.1) at stands) left left_told before taken_told)

pub returns-in-Run-clause-not_a_journal : goal.returns-in-Run-clause-not_a_journal
returns-in-Run-clause-not_a_journal g c subcommand server journal content words told is =
    let said = c.in-Some.said in
    let same = AreWordsOf-unique _ said.subcommand subcommand said.server.now said.journal.now server journal
    c.in-Some.ensures.some words in
    rw (← same.1) (c.run.ensures.not_a_journal content told is)

pub returns-in-Run-clause-no_journal : goal.returns-in-Run-clause-no_journal
returns-in-Run-clause-no_journal g c subcommand server journal content offset words told fault sink disk =
    let said = c.in-Some.said in
    let same = AreWordsOf-unique _ said.subcommand subcommand said.server.now said.journal.now server journal
    c.in-Some.ensures.some words in
    no_other c.run.result (c.run.ensures.no_journal content offset told (rw (← same.1) at fault))
    (λ is. sink (c.run.ensures.write is)) (λ is. disk (c.run.ensures.disk_fault is))

pub returns-in-Run-clause-done : goal.returns-in-Run-clause-done
returns-in-Run-clause-done g c subcommand server journal content left h words told stands left_told below
    source sink disk =
    let said = c.in-Some.said in
    let same = AreWordsOf-unique _ said.subcommand subcommand said.server.now said.journal.now server journal
    c.in-Some.ensures.some words in
    only_memory c.run.result c.run.ensures.served (λ is. source (c.run.ensures.read is))
    (λ is. sink (c.run.ensures.write is)) (λ is. disk (c.run.ensures.disk_fault is))
    (λ is. let tells = c.run.ensures.not_a_journal content told is in
    no_history said.server.now content tells.offset h tells.at (rw (← same.1) at stands))
    (λ is. omega (arith, c.run.ensures.limit left left_told is, below))

pub returns-in-Check-clause-not_a_journal : goal.returns-in-Check-clause-not_a_journal
returns-in-Check-clause-not_a_journal g c subcommand server journal content words told is =
    let said = c.in-Some.said in
    let same = AreWordsOf-unique _ said.subcommand subcommand said.server.now said.journal.now server journal
    c.in-Some.ensures.some words in
    rw (← same.1) (c.check.ensures.not_a_journal content told is)

pub returns-in-Check-clause-no_journal : goal.returns-in-Check-clause-no_journal
returns-in-Check-clause-no_journal g c subcommand server journal content offset words told fault sink disk =
    let said = c.in-Some.said in
    let same = AreWordsOf-unique _ said.subcommand subcommand said.server.now said.journal.now server journal
    c.in-Some.ensures.some words in
    only_journal c.check.result (c.check.ensures.no_journal content offset told (rw (← same.1) at fault))
    c.check.ensures.served c.check.ensures.not_read (λ is. sink (c.check.ensures.write is))
    (λ is. disk (c.check.ensures.disk_fault is)) c.check.ensures.not_limited

pub returns-in-Check-clause-done : goal.returns-in-Check-clause-done
returns-in-Check-clause-done g c subcommand server journal content left h words told stands left_told below
    source sink disk =
    let said = c.in-Some.said in
    let same = AreWordsOf-unique _ said.subcommand subcommand said.server.now said.journal.now server journal
    c.in-Some.ensures.some words in
    only_memory c.check.result c.check.ensures.served c.check.ensures.not_read (λ is. sink (c.check.ensures.write is))
    (λ is. disk (c.check.ensures.disk_fault is)) (c.check.ensures.a_journal content h told (rw (← same.1) at stands))
    c.check.ensures.not_limited
