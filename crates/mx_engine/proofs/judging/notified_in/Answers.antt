use Rattle.std.proofs.Common.{[], ◌∷◌, ◌++◌, Some, None, sym, ap, ◌∙◌}
use Rattle.mx_room.specs.State.{named_by}
use Rattle.mx_records.specs.Judging.{notice_in}
use Rattle.mx_records.specs.Rules.{rules_among}
use Rattle.mx_engine.specs.Noticing.{said_of}
use Rattle.mx_engine.proofs.NoticingLemmas.{notices-once, notices-walked, said-walked}
use Rattle.mx_engine.proofs.judging.notified_in.Goals as goal
use Rattle.mx_engine.proofs.judging.notified_in.Goals.{in-Some+in_ok-note, in_default}

pub returns-clause-users : goal.returns-clause-users
returns-clause-users c =
    let rules = rules_among c.args.rules.now.server c.args.rules.now.edited in
    let said = notice_in c.args.rules.now.server rules c.args.view.now c.args.event.now in
    let all = notices-walked c.args.rules.now.server rules c.args.event.now c.args.view.now c.args.members.now in
    elim c.match-branch-3.branch [
      | in-Some+in_ok-note w ↦
          all (Some w.in-Some.named) c.match-branch-3.users.items c.requires.listed
          (sym w.in-Some.is ∙ c.in_ok-named.ensures)
          (ap (λ users. users.items) w.users-is
          ∙ w.in_ok-note.ensures
          ∙ ap (λ before. before ++ said_of said (w.in-Some.named ∷ [])) c.in_ok-users.ensures
          ∙ said-walked said c.args.members.now w.in-Some.named)
      | in_default w ↦
          all None c.match-branch-3.users.items c.requires.listed (sym w.in_default.is ∙ c.in_ok-named.ensures)
          (ap (λ users. users.items) w.users-is ∙ c.in_ok-users.ensures)
    ]

pub returns-clause-once : goal.returns-clause-once
returns-clause-once c =
    let rules = rules_among c.args.rules.now.server c.args.rules.now.edited in
    let said = notice_in c.args.rules.now.server rules c.args.view.now c.args.event.now in
    elim c.match-branch-3.branch [
      | in-Some+in_ok-note w ↦
          notices-once said c.args.members.now (Some w.in-Some.named) (named_by c.args.event.now)
          c.match-branch-3.users.items c.requires.once (sym w.in-Some.is ∙ c.in_ok-named.ensures)
          (ap (λ users. users.items) w.users-is
          ∙ w.in_ok-note.ensures
          ∙ ap (λ before. before ++ said_of said (w.in-Some.named ∷ [])) c.in_ok-users.ensures
          ∙ said-walked said c.args.members.now w.in-Some.named)
      | in_default w ↦
          notices-once said c.args.members.now None (named_by c.args.event.now) c.match-branch-3.users.items
          c.requires.once (sym w.in_default.is ∙ c.in_ok-named.ensures)
          (ap (λ users. users.items) w.users-is ∙ c.in_ok-users.ensures)
    ]
