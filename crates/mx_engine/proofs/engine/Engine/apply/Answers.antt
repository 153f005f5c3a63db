use Rattle.std.proofs.Common.{◌≡◌, ◌∙◌, ◌+◌, ap, subst, sym}
use Rattle.mx_records.specs.History.{with_input}
use Rattle.mx_records.specs.Snapshot.{snapshot_of}
use Rattle.mx_engine.specs.Planning.{Fits, Planned, PlannedChange, Suits, adds, change_planned, edits, event_planned}
use Rattle.mx_engine.specs.Planning.{read_planned, reads}
use Rattle.mx_engine.proofs.Shown.{inputs-shown, step-adds, step-edits, step-reads}
use Rattle.mx_engine.proofs.engine.Engine.apply.Goals as goal

pub returns-in-Adds-clause-next : goal.returns-in-Adds-clause-next
returns-in-Adds-clause-next g c h is =
    ap (λ (p : Planned). p.position) c.plan.view_is
    ∙ c.requires.made.next
    ∙ ap (λ n. n + 1) (inputs-shown c.args.self.now.server h c.args.self.now.shown is)

pub returns-in-Edits-clause-next : goal.returns-in-Edits-clause-next
returns-in-Edits-clause-next g c h is =
    ap (λ (p : Planned). p.position) c.plan.view_is
    ∙ c.requires.made.next
    ∙ ap (λ n. n + 1) (inputs-shown c.args.self.now.server h c.args.self.now.shown is)

pub returns-in-Reads-clause-next : goal.returns-in-Reads-clause-next
returns-in-Reads-clause-next g c h is =
    ap (λ (p : Planned). p.position) c.plan.view_is
    ∙ c.requires.made.next
    ∙ ap (λ n. n + 1) (inputs-shown c.args.self.now.server h c.args.self.now.shown is)

pub returns-in-Adds-clause-step : goal.returns-in-Adds-clause-step
returns-in-Adds-clause-step g c h input is suits =
    let server = c.args.self.now.server in
    let shown = c.args.self.now.shown in
    let plan = event_planned c.in-Adds.event in
    let change : c.args.plan.change ≡ adds plan =
    sym (ap change_planned (sym c.in-Adds.is) ∙ ap (λ (p : Planned). p.change) c.plan.view_is) in
    let next : c.plan.inside.position ≡ shown.inputs + 1 =
    ap (λ (p : Planned). p.position) c.plan.view_is ∙ c.requires.made.next in
    c.add.ensures.shown
    ∙ step-adds server h shown c.plan.inside.position is next input plan
    (subst (λ (ch : PlannedChange). Suits server shown input ch) change suits)
    (subst (λ (ch : PlannedChange). Fits server shown ch) change c.requires.made.fits)
    c.add.new.self.shown.unread c.add.ensures.kept c.add.ensures.rows
    ∙ ap (λ name. snapshot_of name (with_input h input)) (sym c.add.ensures.server)

pub returns-in-Edits-clause-step : goal.returns-in-Edits-clause-step
returns-in-Edits-clause-step g c h input is suits =
    let server = c.args.self.now.server in
    let shown = c.args.self.now.shown in
    let change : c.args.plan.change ≡ edits c.in-Edits.editor c.in-Edits.plan =
    sym (ap change_planned (sym c.in-Edits.is) ∙ ap (λ (p : Planned). p.change) c.plan.view_is) in
    let next : c.plan.inside.position ≡ shown.inputs + 1 =
    ap (λ (p : Planned). p.position) c.plan.view_is ∙ c.requires.made.next in
    c.edit.ensures.shown
    ∙ step-edits server h shown c.plan.inside.position is next input c.in-Edits.editor c.in-Edits.plan
    (subst (λ (ch : PlannedChange). Suits server shown input ch) change suits)
    ∙ ap (λ name. snapshot_of name (with_input h input)) (sym c.edit.ensures.server)

pub returns-in-Reads-clause-step : goal.returns-in-Reads-clause-step
returns-in-Reads-clause-step g c h input is suits =
    let server = c.args.self.now.server in
    let shown = c.args.self.now.shown in
    let plan = read_planned c.in-Reads.plan in
    let change : c.args.plan.change ≡ reads plan =
    sym (ap change_planned (sym c.in-Reads.is) ∙ ap (λ (p : Planned). p.change) c.plan.view_is) in
    let next : c.plan.inside.position ≡ shown.inputs + 1 =
    ap (λ (p : Planned). p.position) c.plan.view_is ∙ c.requires.made.next in
    c.read.ensures.shown
    ∙ step-reads server h shown c.plan.inside.position is next input plan
    (subst (λ (ch : PlannedChange). Suits server shown input ch) change suits)
    c.read.new.self.shown.unread c.read.ensures.kept c.read.ensures.rows
    ∙ ap (λ name. snapshot_of name (with_input h input)) (sym c.read.ensures.server)
