use Rattle.std.proofs.Common.{◌≡◌, ℕ, List, Bool, ⊎_elim, ap}
use Rattle.mx_lines.specs.declared.command.Command.TheVariants.{Counts, Rules}
use Rattle.push_server.specs.Answered.{asked_user}
use Rattle.push_server.proofs.AdmissionLemmas.{after-asked}
use Rattle.push_server.proofs.CrashLemmas.{MovesTo-same}
use Rattle.push_server.proofs.answer.follow.Goals as goal

pub returns-in_ok-reply_about-in-Counts-clause-moves : goal.returns-in_ok-reply_about-in-Counts-clause-moves
returns-in_ok-reply_about-in-Counts-clause-moves g c h keeps =
    let disk = g.D.Disk in
    let server = c.args.store.now.server in
    let command = c.args.command.now in
    let user = c.in-Counts.user in
    MovesTo-same _ disk.seen disk.may_leave disk.moment disk.left_since g.met.D.Disk.only_now c.args.store.now h _
    (after-asked server h command user
    (⊎_elim
    (λ (counts : (room : List ℕ) × (threads : Bool) × (command ≡ Counts user room threads)). ap asked_user counts.2)
    (λ (rules : command ≡ Rules user). ap asked_user rules)
    c.in-Counts.is))
    keeps
