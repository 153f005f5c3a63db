use Rattle.std.proofs.Common.{ℕ, ◌≤◌, List, Bor, arith}
use Rattle.std.proofs.lemmas.Str.{is_utf8-from_IsUtf8}
use Rattle.mx_rows.specs.declared.counts.Counts.{Counts}
use Rattle.mx_lines.specs.Roots.{MayStand}
use Rattle.mx_lines.proofs.RootsLemmas.{may_stand-none, stand-insert}
use Rattle.mx_lines.proofs.reply.counts.tests.two_roots.Goals as goal

pub with_roots-requires-clause-roots : goal.with_roots-requires-clause-roots
with_roots-requires-clause-roots c =
    let first : MayStand (c.args.first.now, record { notify = 1; highlight = 0 }) =
    (is_utf8-from_IsUtf8 c.args.first.now c.utf8.first, (omega arith, omega arith)) in
    let second : MayStand (c.args.second.now, record { notify = 3; highlight = 2 }) =
    (is_utf8-from_IsUtf8 c.args.second.now c.utf8.second, (omega arith, omega arith)) in
    stand-insert c.insert.new.self c.insert-2.new.self c.args.second _ second c.in_ok-insert-2.ensures.entries
    (stand-insert c.new-roots.result c.insert.new.self c.args.first _ first c.in_ok-insert.ensures.entries
    (may_stand-none c.new-roots.result c.new-roots.ensures.empty))
