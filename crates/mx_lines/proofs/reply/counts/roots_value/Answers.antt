use Rattle.std.proofs.Common.{◌≡◌, map, ap, ◌∙◌, arith}
use Rattle.mx_json.specs.Json.{depth_of, is_valid}
use Rattle.mx_lines.specs.Replies.{object_of, root_member}
use Rattle.mx_lines.specs.Roots.{roots_in}
use Rattle.mx_lines.proofs.RootsLemmas.{first-in_range, next-member, no-member, rest-may, roots-shallow, roots-valid}
use Rattle.mx_lines.proofs.reply.counts.roots_value.Goals as goal

pub counts_value-requires-clause-notify : goal.counts_value-requires-clause-notify
counts_value-requires-clause-notify c =
    (first-in_range (c.in-Some.root.now, c.in-Some.counts.now) c.loop-root.root-iterator c.next.new.self
    c.in-Some.ensures.steps
    c.loop-root.invariant.may_stand).0

pub counts_value-requires-clause-highlight : goal.counts_value-requires-clause-highlight
counts_value-requires-clause-highlight c =
    (first-in_range (c.in-Some.root.now, c.in-Some.counts.now) c.loop-root.root-iterator c.next.new.self
    c.in-Some.ensures.steps
    c.loop-root.invariant.may_stand).1

pub loop-root-preserved : goal.loop-root-preserved
loop-root-preserved c = record {
  members = next-member (c.in-Some.root.now, c.in-Some.counts.now) c.loop-root.root-iterator c.next.new.self
      c.loop-root.members.pairs
      c.in_ok-members.members.pairs (map root_member (roots_in c.args.roots.now)) c.in_ok-counts_value.field-0
      c.in-Some.ensures.steps
      c.in_ok-counts_value.ensures.value c.in_ok-members.ensures c.loop-root.invariant.members;
  may_stand = rest-may (c.in-Some.root.now, c.in-Some.counts.now) c.loop-root.root-iterator c.next.new.self
      c.in-Some.ensures.steps
      c.loop-root.invariant.may_stand;
}

pub returns-clause-value : goal.returns-clause-value
returns-clause-value c =
    ap object_of
    (no-member c.loop-root.root-iterator c.loop-root.members.pairs (map root_member (roots_in c.args.roots.now))
    c.in-None.ensures.steps.0
    c.loop-root.invariant.members)

pub returns-clause-valid : goal.returns-clause-valid
returns-clause-valid c =
    ap is_valid (returns-clause-value c) ∙ roots-valid c.args.roots.now c.iter-root-items.ensures.ordered c.requires

pub returns-clause-shallow : goal.returns-clause-shallow
returns-clause-shallow c = omega (arith, ap depth_of (returns-clause-value c), roots-shallow c.args.roots.now)
