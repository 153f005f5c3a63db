use Rattle.std.proofs.Common.{take}
use Rattle.mx_glob.specs.Leads.{IsPlain}
use Rattle.mx_glob.proofs.rest.split_star.Given as goal

abbrev pub invariant-loop-place : goal.invariant-loop-place
invariant-loop-place l = IsPlain (take l.place l.pattern)
