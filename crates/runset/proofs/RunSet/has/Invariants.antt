-- The invariant: what the cuts passed say, with what those that are left say, is the membership.
use Rattle.std.proofs.Common.{◌≡◌, drop}
use Rattle.runs.specs.Set.{xor, inside}
use Rattle.runset.proofs.RunSet.has.Given as goal

abbrev pub invariant-loop-cut : goal.invariant-loop-cut
invariant-loop-cut l = xor l.inside (inside (drop l.cut-index l.cut-items) l.v) ≡ inside l.cut-items l.v
