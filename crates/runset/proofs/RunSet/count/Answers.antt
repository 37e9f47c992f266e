-- Two cuts for each run.
use native.Mathlib.Omega.{arith}
use Rattle.runs.proofs.laws.Set.{valid_cuts}
use Rattle.runset.proofs.RunSet.count.Goals as goal

pub returns : goal.returns
returns c = let s = c in omega (arith, c.cuts_in.ensures, valid_cuts s.args.set.now s.requires)
