-- The invariant: all runs passed meet the open one.
use native.Mathlib.Omega.{arith}
use Rattle.join.proofs.laws.Join.{whole_runs}
use Rattle.runs.proofs.laws.Place.{two_left}
use Rattle.join.proofs.laws.Remainder.{reaching_on}
use Rattle.join.proofs.extend.Goals as goal

pub bounds-l-at-in-loop-at : goal.bounds-l-at-in-loop-at
bounds-l-at-in-loop-at c =
    omega (arith, two_left c.args.l.now c.loop-at.at (whole_runs c.loop-at.invariant.left) c.loop-at-test.true)

pub loop-at-preserved : goal.loop-at-preserved
loop-at-preserved c =
    reaching_on c.args.l.now c.args.i c.args.end c.loop-at.at c.loop-at.far c.loop-at.invariant c.loop-at-test.true c.if-far-l.false _ c.greater-far.ensures
