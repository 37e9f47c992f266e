-- The first k are shifted, the others are as before.
use Rattle.std.proofs.Common.{arith}
use Rattle.leaves.proofs.laws.Indices.{shifting_start, shifting_turn}
use Rattle.leaves.proofs.times.shift.Goals as goal

pub loop-k-init : goal.loop-k-init
loop-k-init c = shifting_start c.args.times.now

pub bounds-times-k : goal.bounds-times-k
bounds-times-k c = omega (arith, c.loop-k.invariant.long)

pub overflow_add-times : goal.overflow_add-times
overflow_add-times c =
    omega (arith, c.loop-k.invariant.rest c.loop-k.k (omega arith), c.requires.1 c.loop-k.k c.loop-k-test.true)

pub bounds-times-k-in-loop-k : goal.bounds-times-k-in-loop-k
bounds-times-k-in-loop-k c = omega (arith, c.loop-k.invariant.long)

pub loop-k-preserved : goal.loop-k-preserved
loop-k-preserved c =
    shifting_turn c.args.times.now c.loop-k.k c.loop-k.times (omega (arith, c.requires.0, c.loop-k-test.true)) c.loop-k.invariant

pub shape_of-times : goal.shape_of-times
shape_of-times c = c.loop-k.invariant.long

pub returns : goal.returns
returns c =
    record { long = c.loop-k.invariant.long; shifted = λ k h. c.loop-k.invariant.shifted k (omega (arith, c.loop-k-test.false)) }
