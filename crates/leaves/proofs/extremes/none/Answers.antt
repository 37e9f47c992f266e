-- By the direction.
use Rattle.std.proofs.Common.{Bool, cond, sym, ap}
use Rattle.number.specs.Axis.{axis}
use Rattle.leaves.proofs.extremes.none.Goals as goal

pub returns-then-up : goal.returns-then-up
returns-then-up c = ap (λ (b : Bool). cond b 0 axis) (sym c.if-up.true)

pub returns-else-up : goal.returns-else-up
returns-else-up c = ap (λ (b : Bool). cond b 0 axis) (sym c.if-up.false)
