-- `behind` meets its contract. The last difference of those that are seen is the greatest.
use Prim.Native.Nat.{◌-◌}
use native.Mathlib.Omega.{arith}
use Rattle.differences.proofs.RowLaws.{behind_none, behind_last}
use Rattle.differences.proofs.behind.Goals as goal

pub returns-then-stop-start : goal.returns-then-stop-start
returns-then-stop-start c =
    behind_none c.args.b.now c.requires.1 c.args.s c.args.x c.args.start c.args.stop c.requires.0 c.requires.2 c.requires.3 c.requires.4 c.if-stop-start.true

pub overflow_sub-stop : goal.overflow_sub-stop
overflow_sub-stop c = omega (arith, c.if-stop-start.false)

pub bounds-b-stop : goal.bounds-b-stop
bounds-b-stop c = omega (arith, c.if-stop-start.false, c.requires.3.within)

pub difference-requires : goal.difference-requires
difference-requires c =
    (c.requires.0, (c.requires.1.least (c.args.stop - 1) (omega (arith, c.if-stop-start.false, c.requires.3.within)), c.requires.1.most (c.args.stop - 1) (omega (arith, c.if-stop-start.false, c.requires.3.within))))

pub overflow_add-result : goal.overflow_add-result
overflow_add-result c =
    omega (arith, c.difference.ensures, c.requires.0.0, c.requires.1.most (c.args.stop - 1) (omega (arith, c.if-stop-start.false, c.requires.3.within)))

pub returns : goal.returns
returns c =
    behind_last c.args.b.now c.requires.1 c.args.s c.args.x c.args.start c.args.stop c.requires.0 c.requires.2 c.requires.3 c.requires.4
    c.if-stop-start.false c.difference.result c.difference.ensures
