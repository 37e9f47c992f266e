-- `first` meets its contract. The invariant: the times before place j, minus s, are under x.
use native.Mathlib.Omega.{arith}
use Rattle.differences.proofs.RowLaws.{parts-end, parts_here, under_more}
use Rattle.differences.proofs.first.Goals as goal

pub loop-j-init : goal.loop-j-init
loop-j-init c = c.requires.3

pub difference-requires : goal.difference-requires
difference-requires c =
    (c.requires.0, (c.requires.1.least c.loop-j.j c.loop-j-test.true, c.requires.1.most c.loop-j.j c.loop-j-test.true))

pub returns-then-x-difference : goal.returns-then-x-difference
returns-then-x-difference c =
    parts_here c.args.b.now c.requires.1 c.args.s c.args.x c.loop-j.j c.loop-j.invariant c.loop-j-test.true
    c.difference.result c.difference.ensures c.if-x-difference.true

pub loop-j-preserved : goal.loop-j-preserved
loop-j-preserved c =
    under_more c.args.b.now c.requires.1 c.args.s c.args.x c.loop-j.j c.loop-j.invariant c.loop-j-test.true
    c.difference.result c.difference.ensures c.if-x-difference.false

pub returns : goal.returns
returns c =
    parts-end c.args.b.now c.requires.1 c.args.s c.args.x _ (λ l m n. c.loop-j.invariant l (omega (arith, c.loop-j-test.false)) n) (omega arith) (omega arith)
