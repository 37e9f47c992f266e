-- `sweep` meets its contract. The invariant: the neighbours before place i are done.
use Prim.Native.Nat.{◌-◌}
use native.Mathlib.Omega.{arith}
use native.Mathlib.Numerals.{add-one}
use Rattle.differences.proofs.SweepLaws.{steps-start, steps-more, steps-end, single, single-times}
use Rattle.differences.proofs.NeighboursPairs.sweep.Goals as goal

pub loop-i-init : goal.loop-i-init
loop-i-init c = steps-start c.args.self.now.t.now c.args.x c.args.w.now c.requires.1 c.requires.2

pub sweep_row-r-requires : goal.sweep_row-r-requires
sweep_row-r-requires c =
    ((c.requires.0.least (c.loop-i.i - 1) (omega (arith, c.loop-i-test.true)), c.requires.0.most (c.loop-i.i - 1) (omega (arith, c.loop-i-test.true))), single-times c.args.self.now.t.now c.requires.0 c.loop-i.i c.loop-i-test.true, omega arith, (λ l m n. absurd (omega arith)), c.requires.1, c.loop-i.invariant.seen.long)

pub loop-i-preserved : goal.loop-i-preserved
loop-i-preserved c =
    rw (add-one, c.max-end.ensures, c.min-next.ensures) (steps-more c.args.self.now.t.now c.args.x c.loop-i.i c.loop-i.end c.loop-i.next
    c.args.w.now c.loop-i.w _ c.loop-i.invariant c.loop-i-test.true c.sweep_row-r.result.end c.sweep_row-r.result.next _ (single c.args.self.now.t.now c.loop-i.i c.loop-i-test.true) (omega arith) c.sweep_row-r.ensures.1 c.sweep_row-r.ensures.2)

pub returns : goal.returns
returns c =
    steps-end c.args.self.now.t.now c.args.x c.loop-i.i c.loop-i.end c.loop-i.next c.args.w.now c.loop-i.w c.loop-i.invariant c.loop-i-test.false
