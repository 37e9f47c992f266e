-- `sweep` meets its contract. The invariant: the times of a before place i are done, and those of b before `start` are under x from there on.
use native.Mathlib.Omega.{arith}
use native.Mathlib.Numerals.{add-one}
use Rattle.differences.proofs.SweepLaws.{rows_start, rows_more, rows_end}
use Rattle.differences.proofs.AllPairsPairs.sweep.Goals as goal

pub loop-i-init : goal.loop-i-init
loop-i-init c = rows_start c.args.self.now.a.now c.args.self.now.b.now c.args.x c.args.w.now c.requires.1 c.requires.2

pub sweep_row-r-requires : goal.sweep_row-r-requires
sweep_row-r-requires c =
    ((c.requires.0.0.least c.loop-i.i c.loop-i-test.true, c.requires.0.0.most c.loop-i.i c.loop-i-test.true), c.requires.0.1, c.loop-i.invariant.placed, c.loop-i.invariant.under c.loop-i.i (omega arith) c.loop-i-test.true, c.requires.1, c.loop-i.invariant.seen.long)

pub loop-i-preserved : goal.loop-i-preserved
loop-i-preserved c =
    rw (add-one, c.max-end.ensures, c.min-next.ensures) (rows_more c.args.self.now.a.now c.args.self.now.b.now c.requires.0.0 c.args.x c.loop-i.i c.loop-i.start c.loop-i.end c.loop-i.next
    c.args.w.now c.loop-i.w _ c.loop-i.invariant c.loop-i-test.true c.sweep_row-r.result.start c.sweep_row-r.result.end c.sweep_row-r.result.next c.sweep_row-r.ensures.0 c.sweep_row-r.ensures.1 c.sweep_row-r.ensures.2)

pub returns : goal.returns
returns c =
    rows_end c.args.self.now.a.now c.args.self.now.b.now c.args.x c.loop-i.i c.loop-i.start c.loop-i.end c.loop-i.next c.args.w.now c.loop-i.w c.loop-i.invariant c.loop-i-test.false
