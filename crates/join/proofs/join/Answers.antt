-- The invariant: the runs before the open one are stored, those behind it are still in the lists.
use mathlib.Core.Path.{refl}
use native.Mathlib.Omega.{arith}
use Rattle.join.proofs.laws.Join.{joining_start, joins_none, place_right, left_any, right_any, joins_left, joins_right, joining_meet, joining_full, joining_apart}
use Rattle.join.proofs.join.Goals as goal

pub returns-then-a-b-eq0 : goal.returns-then-a-b-eq0
returns-then-a-b-eq0 c = let s = c in joins_none s.args.a.now s.args.b.now s.args.set.now s.requires.4 c.if-a-b-eq0.true

pub loop-run-init : goal.loop-run-init
loop-run-init c = let s = c in (joining_start s.args.a.now s.args.b.now s.args.set.now s.requires.4 _ c.next-run.ensures, refl)

pub returns-then-run-b : goal.returns-then-run-b
returns-then-run-b c =
    joins_left c.args.a.now c.args.b.now c.loop-run.set c.loop-run.n c.loop-run.run c.loop-run.invariant.0 c.if-run-b.true _ _ c.finish.ensures

pub next-r-requires : goal.next-r-requires
next-r-requires c =
    (left_any c.args.a.now c.args.b.now c.loop-run.set c.loop-run.n c.loop-run.run c.loop-run.invariant.0, right_any c.args.a.now c.args.b.now c.loop-run.set c.loop-run.n c.loop-run.run c.loop-run.invariant.0, omega (arith, c.loop-run-test.true, place_right c.args.a.now c.args.b.now c.loop-run.set c.loop-run.n c.loop-run.run c.loop-run.invariant.0), c.requires.2, c.requires.3)

pub loop-run-preserved-then-r-run : goal.loop-run-preserved-then-r-run
loop-run-preserved-then-r-run c =
    (joining_meet c.args.a.now c.args.b.now c.loop-run.set c.loop-run.n c.loop-run.run c.loop-run.invariant.0 _ c.next-r.ensures c.if-r-run.true _ c.greater-end.ensures, c.loop-run.invariant.1)

pub returns-then-n-eq-MOST_RUNS : goal.returns-then-n-eq-MOST_RUNS
returns-then-n-eq-MOST_RUNS c =
    joining_full c.args.a.now c.args.b.now c.loop-run.set c.loop-run.n c.loop-run.run c.loop-run.invariant.0 _ c.next-r.ensures c.if-r-run.false c.if-n-eq-MOST_RUNS.true

pub loop-run-preserved : goal.loop-run-preserved
loop-run-preserved c =
    (joining_apart c.args.a.now c.args.b.now c.loop-run.set c.loop-run.n c.loop-run.run c.loop-run.invariant.0 _ c.next-r.ensures c.if-r-run.false c.if-n-eq-MOST_RUNS.false _ c.close.ensures.0, omega (arith, c.loop-run.invariant.1, c.close.ensures.1))

pub returns : goal.returns
returns c =
    joins_right c.args.a.now c.args.b.now c.loop-run.set c.loop-run.n c.loop-run.run c.loop-run.invariant.0 c.loop-run-test.false _ _ c.finish-2.ensures
