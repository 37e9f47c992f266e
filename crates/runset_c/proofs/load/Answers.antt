-- The invariant: the set has the members of the first i runs, and these are fit.
use Rattle.std.proofs.Common.{◌+◌, ◌/◌, ◌≤◌, length, sym, refl, arith}
use Rattle.runset_c.proofs.Loading.{no_runs, next-over, next_runs, loaded_over, loaded_all}
use Rattle.runset_c.proofs.load.Goals as goal

pub loop-i-init : goal.loop-i-init
loop-i-init c = no_runs c.args.s.now _ c.empty.ensures

pub with_run-requires : goal.with_run-requires
with_run-requires c = c.loop-i.invariant.1.valid

pub returns-in_err-with_run : goal.returns-in_err-with_run
returns-in_err-with_run c =
    let h : c.loop-i.i + 1 ≤ length c.args.s.now / 8 = omega (arith, c.loop-i-test.true) in
    rw c.from_residual.ensures.0
    (loaded_over c.args.s.now (c.loop-i.i + 1) _ h
    (next-over c.args.s.now c.loop-i.i _ _ c.loop-i.set _ _ c.loop-i.invariant.0 c.loop-i.invariant.1 c.index_at-low.ensures c.index_at-high.ensures c.in_err-with_run.ensures))

pub loop-i-preserved : goal.loop-i-preserved
loop-i-preserved c = (
  sym (next-over c.args.s.now c.loop-i.i _ _ c.loop-i.set _ _ c.loop-i.invariant.0 c.loop-i.invariant.1 c.index_at-low.ensures c.index_at-high.ensures c.in_ok-with_run.ensures),
  next_runs c.args.s.now c.loop-i.i _ _ c.loop-i.set _ _ c.loop-i.invariant.0 c.loop-i.invariant.1 c.index_at-low.ensures c.index_at-high.ensures c.in_ok-with_run.ensures refl,
)

pub returns : goal.returns
returns c =
    loaded_all c.args.s.now c.loop-i.i c.loop-i.set (omega (arith, c.loop-i-test.false, c.loop-i.auto.i-end)) c.loop-i.invariant.0 c.loop-i.invariant.1
