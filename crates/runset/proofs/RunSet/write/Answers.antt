-- The invariant: the first i runs stand in front of what was there.
use Prim.Native.Nat.{◌*◌, ◌<◌}
use mathlib.Core.Path.{◌∙◌}
use native.Mathlib.Omega.{arith}
use Rattle.runs.specs.Runs.{run_count}
use Rattle.runs.specs.Set.{member}
use Rattle.slot.proofs.laws.Bytes.{put-length}
use Rattle.runset.proofs.Reading.{run, next-run, all_runs}
use Rattle.runset.proofs.RunSet.write.Goals as goal

pub put_bytes-requires : goal.put_bytes-requires
put_bytes-requires c =
    let h : c.loop-i.i < run_count (member c.args.set.now) = omega (arith, c.count-i-end.ensures, c.loop-i-test.true) in
    let r = run c.args.set.now c.requires.0 c.loop-i.i h in
    (omega (arith, c.requires.1, c.loop-i.invariant.0), omega (arith, c.low.ensures, r.order, r.top), omega (arith, c.high.ensures, r.top))

pub loop-i-preserved : goal.loop-i-preserved
loop-i-preserved c =
    let h : c.loop-i.i < run_count (member c.args.set.now) = omega (arith, c.count-i-end.ensures, c.loop-i-test.true) in (
      put-length c.loop-i.out _ (8 * c.loop-i.i) c.low.result c.high.result (omega (arith, c.requires.1, c.loop-i.invariant.0)) c.put_bytes.ensures ∙ c.loop-i.invariant.0,
      next-run (member c.args.set.now) c.loop-i.i _ c.loop-i.out _ _ _ h c.loop-i.invariant.1 c.low.ensures c.high.ensures c.put_bytes.ensures,
    )

pub returns : goal.returns
returns c =
    all_runs (member c.args.set.now) c.loop-i.i _ _ (omega (arith, c.count-i-end.ensures, c.loop-i-test.false, c.loop-i.invariant.0)) c.loop-i.invariant.1
