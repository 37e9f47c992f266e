-- The second cut of the run lies one above its highest number.
use native.Mathlib.Omega.{arith}
use Rattle.runs.proofs.laws.Set.{valid_cuts}
use Rattle.runset.proofs.Reading.{run}
use Rattle.runset.proofs.RunSet.high.Goals as goal

pub overflow_mul-result : goal.overflow_mul-result
overflow_mul-result c = omega (arith, valid_cuts c.args.set.now c.requires.0, c.requires.0.few, c.requires.0.size)

pub overflow_add-result : goal.overflow_add-result
overflow_add-result c = omega (arith, valid_cuts c.args.set.now c.requires.0, c.requires.0.few, c.requires.0.size)

pub offset_bounds-set-run : goal.offset_bounds-set-run
offset_bounds-set-run c = omega (arith, valid_cuts c.args.set.now c.requires.0, c.requires.0.few, c.requires.0.size)

pub bounds-set-run : goal.bounds-set-run
bounds-set-run c = omega (arith, valid_cuts c.args.set.now c.requires.0, c.requires.0.few, c.requires.0.size)

pub overflow_sub-result : goal.overflow_sub-result
overflow_sub-result c = let s = c in omega (arith, (run s.args.set.now s.requires.0 s.args.run s.requires.1).end)

pub returns : goal.returns
returns c = let s = c in omega (arith, (run s.args.set.now s.requires.0 s.args.run s.requires.1).end)
