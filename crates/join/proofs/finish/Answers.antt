-- The open run with all that it meets, and the rest as it is: one list of cuts, and as many stores as runs.
use mathlib.Core.Path.{refl}
use native.Mathlib.Omega.{arith}
use Rattle.join.proofs.laws.Join.{rest-any}
use Rattle.join.proofs.laws.Remainder.{finish_over, finish_all, run_size}
use Rattle.join.proofs.finish.Goals as goal

pub extend-run-requires : goal.extend-run-requires
extend-run-requires c = let s = c in (rest-any s.args.low s.args.l.now s.args.i s.requires.0.left, s.requires.0.on-axis, s.requires.1)

pub returns-then-all-gt-CUTS : goal.returns-then-all-gt-CUTS
returns-then-all-gt-CUTS c =
    finish_over c.args.set.now c.args.n c.args.low c.args.end c.args.l.now c.args.i c.requires.0 _ c.extend-run.ensures c.if-all-gt-CUTS.true

pub append-requires : goal.append-requires
append-requires c =
    let o = run_size c.args.set.now c.args.n c.args.low c.args.end c.args.l.now c.args.i c.requires.0 _ c.extend-run.ensures _ c.store.ensures.0 in
    (rest-any _ c.args.l.now _ c.extend-run.ensures.left, o, c.requires.1, omega (arith, c.extend-run.ensures.left.place, c.if-all-gt-CUTS.false), omega (arith, c.requires.2, c.store.ensures.1))

pub returns : goal.returns
returns c =
    finish_all c.args.set.now c.args.n c.args.low c.args.end c.args.l.now c.args.i c.requires.0 _ c.extend-run.ensures _ refl c.if-all-gt-CUTS.false _ c.store.ensures.0 _ _ c.append.ensures
