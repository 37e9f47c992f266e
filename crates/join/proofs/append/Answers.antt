-- Run by run: what is stored, with what is left, is always the same.
use Prim.Native.Nat.{◌-◌}
use mathlib.Core.Path.{◌≡◌, sym, subst}
use native.Mathlib.Omega.{arith}
use lib.ListN.{length}
use Rattle.join.specs.inner.Join.{Appended}
use Rattle.join.proofs.laws.Join.{whole_runs}
use Rattle.runs.proofs.laws.Place.{two_left}
use Rattle.join.proofs.laws.Remainder.{Appending, appending_on, appended}
use borrow.Author.Rules.{rules}
use Rattle.join.proofs.append.Goals as goal

pub bounds-l-from-in-loop-from : goal.bounds-l-from-in-loop-from
bounds-l-from-in-loop-from c =
    omega (arith, two_left c.args.l.now c.loop-from.from (whole_runs c.loop-from.invariant.0.left) c.loop-from-test.true)

pub loop-from-preserved : goal.loop-from-preserved
loop-from-preserved c =
    (appending_on c.args.l.now c.args.i c.args.set.now c.args.n c.loop-from.from c.loop-from.at c.loop-from.set c.loop-from.invariant.0 c.loop-from-test.true (omega (arith, c.loop-from.invariant.0.count, c.requires.1, c.requires.3, c.loop-from-test.true, two_left c.args.l.now c.loop-from.from (whole_runs c.loop-from.invariant.0.left) c.loop-from-test.true)) _ c.store.ensures.0, omega (arith, c.loop-from.invariant.1, c.store.ensures.1))

pub returns : goal.returns
returns c =
    subst (Appended c.args.l.now c.args.i c.args.set.now c.args.n c.loop-from.set) (sym c.loop-from.invariant.1) (appended c.args.l.now c.args.i c.args.set.now c.args.n c.loop-from.from c.loop-from.at c.loop-from.set c.loop-from.invariant.0 c.loop-from-test.false)
