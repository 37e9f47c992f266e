-- `collect` meets its contract. The invariant: the set holds the part below x, and a turn may start at x.
use native.Mathlib.Omega.{arith}
use mathlib.Core.Path.{refl, sym, ◌∙◌}
use Rattle.runs.proofs.laws.Set.{makes_failed}
use Rattle.differences.specs.inner.Sweep.{from}
use Rattle.differences.proofs.GatherLaws.{gathered_below}
use Rattle.differences.proofs.TurnLaws.{turn-start, turn_on, turn_many, turn_end}
use Rattle.differences.proofs.collect.Goals as goal

pub loop-x-init : goal.loop-x-init
loop-x-init g c =
    (c.begin-x.ensures.0.begun, turn-start (g.P.Pairs.of c.args.pairs.now) c.args.low c.begin-x.result _ c.begin-x.ensures.0 c.empty.ensures, c.begin-x.ensures.1)

pub add_from-requires : goal.add_from-requires
add_from-requires g c =
    (c.requires.0, c.loop-x-test.true, c.loop-x.invariant.1.held.valid, gathered_below (from c.args.low (g.P.Pairs.of c.args.pairs.now)) c.loop-x.x c.loop-x.set c.loop-x.invariant.1, c.loop-x.invariant.2 c.loop-x-test.true)

pub shape_of-set-in_err-x : goal.shape_of-set-in_err-x
shape_of-set-in_err-x g c =
    c.add_from.auto.set ∙ c.loop-x.invariant.1.held.valid.size ∙ sym c.requires.2

pub returns-in_err-x : goal.returns-in_err-x
returns-in_err-x g c =
    makes_failed _ _ _ _ (turn_many (g.P.Pairs.of c.args.pairs.now) c.args.low c.loop-x.x c.loop-x.set _ _ c.loop-x.invariant.1 c.loop-x.invariant.0 c.in_err-x.ensures refl) c.from_residual.ensures.0

pub loop-x-smaller : goal.loop-x-smaller
loop-x-smaller g c = omega (arith, c.in_ok-x.ensures.on, c.in_ok-x.ensures.is, c.loop-x-test.true)

pub loop-x-preserved : goal.loop-x-preserved
loop-x-preserved g c =
    turn_on (g.P.Pairs.of c.args.pairs.now) c.args.low c.loop-x.x c.loop-x.set _ _ c.loop-x.invariant.1 c.loop-x.invariant.0 c.in_ok-x.ensures _ c.in_ok-x.ensures.is refl
    (g.P.Pairs.starts c.args.pairs.now) (g.met.P.Pairs.each_starts c.args.pairs.now)

pub shape_of-set : goal.shape_of-set
shape_of-set g c =
    c.loop-x.invariant.1.held.valid.size ∙ sym c.requires.2

pub returns : goal.returns
returns g c =
    turn_end (from c.args.low (g.P.Pairs.of c.args.pairs.now)) c.loop-x.x c.loop-x.set c.loop-x.invariant.1 c.loop-x-test.false
