-- After i records m goes as far as the first i go.
use Rattle.std.proofs.Common.{◌<◌, length, take, sym, subst, arith}
use Rattle.meaning.specs.inner.Coded.{coded}
use Rattle.leaves.proofs.laws.Coding.{length-coded}
use Rattle.leaves.specs.inner.Extreme.{Extreme}
use Rattle.leaves.proofs.laws.Extreme.{extreme_start, extreme_turn, extreme_end}
use Rattle.recording.specs.Reading.{curve_of}
use Rattle.leaves.proofs.extremes.extreme.Goals as goal

pub loop-i-init : goal.loop-i-init
loop-i-init c =
    subst (Extreme c.args.up (curve_of c.args.curve) c.args.after (take 0 (coded c.args.rec.now))) (sym c.none-m.ensures)
    (extreme_start c.args.up (curve_of c.args.curve) c.args.after (coded c.args.rec.now))

pub pass-m-requires : goal.pass-m-requires
pass-m-requires c = let s = c in (s.requires.0, omega (arith, c.loop-i-test.true, length-coded s.args.rec.now), s.requires.1)

pub loop-i-preserved : goal.loop-i-preserved
loop-i-preserved c =
    let h : c.loop-i.i < length (coded c.args.rec.now) = omega (arith, c.loop-i-test.true, length-coded c.args.rec.now) in
    extreme_turn c.args.up (curve_of c.args.curve) c.args.after (coded c.args.rec.now) c.loop-i.i c.loop-i.m c.pass-m.result h c.loop-i.invariant c.pass-m.ensures

pub returns : goal.returns
returns c =
    extreme_end c.args.up (curve_of c.args.curve) c.args.after (coded c.args.rec.now) c.loop-i.i c.loop-i.m (omega (arith, c.loop-i-test.false, length-coded c.args.rec.now)) c.loop-i.invariant
