-- A record at or before the after-time changes nothing; another is weighed.
use Rattle.std.proofs.Common.{ℕ, ◌<◌, ap, ◌∙◌, subst, arith}
use Rattle.number.specs.Axis.{axis}
use Rattle.meaning.specs.inner.Truth.{coded_at}
use Rattle.meaning.specs.inner.Coded.{coded}
use Rattle.leaves.specs.inner.Extreme.{farther}
use Rattle.leaves.proofs.laws.Extreme.{pass_over, pass_by}
use Rattle.recording.specs.Reading.{curve_of}
use Rattle.leaves.proofs.extremes.pass.Goals as goal

pub time_at-requires : goal.time_at-requires
time_at-requires c = let s = c in (s.requires.0, s.requires.1)

pub returns-then-time_at-after : goal.returns-then-time_at-after
returns-then-time_at-after c =
    pass_over c.args.up (curve_of c.args.curve) c.args.after (coded_at (coded c.args.rec.now) c.args.i) c.args.m (omega (arith, c.time_at.ensures.0, c.if-time_at-after.true))

pub value_at-requires : goal.value_at-requires
value_at-requires c = c.requires

pub returns : goal.returns
returns c =
    pass_by c.args.up (curve_of c.args.curve) c.args.after (coded_at (coded c.args.rec.now) c.args.i) c.args.m c.farther.result
    (omega (arith, c.time_at.ensures.0, c.if-time_at-after.false)) (subst (λ (k : ℕ). k < axis) c.value_at.ensures.0 c.value_at.ensures.1)
    (c.farther.ensures ∙ ap (farther c.args.up c.args.m) c.value_at.ensures.0)
