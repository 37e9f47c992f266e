-- One test for all numbers.
use Rattle.std.proofs.Common.{ℕ, eqb, ap, ◌∙◌}
use Rattle.meaning.specs.inner.Truth.{coded_at}
use Rattle.meaning.specs.inner.Coded.{coded}
use Rattle.recording.specs.Reading.{Curve}
use Rattle.meaning.specs.inner.Coded.{coded_slope}
use Rattle.leaves.proofs.atoms.sloped.Goals as goal

pub slope_at-requires : goal.slope_at-requires
slope_at-requires c = let s = c in (s.requires.0, s.requires.1, c.curve.ensures.0)

pub returns : goal.returns
returns c =
    ap (λ (x : ℕ). eqb x c.args.slope) (c.slope_at.ensures
    ∙ ap (λ (k : Curve). coded_slope k (coded_at (coded c.args.rec.now) c.args.i)) c.curve.ensures.1)
