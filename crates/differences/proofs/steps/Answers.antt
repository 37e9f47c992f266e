-- `steps` meets its contract. Every difference lies from the low end of the axis on.
use Rattle.runs.proofs.laws.Set.{makes_ext}
use Rattle.differences.specs.inner.Sweep.{from}
use Rattle.differences.specs.inner.Times.{steps_of}
use Rattle.differences.proofs.GapLaws.{from_zero}
use Rattle.differences.proofs.steps.Goals as goal

pub returns : goal.returns
returns c =
    let f = steps_of c.args.t.now in
    makes_ext (from 0 f) f _ _ (λ v h. from_zero f v) c.collect.ensures
