-- `gaps` meets its contract. A later time minus an earlier one is a difference over 0.
use Prim.Native.Nat.{suc}
use Rattle.number.specs.Axis.{origin}
use Rattle.runs.proofs.laws.Set.{makes_ext}
use Rattle.differences.specs.inner.Sweep.{from}
use Rattle.differences.specs.inner.Times.{lags_of, gaps_of}
use Rattle.differences.proofs.GapLaws.{gaps_are}
use Rattle.differences.proofs.gaps.Goals as goal

pub returns : goal.returns
returns c =
    makes_ext (from (suc origin) (lags_of c.args.t.now c.args.t.now)) (gaps_of c.args.t.now) _ _ (λ v h. gaps_are c.args.t.now c.requires.0 v) c.collect.ensures
