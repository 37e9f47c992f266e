-- Two cuts are one run; where high < low no number lies between.
use Rattle.runs.proofs.laws.Set.{run-held}
use Rattle.runset.proofs.RunSet.span.Goals as goal

pub returns : goal.returns
returns c =
    run-held c.args.low c.args.high c.if-high-low.false c.requires.0 c.args.set.now c.requires.1 _ c.put_run.ensures
