-- Lists of two cuts are one run each.
use Rattle.merge.proofs.laws.OneRun.{shared_by_cuts}
use Rattle.merge.proofs.run.of_two.Goals as goal

pub returns : goal.returns
returns c =
    record { cuts = shared_by_cuts c.args.a.now c.args.b.now _ _ c.requires.0 c.requires.1 c.if-a-ne2.false c.if-b-ne2.false c.max.ensures c.min.ensures }
