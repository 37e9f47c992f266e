-- Two cuts, or none.
use Rattle.merge.proofs.laws.OneRun.{none_put, run-put}
use Rattle.merge.proofs.run.put.Goals as goal

pub returns-then-run : goal.returns-then-run
returns-then-run c = none_put c.args.run.low c.args.run.end c.args.out.now c.if-run.true

pub returns : goal.returns
returns c = run-put c.args.run.low c.args.run.end c.args.out.now c.if-run.false c.requires
