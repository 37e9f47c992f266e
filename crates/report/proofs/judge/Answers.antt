-- `report::judge` meets its contract. Assumes nothing.
use Rattle.report.proofs.laws.Running.{counted-last, counted_taken}
use Rattle.report.proofs.judge.Goals as goal

pub returns-then-r : goal.returns-then-r
returns-then-r c =
    counted-last c.args.r c.if-r.true

pub returns : goal.returns
returns c =
    counted_taken c.args.r c.if-r.false
