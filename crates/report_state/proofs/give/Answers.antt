-- `report_state::give` meets its contract. Assumes nothing.
use Rattle.report_state.proofs.laws.Tell.{give_none, give_mean}
use borrow.Author.Rules.{rules}
use Rattle.report_state.proofs.give.Goals as goal

pub returns-then-r : goal.returns-then-r
returns-then-r c =
    give_none c.args.met.now c.args.empty.now c.args.distances.now c.args.mean.now c.args.r c.if-r.true

pub returns : goal.returns
returns c =
    give_mean c.args.met.now c.args.empty.now c.args.distances.now c.args.mean.now c.args.r c.if-r.false c.bits.result c.bits.ensures
