-- `add_seen` meets its contract.
use Rattle.differences.proofs.TurnLaws.{one_more, none_more}
use Rattle.differences.proofs.add_seen.Goals as goal

pub returns-then-seen : goal.returns-then-seen
returns-then-seen c =
    one_more c.args.set.now _ c.args.d c.args.seen c.add.result c.if-seen.true c.add.ensures

pub returns : goal.returns
returns c =
    none_more c.args.set.now c.args.d c.args.seen c.if-seen.false c.requires.0
