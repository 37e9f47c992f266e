-- By the nearest member.
use Rattle.runs.specs.Set.{member}
use Rattle.degree.proofs.laws.Call.{near_is}
use Rattle.degree.proofs.near_set.Goals as goal

pub returns : goal.returns
returns c = near_is (member c.args.set.now) c.args.index c.distance.result c.distance.ensures
