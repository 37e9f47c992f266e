-- By the distance.
use Rattle.degree.proofs.laws.Call.{grade_met, grade_short}
use borrow.Author.Rules.{rules}
use Rattle.degree.proofs.grade.Goals as goal

pub returns-then-d-eq0 : goal.returns-then-d-eq0
returns-then-d-eq0 c = grade_met c.args.d c.if-d-eq0.true

pub returns : goal.returns
returns c = grade_short c.args.d _ _ c.if-d-eq0.false c.distance_of-distance.ensures c.degree_of-degree.ensures
