-- The span is the ray itself.
use Rattle.leaves.proofs.laws.Span.{spans_from}
use Rattle.leaves.proofs.span.from.Goals as goal

pub returns : goal.returns
returns c = spans_from c.args.low
