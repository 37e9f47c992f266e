-- The span is the ray itself.
use Rattle.leaves.proofs.laws.Span.{spans_upto}
use Rattle.leaves.proofs.span.upto.Goals as goal

pub returns : goal.returns
returns c = spans_upto c.args.high c.requires
