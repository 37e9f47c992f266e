-- Below 0 there is nothing.
use Rattle.std.proofs.Common.{ltb, sym, ap, arith}
use Rattle.leaves.proofs.laws.Span.{spans_ext, spans_low, spans_below}
use Rattle.leaves.proofs.span.below.Goals as goal

pub returns-then-x-eq0 : goal.returns-then-x-eq0
returns-then-x-eq0 c = spans_ext _ _ _ (λ v h. ap (ltb v) (sym c.if-x-eq0.true)) spans_low

pub returns : goal.returns
returns c = spans_below c.args.x (omega arith) c.requires
