-- By the kind of the row.
use Rattle.std.proofs.Common.{subst, arith}
use Rattle.recording.specs.Reading.{Curve}
use Rattle.grammar.specs.Syntax as asks
use Rattle.grammar.specs.Syntax.{Text}
use Rattle.grammar.specs.inner.Kinds.{AMPL}
use Rattle.meaning.specs.inner.Truth.{val, truth}
use Rattle.meaning.specs.inner.Coded.{coded}
use Rattle.leaves.specs.inner.Span.{Spans}
use Rattle.leaves.proofs.laws.Leaf.{by_kind}
use Rattle.leaves.proofs.amplitude.Goals as goal

pub ampl-requires : goal.ampl-requires
ampl-requires c = let s = c in (s.requires.0.accepted, omega (arith, s.requires.0.index), c.curve.ensures.0)

pub returns : goal.returns
unfolding val
returns c =
    by_kind (λ (p : Text). Spans (λ v. val (coded c.args.rec.now) v p c.args.i) c.ampl.result) c.args.row AMPL c.requires.1
    (subst (λ (k : Curve). Spans (λ v. truth (asks.ampl k) (coded c.args.rec.now) v) c.ampl.result) c.curve.ensures.1 c.ampl.ensures)
