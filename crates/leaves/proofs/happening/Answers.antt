-- The times of the event that the row asks for.
use Rattle.std.proofs.Common.{sym}
use Rattle.grammar.specs.Syntax.{Text}
use Rattle.runs.proofs.laws.Set.{makes_of}
use Rattle.meaning.specs.inner.Coded.{coded}
use Rattle.meaning.specs.inner.Truth.{val}
use Rattle.leaves.proofs.happening.Goals as goal

pub returns : goal.returns
unfolding val
returns c =
    makes_of (λ (p : Text) v. val (coded c.args.rec.now) v p c.args.i) _ _ (sym c.event_of.ensures.1) c.events.ensures
