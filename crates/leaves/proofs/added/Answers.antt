-- The times of the additions that the row asks for.
use Rattle.std.proofs.Common.{sym, ap}
use Rattle.grammar.specs.Syntax.{Text}
use Rattle.grammar.specs.inner.Kinds.{DOSE}
use Rattle.runs.proofs.laws.Set.{makes_of}
use Rattle.meaning.specs.inner.Coded.{coded}
use Rattle.meaning.specs.inner.Truth.{val}
use Rattle.leaves.proofs.laws.Leaf.{leaf_at}
use Rattle.leaves.proofs.added.Goals as goal

pub returns : goal.returns
unfolding val
returns c =
    makes_of (λ (p : Text) v. val (coded c.args.rec.now) v p c.args.i) _ _ {a = leaf_at c.args.row DOSE} (sym (ap (leaf_at c.args.row) c.requires.1)) c.additions.ensures
