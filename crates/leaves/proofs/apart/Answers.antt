-- Few tops, so that the set is made, and has too many runs or not.
use Rattle.meaning.specs.inner.Coded.{coded}
use Rattle.leaves.specs.inner.Leaf.{leaf_of}
use Rattle.leaves.proofs.laws.Differing.{made_runs, none_asked}
use Rattle.leaves.proofs.apart.Goals as goal

pub returns : goal.returns
returns c =
    made_runs _ _ _ (none_asked (coded c.args.rec.now) (leaf_of c.args.row) c.requires.0.few_tops) c.between_tops.result _ c.map_err.ensures.variant (c.between_tops.ensures c.args.i)
