-- The operation on the members, by the cuts of what both sets share.
use mathlib.Core.Bool.{◌&&◌}
use Rattle.runs.specs.Set.{member}
use Rattle.runs.proofs.laws.Set.{makes_lists}
use Rattle.runset.proofs.RunSet.and.Goals as goal

pub returns : goal.returns
unfolding member
returns c = makes_lists ◌&&◌ _ _ c.cuts_of.ensures c.cuts_of-2.ensures c.intersect.ensures
