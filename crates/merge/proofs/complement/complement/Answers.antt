-- A cut at the low end, those between, and one at the high end; of the two as many are counted as the set has not.
use Rattle.merge.proofs.laws.Complement.{complement_over, put_holds}
use Rattle.merge.proofs.complement.complement.Goals as goal

pub returns-then-all-gt-CUTS : goal.returns-then-all-gt-CUTS
returns-then-all-gt-CUTS c = let s = c in complement_over s.args.a.now s.requires.0 _ c.ends_of-ends.ensures _ c.if-all-gt-CUTS.true

pub returns : goal.returns
returns c =
    put_holds c.args.a.now c.requires.0 _ c.ends_of-ends.ensures c.args.set.now c.requires.2 c.if-all-gt-CUTS.false _ c.copy.ensures
