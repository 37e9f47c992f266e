-- The words of the slot take the set, the others stay.
use mathlib.Core.Path.{◌∙◌}
use native.Mathlib.Omega.{arith}
use lib.ListN.{length-drop}
use lib.Seq.{length-take-le}
use Rattle.runs.proofs.laws.Set.{holds_makes}
use Rattle.evaluation.proofs.laws.Slots.{across, across_is, made_in}
use Rattle.evaluation.proofs.slots.put.Goals as goal

pub copy-requires : goal.copy-requires
copy-requires c =
    (c.requires.0, length-take-le (across c.args.m) _ (simp length-drop (omega (arith, c.requires.1, c.requires.2, across_is c.args.m))) ∙ across_is c.args.m)

pub returns : goal.returns
returns c =
    made_in c.args.sets.now _ c.args.m c.requires.1 c.requires.2 c.copy.ensures.valid.size (across c.args.m) (across_is c.args.m) _ _ (holds_makes _ _ c.copy.ensures)
