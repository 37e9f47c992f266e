-- The words of the slot.
use Rattle.evaluation.proofs.laws.Slots.{across, across_is, slot_is}
use Rattle.evaluation.proofs.slots.set_in.Goals as goal

pub returns : goal.returns
returns c = slot_is c.args.sets.now c.args.m (across c.args.m) (across_is c.args.m)
