-- What `distance` says of the loaded set.
use Rattle.std.proofs.Common.{sym, ◌∙◌}
use Rattle.runset_c.proofs.Delivery.{distance_refused, distance_off, distance_said, distance_or}
use Rattle.runset_c.proofs.runset_distance.Goals as goal

pub returns-then-is_err : goal.returns-then-is_err
returns-then-is_err c = let g = c.args in distance_refused g.a.now _ _ c.load.ensures g.v (sym c.is_err.ensures.value ∙ c.if-is_err.true)

pub returns-then-v-ge-AXIS : goal.returns-then-v-ge-AXIS
returns-then-v-ge-AXIS c = let g = c.args in distance_off g.a.now _ _ c.load.ensures g.v (sym c.is_err.ensures.value ∙ c.if-is_err.false) c.if-v-ge-AXIS.true

pub distance-requires : goal.distance-requires
distance-requires c = ((c.load.ensures.holds (sym c.is_err.ensures.value ∙ c.if-is_err.false)).valid, c.if-v-ge-AXIS.false)

pub returns : goal.returns
returns c =
    distance_said c.args.a.now _ _ c.load.ensures c.args.v (sym c.is_err.ensures.value ∙ c.if-is_err.false) c.if-v-ge-AXIS.false _
    (distance_or _ c.args.v _ _ c.distance.ensures c.unwrap_or.ensures)
