-- What `has` says of the loaded set.
use Rattle.std.proofs.Common.{Bool, cond, sym, ap, ◌∙◌}
use Rattle.runset_c.proofs.Delivery.{member_refused, member_off, member_said}
use Rattle.runset_c.proofs.runset_has.Goals as goal

pub returns-then-is_err : goal.returns-then-is_err
returns-then-is_err c = let g = c.args in member_refused g.a.now _ _ c.load.ensures g.v (sym c.is_err.ensures.value ∙ c.if-is_err.true)

pub returns-then-v-ge-AXIS : goal.returns-then-v-ge-AXIS
returns-then-v-ge-AXIS c = let g = c.args in member_off g.a.now _ _ c.load.ensures g.v (sym c.is_err.ensures.value ∙ c.if-is_err.false) c.if-v-ge-AXIS.true

pub has-requires : goal.has-requires
has-requires c = (c.load.ensures.holds (sym c.is_err.ensures.value ∙ c.if-is_err.false)).valid

pub returns-then-has : goal.returns-then-has
returns-then-has c =
    ap (λ (b : Bool). cond b 1 0) (sym c.if-has.true) ∙ member_said c.args.a.now _ _ c.load.ensures c.args.v (sym c.is_err.ensures.value ∙ c.if-is_err.false) c.if-v-ge-AXIS.false c.has.result c.has.ensures

pub returns : goal.returns
returns c =
    ap (λ (b : Bool). cond b 1 0) (sym c.if-has.false) ∙ member_said c.args.a.now _ _ c.load.ensures c.args.v (sym c.is_err.ensures.value ∙ c.if-is_err.false) c.if-v-ge-AXIS.false c.has.result c.has.ensures
