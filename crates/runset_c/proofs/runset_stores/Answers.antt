-- Refused bytes, or what the joining of the two sets counted.
use Rattle.std.proofs.Common.{sym, refl, ◌∙◌}
use Rattle.number.proofs.laws.Boolean.{or_left, or_right}
use Rattle.runset_c.specs.Bytes.{unfit}
use Rattle.runset_c.proofs.Delivery.{fine, stores_refused, stores_over, stores_said}
use Rattle.runset_c.proofs.runset_stores.Goals as goal

pub returns-then-is_err : goal.returns-then-is_err
returns-then-is_err c = let g = c.args in stores_refused _ _ (or_left (unfit g.a.now) (unfit g.b.now) (sym c.load.ensures.flag ∙ (sym c.is_err.ensures.value ∙ c.if-is_err.true)))

pub returns-then-is_err-2 : goal.returns-then-is_err-2
returns-then-is_err-2 c = let g = c.args in stores_refused _ _ (or_right (unfit g.a.now) (unfit g.b.now) (sym c.load-2.ensures.flag ∙ (sym c.is_err-2.ensures.value ∙ c.if-is_err-2.true)))

pub join-requires : goal.join-requires
join-requires c = ((c.load.ensures.holds (sym c.is_err.ensures.value ∙ c.if-is_err.false)).valid, (c.load-2.ensures.holds (sym c.is_err-2.ensures.value ∙ c.if-is_err-2.false)).valid, refl)

pub returns-in-Ok : goal.returns-in-Ok
returns-in-Ok c =
    let lp = fine _ _ _ c.load.ensures (sym c.is_err.ensures.value ∙ c.if-is_err.false) in
    let lq = fine _ _ _ c.load-2.ensures (sym c.is_err-2.ensures.value ∙ c.if-is_err-2.false) in
    stores_said c.args.a.now c.args.b.now _ _ _ _ lp lq c.in-Ok.ensures

pub returns-in-Err : goal.returns-in-Err
returns-in-Err c =
    let lp = fine _ _ _ c.load.ensures (sym c.is_err.ensures.value ∙ c.if-is_err.false) in
    let lq = fine _ _ _ c.load-2.ensures (sym c.is_err-2.ensures.value ∙ c.if-is_err-2.false) in
    stores_over c.args.a.now c.args.b.now _ _ _ _ lp lq c.in-Err.ensures refl
