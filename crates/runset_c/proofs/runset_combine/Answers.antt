-- Refused bytes, or what the operation on the three sets delivers.
use Rattle.std.proofs.Common.{sym, refl, ◌∙◌}
use Rattle.runset_c.specs.Bytes.{unfit, unfit_any, asked}
use Rattle.runset_c.proofs.Delivery.{refused_both, first_refused, second_refused, third_refused, fine, none_refused, made-asked, all_delivered}
use Rattle.runset_c.proofs.runset_combine.Goals as goal

pub returns-then-is_err : goal.returns-then-is_err
returns-then-is_err c =
    refused_both (unfit_any c.args.a.now c.args.b.now c.args.c.now) (asked c.args.op c.args.a.now c.args.b.now c.args.c.now) c.args.out.now (first_refused (unfit c.args.a.now) (unfit c.args.b.now) (unfit c.args.c.now) (sym c.load.ensures.flag ∙ (sym c.is_err.ensures.value ∙ c.if-is_err.true)))

pub returns-then-is_err-2 : goal.returns-then-is_err-2
returns-then-is_err-2 c =
    refused_both (unfit_any c.args.a.now c.args.b.now c.args.c.now) (asked c.args.op c.args.a.now c.args.b.now c.args.c.now) c.args.out.now (second_refused (unfit c.args.a.now) (unfit c.args.b.now) (unfit c.args.c.now) (sym c.load-2.ensures.flag ∙ (sym c.is_err-2.ensures.value ∙ c.if-is_err-2.true)))

pub returns-then-is_err-3 : goal.returns-then-is_err-3
returns-then-is_err-3 c =
    refused_both (unfit_any c.args.a.now c.args.b.now c.args.c.now) (asked c.args.op c.args.a.now c.args.b.now c.args.c.now) c.args.out.now (third_refused (unfit c.args.a.now) (unfit c.args.b.now) (unfit c.args.c.now) (sym c.load-3.ensures.flag ∙ (sym c.is_err-3.ensures.value ∙ c.if-is_err-3.true)))

pub combine-made-requires : goal.combine-made-requires
combine-made-requires c = ((c.load.ensures.holds (sym c.is_err.ensures.value ∙ c.if-is_err.false)).valid, (c.load-2.ensures.holds (sym c.is_err-2.ensures.value ∙ c.if-is_err-2.false)).valid, (c.load-3.ensures.holds (sym c.is_err-3.ensures.value ∙ c.if-is_err-3.false)).valid, refl, refl)

pub deliver-requires : goal.deliver-requires
deliver-requires c = λ o. (c.combine-made.ensures.holds o).valid

pub returns : goal.returns
returns c =
    let lp = fine _ _ _ c.load.ensures (sym c.is_err.ensures.value ∙ c.if-is_err.false) in
    let lq = fine _ _ _ c.load-2.ensures (sym c.is_err-2.ensures.value ∙ c.if-is_err-2.false) in
    let lr = fine _ _ _ c.load-3.ensures (sym c.is_err-3.ensures.value ∙ c.if-is_err-3.false) in
    all_delivered (unfit_any c.args.a.now c.args.b.now c.args.c.now) (asked c.args.op c.args.a.now c.args.b.now c.args.c.now) _ _ c.args.out.now _ _ (none_refused c.args.a.now c.args.b.now c.args.c.now _ _ _ lp lq lr) (made-asked c.args.op c.args.a.now c.args.b.now c.args.c.now _ _ _ _ _ lp lq lr c.combine-made.ensures) c.deliver.ensures
