-- Refused bytes, or the sum for the operation on the three sets.
use Rattle.std.proofs.Common.{Bool, sym, ap, ◌∙◌}
use Rattle.runset_c.specs.Bytes.{unfit, unfit_any, asked, repeat_reply}
use Rattle.runset_c.proofs.Delivery.{first_refused, second_refused, third_refused, fine, none_refused, asked_is}
use Rattle.runset_c.proofs.Repetition.{refused_repeat, repeat_ext}
use Rattle.runset_c.proofs.runset_repeat.Goals as goal

pub returns-then-is_err : goal.returns-then-is_err
returns-then-is_err c =
    refused_repeat (unfit_any c.args.a.now c.args.b.now c.args.c.now) (asked c.args.op c.args.a.now c.args.b.now c.args.c.now) c.args.times (first_refused (unfit c.args.a.now) (unfit c.args.b.now) (unfit c.args.c.now) (sym c.load.ensures.flag ∙ (sym c.is_err.ensures.value ∙ c.if-is_err.true)))

pub returns-then-is_err-2 : goal.returns-then-is_err-2
returns-then-is_err-2 c =
    refused_repeat (unfit_any c.args.a.now c.args.b.now c.args.c.now) (asked c.args.op c.args.a.now c.args.b.now c.args.c.now) c.args.times (second_refused (unfit c.args.a.now) (unfit c.args.b.now) (unfit c.args.c.now) (sym c.load-2.ensures.flag ∙ (sym c.is_err-2.ensures.value ∙ c.if-is_err-2.true)))

pub returns-then-is_err-3 : goal.returns-then-is_err-3
returns-then-is_err-3 c =
    refused_repeat (unfit_any c.args.a.now c.args.b.now c.args.c.now) (asked c.args.op c.args.a.now c.args.b.now c.args.c.now) c.args.times (third_refused (unfit c.args.a.now) (unfit c.args.b.now) (unfit c.args.c.now) (sym c.load-3.ensures.flag ∙ (sym c.is_err-3.ensures.value ∙ c.if-is_err-3.true)))

pub repeated-requires : goal.repeated-requires
repeated-requires c = ((c.load.ensures.holds (sym c.is_err.ensures.value ∙ c.if-is_err.false)).valid, (c.load-2.ensures.holds (sym c.is_err-2.ensures.value ∙ c.if-is_err-2.false)).valid, (c.load-3.ensures.holds (sym c.is_err-3.ensures.value ∙ c.if-is_err-3.false)).valid)

pub returns : goal.returns
returns c =
    let lp = fine _ _ _ c.load.ensures (sym c.is_err.ensures.value ∙ c.if-is_err.false) in
    let lq = fine _ _ _ c.load-2.ensures (sym c.is_err-2.ensures.value ∙ c.if-is_err-2.false) in
    let lr = fine _ _ _ c.load-3.ensures (sym c.is_err-3.ensures.value ∙ c.if-is_err-3.false) in
    c.repeated.ensures ∙ repeat_ext _ (asked c.args.op c.args.a.now c.args.b.now c.args.c.now) (asked_is c.args.op c.args.a.now c.args.b.now c.args.c.now _ _ _ lp lq lr) c.args.times
    ∙ ap (λ (b : Bool). repeat_reply b (asked c.args.op c.args.a.now c.args.b.now c.args.c.now) c.args.times) (sym (none_refused c.args.a.now c.args.b.now c.args.c.now _ _ _ lp lq lr))
