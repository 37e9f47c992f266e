-- The call tells its outcome, and the page is that of the outcome.
use Prim.Native.Nat.{ℕ}
use Rattle.page.specs.Page.{page}
use Rattle.page.proofs.laws.Page.{set-fits}
use Rattle.page.specs.Printed.{set_room, printed}
use Rattle.page.proofs.laws.Printed.{told_refusal, told-set, told-within, puts_prints, prints_within}
use Rattle.question.specs.Question.{question_of}
use lib.ListN.{take}
use lib.Seq.{length-take-le}
use mathlib.Core.List.{List}
use mathlib.Core.Path.{ap, sym, ◌∙◌}
use native.Mathlib.Omega.{arith}
use Rattle.page.proofs.call.answer.Goals as goal

pub refusal_page-requires : goal.refusal_page-requires
refusal_page-requires c = omega (arith, c.refusal_page-arg-1.given.0.1)

pub slice_bounds-set-end : goal.slice_bounds-set-end
slice_bounds-set-end c = told-within _ _ _ _ c.question-written.ensures _ c.in-Ok.is

pub slice_bounds-set_page-end-in-Ok : goal.slice_bounds-set_page-end-in-Ok
slice_bounds-set_page-end-in-Ok c = sym (length-take-le _ _ (told-within _ _ _ _ c.question-written.ensures _ c.in-Ok.is))

pub set_page-requires : goal.set_page-requires
set_page-requires c =
    let within = told-within _ _ _ _ c.question-written.ensures c.in-Ok.size c.in-Ok.is in
    omega (arith, c.set_page-arg-1.given.0.1, set-fits (take c.in-Ok.size c.question-written.new.out) (omega (arith, length-take-le c.in-Ok.size c.question-written.new.out within, c.question-written.auto.out)))

pub returns-in-Err : goal.returns-in-Err
returns-in-Err c =
    let e = told_refusal _ _ _ _ c.question-written.ensures _ c.in-Err.is ∙ ap (λ (t : List ℕ). question_of c.args.rec.now t set_room) c.text_length-n.ensures.0 in
    let p = puts_prints _ (printed c.args.rec.now c.args.typed.now) c.args.page.now _ _ (ap page e) c.refusal_page.ensures in
    let w = prints_within _ _ _ _ p in
    record { prints = p; prefix_len = (w, sym (length-take-le _ _ w)) }

pub returns-in-Ok : goal.returns-in-Ok
returns-in-Ok c =
    let e = told-set _ _ _ _ c.question-written.ensures _ c.in-Ok.is ∙ ap (λ (t : List ℕ). question_of c.args.rec.now t set_room) c.text_length-n.ensures.0 in
    let p = puts_prints _ (printed c.args.rec.now c.args.typed.now) c.args.page.now _ _ (ap page e) c.set_page.ensures in
    let w = prints_within _ _ _ _ p in
    record { prints = p; prefix_len = (w, sym (length-take-le _ _ w)) }
