-- Refused by 12, or by the text.
use Rattle.std.specs.Prelude.{Some, None, Result, Option}
use Rattle.std.proofs.Common.{sym, ap, ◌∙◌}
use Rattle.refusal.specs.declared.Refusal.{Refusal}
use Rattle.evaluation.specs.inner.Evaluation.{text_of}
use Rattle.meaning.specs.inner.Coded.{coded}
use Rattle.meaning.specs.inner.Truth.{val}
use Rattle.question.specs.Question.{set_lines}
use Rattle.targets.proofs.laws.Target.{placed-handed}
use Prim.Native.Nat.{ℕ}
use mathlib.Core.Bool.{Bool}
use mathlib.Core.List.{List}
use Rattle.refusal.specs.Outcome.{Line, result}
use Rattle.degree.specs.Degree.{reach_in, valued, reached_of}
use Rattle.degree.specs.inner.Reach.{mapped}
use Rattle.degree.proofs.laws.Call.{target_off, target_on, graded-lines}
use Rattle.std.proofs.lemmas.Result.{err_from_is_err_and}
use Rattle.degree.proofs.near_target.Goals as goal

pub near_text-requires : goal.near_text-requires
near_text-requires c =
    (c.requires, (placed-handed c.args.target c.ranges.target c.on_axis.result (Some c.in-Some.index) c.in-Some.is c.on_axis.ensures).1)

pub returns-in_default : goal.returns-in_default
returns-in_default c =
    target_off c.args.target (set_lines c.args.rec.now (text_of c.args.table.now c.args.count)) (λ n. val (coded c.args.rec.now) n (text_of c.args.table.now c.args.count) 0)
    (placed-handed c.args.target c.ranges.target c.on_axis.result None c.in_default.is c.on_axis.ensures)

pub returns-in_err-reached : goal.returns-in_err-reached
returns-in_err-reached c =
    let f : ℕ → Bool = λ n. val (coded c.args.rec.now) n (text_of c.args.table.now c.args.count) 0 in
    let lines : List Line = set_lines c.args.rec.now (text_of c.args.table.now c.args.count) in
    let p = err_from_is_err_and c.from_residual.result c.from_residual.ensures.1 in
    rw (p.1, p.2)
    (target_on c.args.target lines f c.in-Some.index
    (placed-handed c.args.target c.ranges.target c.on_axis.result (Some c.in-Some.index) c.in-Some.is c.on_axis.ensures) _
    (graded-lines c.near_text.result lines (reach_in f c.in-Some.index) _ c.near_text.ensures
    (sym (ap (λ (y : Result (Option ℕ) Refusal). mapped valued (reached_of y)) c.in_err-reached.was))))

pub returns : goal.returns
returns c =
    let f : ℕ → Bool = λ n. val (coded c.args.rec.now) n (text_of c.args.table.now c.args.count) 0 in
    let lines : List Line = set_lines c.args.rec.now (text_of c.args.table.now c.args.count) in
    target_on c.args.target lines f c.in-Some.index
    (placed-handed c.args.target c.ranges.target c.on_axis.result (Some c.in-Some.index) c.in-Some.is c.on_axis.ensures) _
    (graded-lines c.near_text.result lines (reach_in f c.in-Some.index) _ c.near_text.ensures
    (ap result c.graded.ensures ∙ sym (ap (λ (y : Result (Option ℕ) Refusal). mapped valued (reached_of y)) c.in_ok-reached.was)))
