-- `report::with_reached` meets its contract, by the cases of what was reached. Assumes nothing.
use Rattle.refusal.specs.declared.Refusal.{Refusal}
use Rattle.std.specs.Prelude.{ℕ, ◌≡◌, Result, Ok, Option, Some, None}
use mathlib.Core.Path.{sym, ap, subst, ◌∙◌}
use Rattle.degree.specs.Degree.{away, nowhere, reached_of}
use Rattle.report.specs.inner.Running.{Small, added_with}
use Rattle.report.proofs.laws.Running.{batch_added}
use Rattle.report.proofs.with_reached.Goals as goal

pub with_distance-next-requires : goal.with_distance-next-requires
with_distance-next-requires c =
    let d : c.in-Ok-Some.field-0 ≡ Some c.in-Ok-Some.d = rw c.in-Ok-Some.is at c.in-Ok-Some.field-0-is in
    (c.requires.0, subst (λ (x : Result (Option ℕ) Refusal). Small (reached_of x)) (c.in-Ok-Some.is ∙ ap Ok d) c.requires.1)

pub returns-in-Ok-Some : goal.returns-in-Ok-Some
returns-in-Ok-Some c =
    let d : c.in-Ok-Some.field-0 ≡ Some c.in-Ok-Some.d = rw c.in-Ok-Some.is at c.in-Ok-Some.field-0-is in
    batch_added c.args.r _ c.args.text.now (away c.in-Ok-Some.d) _ _ (ap reached_of (c.in-Ok-Some.is ∙ ap Ok d)) c.with_distance-next.ensures c.judge.ensures

pub returns-in-Ok-None : goal.returns-in-Ok-None
returns-in-Ok-None c =
    let n : c.in-Ok-None.field-0 ≡ None = rw c.in-Ok-None.is at c.in-Ok-None.field-0-is in
    batch_added c.args.r _ c.args.text.now nowhere _ _ (ap reached_of (c.in-Ok-None.is ∙ ap Ok n)) c.with_empty-next.ensures c.judge-in-Ok-None.ensures

pub returns-in-Err : goal.returns-in-Err
returns-in-Err c =
    c.stop.ensures ∙ sym (ap (λ (x : Result (Option ℕ) Refusal). added_with c.args.r c.args.text.now (reached_of x)) c.in-Err.is)
