-- By the kind of the row.
use Rattle.std.proofs.Common.{ℕ, List, subst}
use Rattle.recording.specs.Reading.{Curve}
use Rattle.grammar.specs.Syntax as asks
use Rattle.grammar.specs.Syntax.{Text}
use Rattle.grammar.specs.inner.Kinds.{GAPS, STEPS, LAG}
use Rattle.meaning.specs.inner.Coded.{Coded, coded}
use Rattle.meaning.specs.inner.Truth.{val, truth, many_tops, asks_too_many, of_listed}
use Rattle.leaves.specs.inner.Differing.{Differs}
use Rattle.std.specs.Prelude.{Result}
use Rattle.leaves.specs.declared.TooMany.{TooMany}
use Rattle.leaves.proofs.laws.Leaf.{by_kind, past, just, under}
use Rattle.leaves.proofs.between_tops.Goals as goal

-- what is promised of a text
abbrev Promised : List Coded → ℕ → List ℕ → Result (Unit {0}) TooMany → Text → Type 0
Promised r i words d p = Differs (of_listed (asks_too_many r) p) (λ v. val r v p i) words d

pub returns-then-kind-eq-LAG : goal.returns-then-kind-eq-LAG
unfolding val
returns-then-kind-eq-LAG c i =
    by_kind (Promised (coded c.args.rec.now) i _ c.lag.result) c.args.row LAG c.if-kind-eq-LAG.true c.lag.ensures

pub returns-then-kind-eq-GAPS : goal.returns-then-kind-eq-GAPS
unfolding val
returns-then-kind-eq-GAPS c i =
    let r = coded c.args.rec.now in
    by_kind (Promised r i c.gaps.new.set c.gaps.result) c.args.row GAPS c.if-kind-eq-GAPS.true
    (subst (λ (k : Curve). Differs (many_tops k r) (λ v. truth (asks.gaps k) r v) c.gaps.new.set c.gaps.result) c.curve-curve.ensures.1 c.gaps.ensures)

pub returns : goal.returns
unfolding val
returns c i =
    let r = coded c.args.rec.now in
    let e = just STEPS (past GAPS c.requires.1 c.if-kind-eq-GAPS.false) (under LAG c.requires.2 c.if-kind-eq-LAG.false) in
    by_kind (Promised r i c.steps.new.set c.steps.result) c.args.row STEPS e
    (subst (λ (k : Curve). Differs (many_tops k r) (λ v. truth (asks.steps k) r v) c.steps.new.set c.steps.result) c.curve-curve.ensures.1 c.steps.ensures)
