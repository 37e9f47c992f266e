-- The differences of later and earlier tops.
use Rattle.std.specs.Prelude.{refl}
use Rattle.std.proofs.Common.{sym, subst, length-take-le}
use Rattle.recording.specs.Reading.{a_top, curve_of}
use Rattle.grammar.specs.Syntax as asks
use Rattle.meaning.specs.inner.Coded.{coded, coded_times}
use Rattle.meaning.specs.inner.Truth.{truth, many_tops}
use Rattle.runs.proofs.laws.Set.{makes_of}
use Rattle.differences.specs.inner.Times.{Times, gaps_of}
use Rattle.leaves.proofs.laws.Indices.{event-times}
use Rattle.leaves.proofs.laws.Differing.{differs-over, differs-many, few_enough}
use Rattle.leaves.proofs.times.gaps.Goals as goal

pub returns-in_err-n : goal.returns-in_err-n
returns-in_err-n c =
    let k = curve_of c.args.curve in
    let r = coded c.args.rec.now in
    differs-many (many_tops k r) (λ v. truth (asks.gaps k) r v) _ (coded_times (a_top k) r) _ _ (λ h. h) c.in_err-n.ensures _ c.from_residual.ensures.1

pub slice_bounds-gaps-end : goal.slice_bounds-gaps-end
slice_bounds-gaps-end c = sym (length-take-le c.in_ok-n.n _ c.in_ok-n.ensures.1.room)

pub gaps-requires : goal.gaps-requires
gaps-requires c =
    (subst Times (sym c.in_ok-n.ensures.1.indices) (event-times c.args.rec.now c.requires.0 (a_top (curve_of c.args.curve))), c.requires.2)

pub returns-in_err-gaps : goal.returns-in_err-gaps
unfolding truth
returns-in_err-gaps c =
    let k = curve_of c.args.curve in
    let r = coded c.args.rec.now in
    differs-over (many_tops k r) (λ v. truth (asks.gaps k) r v) _ (few_enough (coded_times (a_top k) r) _ refl c.in_ok-n.ensures.0) (makes_of gaps_of _ _ c.in_ok-n.ensures.1.indices c.in_err-gaps.ensures) _ c.from_residual-in_err-gaps.ensures.1

pub returns : goal.returns
unfolding truth
returns c =
    let k = curve_of c.args.curve in
    let r = coded c.args.rec.now in
    (few_enough (coded_times (a_top k) r) _ refl c.in_ok-n.ensures.0, makes_of gaps_of _ _ c.in_ok-n.ensures.1.indices c.in_ok-gaps.ensures)
