-- The differences of each top of B with each top of A.
use Rattle.std.specs.Prelude.{refl}
use Rattle.std.proofs.Common.{ℕ, ◌||◌, List, sym, subst, length-take-le}
use Rattle.number.proofs.laws.Boolean.{or_left, or_right, or_none}
use Rattle.recording.specs.Reading.{A, B, a_top}
use Rattle.grammar.specs.Syntax as asks
use Rattle.meaning.specs.inner.Coded.{coded, coded_times}
use Rattle.meaning.specs.inner.Truth.{truth, many_tops}
use Rattle.runs.proofs.laws.Set.{makes_of}
use Rattle.differences.specs.inner.Times.{Times, lags_of}
use Rattle.leaves.proofs.laws.Indices.{event-times}
use Rattle.leaves.proofs.laws.Differing.{differs-over, differs-many, few_enough}
use Rattle.leaves.proofs.times.lag.Goals as goal

pub returns-in_err-m : goal.returns-in_err-m
returns-in_err-m c =
    let r = coded c.args.rec.now in
    differs-many (many_tops A r || many_tops B r) (λ v. truth asks.lag r v) _ (coded_times (a_top A) r) _ _ (or_left (many_tops A r) (many_tops B r)) c.in_err-m.ensures _ c.from_residual.ensures.1

pub returns-in_err-n : goal.returns-in_err-n
returns-in_err-n c =
    let r = coded c.args.rec.now in
    differs-many (many_tops A r || many_tops B r) (λ v. truth asks.lag r v) _ (coded_times (a_top B) r) _ _ (or_right (many_tops A r) (many_tops B r)) c.in_err-n.ensures _ c.from_residual-in_err-n.ensures.1

pub slice_bounds-lags-end : goal.slice_bounds-lags-end
slice_bounds-lags-end c = sym (length-take-le c.in_ok-m.m _ c.in_ok-m.ensures.1.room)

pub slice_bounds-lags-end-2 : goal.slice_bounds-lags-end-2
slice_bounds-lags-end-2 c = sym (length-take-le c.in_ok-n.n _ c.in_ok-n.ensures.1.room)

pub lags-requires : goal.lags-requires
lags-requires c = (
  subst Times (sym c.in_ok-m.ensures.1.indices) (event-times c.args.rec.now c.requires.0 (a_top A)),
  subst Times (sym c.in_ok-n.ensures.1.indices) (event-times c.args.rec.now c.requires.0 (a_top B)),
  c.requires.1,
)

pub returns-in_err-lags : goal.returns-in_err-lags
unfolding truth
returns-in_err-lags c =
    let r = coded c.args.rec.now in
    let a = c.in_ok-m.ensures.1.indices in
    let b = c.in_ok-n.ensures.1.indices in
    differs-over (many_tops A r || many_tops B r) (λ v. truth asks.lag r v) _
    (or_none (few_enough (coded_times (a_top A) r) _ refl c.in_ok-m.ensures.0) (few_enough (coded_times (a_top B) r) _ refl c.in_ok-n.ensures.0))
    (makes_of (λ (l : List ℕ × List ℕ). lags_of l.0 l.1) _ _ (λ i. (a i, b i)) c.in_err-lags.ensures) _ c.from_residual-in_err-lags.ensures.1

pub returns : goal.returns
unfolding truth
returns c =
    let r = coded c.args.rec.now in
    let a = c.in_ok-m.ensures.1.indices in
    let b = c.in_ok-n.ensures.1.indices in (
      or_none (few_enough (coded_times (a_top A) r) _ refl c.in_ok-m.ensures.0) (few_enough (coded_times (a_top B) r) _ refl c.in_ok-n.ensures.0),
      makes_of (λ (l : List ℕ × List ℕ). lags_of l.0 l.1) _ _ (λ i. (a i, b i)) c.in_ok-lags.ensures,
    )
