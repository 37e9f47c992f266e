-- Up to the greatest less the least.
use Rattle.std.proofs.Common.{◌≡◌, ℕ, ◌+◌, ◌-◌, ◌<◌, ◌≤◌, true, false, leb, List, length, get_or, subst, arith}
use lib.ListN.{length-map}
use Rattle.recording.specs.Recording.{readings}
use Rattle.meaning.specs.inner.Coded.{code}
use Rattle.meaning.specs.inner.Coded.{coded}
use Rattle.leaves.proofs.laws.Span.{spans_ext}
use Rattle.number.specs.Axis.{origin}
use Rattle.grammar.specs.Syntax as asks
use Rattle.recording.specs.Recording.{Accepted}
use Rattle.meaning.specs.inner.Truth.{truth}
use Rattle.meaning.specs.inner.Coded.{Coded, blank, coded_value}
use Rattle.leaves.specs.inner.Extreme.{Extreme}
use Rattle.leaves.proofs.laws.Coding.{at_index, ValueIndex, value_range}
use Rattle.leaves.proofs.laws.Extreme.{spread_order, spread_small, ampl_upto}
use Rattle.recording.specs.Reading.{curve_of}
use Rattle.leaves.proofs.extremes.ampl.Goals as goal

module _ (rec : List ℕ) (a : Accepted rec) (index : 0 < length (coded rec)) (curve : ℕ) (l : curve < 2) (bottom top : ℕ)
    (e : Extreme false (curve_of curve) 0 (coded rec) bottom) (f : Extreme true (curve_of curve) 0 (coded rec) top) where
  some : 0 < length (readings rec)
  some = omega (arith, length-map (readings rec) code)

  range : (i : ℕ) → i < length (coded rec) → ValueIndex (coded_value (curve_of curve) (get_or (coded rec) i blank))
  range i h = subst (λ (x : Coded). ValueIndex (coded_value (curve_of curve) x)) (at_index (coded rec) i h) (value_range rec a i h curve l)

  ordered : bottom ≤ top
  ordered = spread_order (curve_of curve) (readings rec) some range bottom top e f

  near : top ≤ bottom + origin
  near = spread_small (curve_of curve) (readings rec) some range bottom top e f

  spread : (v : ℕ) → leb v ((top - bottom) + origin) ≡ truth (asks.ampl (curve_of curve)) (coded rec) v
  spread v = ampl_upto (curve_of curve) (readings rec) some range bottom top e f v

pub extreme-bottom-requires : goal.extreme-bottom-requires
extreme-bottom-requires c = let s = c in (s.requires.0, s.requires.2)

pub extreme-top-requires : goal.extreme-top-requires
extreme-top-requires c = let s = c in (s.requires.0, s.requires.2)

pub overflow_sub-top : goal.overflow_sub-top
overflow_sub-top c = let s = c in ordered s.args.rec.now s.requires.0 s.requires.1 s.args.curve s.requires.2 c.extreme-bottom.result c.extreme-top.result c.extreme-bottom.ensures c.extreme-top.ensures

pub overflow_add-top : goal.overflow_add-top
overflow_add-top c = omega (arith, near c.args.rec.now c.requires.0 c.requires.1 c.args.curve c.requires.2 c.extreme-bottom.result c.extreme-top.result c.extreme-bottom.ensures c.extreme-top.ensures)

pub upto-requires : goal.upto-requires
upto-requires c = omega (arith, near c.args.rec.now c.requires.0 c.requires.1 c.args.curve c.requires.2 c.extreme-bottom.result c.extreme-top.result c.extreme-bottom.ensures c.extreme-top.ensures)

pub returns : goal.returns
returns c = spans_ext _ _ _ (λ v h. (spread c.args.rec.now c.requires.0 c.requires.1 c.args.curve c.requires.2 c.extreme-bottom.result c.extreme-top.result c.extreme-bottom.ensures c.extreme-top.ensures) v) c.upto.ensures
