-- Document 01, "Listed questions", and Papers 1, 3 and 5: the formulas that nine of them equal.
use Rattle.std.specs.Prelude.{ℕ}
use Rattle.recording.specs.Reading.{Curve}
use Rattle.grammar.specs.Syntax.{of, T, ge, le, gt, eq, v, number, compare, A-to-B, fall, rise, pigment, Listed, high, low, lowafter, capafter, peaks, dips, cross, crossup, dose, Text, atom, or, and, neg, finally, globally, next, until}

-- the question equals the formula, both asked alone
pub data Formula : Listed → Text → Type 0 where
  -- F(c>=v); F(c<=v)
  of_high : {c : Curve} → Formula (high c) (finally (atom (compare (of c) ge v)))
  of_low : {c : Curve} → Formula (low c) (finally (atom (compare (of c) le v)))
  -- F(T>k&c<=v); G(!(T>k)|c<=v)
  of_lowafter : {c : Curve} {k : ℕ} → Formula (lowafter c k) (finally (and (atom (compare T gt (number k))) (atom (compare (of c) le v))))
  of_capafter : {c : Curve} {k : ℕ} → Formula (capafter c k) (globally (or (neg (atom (compare T gt (number k)))) (atom (compare (of c) le v))))
  -- F(rise(c)&X(U(!rise(c)&!fall(c),fall(c)&T=v))), and its mirror F(fall(c)&X(U(!fall(c)&!rise(c),rise(c)&T=v)))
  of_peaks : {c : Curve}
      → Formula (peaks c) (finally (and (atom (rise c)) (next (until (and (neg (atom (rise c))) (neg (atom (fall c)))) (and (atom (fall c)) (atom (compare T eq v)))))))
  of_dips : {c : Curve}
      → Formula (dips c) (finally (and (atom (fall c)) (next (until (and (neg (atom (fall c))) (neg (atom (rise c)))) (and (atom (rise c)) (atom (compare T eq v)))))))
  -- F(A>B&X(A<=B&T=v)), and its mirror F(A<=B&X(A>B&T=v))
  of_cross : Formula cross (finally (and (atom (A-to-B gt)) (next (and (atom (A-to-B le)) (atom (compare T eq v))))))
  of_crossup : Formula crossup (finally (and (atom (A-to-B le)) (next (and (atom (A-to-B gt)) (atom (compare T eq v))))))
  -- F(P=k&T=v)
  of_dose : {k : ℕ} → Formula (dose k) (finally (and (atom (pigment k)) (atom (compare T eq v))))
