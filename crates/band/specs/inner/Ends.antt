-- Document 02, Paper 9: the ends of the two sets, as they are computed. Numbers of the axis stand by their indices. That a run holds exactly the numbers
-- that are certain, or possible, is `bands_mean` (laws/Meaning).
use Rattle.std.specs.Prelude.{ℕ, ◌+◌, ◌-◌, ◌*◌, max, min, Bool, true, List, [], ◌∷◌}
use Rattle.number.specs.Axis.{origin, axis}
use Rattle.recording.specs.Condition.{when}
use Rattle.recording.specs.Reading.{Curve}
use Rattle.grammar.specs.Syntax.{Listed, high, low, lowafter, capafter, peaks, dips, cross, crossup, dose, ampl, gaps, steps, lag}
use Rattle.meaning.specs.inner.Coded.{Coded, coded_value, coded_after}
use Rattle.band.specs.Means.{Part, empty, run, Bands}

-- up to the number at an index; from it on
abbrev pub upto : ℕ → Part
upto h = run 0 h

abbrev pub from : ℕ → Part
from l = run l (axis - 1)

abbrev pub two_sets : Part → Part → Bands
two_sets c p = record { certain = c; possible = p }

-- the same set twice
abbrev pub twice : Part → Bands
twice p = two_sets p p

-- the values of c at the records of which P holds
abbrev pub values_where : (Coded → Bool) → Curve → List Coded → List ℕ
values_where P c [] = []
values_where P c (x ∷ r) = when (P x) (coded_value c x) (values_where P c r)

abbrev pub values : Curve → List Coded → List ℕ
values c r = values_where (λ x. true) c r

-- at the records after k
abbrev pub values_after : Curve → ℕ → List Coded → List ℕ
values_after c k r = values_where (coded_after k) c r

-- the greatest and the least of a number and others
abbrev pub greatest_of : ℕ → List ℕ → ℕ
greatest_of x [] = x
greatest_of x (y ∷ l) = max x (greatest_of y l)

abbrev pub least_of : ℕ → List ℕ → ℕ
least_of x [] = x
least_of x (y ∷ l) = min x (least_of y l)

-- `high`: up to the greatest value, which moves by e
abbrev pub to_greatest : ℕ → List ℕ → Bands
to_greatest e [] = twice empty
to_greatest e (x ∷ l) = two_sets (upto (greatest_of x l - e)) (upto (greatest_of x l + e))

-- `low` and `lowafter`: from the least value on; empty where there is none
abbrev pub from_least : ℕ → List ℕ → Bands
from_least e [] = twice empty
from_least e (x ∷ l) = two_sets (from (least_of x l + e)) (from (least_of x l - e))

-- `capafter`: from the greatest value on; the whole axis where there is none
abbrev pub from_greatest : ℕ → List ℕ → Bands
from_greatest e [] = twice (from 0)
from_greatest e (x ∷ l) = two_sets (from (greatest_of x l + e)) (from (greatest_of x l - e))

-- how far the greatest lies above the least
abbrev pub spread_of : ℕ → List ℕ → ℕ
spread_of x l = greatest_of x l - least_of x l

-- `ampl`: up to the spread, which moves by 2e, not below 0 and not beyond the axis; a single record spreads by nothing
abbrev pub to_spread : ℕ → List ℕ → Bands
to_spread e [] = twice empty
to_spread e (x ∷ []) = twice (upto origin)
to_spread e (x ∷ (y ∷ l)) = two_sets (upto (origin + (spread_of x (y ∷ l) - 2 * e))) (upto (min (origin + (spread_of x (y ∷ l) + 2 * e)) (axis - 1)))

-- THE TWO SETS of a question of a coded recording; of another question they are never asked
abbrev pub bands_of : Listed → ℕ → List Coded → Bands
bands_of (high c) e r = to_greatest e (values c r)
bands_of (low c) e r = from_least e (values c r)
bands_of (lowafter c k) e r = from_least e (values_after c k r)
bands_of (capafter c k) e r = from_greatest e (values_after c k r)
bands_of (ampl c) e r = to_spread e (values c r)
bands_of (peaks c) e r = twice empty
bands_of (dips c) e r = twice empty
bands_of cross e r = twice empty
bands_of crossup e r = twice empty
bands_of (dose k) e r = twice empty
bands_of (gaps c) e r = twice empty
bands_of (steps c) e r = twice empty
bands_of lag e r = twice empty
