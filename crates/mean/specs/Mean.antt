-- Document 02, Paper 8: the mean degree of a list of distances, as it is reckoned in binary64 and as an exact fraction. A met batch has distance 0; a batch with
-- an empty set has no place in the list.
use Rattle.std.specs.Prelude.{ℕ, ◌+◌, ◌*◌, ◌≤◌, true, false, List, [], ◌∷◌, length, pos, Float}
use Rattle.std.specs.Float.{nan, inf, fin, binary64}
use Rattle.std.specs.Float.Ieee.{add, div, of_int, up, down}
use Rattle.binary64.specs.Apart.{apart}
use Rattle.binary64.specs.Degree.{degree_of}

-- ---- in binary64

-- 0, as a float
abbrev pub nought : Float
nought = fin false 0 (pos 0)

-- the degrees of the list added to s, in the list's order, each sum rounded once
abbrev pub sum_from : Float → List ℕ → Float
sum_from s [] = s
sum_from s (d ∷ ds) = sum_from (add binary64 s (degree_of d)) ds

-- added from 0
abbrev pub sum_of : List ℕ → Float
sum_of ds = sum_from nought ds

-- one division of a sum by the number of batches in it
abbrev pub over : Float → ℕ → Float
over s n = div binary64 s (of_int binary64 (pos n))

abbrev pub mean_of : List ℕ → Float
mean_of ds = over (sum_of ds) (length ds)

-- ---- as two whole numbers

pub record Fraction : Type 0 where
  pub num : ℕ
  pub den : ℕ

-- the sum of no degree
abbrev pub no_degree : Fraction
no_degree = record { num = 0; den = 1 }

-- num / den + 1 / (1 + d)
abbrev pub plus : Fraction → ℕ → Fraction
plus q d = record { num = q.num * (1 + d) + q.den; den = q.den * (1 + d) }

abbrev pub total_from : Fraction → List ℕ → Fraction
total_from q [] = q
total_from q (d ∷ ds) = total_from (plus q d) ds

-- the sum of 1 / (1 + d) over the list
abbrev pub total : List ℕ → Fraction
total ds = total_from no_degree ds

-- THE EXACT MEAN: that sum, divided by how many there are
abbrev pub exact_mean : List ℕ → Fraction
exact_mean ds = record { num = (total ds).num; den = (total ds).den * length ds }

-- ---- how near a float comes to a fraction

-- WITHIN ONE PART IN 1,000,000,000: x is a finite number, not below 0, and |x × den − num| × 1,000,000,000 ≤ num. x is m × up e / down e; both sides are
-- multiplied by down e.
abbrev pub WithinBillionth : Float → Fraction → Type 0
WithinBillionth nan q = ⊥
WithinBillionth (inf s) q = ⊥
WithinBillionth (fin true m e) q = ⊥
WithinBillionth (fin false m e) q = apart (m * up e * q.den) (q.num * down e) * 1000000000 ≤ q.num * down e

-- each number of the list is at most h
abbrev pub AtMost : ℕ → List ℕ → Type 0
AtMost h [] = Unit
AtMost h (d ∷ ds) = (d ≤ h) × AtMost h ds
