-- Document 01, "The set": "A set goes out as its maximal runs, ascending, each as two signed 32-bit little-endian numbers, low and high, both
-- included. 3..5 beside 6..9 is the one run 3..9." Numbers of the axis are given by their indices.
use Rattle.std.specs.Prelude.{ℕ, ◌+◌, ◌≤◌, ◌<◌, ◌⊎◌, ◌↔◌, List, [], ◌∷◌, ◌++◌, ℤ}
use Rattle.number.specs.Axis.{axis, whole}
use Rattle.number.specs.Words.{bits, word_bytes}

-- a run of document 01: the numbers from one to another
pub record Interval : Type 0 where
  pub low : ℕ
  pub high : ℕ

-- on the axis, ascending, none below k, and no two touch
abbrev pub Separate : ℕ → List Interval → Type 0
Separate k [] = Unit {0}
Separate k (r ∷ rs) = (k ≤ r.low) × (r.low ≤ r.high) × (r.high < axis) × Separate (r.high + 2) rs

abbrev pub Covered : List Interval → ℕ → Type 0
Covered [] n = ⊥
Covered (r ∷ rs) n = ((r.low ≤ n) × (n ≤ r.high)) ⊎ Covered rs n

-- THE MAXIMAL RUNS of the numbers of the axis with P
pub record MaximalRuns (P : ℤ → Type 0) (rs : List Interval) : Type 0 where
  pub apart : Separate 0 rs
  pub members : (n : ℕ) → n < axis → Covered rs n ↔ P (whole n)

abbrev pub runs_bytes : List Interval → List ℕ
runs_bytes [] = []
runs_bytes (r ∷ rs) = (word_bytes (bits (whole r.low)) ++ word_bytes (bits (whole r.high))) ++ runs_bytes rs
