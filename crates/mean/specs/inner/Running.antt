-- The running sum of degrees and the last mean, from batch to batch.
use Rattle.std.specs.Prelude.{ℕ, suc, List, [], ◌∷◌, not, T, Float}
use Rattle.std.specs.Float.{binary64}
use Rattle.std.specs.Float.Ieee.{add, is_nan, fits}
use Rattle.binary64.specs.Degree.{degree_of}
use Rattle.mean.specs.Mean.{nought, over}
use Rattle.mean.specs.declared.Mean.{Mean}

-- before the first batch
abbrev pub start : Mean
start = record { sum = nought; mean = nought }

-- one batch more: its degree x is added to the sum, and the new sum is divided by n, the number of batches in it
abbrev pub next : Mean → ℕ → Float → Mean
next m n x = record { sum = add binary64 m.sum x; mean = over (add binary64 m.sum x) n }

-- the batches of a list, one after another, after n others
abbrev pub run_from : Mean → ℕ → List ℕ → Mean
run_from m n [] = m
run_from m n (d ∷ ds) = run_from (next m (suc n) (degree_of d)) (suc n) ds

abbrev pub running : List ℕ → Mean
running ds = run_from start 0 ds

-- x is a number
abbrev pub Number : Float → Type 0
Number x = T (not (is_nan x))

-- the sum and the mean are numbers
pub record Numbers (m : Mean) : Type 0 where
  pub sum : Number m.sum
  pub mean : Number m.mean

-- and numbers of binary64
pub record Fitting (m : Mean) : Type 0 where
  pub sum : T (fits binary64 m.sum)
  pub mean : T (fits binary64 m.mean)
