-- Document 01, "The set": the maximal runs of a set of numbers of the axis, and its bytes. A set is given by its members: f n for the index n.
use Rattle.std.specs.Prelude.{ℕ, zero, suc, Bool, not, cond, ◌&&◌, List, [], ◌∷◌, ◌++◌, length, ltb}
use Rattle.number.specs.Axis.{axis, whole}
use Rattle.number.specs.Words.{bits, word_bytes}

-- the index n is a member whose predecessor is no member or off the axis
abbrev pub starts_at : (ℕ → Bool) → ℕ → Bool
starts_at f zero = f zero
starts_at f (suc n) = f (suc n) && not (f n)

-- the index n is a member whose successor is no member or off the axis
abbrev pub ends_at : (ℕ → Bool) → ℕ → Bool
ends_at f n = f n && not (ltb (suc n) axis && f (suc n))

-- the indices below n of which P holds, ascending
unfoldable pub below : (ℕ → Bool) → ℕ → List ℕ
below P zero = []
below P (suc n) = below P n ++ cond (P n) (n ∷ []) []

-- the lowest and the highest members of the maximal runs, ascending
abbrev pub lows : (ℕ → Bool) → List ℕ
lows f = below (starts_at f) axis

abbrev pub highs : (ℕ → Bool) → List ℕ
highs f = below (ends_at f) axis

-- the number of maximal runs
abbrev pub run_count : (ℕ → Bool) → ℕ
run_count f = length (lows f)

-- the most runs that a set may have
abbrev pub most_runs : ℕ
most_runs = 256

-- a number of the axis as a signed number of 32 bits, little-endian
abbrev pub number_bytes : ℕ → List ℕ
number_bytes n = word_bytes (bits (whole n))

-- low and high of each run, both included
abbrev pub run_bytes : List ℕ → List ℕ → List ℕ
run_bytes [] highs = []
run_bytes (l ∷ lows) [] = []
run_bytes (l ∷ lows) (h ∷ highs) = (number_bytes l ++ number_bytes h) ++ run_bytes lows highs

-- THE BYTES OF A SET: its maximal runs, ascending
unfoldable pub set_bytes : (ℕ → Bool) → List ℕ
set_bytes f = run_bytes (lows f) (highs f)
