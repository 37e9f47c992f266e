-- Sets of numbers of the axis as `RunSet` holds them in words that are lent, and what its operations promise, by membership alone.
use Rattle.std.specs.Prelude.{ℕ, ◌+◌, ◌*◌, ◌≤◌, ◌<◌, ◌≡◌, Bool, true, false, not, cond, List, [], ◌∷◌, leb, ltb, length, take, get_or, Option, Some, None, Result}
use Rattle.std.specs.Result.{is_err}
use Rattle.number.specs.Axis.{axis}
use Rattle.runs.specs.Runs.{most_runs, run_count}
use Rattle.runs.specs.Distance.{distance}
use Rattle.runs.specs.declared.TooManyRuns.{TooManyRuns}

-- how many words hold a set, and how many what two sets share
abbrev pub slot_words : ℕ
slot_words = 2 * most_runs + 1

abbrev pub shared_words : ℕ
shared_words = 4 * most_runs

-- the cuts that a set is held by: the last word says how many of the first there are
abbrev pub cuts_of : List ℕ → List ℕ
cuts_of words = take (get_or words (2 * most_runs) 0) words

-- one of two, and not both
abbrev pub xor : Bool → Bool → Bool
xor true b = not b
xor false b = b

-- at each cut the set begins or ends: v is inside if the number of cuts up to v is odd
unfoldable pub inside : List ℕ → ℕ → Bool
inside [] v = false
inside (c ∷ cuts) v = xor (leb c v) (inside cuts v)

-- V IS A MEMBER
unfoldable pub member : List ℕ → ℕ → Bool
member words v = inside (cuts_of words) v

-- strictly ascending, none below `low`, none above `high`
abbrev pub Ascending : ℕ → ℕ → List ℕ → Type 0
Ascending low high [] = Unit {0}
Ascending low high (c ∷ cuts) = (low ≤ c) × (c ≤ high) × Ascending (c + 1) high cuts

-- the one list of cuts that its set has: strictly ascending, and the last run ends with the axis or before
pub record Canonical (cuts : List ℕ) : Type 0 where
  pub ascending : Ascending 0 axis cuts
  pub ended : inside cuts axis ≡ false

-- words that hold a set, as every function of `RunSet` leaves them and every operation wants them
pub record Valid (words : List ℕ) : Type 0 where
  pub size : length words ≡ slot_words
  pub few : get_or words (2 * most_runs) 0 ≤ 2 * most_runs
  pub canonical : Canonical (cuts_of words)

-- the words hold the set with the members f
pub record Holds (f : ℕ → Bool) (words : List ℕ) : Type 0 where
  pub valid : Valid words
  pub members : (v : ℕ) → v < axis → member words v ≡ f v

-- WHAT AN OPERATION PROMISES: an error if and only if the members f lie in too many maximal runs; else the words hold the set with these members
pub record Makes {A : Type 0} (f : ℕ → Bool) (words : List ℕ) (r : Result A TooManyRuns) : Type 0 where
  pub flag : is_err r ≡ ltb most_runs (run_count f)
  pub holds : is_err r ≡ false → Holds f words

-- the distance from v to the nearest member; nothing where there is no member, for then the distance is the size of the axis
abbrev pub nearest_of : (ℕ → Bool) → ℕ → Option ℕ
nearest_of f v = cond (ltb (distance f v) axis) (Some (distance f v)) None
