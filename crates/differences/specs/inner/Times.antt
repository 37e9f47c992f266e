-- Arrays of times, and the sets that are taken of them. A time is carried as its index on the axis.
use Rattle.std.specs.Prelude.{ℕ, ◌+◌, ◌≤◌, ◌<◌, Bool, List, length, get_or}
use Rattle.number.specs.Axis.{origin}
use Rattle.meaning.specs.inner.Truth.{some_pair, some_step, among, apart}
use Rattle.recording.specs.Condition.{some_of}

-- times 0 to 2,000,000,000, strictly ascending
pub record Times (l : List ℕ) : Type 0 where
  pub least : (i : ℕ) → i < length l → origin ≤ get_or l i 0
  pub most : (i : ℕ) → i < length l → get_or l i 0 ≤ origin + origin
  pub ascending : (i j : ℕ) → i < j → j < length l → get_or l i 0 < get_or l j 0

-- `lag`: n is the index of a time of b minus a time of a, any pair
abbrev pub lags_of : List ℕ → List ℕ → ℕ → Bool
lags_of a b n = some_of (λ s. some_of (apart n s) b) a

-- `gaps`: n is the index of a later time minus an earlier one
abbrev pub gaps_of : List ℕ → ℕ → Bool
gaps_of t n = some_pair (apart n) t

-- `steps`: n is the index of a time minus the time before it
abbrev pub steps_of : List ℕ → ℕ → Bool
steps_of t n = some_step (apart n) t

-- `peaks`, `cross`: n is one of the times
abbrev pub time_set : List ℕ → ℕ → Bool
time_set t n = among n t
