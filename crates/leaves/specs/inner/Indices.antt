-- Times as indices of the axis, in an array that is lent.
use Rattle.std.specs.Prelude.{◌≡◌, ℕ, ◌+◌, ◌<◌, ◌≤◌, List, length, take, slice_index}
use Rattle.number.specs.Axis.{origin}
use Rattle.recording.specs.Recording.{latest}

-- the most events of one kind: half of the records
abbrev pub most_events : ℕ
most_events = 2048

-- the index of a time
abbrev pub index_of : ℕ → ℕ
index_of t = t + origin

-- the first n of the array are times
abbrev pub Early : ℕ → List ℕ → Type 0
Early n times = (k : ℕ) → k < n → slice_index times k ≤ latest

-- the first n times are shifted to their indices
pub record Shifted (n : ℕ) (old new : List ℕ) : Type 0 where
  pub long : length new ≡ length old
  pub shifted : (k : ℕ) → k < n → slice_index new k ≡ index_of (slice_index old k)

-- the first n of the array are the indices found
pub record Indexed (found : List ℕ) (n : ℕ) (new : List ℕ) : Type 0 where
  pub room : n ≤ length new
  pub indices : take n new ≡ found
