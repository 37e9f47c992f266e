-- What the functions of the joining promise.
use Rattle.std.specs.Prelude.{ℕ, ◌+◌, ◌*◌, ◌≤◌, ◌<◌, ◌≡◌, Bool, true, false, ◌||◌, ◌&&◌, List, ◌++◌, leb, ltb, length, take, drop, set, Result}
use Rattle.std.specs.Result.{IfOk}
use Rattle.number.specs.Axis.{axis}
use Rattle.runs.specs.Runs.{most_runs, run_count}
use Rattle.runs.specs.Set.{slot_words, inside, Ascending, Canonical, Makes}
use Rattle.join.specs.declared.Head.{Head}
use Rattle.join.specs.declared.Reach.{Reach}
use Rattle.runs.specs.declared.TooManyRuns.{TooManyRuns}

-- the cuts from place i on are whole runs, none below `low`
pub record Rest (low : ℕ) (cuts : List ℕ) (i : ℕ) : Type 0 where
  pub place : i ≤ length cuts
  pub ascending : Ascending low axis (drop i cuts)
  pub ended : inside (drop i cuts) axis ≡ false

-- v is from low on and before end
abbrev pub within : ℕ → ℕ → ℕ → Bool
within low end v = leb low v && ltb v end

-- the run that begins first of those from i and j on
pub record Next (a : List ℕ) (i : ℕ) (b : List ℕ) (j : ℕ) (r : Head) : Type 0 where
  pub first : (low : ℕ) → Ascending low axis (drop i a) → Ascending low axis (drop j b) → low ≤ r.low
  pub grows : r.low < r.end
  pub on-axis : r.end ≤ axis
  pub left : Rest r.low a r.i
  pub right : Rest r.low b r.j
  pub step : r.i + r.j ≡ i + j + 2
  pub members : (v : ℕ) → (inside (drop i a) v || inside (drop j b) v) ≡ (within r.low r.end v || (inside (drop r.i a) v || inside (drop r.j b) v))

-- an open run up to `end`, with all runs from place i on that meet it: what is left begins behind it, with a gap
pub record Reached (l : List ℕ) (i end : ℕ) (r : Reach) : Type 0 where
  pub beyond : end ≤ r.end
  pub on-axis : r.end ≤ axis
  pub left : Rest (r.end + 1) l r.i
  pub members : (low v : ℕ) → low < end → Rest low l i → (within low end v || inside (drop i l) v) ≡ (within low r.end v || inside (drop r.i l) v)

-- the words with a run, from low on and before end, at the place of run number `at`
abbrev pub with_run : List ℕ → ℕ → ℕ → ℕ → List ℕ
with_run words at low end = set (set words (2 * at) low) (2 * at + 1) end

-- what is left of l from place i on stands behind the first n runs, and each run is counted
pub record Appended (l : List ℕ) (i : ℕ) (words : List ℕ) (n : ℕ) (after : List ℕ) (stores : ℕ) : Type 0 where
  pub size : length after ≡ length words
  pub count : 2 * stores + i ≡ 2 * n + length l
  pub cuts : take (2 * stores) after ≡ take (2 * n) words ++ drop i l

-- the first n runs are stored, the run from low on and before end is open, and the others are left in l from place i on
pub record Open (words : List ℕ) (n low end : ℕ) (l : List ℕ) (i : ℕ) : Type 0 where
  pub size : length words ≡ slot_words
  pub few : n ≤ most_runs
  pub stored : Canonical (take (2 * n) words)
  pub apart : (v : ℕ) → inside (take (2 * n) words) v ≡ true → v + 1 < low
  pub grows : low < end
  pub on-axis : end ≤ axis
  pub left : Rest low l i

-- what they hold together
abbrev pub opened : List ℕ → ℕ → ℕ → ℕ → List ℕ → ℕ → ℕ → Bool
opened words n low end l i v = inside (take (2 * n) words) v || (within low end v || inside (drop i l) v)

-- THE JOINING: the set with the members f, unless it has too many runs; AS MANY STORES AS IT HAS RUNS
pub record Joins (f : ℕ → Bool) (words : List ℕ) (r : Result ℕ TooManyRuns) : Type 0 where
  pub makes : Makes f words r
  pub stores : IfOk r (λ stores. stores ≡ run_count f)
