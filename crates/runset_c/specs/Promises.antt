-- What the functions behind the calls promise.
use Rattle.std.specs.Prelude.{◌≡◌, ℕ, Bool, false, ◌&&◌, ◌||◌, List, length, nat_le, nat_lt, Result}
use Rattle.number.specs.Axis.{axis}
use Rattle.runs.specs.Runs.{most_runs, run_count}
use Rattle.runs.specs.Set.{member, Holds, Makes}
use Rattle.runs.specs.declared.TooManyRuns.{TooManyRuns}
use Rattle.runset_c.specs.Bytes.{unfit, set_of, reply_of, output_of}

-- the set in s with the run from low to high
pub record Extended (s : List ℕ) (low high : ℕ) (words : List ℕ) (over : Bool) : Type 0 where
  pub flag : over ≡ (nat_le axis high || nat_lt most_runs (run_count (λ v. member s v || (nat_le low v && nat_le v high))))
  pub holds : over ≡ false → Holds (λ v. member s v || (nat_le low v && nat_le v high)) words

-- the set in the bytes
pub record Loaded (bytes : List ℕ) (words : List ℕ) (over : Bool) : Type 0 where
  pub flag : over ≡ unfit bytes
  pub holds : over ≡ false → Holds (set_of bytes) words

-- the reply and the output for what an operation made, whatever members f it was to have
pub record Delivered (words : List ℕ) (made : Result (Unit {0}) TooManyRuns) (before after : List ℕ) (r : ℕ) : Type 0 where
  pub reply : (f : ℕ → Bool) → Makes f words made → r ≡ reply_of false f (length before)
  pub output : (f : ℕ → Bool) → Makes f words made → after ≡ output_of false f before
