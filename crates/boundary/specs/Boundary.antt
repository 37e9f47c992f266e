-- The C boundary: the number and the places by which each kind of answer goes over to the caller, and that a refusal leaves the places as they were.
use Rattle.std.specs.Prelude.{ℕ, ◌+◌, ◌*◌, ◌≡◌, List}
use Rattle.std.specs.Float.{binary64}
use Rattle.std.specs.Float.Ieee.{to_bits}
use Rattle.number.specs.Axis.{whole}
use Rattle.number.specs.Words.{bits}
use Rattle.refusal.specs.Outcome.{Outcome, result, refused}
use Rattle.recording.specs.Output.{counted, output_after}
use Rattle.band.specs.Means.{Part, empty, run, Bands}
use Rattle.pair.specs.Pair.{Given, times, none}
use Rattle.degree.specs.Degree.{Value, met, short, no_value}
use Rattle.sheet.specs.Finding.{Finding, all_met, broken_at}
use Rattle.reply.specs.Reply.{packed}

-- ---- thinning and the question

-- a call that writes bytes returns how many they are, or its refusal; behind the result, and after a refusal, the output stays
pub record Writes (outcome : Outcome (List ℕ)) (old : List ℕ) (r : ℕ) (new : List ℕ) : Type 0 where
  pub returned : r ≡ packed (counted outcome)
  pub output : new ≡ output_after outcome old

-- ---- the degree

-- 0 met, 1 short, 2 no value
abbrev pub value_told : Outcome Value → Outcome ℕ
value_told (result met) = result 0
value_told (result (short d k)) = result 1
value_told (result no_value) = result 2
value_told (refused n p) = refused n p

-- The distance and the degree of a target that is missed are written, each by its bits in binary64; else both places stay. Of bits nothing is left open
-- where a place held a NaN.
abbrev pub distance_after : Outcome Value → ℕ → ℕ
distance_after (result met) old = old
distance_after (result (short d k)) old = to_bits binary64 d
distance_after (result no_value) old = old
distance_after (refused n p) old = old

abbrev pub degree_after : Outcome Value → ℕ → ℕ
degree_after (result met) old = old
degree_after (result (short d k)) old = to_bits binary64 k
degree_after (result no_value) old = old
degree_after (refused n p) old = old

-- THE COMPLETE OUTCOME of the degree call: what it returns, and the two places, `distance` and `degree` before, `first` and `second` after
pub record Degrees (outcome : Outcome Value) (distance degree r first second : ℕ) : Type 0 where
  pub returned : r ≡ packed (value_told outcome)
  pub first-place : first ≡ distance_after outcome distance
  pub second-place : second ≡ degree_after outcome degree

-- ---- the pair

-- 1 for a pair, 0 for none
abbrev pub pair_told : Outcome Given → Outcome ℕ
pair_told (result (times t u)) = result 1
pair_told (result none) = result 0
pair_told (refused n p) = refused n p

-- a pair's times are written, the earlier to the first place and the later to the second; else both places stay
abbrev pub earlier_after : Outcome Given → ℕ → ℕ
earlier_after (result (times t u)) old = t
earlier_after (result none) old = old
earlier_after (refused n p) old = old

abbrev pub later_after : Outcome Given → ℕ → ℕ
later_after (result (times t u)) old = u
later_after (result none) old = old
later_after (refused n p) old = old

-- THE COMPLETE OUTCOME of the pair call: what it returns, and the two places, `earlier` and `later` before, `first` and `second` after
pub record Pairs (outcome : Outcome Given) (earlier later r first second : ℕ) : Type 0 where
  pub returned : r ≡ packed (pair_told outcome)
  pub first-place : first ≡ earlier_after outcome earlier
  pub second-place : second ≡ later_after outcome later

-- ---- the band

-- 1 for a set that is not empty
abbrev pub filled : Part → ℕ
filled empty = 0
filled (run l h) = 1

-- bit 0: certain is not empty; bit 1: possible is not
abbrev pub band_told : Outcome Bands → Outcome ℕ
band_told (result b) = result (filled b.certain + 2 * filled b.possible)
band_told (refused n p) = refused n p

-- the ends of a run are written, each by its 32 bits; of the empty set both places stay
abbrev pub low_after : Part → ℕ → ℕ
low_after empty old = old
low_after (run l h) old = bits (whole l)

abbrev pub high_after : Part → ℕ → ℕ
high_after empty old = old
high_after (run l h) old = bits (whole h)

-- the certain set and the possible one; after a refusal nothing is written, as for the empty set
abbrev pub certain_in : Outcome Bands → Part
certain_in (result b) = b.certain
certain_in (refused n p) = empty

abbrev pub possible_in : Outcome Bands → Part
possible_in (result b) = b.possible
possible_in (refused n p) = empty

-- THE COMPLETE OUTCOME of the band call: what it returns, and the four places, `certain` and `possible`, low and high, before and after
pub record InBands (outcome : Outcome Bands) (certain-low certain-high possible-low possible-high r first second third fourth : ℕ) : Type 0 where
  pub returned : r ≡ packed (band_told outcome)
  pub first-place : first ≡ low_after (certain_in outcome) certain-low
  pub second-place : second ≡ high_after (certain_in outcome) certain-high
  pub third_place : third ≡ low_after (possible_in outcome) possible-low
  pub fourth_place : fourth ≡ high_after (possible_in outcome) possible-high

-- ---- the order sheet

-- 0 met, 1 broken
abbrev pub finding_told : Outcome Finding → Outcome ℕ
finding_told (result all_met) = result 0
finding_told (result (broken_at t k)) = result 1
finding_told (refused n p) = refused n p

-- of a line that is broken the time goes to the first place and the number to the second; else both places stay
abbrev pub time_after : Outcome Finding → ℕ → ℕ
time_after (result all_met) old = old
time_after (result (broken_at t k)) old = t
time_after (refused n p) old = old

abbrev pub line_after : Outcome Finding → ℕ → ℕ
line_after (result all_met) old = old
line_after (result (broken_at t k)) old = k
line_after (refused n p) old = old

-- THE COMPLETE OUTCOME of the order call: what it returns, and the two places, `time` and `line` before, `first` and `second` after
pub record Orders (outcome : Outcome Finding) (time line r first second : ℕ) : Type 0 where
  pub returned : r ≡ packed (finding_told outcome)
  pub first-place : first ≡ time_after outcome time
  pub second-place : second ≡ line_after outcome line
