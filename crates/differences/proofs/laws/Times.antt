-- The times of the records of a recording that a condition picks are times as the searches take them.
use Rattle.std.specs.Prelude.{ℕ, zero, suc, ◌+◌, ◌≤◌, ◌<◌, Bool, true, false, List, [], ◌∷◌, map, length, get_or}
use Rattle.std.proofs.Common.{arith, le_of_suc-le-suc, not-suc-le-zero}
use Rattle.number.specs.Axis.{origin}
use Rattle.recording.specs.Condition.{Condition, pick_from, when}
use Rattle.recording.specs.Reading.{Reading, nothing}
use Rattle.tops.proofs.laws.Pick.{AscendingFrom, ascending_from_at, ascending_from_ascending, pick_ascending_from}
use Rattle.meaning.specs.inner.Recorded.{InTime, Increasing, Recorded}
use Rattle.meaning.specs.inner.Coded.{Coded, code, times_of}
use Rattle.differences.specs.inner.Times.{Times}

abbrev time_of : Coded → ℕ
time_of x = x.time

recorded_ascending : (from : ℕ) (r : List Reading) → ((i : ℕ) → i < length r → from ≤ (get_or r i nothing).time + origin) → Increasing r
    → AscendingFrom from (map time_of (map code r))
recorded_ascending from [] l a = tt
recorded_ascending from (x ∷ r) l a = (l 0 (omega arith), recorded_ascending (suc (x.time + origin)) r (rise r a) (λ i k. a (suc i) (omega arith)))
  where
    rise : (r : List Reading) → Increasing (x ∷ r) → (i : ℕ) → i < length r → suc (x.time + origin) ≤ (get_or r i nothing).time + origin
    rise r a zero k = omega (arith, a 0 (omega arith))
    rise r a (suc i) k = omega (arith, rise r a i (omega arith), a (suc i) (omega arith))

picked_most : (ρ : Condition Coded) (b : List Coded) (r : List Reading) → InTime r → (i : ℕ) → i < length (map time_of (pick_from ρ b (map code r)))
    → get_or (map time_of (pick_from ρ b (map code r))) i 0 ≤ origin + origin
picked_most ρ b [] t i h = absurd (not-suc-le-zero h)
picked_most ρ b (x ∷ r) t i h = go (ρ b (code x) (map code r)) (picked_most ρ (code x ∷ b) r (λ j k. t (suc j) (omega arith))) i h
  where
    rest : List Coded
    rest = pick_from ρ (code x ∷ b) (map code r)

    go : (k : Bool) → ((j : ℕ) → j < length (map time_of rest) → get_or (map time_of rest) j 0 ≤ origin + origin) → (j : ℕ)
        → j < length (map time_of (when k (code x) rest)) → get_or (map time_of (when k (code x) rest)) j 0 ≤ origin + origin
    go true m zero h = omega (arith, t 0 (omega arith))
    go true m (suc j) h = m j (le_of_suc-le-suc h)
    go false m j h = m j h

-- THE TIMES OF THE RECORDS THAT A CONDITION PICKS
pub picked-times : (r : List Reading) → Recorded r → (ρ : Condition Coded) → Times (times_of ρ (map code r))
picked-times r h ρ = record {
  least = ascending_from_at (times_of ρ (map code r)) origin rising;
  most = picked_most ρ [] r h.in_time;
  ascending = ascending_from_ascending (times_of ρ (map code r)) origin rising;
}
  where
    rising : AscendingFrom origin (times_of ρ (map code r))
    rising = pick_ascending_from time_of ρ [] (map code r) origin (recorded_ascending origin r (λ i k. omega arith) h.increasing)
