-- Document 01, "Degree and pair": the pair call. Which pair it gives: document 02, Paper 2.
use Rattle.std.specs.Prelude.{ℕ, ◌≤◌, ◌<◌, ◌≡◌, Bool, true, false, cond, ◌⊎◌, List, [], ◌∷◌, ◌++◌, map, length, get_or, eqb, ltb, ℤ, pos, negsuc, Result, Ok, Err, Option, Some, None}
use Rattle.std.proofs.Math.IntN.{sub_ℕ}
use Rattle.refusal.specs.Outcome.{Outcome, result, refused, Line, line, judged}
use Rattle.refusal.specs.Numbers.{number_of, place_of}
use Rattle.recording.specs.Condition.{pick, holds_at}
use Rattle.recording.specs.Reading.{Reading, Curve, top, nothing, curve_of}
use Rattle.recording.specs.Recording.{readings, recording_lines, no_record}
use Rattle.tops.specs.Tops.{recorded_time, top_times, most_tops}
use Rattle.targets.specs.Target.{bad_target}
use Rattle.pair.specs.declared.TopPair.{TopPair}
use Rattle.refusal.specs.declared.Refusal.{Refusal}

-- the time of record i
abbrev pub time_at : List Reading → ℕ → ℕ
time_at r i = recorded_time (get_or r i nothing)

-- records i and j are two tops of c, i the earlier, and the later time minus the earlier is g
pub record Fits (r : List Reading) (c : Curve) (g : ℤ) (i j : ℕ) : Type 0 where
  pub order : i < j
  pub inside : j < length r
  pub earlier : holds_at nothing (top c) r i ≡ true
  pub later : holds_at nothing (top c) r j ≡ true
  pub apart : sub_ℕ (time_at r j) (time_at r i) ≡ g

-- what the call gives: two times, earlier first, or none
pub data Given : Type 0 where
  times : (earlier later : ℕ) → Given
  none : Given

-- ---- which pair it gives: the first of those that fit

pub record Two : Type 0 where
  pub earlier : ℕ
  pub later : ℕ

-- a time with each of others
abbrev pub with : ℕ → List ℕ → List Two
with t ts = map (λ u. record { earlier = t; later = u }) ts

-- all pairs of a time and one behind it, of times that ascend: least earlier time first, then least later time
abbrev pub pairs_of : List ℕ → List Two
pairs_of [] = []
pairs_of (t ∷ ts) = with t ts ++ pairs_of ts

-- the two numbers are equal
abbrev pub eq_z : ℤ → ℤ → Bool
eq_z (pos m) (pos n) = eqb m n
eq_z (pos m) (negsuc n) = false
eq_z (negsuc m) (pos n) = false
eq_z (negsuc m) (negsuc n) = eqb m n

-- the first pair whose later time minus earlier time is g; none where there is none
abbrev pub first_apart : ℤ → List Two → Given
first_apart g [] = none
first_apart g (p ∷ ps) = cond (eq_z (sub_ℕ p.later p.earlier) g) (times p.earlier p.later) (first_apart g ps)

-- THE PAIR THAT IS GIVEN: the first of the pairs of tops of c that are g apart
unfoldable pub first_pair : List Reading → Curve → ℤ → Given
first_pair r c g = first_apart g (pairs_of (top_times c r))

-- ---- what that says of the records: `first_fitting` (laws/Pair)

-- t and u are the times of two tops that fit
pub record OfTops (r : List Reading) (c : Curve) (g : ℤ) (t u : ℕ) : Type 0 where
  pub i : ℕ
  pub j : ℕ
  pub fits : Fits r c g i j
  pub first : t ≡ time_at r i
  pub second : u ≡ time_at r j

-- no pair that fits comes before t and u: none has a lesser earlier time, nor with the same earlier time a lesser later time
abbrev pub Foremost : List Reading → Curve → ℤ → ℕ → ℕ → Type 0
Foremost r c g t u = (i j : ℕ) → Fits r c g i j → (t < time_at r i) ⊎ ((t ≡ time_at r i) × (u ≤ time_at r j))

-- two times of tops that fit, of which no pair comes before; none exactly where no pair fits
abbrev pub FirstFitting : List Reading → Curve → ℤ → Given → Type 0
FirstFitting r c g (times t u) = OfTops r c g t u × Foremost r c g t u
FirstFitting r c g none = (i j : ℕ) → Fits r c g i j → ⊥

-- ---- the call

-- the curve has more than 256 tops
abbrev pub too_many_tops : List ℕ → ℕ → Line
too_many_tops bytes curve = line 9 (ltb most_tops (length (pick (top (curve_of curve)) (readings bytes))))

-- 4, 12 and 9, in order: the lines for an accepted recording
abbrev pub accepted_lines : List ℕ → ℕ → ℤ → List Line
accepted_lines bytes curve g = no_record bytes ∷ bad_target curve g ∷ too_many_tops bytes curve ∷ []

-- REFUSALS 1 to 4, 12 and 9, in order
abbrev pub pair_lines : List ℕ → ℕ → ℤ → List Line
pair_lines bytes curve g = recording_lines bytes ++ accepted_lines bytes curve g

-- what an answer of the code gives
abbrev pub pair_in : Option TopPair → Given
pair_in (Some p) = times p.earlier p.later
pair_in None = none

-- the pair, or the refusal's number and place
abbrev pub outcome_of : Result (Option TopPair) Refusal → Outcome Given
outcome_of (Ok p) = result (pair_in p)
outcome_of (Err x) = refused (number_of x) (place_of x)

-- THE PAIR CALL: its refusals in the order 1 to 4, 12, 9; else the first pair
unfoldable pub pair_of : List ℕ → ℕ → ℤ → Outcome Given
pair_of bytes curve g = judged (pair_lines bytes curve g) (first_pair (readings bytes) (curve_of curve) g)
