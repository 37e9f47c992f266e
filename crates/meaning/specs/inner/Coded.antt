-- Readings as code holds them: the time and the values as indices of the axis.
use Rattle.std.specs.Prelude.{ℕ, zero, suc, ◌+◌, ◌-◌, Bool, false, not, List, map, leb, ltb, eqb, ℤ, pos, negsuc}
use Rattle.number.specs.Axis.{origin}
use Rattle.recording.specs.Condition.{Condition, pick}
use Rattle.recording.specs.Recording.{readings}
use Rattle.recording.specs.Reading.{Reading, Curve, A, B, Event, a_top, a_dip, a_crossing, an_upcrossing, turn, nothing}

-- the index of a whole number of the axis
abbrev pub index : ℤ → ℕ
index (pos n) = n + origin
index (negsuc n) = origin - suc n

pub record Coded : Type 0 where
  pub time : ℕ
  pub a : ℕ
  pub b : ℕ
  pub slope_a : ℕ
  pub slope_b : ℕ
  pub pigment : ℕ

abbrev pub code : Reading → Coded
code x = record {
  time = x.time + origin;
  a = index x.a;
  b = index x.b;
  slope_a = x.slope_a;
  slope_b = x.slope_b;
  pigment = x.pigment;
}

-- a recording
abbrev pub coded : List ℕ → List Coded
coded bytes = map code (readings bytes)

-- what stands past the end of a recording
abbrev pub blank : Coded
blank = code nothing

abbrev pub coded_value : Curve → Coded → ℕ
coded_value A x = x.a
coded_value B x = x.b

abbrev pub coded_slope : Curve → Coded → ℕ
coded_slope A x = x.slope_a
coded_slope B x = x.slope_b

abbrev pub coded_falls : Curve → Coded → Bool
coded_falls c x = eqb (coded_slope c x) 0

abbrev pub coded_rises : Curve → Coded → Bool
coded_rises c x = eqb (coded_slope c x) 2

-- A ≤ B
abbrev pub coded_crossed : Coded → Bool
coded_crossed x = leb x.a x.b

-- the pigment with the number k is added
abbrev pub coded_adds : ℕ → Coded → Bool
coded_adds zero x = false
coded_adds (suc k) x = eqb x.pigment (suc k)

-- T > k
abbrev pub coded_after : ℕ → Coded → Bool
coded_after k x = ltb k x.time

-- each event is a turn: of what it turns from, and to
abbrev pub coded_from : Event → Coded → Bool
coded_from (a_top c) x = coded_rises c x
coded_from (a_dip c) x = coded_falls c x
coded_from a_crossing x = not (coded_crossed x)
coded_from an_upcrossing x = not (not (coded_crossed x))

abbrev pub coded_to : Event → Coded → Bool
coded_to (a_top c) x = coded_falls c x
coded_to (a_dip c) x = coded_rises c x
coded_to a_crossing x = coded_crossed x
coded_to an_upcrossing x = not (coded_crossed x)

-- the times of the records of which the condition holds
abbrev pub times_of : Condition Coded → List Coded → List ℕ
times_of ρ r = map (λ (x : Coded). x.time) (pick ρ r)

abbrev pub coded_times : Event → List Coded → List ℕ
coded_times e r = times_of (turn (coded_from e) (coded_to e)) r

-- the times of the additions of pigment k
abbrev pub coded_additions : ℕ → List Coded → List ℕ
coded_additions k r = times_of (λ before x after. coded_adds k x) r
