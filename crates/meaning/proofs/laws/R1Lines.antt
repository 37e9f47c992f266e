-- Document 01, "Recording R1", and Paper 1: the readings of R1, and its marked lines for questions by their trees. As texts, and with those of thinning, they
-- stand in crate `promises`.
use Rattle.std.specs.Prelude.{ℕ, ◌+◌, ◌<◌, ◌≡◌, refl, Bool, true, false, ◌||◌, eqb, pos}
use Rattle.std.proofs.Common.{arith, sym, ◌∙◌, leb-true, le-leb, eqb-true, eq-eqb}
use mathlib.Core.List.Memᴰ
use mathlib.Core.List.{List, [], ◌∷◌, map, Memᴰ}
use Rattle.std.specs.Int.Signed.{le_z_yes, lt_z_yes}
use Rattle.number.specs.Axis.{origin, axis}
use Rattle.recording.specs.Condition.{some_of}
use Rattle.recording.specs.Reading.{Reading, A, B, value, nothing}
use Rattle.recording.specs.Recording.{in_range}
use Rattle.grammar.specs.Syntax.{ge, eq, of, v, number, compare, high, low, lowafter, capafter, peaks, dips, cross, crossup, ampl, gaps, lag, atom, listed, until}
use Rattle.meaning.specs.Ranges.{◌to◌, just, Lo, Hi, Maximal}
use Rattle.meaning.specs.inner.Recorded.{InRange}
use Rattle.meaning.specs.inner.Coded.{Coded, code, coded_value, coded_after}
use Rattle.meaning.specs.inner.Truth.{truth, val}
use Rattle.number.proofs.laws.Boolean.{same}
use Rattle.meaning.proofs.laws.Pick.{Each, all_at}
use Rattle.meaning.proofs.laws.Extreme.{Greatest, Least, greatest_some, least_some, spread, among_same}
use Rattle.meaning.proofs.laws.Lines.{Example, ◌is◌, at, Holding, within, OnAxis, alone, up_to, from_on, ones, told, ◌also◌}

-- a reading of R1: T, A and the slope of A; B is 50 and flat
abbrev pub r1 : ℕ → ℕ → ℕ → Reading
r1 t x s = record { time = t; a = pos x; b = pos 50; slope_a = s; slope_b = 1; pigment = 0 }

abbrev pub R1 : List Reading
R1 = r1 0 40 2 ∷ r1 10 60 2 ∷ r1 20 80 2 ∷ r1 30 70 0 ∷ r1 40 30 0 ∷ r1 50 55 2 ∷ r1 60 90 2 ∷ r1 70 45 0 ∷ []

-- the marked lines
abbrev pub marked : List Example
marked =
    listed (high A) is ((Lo to pos 90) ∷ [])
    ∷ listed (low A) is ((pos 30 to Hi) ∷ [])
    ∷ listed (ampl A) is ((Lo to pos 60) ∷ [])
    ∷ listed (peaks A) is (just 30 ∷ just 70 ∷ [])
    ∷ listed (gaps A) is (just 40 ∷ [])
    ∷ listed cross is (just 40 ∷ just 70 ∷ [])
    ∷ listed (dips A) is (just 50 ∷ [])
    ∷ listed crossup is (just 10 ∷ just 50 ∷ [])
    ∷ listed lag is []
    ∷ listed (lowafter A (at 40)) is ((pos 45 to Hi) ∷ [])
    ∷ listed (lowafter A (at 70)) is []
    ∷ listed (capafter A (at 70)) is ((Lo to Hi) ∷ [])
    ∷ until (atom (compare (of A) ge (number (at 40)))) (atom (compare (of A) eq v)) is (just 30 ∷ just 40 ∷ just 60 ∷ just 70 ∷ just 80 ∷ [])
    ∷ []

r1_in_range : InRange R1
r1_in_range i h A = all_at nothing (λ x. in_range (value A x)) R1 refl i h
r1_in_range i h B = all_at nothing (λ x. in_range (value B x)) R1 refl i h

abbrev coded : List Coded
coded = map code R1

line : (l : Example) → Each OnAxis l.runs → ((n : ℕ) → n < axis → val coded n l.text 0 ≡ some_of (within n) l.runs) → Maximal l.runs → Holding R1 l
line = told R1 r1_in_range

-- the greatest A is 90, the least 30; after 40 the least is 45
greatest_A : Greatest (λ (x : Coded). true) (coded_value A) coded (at 90)
greatest_A = record { one = refl; all = refl }

least_A : Least (λ (x : Coded). true) (coded_value A) coded (at 30)
least_A = record { one = refl; all = refl }

least-after : Least (coded_after (at 40)) (coded_value A) coded (at 45)
least-after = record { one = refl; all = refl }

high-set : (n : ℕ) → n < axis → val coded n (listed (high A)) 0 ≡ some_of (within n) ((Lo to pos 90) ∷ [])
unfolding val truth
high-set n h = greatest_some (λ x. true) (coded_value A) coded n (at 90) greatest_A ∙ up_to n (at 90)

low-set : (n : ℕ) → n < axis → val coded n (listed (low A)) 0 ≡ some_of (within n) ((pos 30 to Hi) ∷ [])
unfolding val truth
low-set n h = least_some (λ x. true) (coded_value A) coded n (at 30) least_A ∙ from_on n (at 30) h

ampl_set : (n : ℕ) → n < axis → val coded n (listed (ampl A)) 0 ≡ some_of (within n) ((Lo to pos 60) ∷ [])
unfolding val truth
ampl_set n h = spread (coded_value A) coded n (at 30) (at 90) least_A greatest_A ∙ same _ _
    (λ e. le-leb n (at 60) (omega (arith, leb-true (at 30 + n) (at 90 + origin) e)))
    (λ e. le-leb (at 30 + n) (at 90 + origin) (omega (arith, leb-true n (at 60) e)))
    ∙ up_to n (at 60)

peaks_set : (n : ℕ) → n < axis → val coded n (listed (peaks A)) 0 ≡ some_of (within n) (just 30 ∷ just 70 ∷ [])
unfolding val truth
peaks_set n h = ones (30 ∷ 70 ∷ []) n

gaps_set : (n : ℕ) → n < axis → val coded n (listed (gaps A)) 0 ≡ some_of (within n) (just 40 ∷ [])
unfolding val truth
gaps_set n h = three (eqb (at 30 + n) (at 70 + origin)) ∙ same _ _
    (λ e. eq-eqb n (at 40) (omega (arith, eqb-true (at 30 + n) (at 70 + origin) e)))
    (λ e. eq-eqb (at 30 + n) (at 70 + origin) (omega (arith, eqb-true n (at 40) e)))
    ∙ alone (eqb n (at 40)) ∙ ones (40 ∷ []) n
  where
    three : (e : Bool) → ((e || false) || false) ≡ e
    three true = refl
    three false = refl

cross_set : (n : ℕ) → n < axis → val coded n (listed cross) 0 ≡ some_of (within n) (just 40 ∷ just 70 ∷ [])
unfolding val truth
cross_set n h = ones (40 ∷ 70 ∷ []) n

dips_set : (n : ℕ) → n < axis → val coded n (listed (dips A)) 0 ≡ some_of (within n) (just 50 ∷ [])
unfolding val truth
dips_set n h = ones (50 ∷ []) n

crossup_set : (n : ℕ) → n < axis → val coded n (listed crossup) 0 ≡ some_of (within n) (just 10 ∷ just 50 ∷ [])
unfolding val truth
crossup_set n h = ones (10 ∷ 50 ∷ []) n

lag_set : (n : ℕ) → n < axis → val coded n (listed lag) 0 ≡ false
unfolding val truth
lag_set n h = refl

lowafter_40_set : (n : ℕ) → n < axis → val coded n (listed (lowafter A (at 40))) 0 ≡ some_of (within n) ((pos 45 to Hi) ∷ [])
unfolding val truth
lowafter_40_set n h = least_some (coded_after (at 40)) (coded_value A) coded n (at 45) least-after ∙ from_on n (at 45) h

lowafter_70_set : (n : ℕ) → n < axis → val coded n (listed (lowafter A (at 70))) 0 ≡ false
unfolding val truth
lowafter_70_set n h = refl

capafter_70_set : (n : ℕ) → n < axis → val coded n (listed (capafter A (at 70))) 0 ≡ some_of (within n) ((Lo to Hi) ∷ [])
unfolding val truth
capafter_70_set n h = sym (le-leb 0 n (omega arith)) ∙ from_on n 0 h

until_set : (n : ℕ) → n < axis
    → val coded n (until (atom (compare (of A) ge (number (at 40)))) (atom (compare (of A) eq v))) 0 ≡ some_of (within n) (just 30 ∷ just 40 ∷ just 60 ∷ just 70 ∷ just 80 ∷ [])
unfolding val
until_set n h =
    among_same n (map at (40 ∷ 60 ∷ 80 ∷ 70 ∷ 30 ∷ [])) (map at (30 ∷ 40 ∷ 60 ∷ 70 ∷ 80 ∷ [])) refl refl ∙ ones (30 ∷ 40 ∷ 60 ∷ 70 ∷ 80 ∷ []) n

-- THE MARKED LINES HOLD OF R1
pub marked-lines : (l : Example) → Memᴰ l marked → Holding R1 l
marked-lines l =
    line (listed (high A) is ((Lo to pos 90) ∷ [])) ((refl, refl), tt) high-set (le_z_yes tt)
    also line (listed (low A) is ((pos 30 to Hi) ∷ [])) ((refl, refl), tt) low-set (le_z_yes tt)
    also line (listed (ampl A) is ((Lo to pos 60) ∷ [])) ((refl, refl), tt) ampl_set (le_z_yes tt)
    also line (listed (peaks A) is (just 30 ∷ just 70 ∷ [])) ((refl, refl), ((refl, refl), tt)) peaks_set (le_z_yes tt, lt_z_yes tt, le_z_yes tt)
    also line (listed (gaps A) is (just 40 ∷ [])) ((refl, refl), tt) gaps_set (le_z_yes tt)
    also line (listed cross is (just 40 ∷ just 70 ∷ [])) ((refl, refl), ((refl, refl), tt)) cross_set (le_z_yes tt, lt_z_yes tt, le_z_yes tt)
    also line (listed (dips A) is (just 50 ∷ [])) ((refl, refl), tt) dips_set (le_z_yes tt)
    also line (listed crossup is (just 10 ∷ just 50 ∷ [])) ((refl, refl), ((refl, refl), tt)) crossup_set (le_z_yes tt, lt_z_yes tt, le_z_yes tt)
    also line (listed lag is []) tt lag_set tt
    also line (listed (lowafter A (at 40)) is ((pos 45 to Hi) ∷ [])) ((refl, refl), tt) lowafter_40_set (le_z_yes tt)
    also line (listed (lowafter A (at 70)) is []) tt lowafter_70_set tt
    also line (listed (capafter A (at 70)) is ((Lo to Hi) ∷ [])) ((refl, refl), tt) capafter_70_set (le_z_yes tt)
    also line (until (atom (compare (of A) ge (number (at 40)))) (atom (compare (of A) eq v)) is (just 30 ∷ just 40 ∷ just 60 ∷ just 70 ∷ just 80 ∷ []))
    ((refl, refl), ((refl, refl), ((refl, refl), ((refl, refl), ((refl, refl), tt))))) until_set
    (le_z_yes tt, lt_z_yes tt, (le_z_yes tt, lt_z_yes tt, (le_z_yes tt, lt_z_yes tt, (le_z_yes tt, lt_z_yes tt, le_z_yes tt))))
    also (λ m. absurd (Memᴰ.not-nil m))
