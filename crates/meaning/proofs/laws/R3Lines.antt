-- The readings of R3, and its lines for questions by their trees (Paper 3).
use Rattle.std.specs.Prelude.{ℕ, ◌<◌, ◌≡◌, refl, pos}
use Rattle.std.proofs.Common.{arith, sym, ◌∙◌, le-leb}
use mathlib.Core.List.Memᴰ
use mathlib.Core.List.{List, [], ◌∷◌, map, Memᴰ}
use Rattle.std.specs.Int.Signed.{le_z_yes}
use Rattle.number.specs.Axis.{axis}
use Rattle.recording.specs.Condition.{some_of}
use Rattle.recording.specs.Reading.{Reading, A, B, value, nothing}
use Rattle.recording.specs.Recording.{in_range}
use Rattle.grammar.specs.Syntax.{T, eq, v, compare, pigment, dose, Text, atom, listed, and, finally, next}
use Rattle.meaning.specs.Ranges.{◌to◌, just, Lo, Hi}
use Rattle.meaning.specs.inner.Recorded.{InRange}
use Rattle.meaning.specs.inner.Coded.{Coded, code}
use Rattle.meaning.specs.inner.Truth.{truth, val}
use Rattle.meaning.proofs.laws.Pick.{all_at}
use Rattle.meaning.proofs.laws.Lines.{Example, ◌is◌, Holding, within, from_on, ones, told, ◌also◌}
use Rattle.meaning.proofs.laws.R2Lines.{r2}

-- a reading of R3 with a pigment: T, A, the slope of A and the pigment; B is 0 and flat
abbrev pub r3 : ℕ → ℕ → ℕ → ℕ → Reading
r3 t x s p = record { time = t; a = pos x; b = pos 0; slope_a = s; slope_b = 1; pigment = p }

abbrev pub R3 : List Reading
R3 = r2 0 10 2 ∷ r2 10 9 2 ∷ r3 20 8 1 7 ∷ r2 30 7 1 ∷ r3 40 6 0 16 ∷ r2 50 5 1 ∷ r2 60 4 0 ∷ r2 70 3 1 ∷ r2 80 2 1 ∷ []

-- two readings on pigment 7 is added; it is added, and v is the time
abbrev pub two_on : Text
two_on = next (next (atom (pigment 7)))

abbrev pub dosed : Text
dosed = finally (and (atom (pigment 7)) (atom (compare T eq v)))

abbrev pub lines : List Example
lines =
    listed (dose 7) is (just 20 ∷ [])
    ∷ listed (dose 16) is (just 40 ∷ [])
    ∷ listed (dose 3) is []
    ∷ atom (pigment 7) is []
    ∷ two_on is ((Lo to Hi) ∷ [])
    ∷ dosed is (just 20 ∷ [])
    ∷ []

r3_in_range : InRange R3
r3_in_range i h A = all_at nothing (λ x. in_range (value A x)) R3 refl i h
r3_in_range i h B = all_at nothing (λ x. in_range (value B x)) R3 refl i h

abbrev coded : List Coded
coded = map code R3

dose_7_set : (n : ℕ) → n < axis → val coded n (listed (dose 7)) 0 ≡ some_of (within n) (just 20 ∷ [])
unfolding val truth
dose_7_set n h = ones (20 ∷ []) n

dose_16_set : (n : ℕ) → n < axis → val coded n (listed (dose 16)) 0 ≡ some_of (within n) (just 40 ∷ [])
unfolding val truth
dose_16_set n h = ones (40 ∷ []) n

dose_3_set : (n : ℕ) → n < axis → val coded n (listed (dose 3)) 0 ≡ some_of (within n) []
unfolding val truth
dose_3_set n h = refl

pigment_set : (n : ℕ) → n < axis → val coded n (atom (pigment 7)) 0 ≡ some_of (within n) []
unfolding val
pigment_set n h = refl

two_on-set : (n : ℕ) → n < axis → val coded n two_on 0 ≡ some_of (within n) ((Lo to Hi) ∷ [])
unfolding val
two_on-set n h = sym (le-leb 0 n (omega arith)) ∙ from_on n 0 h

dosed-set : (n : ℕ) → n < axis → val coded n dosed 0 ≡ some_of (within n) (just 20 ∷ [])
unfolding val
dosed-set n h = ones (20 ∷ []) n

-- THE LINES HOLD OF R3
pub lines_hold : (l : Example) → Memᴰ l lines → Holding R3 l
lines_hold l =
    told R3 r3_in_range (listed (dose 7) is (just 20 ∷ [])) ((refl, refl), tt) dose_7_set (le_z_yes tt)
    also told R3 r3_in_range (listed (dose 16) is (just 40 ∷ [])) ((refl, refl), tt) dose_16_set (le_z_yes tt)
    also told R3 r3_in_range (listed (dose 3) is []) tt dose_3_set tt
    also told R3 r3_in_range (atom (pigment 7) is []) tt pigment_set tt
    also told R3 r3_in_range (two_on is ((Lo to Hi) ∷ [])) ((refl, refl), tt) two_on-set (le_z_yes tt)
    also told R3 r3_in_range (dosed is (just 20 ∷ [])) ((refl, refl), tt) dosed-set (le_z_yes tt)
    also (λ m. absurd (Memᴰ.not-nil m))
