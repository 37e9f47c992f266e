-- The readings of R2, and its lines for questions by their trees.
use Rattle.std.specs.Prelude.{ℕ, ◌<◌, ◌≡◌, refl, pos}
use mathlib.Core.List.Memᴰ
use mathlib.Core.List.{List, [], ◌∷◌, map, Memᴰ}
use Rattle.std.specs.Int.Signed.{le_z_yes}
use Rattle.number.specs.Axis.{axis}
use Rattle.recording.specs.Condition.{some_of}
use Rattle.recording.specs.Reading.{Reading, A, B, value, nothing}
use Rattle.recording.specs.Recording.{in_range}
use Rattle.grammar.specs.Syntax.{peaks, dips, listed}
use Rattle.meaning.specs.Ranges.{just}
use Rattle.meaning.specs.inner.Recorded.{InRange}
use Rattle.meaning.specs.inner.Coded.{code}
use Rattle.meaning.specs.inner.Truth.{truth, val}
use Rattle.meaning.proofs.laws.Pick.{all_at}
use Rattle.meaning.proofs.laws.Lines.{Example, ◌is◌, Holding, within, ones, told, ◌also◌}

-- a reading of R2: T, A and the slope of A; B is 0 and flat
abbrev pub r2 : ℕ → ℕ → ℕ → Reading
r2 t x s = record { time = t; a = pos x; b = pos 0; slope_a = s; slope_b = 1; pigment = 0 }

abbrev pub R2 : List Reading
R2 = r2 0 10 2 ∷ r2 10 9 2 ∷ r2 20 8 1 ∷ r2 30 7 1 ∷ r2 40 6 0 ∷ r2 50 5 1 ∷ r2 60 4 0 ∷ r2 70 3 1 ∷ r2 80 2 1 ∷ []

abbrev pub lines : List Example
lines =
    listed (peaks A) is (just 40 ∷ [])
    ∷ listed (dips A) is []
    ∷ []

r2_in_range : InRange R2
r2_in_range i h A = all_at nothing (λ x. in_range (value A x)) R2 refl i h
r2_in_range i h B = all_at nothing (λ x. in_range (value B x)) R2 refl i h

peaks_set : (n : ℕ) → n < axis → val (map code R2) n (listed (peaks A)) 0 ≡ some_of (within n) (just 40 ∷ [])
unfolding val truth
peaks_set n h = ones (40 ∷ []) n

dips_set : (n : ℕ) → n < axis → val (map code R2) n (listed (dips A)) 0 ≡ some_of (within n) []
unfolding val truth
dips_set n h = refl

-- THE LINES HOLD OF R2
pub lines_hold : (l : Example) → Memᴰ l lines → Holding R2 l
lines_hold l =
    told R2 r2_in_range (listed (peaks A) is (just 40 ∷ [])) ((refl, refl), tt) peaks_set (le_z_yes tt)
    also told R2 r2_in_range (listed (dips A) is []) tt dips_set tt
    also (λ m. absurd (Memᴰ.not-nil m))
