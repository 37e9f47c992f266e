-- The whole distance: the degree call is its graded form, an index stands for its target, and every distance is one of the axis.
use Rattle.std.specs.Prelude.{ℕ, ◌<◌, ◌≡◌, refl, Bool, true, false, cond, List, ltb, ℤ}
use Rattle.std.proofs.Common.{arith, sym, subst, ltb-true}
use Rattle.number.specs.Axis.{axis}
use Rattle.refusal.specs.Outcome.{result}
use Rattle.recording.proofs.laws.Outcome.{judged_skip, result_none}
use Rattle.runs.specs.Distance.{distance}
use Rattle.meaning.specs.inner.Coded.{index}
use Rattle.question.specs.Question.{read, answer, asking_lines, set_lines}
use Rattle.targets.specs.Target.{off_axis}
use Rattle.degree.specs.Degree.{away, nowhere, reach_in, valued, target_line, degree_lines, nearness_of, reach_of}
use Rattle.degree.specs.inner.Reach.{reach_at, mapped}
use Rattle.degree.proofs.laws.Call.{judged-mapped}

-- THE DEGREE CALL IS THE DISTANCE, GRADED
pub nearness_valued : (bytes text : List ℕ) (g : ℤ) → nearness_of bytes text g ≡ mapped valued (reach_of bytes text g)
unfolding nearness_of reach_of
nearness_valued bytes text g = sym (judged-mapped valued (degree_lines bytes text g) (reach_in (answer bytes text) (index g)))

-- of a target on the axis 12 is not asked
pub reach_index : (bytes text : List ℕ) (g : ℤ) → off_axis g ≡ false → reach_of bytes text g ≡ reach_at bytes text (index g)
unfolding reach_of reach_at
reach_index bytes text g h = judged_skip (asking_lines bytes text) (target_line g) (set_lines bytes (read text)) (reach_in (answer bytes text) (index g)) h

away_same : (d e : ℕ) → away d ≡ away e → d ≡ e
away_same d e p = cc

away_nowhere : {C : Type 0} (d : ℕ) → nowhere ≡ away d → C
away_nowhere d p = let z : ◌≡◌ {A = ℕ} 0 1 = cc in absurd (bad z)
  where
    bad : ◌≡◌ {A = ℕ} 0 1 → ⊥
    bad z = omega arith

pub reach_small : (f : ℕ → Bool) (v d : ℕ) → reach_in f v ≡ away d → d < axis
reach_small f v d e = by (ltb (distance f v) axis) refl e
  where
    by : (b : Bool) → ltb (distance f v) axis ≡ b → cond b (away (distance f v)) nowhere ≡ away d → d < axis
    by true t e = subst (λ (k : ℕ). k < axis) (away_same (distance f v) d e) (ltb-true (distance f v) axis t)
    by false t e = away_nowhere d e

-- EVERY DISTANCE IS ONE OF THE AXIS
pub away_small : (bytes text : List ℕ) (g : ℤ) (d : ℕ) → reach_of bytes text g ≡ result (away d) → d < axis
unfolding reach_of
away_small bytes text g d e = reach_small (answer bytes text) (index g) d (result_none (degree_lines bytes text g) (reach_in (answer bytes text) (index g)) (away d) e).1

pub at_small : (bytes text : List ℕ) (v d : ℕ) → reach_at bytes text v ≡ result (away d) → d < axis
unfolding reach_at
at_small bytes text v d e = reach_small (answer bytes text) v d (result_none _ (reach_in (answer bytes text) v) (away d) e).1
