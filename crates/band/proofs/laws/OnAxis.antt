-- The ends of a run that is shown are indices of the axis.
use Rattle.std.specs.Prelude.{ℕ, ◌≤◌, ◌≡◌, false, List, [], ◌∷◌, ◌++◌, ℤ, pos, negsuc}
use Rattle.std.proofs.Common.{arith, sym, subst, ltb-false}
use Rattle.std.proofs.lemmas.Bool.{false≢true}
use Rattle.refusal.specs.Outcome.{result, NoneMeets}
use Rattle.recording.specs.Recording.{Accepted, recording_lines, no_record}
use Rattle.recording.proofs.laws.Outcome.{result_none, none_append}
use Rattle.grammar.specs.Syntax.{Listed, high, low, lowafter, capafter, peaks, dips, cross, crossup, dose, ampl, gaps, steps, lag}
use Rattle.text.specs.Told.{text_lines}
use Rattle.meaning.specs.inner.Coded.{coded}
use Rattle.question.specs.Question.{read, asking_lines}
use Rattle.band.specs.Band.{widest}
use Rattle.band.specs.Means.{Bands}
use Rattle.band.specs.inner.Ends.{to_greatest, from_least, from_greatest, to_spread, bands_of, values, values_after}
use Rattle.band.specs.Call.{bad_band, width_of, the_question, width_line, extreme_line, band_of}
use Rattle.band.specs.inner.OnAxis.{BothOnAxis}
use Rattle.meaning.proofs.laws.Pick.{Each}
use Rattle.band.proofs.laws.Values.{greatest_in, least_in}
use Rattle.band.proofs.laws.Lists.{Inner}
use Rattle.band.proofs.laws.Curves.{margin}
use Rattle.band.proofs.laws.Today.{inner_values, inner_after}

-- ---- over lists of values

module _ (e : ℕ) (narrow : e ≤ widest) where
  on_greatest : (v : List ℕ) → Each (Inner margin) v → BothOnAxis (to_greatest e v)
  on_greatest [] a = (tt, tt)
  on_greatest (x ∷ v) a = let u = (greatest_in (Inner margin) x v a).1 in ((omega arith, omega arith), (omega arith, omega arith))

  on_least : (v : List ℕ) → Each (Inner margin) v → BothOnAxis (from_least e v)
  on_least [] a = (tt, tt)
  on_least (x ∷ v) a = let u = (least_in (Inner margin) x v a).1 in ((omega arith, omega arith), (omega arith, omega arith))

  on_cap : (v : List ℕ) → Each (Inner margin) v → BothOnAxis (from_greatest e v)
  on_cap [] a = ((omega arith, omega arith), (omega arith, omega arith))
  on_cap (x ∷ v) a = let u = (greatest_in (Inner margin) x v a).1 in ((omega arith, omega arith), (omega arith, omega arith))

  on_spread : (v : List ℕ) → Each (Inner margin) v → BothOnAxis (to_spread e v)
  on_spread [] a = (tt, tt)
  on_spread (x ∷ []) a = ((omega arith, omega arith), (omega arith, omega arith))
  on_spread (x ∷ (y ∷ v)) a =
      let u = (greatest_in (Inner margin) x (y ∷ v) a).1 in let l = (least_in (Inner margin) x (y ∷ v) a).0 in
      ((omega arith, omega arith), (omega arith, omega arith))

  -- ---- of an accepted recording

  pub bands_on_axis : (rec : List ℕ) → Accepted rec → (q : Listed) → BothOnAxis (bands_of q e (coded rec))
  bands_on_axis rec a (high c) = on_greatest (values c (coded rec)) (inner_values rec a c)
  bands_on_axis rec a (low c) = on_least (values c (coded rec)) (inner_values rec a c)
  bands_on_axis rec a (lowafter c k) = on_least (values_after c k (coded rec)) (inner_after rec a c k)
  bands_on_axis rec a (capafter c k) = on_cap (values_after c k (coded rec)) (inner_after rec a c k)
  bands_on_axis rec a (ampl c) = on_spread (values c (coded rec)) (inner_values rec a c)
  bands_on_axis rec a (peaks c) = (tt, tt)
  bands_on_axis rec a (dips c) = (tt, tt)
  bands_on_axis rec a cross = (tt, tt)
  bands_on_axis rec a crossup = (tt, tt)
  bands_on_axis rec a (dose k) = (tt, tt)
  bands_on_axis rec a (gaps c) = (tt, tt)
  bands_on_axis rec a (steps c) = (tt, tt)
  bands_on_axis rec a lag = (tt, tt)

-- ---- of the call

pub width_narrow : (z : ℤ) → bad_band z ≡ false → width_of z ≤ widest
width_narrow (pos n) h = ltb-false widest n h
width_narrow (negsuc n) h = absurd (false≢true (sym h))

-- what a result of the band call shows: none of its lines meets, and the two sets are those of the text's question
pub record Shown (bytes text : List ℕ) (e : ℤ) (b : Bands) : Type 0 where
  pub accepted : Accepted bytes
  pub asked : NoneMeets (no_record bytes ∷ text_lines text)
  pub width : bad_band e ≡ false
  pub one : (extreme_line (read text)).meets ≡ false
  pub sets : bands_of (the_question (read text)) (width_of e) (coded bytes) ≡ b

pub shown : (bytes text : List ℕ) (e : ℤ) (b : Bands) → band_of bytes text e ≡ result b → Shown bytes text e b
unfolding band_of
shown bytes text e b h =
    let k = result_none (asking_lines bytes text ++ (width_line e ∷ extreme_line (read text) ∷ [])) (bands_of (the_question (read text)) (width_of e) (coded bytes)) b h in
    let n = none_append (asking_lines bytes text) (width_line e ∷ extreme_line (read text) ∷ []) k.0 in
    let m = none_append (recording_lines bytes) (no_record bytes ∷ text_lines text) n.0 in
    record { accepted = m.0; asked = m.1; width = n.1.0; one = n.1.1.0; sets = k.1 }

pub given_on_axis : (bytes text : List ℕ) (e : ℤ) (b : Bands) → band_of bytes text e ≡ result b → BothOnAxis b
given_on_axis bytes text e b h =
    let g = shown bytes text e b h in
    subst BothOnAxis g.sets (bands_on_axis (width_of e) (width_narrow e g.width) bytes g.accepted (the_question (read text)))
