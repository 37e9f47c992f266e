-- Recordings that a question on extremes does not tell apart have the same two sets within every band, for `ampl` where both or neither is a single record.
use Rattle.std.specs.Prelude.{ℕ, ◌+◌, ◌-◌, ◌*◌, min, ◌≡◌, ◌↔◌, List, [], ◌∷◌, length}
use Rattle.std.proofs.Common.{arith, sym, ap, ◌∙◌}
use Rattle.std.proofs.Math.Path.{refl}
use Rattle.std.proofs.lemmas.Bool.{false≢true}
use Rattle.number.specs.Axis.{origin, axis}
use Rattle.recording.specs.Recording.{Accepted}
use Rattle.grammar.specs.Syntax.{Listed, high, low, lowafter, capafter, peaks, dips, cross, crossup, dose, ampl, gaps, steps, lag, Text, atom, listed, or, and, neg, finally, globally, next, until, weak_until}
use Rattle.meaning.specs.inner.Coded.{coded}
use Rattle.meaning.specs.inner.Truth.{truth, val}
use Rattle.band.specs.inner.Ends.{two_sets, upto, from, values, values_after, greatest_of, least_of, spread_of, to_greatest, from_least, from_greatest, to_spread, bands_of}
use Rattle.band.specs.Call.{the_question}
use Rattle.meaning.proofs.laws.Pick.{Each}
use Rattle.band.proofs.laws.Values.{greatest_in, least_greatest}
use Rattle.band.proofs.laws.Lists.{Inner, reaches, sinks, stays, lie_apart, reaches_is, sinks_is, stays_is, lie_is}
use Rattle.band.proofs.laws.Curves.{margin}
use Rattle.band.proofs.laws.Meaning.{high-values, low_values, lowafter_values, capafter_values, ampl_values}
use Rattle.band.proofs.laws.Today.{length-values, inner_after}

-- ---- over lists of values

module _ (e : ℕ) where
  same_greatest : (v w : List ℕ) → ((n : ℕ) → reaches n v ≡ reaches n w) → to_greatest e v ≡ to_greatest e w
  same_greatest [] [] h = refl
  same_greatest [] (y ∷ w) h = absurd (false≢true (h 0 ∙ (reaches_is 0 y w).1 (omega arith)))
  same_greatest (x ∷ v) [] h = absurd (false≢true (sym (h 0) ∙ (reaches_is 0 x v).1 (omega arith)))
  same_greatest (x ∷ v) (y ∷ w) h =
      let a = (reaches_is (greatest_of x v) y w).0 (sym (h (greatest_of x v)) ∙ (reaches_is (greatest_of x v) x v).1 (omega arith)) in
      let b = (reaches_is (greatest_of y w) x v).0 (h (greatest_of y w) ∙ (reaches_is (greatest_of y w) y w).1 (omega arith)) in
      let q : greatest_of x v ≡ greatest_of y w = omega arith in
      ap (λ (n : ℕ). two_sets (upto (n - e)) (upto (n + e))) q

  same_least : (v w : List ℕ) → ((n : ℕ) → sinks n v ≡ sinks n w) → from_least e v ≡ from_least e w
  same_least [] [] h = refl
  same_least [] (y ∷ w) h = absurd (false≢true (h (least_of y w) ∙ (sinks_is (least_of y w) y w).1 (omega arith)))
  same_least (x ∷ v) [] h = absurd (false≢true (sym (h (least_of x v)) ∙ (sinks_is (least_of x v) x v).1 (omega arith)))
  same_least (x ∷ v) (y ∷ w) h =
      let a = (sinks_is (least_of x v) y w).0 (sym (h (least_of x v)) ∙ (sinks_is (least_of x v) x v).1 (omega arith)) in
      let b = (sinks_is (least_of y w) x v).0 (h (least_of y w) ∙ (sinks_is (least_of y w) y w).1 (omega arith)) in
      let q : least_of x v ≡ least_of y w = omega arith in
      ap (λ (n : ℕ). two_sets (from (n + e)) (from (n - e))) q

  same_cap : (v w : List ℕ) → Each (Inner margin) v → Each (Inner margin) w → ((n : ℕ) → stays n v ≡ stays n w) → from_greatest e v ≡ from_greatest e w
  same_cap [] [] a b h = refl
  same_cap [] (y ∷ w) a b h = let g = (greatest_in (Inner margin) y w b).0 in let k = (stays_is 0 y w).0 (sym (h 0)) in absurd (omega arith)
  same_cap (x ∷ v) [] a b h = let g = (greatest_in (Inner margin) x v a).0 in let k = (stays_is 0 x v).0 (h 0) in absurd (omega arith)
  same_cap (x ∷ v) (y ∷ w) a b h =
      let c = (stays_is (greatest_of x v) y w).0 (sym (h (greatest_of x v)) ∙ (stays_is (greatest_of x v) x v).1 (omega arith)) in
      let d = (stays_is (greatest_of y w) x v).0 (h (greatest_of y w) ∙ (stays_is (greatest_of y w) y w).1 (omega arith)) in
      let q : greatest_of x v ≡ greatest_of y w = omega arith in
      ap (λ (n : ℕ). two_sets (from (n + e)) (from (n - e))) q

  same_spread : (v w : List ℕ) → (length v ≡ 1) ↔ (length w ≡ 1) → ((n : ℕ) → lie_apart n v ≡ lie_apart n w) → to_spread e v ≡ to_spread e w
  same_spread [] [] s h = refl
  same_spread [] (y ∷ w) s h = let o = least_greatest y w in absurd (false≢true (h 0 ∙ (lie_is 0 y w).1 (omega arith)))
  same_spread (x ∷ v) [] s h = let o = least_greatest x v in absurd (false≢true (sym (h 0) ∙ (lie_is 0 x v).1 (omega arith)))
  same_spread (x ∷ []) (y ∷ []) s h = refl
  same_spread (x ∷ []) (y ∷ (z ∷ w)) s h = absurd (let k = s.0 refl in omega arith)
  same_spread (x ∷ (u ∷ v)) (y ∷ []) s h = absurd (let k = s.1 refl in omega arith)
  same_spread (x ∷ (u ∷ v)) (y ∷ (z ∷ w)) s h =
      let o = least_greatest x (u ∷ v) in let p = least_greatest y (z ∷ w) in
      let a = (lie_is (origin + spread_of x (u ∷ v)) y (z ∷ w)).0 (sym (h (origin + spread_of x (u ∷ v))) ∙ (lie_is (origin + spread_of x (u ∷ v)) x (u ∷ v)).1 (omega arith)) in
      let b = (lie_is (origin + spread_of y (z ∷ w)) x (u ∷ v)).0 (h (origin + spread_of y (z ∷ w)) ∙ (lie_is (origin + spread_of y (z ∷ w)) y (z ∷ w)).1 (omega arith)) in
      let q : spread_of x (u ∷ v) ≡ spread_of y (z ∷ w) = omega arith in
      ap (λ (d : ℕ). two_sets (upto (origin + (d - 2 * e))) (upto (min (origin + (d + 2 * e)) (axis - 1)))) q

-- ---- of accepted recordings

module _ (rec held : List ℕ) (a : Accepted rec) (b : Accepted held) (single : (length (coded held) ≡ 1) ↔ (length (coded rec) ≡ 1)) (e : ℕ) where
  pub bands_same : (q : Listed) → ((n : ℕ) → truth q (coded held) n ≡ truth q (coded rec) n) → bands_of q e (coded held) ≡ bands_of q e (coded rec)
  bands_same (high c) h = same_greatest e (values c (coded held)) (values c (coded rec)) (λ n. sym (high-values c (coded held) n) ∙ h n ∙ high-values c (coded rec) n)
  bands_same (low c) h = same_least e (values c (coded held)) (values c (coded rec)) (λ n. sym (low_values c (coded held) n) ∙ h n ∙ low_values c (coded rec) n)
  bands_same (lowafter c k) h =
      same_least e (values_after c k (coded held)) (values_after c k (coded rec)) (λ n. sym (lowafter_values c (coded held) n k) ∙ h n ∙ lowafter_values c (coded rec) n k)
  bands_same (capafter c k) h =
      same_cap e (values_after c k (coded held)) (values_after c k (coded rec)) (inner_after held b c k) (inner_after rec a c k)
      (λ n. sym (capafter_values c (coded held) n k) ∙ h n ∙ capafter_values c (coded rec) n k)
  bands_same (ampl c) h =
      same_spread e (values c (coded held)) (values c (coded rec)) (
        λ z. length-values c (coded rec) ∙ single.0 (sym (length-values c (coded held)) ∙ z),
        λ z. length-values c (coded held) ∙ single.1 (sym (length-values c (coded rec)) ∙ z),
      )
      (λ n. sym (ampl_values c (coded held) n) ∙ h n ∙ ampl_values c (coded rec) n)
  bands_same (peaks c) h = refl
  bands_same (dips c) h = refl
  bands_same cross h = refl
  bands_same crossup h = refl
  bands_same (dose k) h = refl
  bands_same (gaps c) h = refl
  bands_same (steps c) h = refl
  bands_same lag h = refl

  -- the two sets of a text, where the text has the same truth of both
  pub text_same : (p : Text) → ((n : ℕ) → val (coded held) n p 0 ≡ val (coded rec) n p 0) → bands_of (the_question p) e (coded held) ≡ bands_of (the_question p) e (coded rec)
  unfolding val
  text_same (listed q) h = bands_same q h
  text_same (atom k) h = refl
  text_same (or p q) h = refl
  text_same (and p q) h = refl
  text_same (neg p) h = refl
  text_same (finally p) h = refl
  text_same (globally p) h = refl
  text_same (next p) h = refl
  text_same (until p q) h = refl
  text_same (weak_until p q) h = refl
