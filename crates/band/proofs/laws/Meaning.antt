-- THE ENDS ARE THE MEANING: a number of the axis lies in a run of `bands_of` exactly where it is certain, or possible.
use Rattle.std.specs.Prelude.{ℕ, ◌+◌, ◌≤◌, ◌≡◌, refl, Bool, true, false, ◌&&◌, ◌||◌, not, ◌↔◌, List, [], ◌∷◌, map, ltb}
use Rattle.std.proofs.Common.{sym, ap, ap₂, ◌∙◌, subst}
use Rattle.std.proofs.Math.Bool.{So}
use Rattle.std.proofs.Math.Dec.{leb}
use Rattle.number.specs.Axis.{origin, whole}
use Rattle.number.proofs.laws.Boolean.{then}
use Rattle.recording.specs.Condition.{when}
use Rattle.recording.specs.Reading.{Reading, Curve}
use Rattle.grammar.specs.Syntax.{Listed, high, low, lowafter, capafter, ampl}
use Rattle.meaning.specs.inner.Recorded.{InRange}
use Rattle.meaning.specs.inner.Coded.{Coded, code, coded_value, coded_after}
use Rattle.recording.specs.Condition.{some_of}
use Rattle.meaning.specs.inner.Truth.{all_of, truth}
use Rattle.meaning.proofs.laws.Whole.{stands_whole}
use Rattle.meaning.proofs.laws.Listed.{says_at}
use Rattle.meaning.proofs.laws.Pick.{Each}
use Rattle.band.specs.Band.{OfExtremes, of_high, of_low, of_lowafter, of_capafter, of_ampl, Certain, Possible}
use Rattle.band.specs.Means.{Bands}
use Rattle.band.specs.inner.Ends.{values_where, values, values_after, bands_of}
use Rattle.band.specs.Means.{Mean}
use Rattle.band.proofs.laws.Lists.{reaches, sinks, stays, lie_apart, EveryList, SomeList, Tells, tells_greatest, tells_least, tells_cap, tells_spread}
use Rattle.band.proofs.laws.Curves.{margin, Ranged, all_ranged, within_settled, all_inner, within-values, curved}

-- ---- a question is a test of values

module _ (P : Coded → Bool) (c : Curve) (Q : ℕ → Bool) where
  pub some_where : (r : List Coded) → some_of (λ x. P x && Q (coded_value c x)) r ≡ some_of Q (values_where P c r)
  some_where [] = refl
  some_where (x ∷ r) = ap (λ (b : Bool). (P x && Q (coded_value c x)) || b) (some_where r) ∙ by (P x)
    where
      by : (b : Bool) → ((b && Q (coded_value c x)) || some_of Q (values_where P c r)) ≡ some_of Q (when b (coded_value c x) (values_where P c r))
      by true = refl
      by false = refl

  pub all_where : (r : List Coded) → all_of (λ x. not (P x) || Q (coded_value c x)) r ≡ all_of Q (values_where P c r)
  all_where [] = refl
  all_where (x ∷ r) = ap (λ (b : Bool). (not (P x) || Q (coded_value c x)) && b) (all_where r) ∙ by (P x)
    where
      by : (b : Bool) → ((not b || Q (coded_value c x)) && all_of Q (values_where P c r)) ≡ all_of Q (when b (coded_value c x) (values_where P c r))
      by true = refl
      by false = refl

module _ (c : Curve) (r : List Coded) (n : ℕ) where
  pub high-values : truth (high c) r n ≡ reaches n (values c r)
  unfolding truth
  high-values = some_where (λ x. true) c (λ x. leb n x) r

  pub low_values : truth (low c) r n ≡ sinks n (values c r)
  unfolding truth
  low_values = some_where (λ x. true) c (λ x. leb x n) r

  pub lowafter_values : (k : ℕ) → truth (lowafter c k) r n ≡ sinks n (values_after c k r)
  unfolding truth
  lowafter_values k = some_where (coded_after k) c (λ x. leb x n) r

  pub capafter_values : (k : ℕ) → truth (capafter c k) r n ≡ stays n (values_after c k r)
  unfolding truth
  capafter_values k = all_where (coded_after k) c (λ x. leb x n) r

  pub ampl_values : truth (ampl c) r n ≡ lie_apart n (values c r)
  unfolding truth
  ampl_values = outer r
    where
      inner : (x : Coded) → some_of (λ y. leb (coded_value c x + n) (coded_value c y + origin)) r ≡ some_of (λ z. leb (coded_value c x + n) (z + origin)) (values c r)
      inner x = some_where (λ y. true) c (λ z. leb (coded_value c x + n) (z + origin)) r

      outer : (s : List Coded) → some_of (λ x. some_of (λ y. leb (coded_value c x + n) (coded_value c y + origin)) r) s ≡ some_of (λ x. some_of (λ z. leb (x + n) (z + origin)) (values c r)) (values c s)
      outer [] = refl
      outer (x ∷ s) = ap₂ (λ (a b : Bool). a || b) (inner x) (outer s)

-- ---- from values to curves

module _ (r : List Reading) (range : InRange r) (e : ℕ) (narrow : e ≤ margin) (n : ℕ) where
  ranged : Each Ranged r
  ranged = all_ranged r range

  module _ (q : Listed) (P : Coded → Bool) (timely : (x y : Coded) → x.time ≡ y.time → P x ≡ P y) (c : Curve) (T : List ℕ → Bool)
      (is : (s : List Coded) → truth q s n ≡ T (values_where P c s)) where
    every : EveryList e (values_where P c (map code r)) T ↔ Certain q e r (whole n)
    every = (
      λ f s w. (says_at s (within_settled e narrow r s ranged w) (whole n) n (stands_whole n) q).0
          (is (map code s) ∙ f (values_where P c (map code s)) (within-values e narrow P timely c r s ranged w)),
      λ g v k.
          let x = curved e narrow P timely c r ranged v k in
          let t = (says_at x.curve (within_settled e narrow r x.curve ranged x.within) (whole n) n (stands_whole n) q).1 (g x.curve x.within) in
          subst (λ (w : List ℕ). So (T w)) x.has (sym (is (map code x.curve)) ∙ t),
    )

    some : SomeList e (values_where P c (map code r)) T ↔ Possible q e r (whole n)
    some = (
      λ t.
          let x = curved e narrow P timely c r ranged t.0 t.1 in (
            x.curve,
            x.within,
            (says_at x.curve (within_settled e narrow r x.curve ranged x.within) (whole n) n (stands_whole n) q).0
                (is (map code x.curve) ∙ subst (λ (w : List ℕ). So (T w)) (sym x.has) t.2),
          ),
      λ t. (
        values_where P c (map code t.0),
        within-values e narrow P timely c r t.0 ranged t.1,
        sym (is (map code t.0)) ∙ (says_at t.0 (within_settled e narrow r t.0 ranged t.1) (whole n) n (stands_whole n) q).1 t.2,
      ),
    )

module _ (r : List Reading) (range : InRange r) (e : ℕ) (narrow : e ≤ margin) where
  module _ (q : Listed) (P : Coded → Bool) (timely : (x y : Coded) → x.time ≡ y.time → P x ≡ P y) (c : Curve) (T : ℕ → List ℕ → Bool)
      (is : (s : List Coded) (n : ℕ) → truth q s n ≡ T n (values_where P c s)) (b : Bands) (t : Tells e (values_where P c (map code r)) T b) where
    mean : Mean q e r b
    mean = record {
      certain = λ n h. then (t.certain n h) (every r range e narrow n q P timely c (T n) (λ s. is s n));
      possible = λ n h. then (t.possible n h) (some r range e narrow n q P timely c (T n) (λ s. is s n));
    }

  any-time : (x y : Coded) → x.time ≡ y.time → ◌≡◌ {A = Bool} true true
  any-time x y h = refl

  after-time : (k : ℕ) (x y : Coded) → x.time ≡ y.time → coded_after k x ≡ coded_after k y
  after-time k x y h = ap (λ (t : ℕ). ltb k t) h

  -- THE ENDS ARE THE MEANING, of a question that is answered within a band
  pub bands_mean : (q : Listed) → OfExtremes q → Mean q e r (bands_of q e (map code r))
  bands_mean q (of_high {c}) = mean (high c) (λ x. true) any-time c reaches (λ s n. high-values c s n) _ (tells_greatest e _ (all_inner e narrow (λ x. true) any-time c r (all_ranged r range)))
  bands_mean q (of_low {c}) = mean (low c) (λ x. true) any-time c sinks (λ s n. low_values c s n) _ (tells_least e _ (all_inner e narrow (λ x. true) any-time c r (all_ranged r range)))
  bands_mean q (of_lowafter {c} {k}) = mean (lowafter c k) (coded_after k) (after-time k) c sinks (λ s n. lowafter_values c s n k) _ (tells_least e _ (all_inner e narrow (coded_after k) (after-time k) c r (all_ranged r range)))
  bands_mean q (of_capafter {c} {k}) = mean (capafter c k) (coded_after k) (after-time k) c stays (λ s n. capafter_values c s n k) _ (tells_cap e _ (all_inner e narrow (coded_after k) (after-time k) c r (all_ranged r range)))
  bands_mean q (of_ampl {c}) = mean (ampl c) (λ x. true) any-time c lie_apart (λ s n. ampl_values c s n) _ (tells_spread e _ (all_inner e narrow (λ x. true) any-time c r (all_ranged r range)))
