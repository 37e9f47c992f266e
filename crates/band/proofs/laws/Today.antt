-- From today's run to the two runs of a band: its end is the greatest or the least value, or how far they lie apart.
use Rattle.std.specs.Prelude.{ℕ, suc, ◌+◌, ◌-◌, ◌*◌, ◌/◌, ◌≤◌, ◌<◌, max, min, ◌≡◌, refl, Bool, true, List, [], ◌∷◌, length}
use Rattle.std.proofs.Common.{arith, sym, ap, ap₂, ◌∙◌, leb-true, le-leb}
use Rattle.std.proofs.lemmas.Bool.{false≢true}
use lib.Dec.{leb}
use Rattle.number.specs.Axis.{origin, axis}
use Rattle.number.proofs.laws.Boolean.{and_left, and_right, and_make}
use Rattle.recording.specs.Reading.{Curve}
use Rattle.recording.specs.Recording.{readings, Accepted}
use Rattle.grammar.specs.Syntax.{high, low, lowafter, capafter, ampl}
use Rattle.meaning.specs.inner.Coded.{Coded, coded, coded_after}
use Rattle.meaning.specs.inner.Truth.{truth}
use Rattle.meaning.proofs.laws.Recorded.{accepted_recorded}
use Rattle.leaves.specs.inner.Span.{Spans}
use Rattle.leaves.proofs.laws.Span.{spans_ext}
use Rattle.leaves.proofs.laws.Coding.{length-coded}
use Rattle.leaves.specs.declared.span.Span.{Span}
use Rattle.band.specs.Means.{empty}
use Rattle.band.specs.inner.Ends.{upto, from, two_sets, twice, values, values_after, greatest_of, least_of, spread_of, to_greatest, from_least, from_greatest, to_spread, bands_of}
use Rattle.meaning.proofs.laws.Pick.{Each}
use Rattle.band.proofs.laws.Values.{greatest_in, least_in, least_greatest}
use Rattle.band.proofs.laws.Lists.{Inner, reaches, sinks, stays, lie_apart, reaches_is, sinks_is, stays_is, lie_is}
use Rattle.band.proofs.laws.Curves.{margin, all_ranged, all_inner}
use Rattle.band.proofs.laws.Meaning.{high-values, low_values, lowafter_values, capafter_values, ampl_values}

-- ---- a span and its members

module _ (f : ℕ → Bool) (s : Span) (t : Spans f s) where
  -- a number of the axis of which f holds lies in the span, and conversely
  member_in : (n : ℕ) → n < axis → f n ≡ true → (s.low ≤ n) × (n ≤ s.high)
  member_in n h e =
      let b = t.members n h ∙ e in
      (leb-true s.low n (and_left (leb s.low n) (leb n s.high) b), leb-true n s.high (and_right (leb s.low n) (leb n s.high) b))

  in_member : (n : ℕ) → s.low ≤ n → n ≤ s.high → f n ≡ true
  in_member n h k =
      let i = t.inside in
      sym (t.members n (omega arith)) ∙ and_make (leb s.low n) (leb n s.high) (le-leb s.low n h) (le-leb n s.high k)

-- an end that stays on the axis wherever it moves
abbrev pub InMargin : ℕ → Type 0
InMargin n = (margin ≤ n) × (n + margin < axis)

-- ---- over lists of values

-- a spread of d, by the index h of d
less_spread : (h d e : ℕ) → h ≡ origin + d → max (h - 2 * e) origin ≡ origin + (d - 2 * e)
less_spread h d e q = omega arith

more_spread : (h d e : ℕ) → h ≡ origin + d → h + 2 * e ≡ origin + (d + 2 * e)
more_spread h d e q = omega arith

module _ (s : Span) where
  pub today_greatest : (v : List ℕ) → Each (Inner margin) v → 0 < length v → Spans (λ n. reaches n v) s
      → InMargin s.high × ((e : ℕ) → two_sets (upto (s.high - e)) (upto (s.high + e)) ≡ to_greatest e v)
  today_greatest [] a some t = absurd (omega arith)
  today_greatest (x ∷ v) a some t =
      let g = greatest_in (Inner margin) x v a in
      let l = g.0 in let u = g.1 in
      let m = member_in (λ n. reaches n (x ∷ v)) s t (greatest_of x v) (omega arith) ((reaches_is (greatest_of x v) x v).1 (omega arith)) in
      let b = m.0 in let c = m.1 in
      let h = (reaches_is s.high x v).0 (in_member (λ n. reaches n (x ∷ v)) s t s.high (omega arith) (omega arith)) in
      let q : s.high ≡ greatest_of x v = omega arith in
      ((omega arith, omega arith), λ e. ap (λ (n : ℕ). two_sets (upto (n - e)) (upto (n + e))) q)

  module _ (v : List ℕ) where
    abbrev FromLeast : Type 0
    FromLeast = InMargin s.low × ((e : ℕ) → two_sets (from (s.low + e)) (from (s.low - e)) ≡ from_least e v)

  pub today_least : (v : List ℕ) → Each (Inner margin) v → (s.low ≤ s.high) → Spans (λ n. sinks n v) s → FromLeast v
  today_least [] a some t = absurd (false≢true (in_member (λ n. sinks n []) s t s.low (omega arith) some))
  today_least (x ∷ v) a some t =
      let g = least_in (Inner margin) x v a in
      let l = g.0 in let u = g.1 in
      let m = member_in (λ n. sinks n (x ∷ v)) s t (least_of x v) (omega arith) ((sinks_is (least_of x v) x v).1 (omega arith)) in
      let b = m.0 in let c = m.1 in
      let h = (sinks_is s.low x v).0 (in_member (λ n. sinks n (x ∷ v)) s t s.low (omega arith) some) in
      let q : s.low ≡ least_of x v = omega arith in
      ((omega arith, omega arith), λ e. ap (λ (n : ℕ). two_sets (from (n + e)) (from (n - e))) q)

  pub least_there : (v : List ℕ) → Each (Inner margin) v → 0 < length v → Spans (λ n. sinks n v) s → s.low ≤ s.high
  least_there [] a some t = absurd (omega arith)
  least_there (x ∷ v) a some t =
      let g = least_in (Inner margin) x v a in
      let u = g.1 in
      let m = member_in (λ n. sinks n (x ∷ v)) s t (least_of x v) (omega arith) ((sinks_is (least_of x v) x v).1 (omega arith)) in
      let b = m.0 in let c = m.1 in
      omega arith

  pub least_none : (v : List ℕ) → Each (Inner margin) v → s.high < s.low → Spans (λ n. sinks n v) s → (e : ℕ) → twice empty ≡ from_least e v
  least_none [] a none t e = refl
  least_none (x ∷ v) a none t e = absurd (omega (arith, least_there (x ∷ v) a (omega arith) t))

  pub cap_none : (v : List ℕ) → Each (Inner margin) v → s.low ≡ 0 → Spans (λ n. stays n v) s → (e : ℕ) → twice (from 0) ≡ from_greatest e v
  cap_none [] a none t e = refl
  cap_none (x ∷ v) a none t e =
      let g = greatest_in (Inner margin) x v a in
      let l = g.0 in let u = g.1 in
      let m = member_in (λ n. stays n (x ∷ v)) s t (greatest_of x v) (omega arith) ((stays_is (greatest_of x v) x v).1 (omega arith)) in
      let b = m.1 in
      let h = (stays_is 0 x v).0 (in_member (λ n. stays n (x ∷ v)) s t 0 (omega arith) (omega arith)) in
      absurd (omega arith)

  pub today_cap : (v : List ℕ) → Each (Inner margin) v → (s.low ≡ 0 → ⊥) → Spans (λ n. stays n v) s
      → InMargin s.low × ((e : ℕ) → two_sets (from (s.low + e)) (from (s.low - e)) ≡ from_greatest e v)
  today_cap [] a some t = absurd (some (let m = member_in (λ n. stays n []) s t 0 (omega arith) refl in let l = m.0 in omega arith))
  today_cap (x ∷ v) a some t =
      let g = greatest_in (Inner margin) x v a in
      let l = g.0 in let u = g.1 in
      let m = member_in (λ n. stays n (x ∷ v)) s t (greatest_of x v) (omega arith) ((stays_is (greatest_of x v) x v).1 (omega arith)) in
      let b = m.0 in let c = m.1 in
      let h = (stays_is s.low x v).0 (in_member (λ n. stays n (x ∷ v)) s t s.low (omega arith) (omega arith)) in
      let q : s.low ≡ greatest_of x v = omega arith in
      ((omega arith, omega arith), λ e. ap (λ (n : ℕ). two_sets (from (n + e)) (from (n - e))) q)

  pub today_spread : (v : List ℕ) → Each (Inner margin) v → 1 < length v → Spans (λ n. lie_apart n v) s
      → (origin ≤ s.high) × ((e : ℕ) → two_sets (upto (max (s.high - 2 * e) origin)) (upto (min (s.high + 2 * e) (axis - 1))) ≡ to_spread e v)
  today_spread [] a some t = absurd (omega arith)
  today_spread (x ∷ []) a some t = absurd (omega arith)
  today_spread (x ∷ (y ∷ v)) a some t =
      let g = greatest_in (Inner margin) x (y ∷ v) a in
      let k = least_in (Inner margin) x (y ∷ v) a in
      let o = least_greatest x (y ∷ v) in
      let l = k.0 in let u = g.1 in
      let m = member_in (λ n. lie_apart n (x ∷ (y ∷ v))) s t (origin + spread_of x (y ∷ v)) (omega arith) ((lie_is (origin + spread_of x (y ∷ v)) x (y ∷ v)).1 (omega arith)) in
      let b = m.0 in let c = m.1 in
      let i = t.inside in
      let h = (lie_is s.high x (y ∷ v)).0 (in_member (λ n. lie_apart n (x ∷ (y ∷ v))) s t s.high (omega arith) (omega arith)) in
      let q : s.high ≡ origin + spread_of x (y ∷ v) = omega arith in (
        omega arith,
        λ e. ap₂ (λ (n d : ℕ). two_sets (upto n) (upto (min d (axis - 1)))) (less_spread s.high (spread_of x (y ∷ v)) e q) (more_spread s.high (spread_of x (y ∷ v)) e q),
      )

pub spread_alone : (e : ℕ) (v : List ℕ) → length v ≡ 1 → twice (upto origin) ≡ to_spread e v
spread_alone e [] h = absurd (omega arith)
spread_alone e (x ∷ []) h = refl
spread_alone e (x ∷ (y ∷ v)) h = absurd (omega arith)

-- ---- of an accepted recording

pub length-values : (c : Curve) (r : List Coded) → length (values c r) ≡ length r
length-values c [] = refl
length-values c (x ∷ r) = ap suc (length-values c r)

module _ (rec : List ℕ) (accepted : Accepted rec) (c : Curve) where
  pub inner_values : Each (Inner margin) (values c (coded rec))
  inner_values = all_inner margin (omega arith) (λ x. true) (λ x y h. refl) c (readings rec) (all_ranged (readings rec) (accepted_recorded rec accepted).in-range)

  module _ (k : ℕ) where
    pub inner_after : Each (Inner margin) (values_after c k (coded rec))
    inner_after =
        all_inner margin (omega arith) (coded_after k) (λ x y h. ap (λ (t : ℕ). lib.Dec.ltb k t) h) c (readings rec)
        (all_ranged (readings rec) (accepted_recorded rec accepted).in-range)

  module _ (some : 0 < length (coded rec)) (s : Span) where
    there : 0 < length (values c (coded rec))
    there = omega (arith, length-values c (coded rec))

    pub high_today : Spans (λ n. truth (high c) (coded rec) n) s → InMargin s.high × ((e : ℕ) → two_sets (upto (s.high - e)) (upto (s.high + e)) ≡ bands_of (high c) e (coded rec))
    high_today t = today_greatest s (values c (coded rec)) inner_values there (spans_ext _ _ s (λ n h. high-values c (coded rec) n) t)

    pub low_today : Spans (λ n. truth (low c) (coded rec) n) s → InMargin s.low × ((e : ℕ) → two_sets (from (s.low + e)) (from (s.low - e)) ≡ bands_of (low c) e (coded rec))
    low_today t =
        let u : Spans (λ n. sinks n (values c (coded rec))) s = spans_ext _ _ s (λ n h. low_values c (coded rec) n) t in
        today_least s (values c (coded rec)) inner_values (least_there s (values c (coded rec)) inner_values there u) u

    pub ampl_today : (length rec / 16 ≡ 1 → ⊥) → Spans (λ n. truth (ampl c) (coded rec) n) s
        → (origin ≤ s.high) × ((e : ℕ) → two_sets (upto (max (s.high - 2 * e) origin)) (upto (min (s.high + 2 * e) (axis - 1))) ≡ bands_of (ampl c) e (coded rec))
    ampl_today ne t =
        let many : 1 < length (values c (coded rec)) = omega (arith, length-values c (coded rec), length-coded rec) in
        today_spread s (values c (coded rec)) inner_values many (spans_ext _ _ s (λ n h. ampl_values c (coded rec) n) t)

  pub ampl_alone : length rec / 16 ≡ 1 → (e : ℕ) → twice (upto origin) ≡ bands_of (ampl c) e (coded rec)
  ampl_alone h e = spread_alone e (values c (coded rec)) (length-values c (coded rec) ∙ length-coded rec ∙ h)

  module _ (k : ℕ) (s : Span) where
    pub lowafter_none : s.high < s.low → Spans (λ n. truth (lowafter c k) (coded rec) n) s → (e : ℕ) → twice empty ≡ bands_of (lowafter c k) e (coded rec)
    lowafter_none h t = least_none s (values_after c k (coded rec)) (inner_after k) h (spans_ext _ _ s (λ n h. lowafter_values c (coded rec) n k) t)

    pub lowafter_today : s.low ≤ s.high → Spans (λ n. truth (lowafter c k) (coded rec) n) s
        → InMargin s.low × ((e : ℕ) → two_sets (from (s.low + e)) (from (s.low - e)) ≡ bands_of (lowafter c k) e (coded rec))
    lowafter_today h t = today_least s (values_after c k (coded rec)) (inner_after k) h (spans_ext _ _ s (λ n h. lowafter_values c (coded rec) n k) t)

    pub capafter_none : s.low ≡ 0 → Spans (λ n. truth (capafter c k) (coded rec) n) s → (e : ℕ) → twice (from 0) ≡ bands_of (capafter c k) e (coded rec)
    capafter_none h t = cap_none s (values_after c k (coded rec)) (inner_after k) h (spans_ext _ _ s (λ n h. capafter_values c (coded rec) n k) t)

    pub capafter_today : (s.low ≡ 0 → ⊥) → Spans (λ n. truth (capafter c k) (coded rec) n) s
        → InMargin s.low × ((e : ℕ) → two_sets (from (s.low + e)) (from (s.low - e)) ≡ bands_of (capafter c k) e (coded rec))
    capafter_today h t = today_cap s (values_after c k (coded rec)) (inner_after k) h (spans_ext _ _ s (λ n h. capafter_values c (coded rec) n k) t)
