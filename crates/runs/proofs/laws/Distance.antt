-- The distance is the least |v − w| over the members w; it is the size of the axis exactly where there is no member.
use Rattle.std.specs.Prelude.{ℕ, ◌+◌, ◌-◌, ◌≤◌, ◌<◌, ◌≡◌, refl, Bool, cond, ◌&&◌, ◌||◌, leb, ltb, Some, None}
use Rattle.std.proofs.Common.{sym, ap, ap₂, ◌∙◌, arith, lt-ltb, le-ltb, le-leb, ltb-true, leb-true}
use Rattle.std.proofs.Math.Bool.{true, false}
use Rattle.std.proofs.lemmas.Bool.{false≢true, lt-leb}
use Rattle.std.proofs.Math.Logic.{⊎_elim}
use Rattle.number.specs.Axis.{axis}
use Rattle.number.specs.Least.{least}
use Rattle.number.proofs.laws.Least.{least_le, least_is, least_none, least_holds, least_first, least_ext}
use Rattle.number.proofs.laws.Order.{less_or_not, true_or_false}
use Rattle.runs.specs.Distance.{member_at, distance}
use Rattle.runs.specs.Set.{nearest_of}

-- |v − w|
abbrev pub between : ℕ → ℕ → ℕ
between v w = (v - w) + (w - v)

or_true : (a b : Bool) → b ≡ true → (a || b) ≡ true
or_true true b e = refl
or_true false b e = e

module _ (f : ℕ → Bool) (v : ℕ) (hv : v < axis) where
  -- a member at this distance
  member_there : (w : ℕ) → w < axis → f w ≡ true → member_at f v (between v w) ≡ true
  member_there w hw e =
      ⊎_elim
      (λ h.
      let p : between v w ≤ v = omega arith in
      let q : v - between v w ≡ w = omega arith in
      or_true (ltb (v + between v w) axis && f (v + between v w)) _ (ap₂ ◌&&◌ (le-leb (between v w) v p) (ap f q ∙ e)))
      (λ h.
      let q : v + between v w ≡ w = omega arith in
      ap (λ (b : Bool). b || (leb (between v w) v && f (v - between v w))) (ap₂ ◌&&◌ (lt-ltb (v + between v w) axis (omega arith)) (ap f q ∙ e)))
      (less_or_not w v)

  -- no member at this distance
  no_member_there : (d : ℕ) → ((w : ℕ) → w < axis → between v w ≡ d → f w ≡ false) → member_at f v d ≡ false
  no_member_there d g =
      ap₂ ◌||◌
      (⊎_elim (λ h. ap₂ ◌&&◌ (lt-ltb (v + d) axis h) (g (v + d) h (omega arith))) (λ h. ap (λ (b : Bool). b && f (v + d)) (le-ltb (v + d) axis h)) (less_or_not (v + d) axis))
      (⊎_elim (λ h. ap (λ (b : Bool). b && f (v - d)) (lt-leb d v h)) (λ h. ap₂ ◌&&◌ (le-leb d v h) (g (v - d) (omega arith) (omega arith))) (less_or_not v d))

  -- THE DISTANCE IS THE LEAST |v − w| OVER THE MEMBERS w
  pub distance_is : (w : ℕ) → w < axis → f w ≡ true → ((u : ℕ) → u < axis → f u ≡ true → between v w ≤ between v u) → distance f v ≡ between v w
  unfolding distance
  distance_is w hw e g =
      least_is (member_at f v) axis (between v w) (omega arith) (member_there w hw e)
      (λ k h. no_member_there k (λ u hu q. ⊎_elim (λ t. absurd (omega (arith, g u hu t))) (λ t. t) (true_or_false (f u))))

  -- no member is nearer
  pub distance_least : (w : ℕ) → w < axis → f w ≡ true → distance f v ≤ between v w
  unfolding distance
  distance_least w hw e =
      ⊎_elim (λ h. absurd (false≢true (sym (least_first (member_at f v) axis (between v w) h) ∙ member_there w hw e))) (λ h. h)
      (less_or_not (between v w) (least (member_at f v) axis))

  pub distance_none : ((w : ℕ) → w < axis → f w ≡ false) → distance f v ≡ axis
  unfolding distance
  distance_none g = least_none (member_at f v) axis (λ k h. no_member_there k (λ u hu q. g u hu))

  -- where it is below the size of the axis there is a member at that distance
  pub distance-reached : distance f v < axis → (w : ℕ) × (w < axis) × (f w ≡ true) × (between v w ≡ distance f v)
  unfolding distance
  distance-reached h = by (least (member_at f v) axis) (least_holds (member_at f v) axis h)
    where
      both_true : (a b : Bool) → (a && b) ≡ true → (a ≡ true) × (b ≡ true)
      both_true true b e = (refl, e)
      both_true false b e = absurd (false≢true e)

      by : (d : ℕ) → member_at f v d ≡ true → (w : ℕ) × (w < axis) × (f w ≡ true) × (between v w ≡ d)
      by d e =
          ⊎_elim
          (λ t. let p = both_true (ltb (v + d) axis) (f (v + d)) t in (v + d, ltb-true (v + d) axis p.0, p.1, omega arith))
          (λ t.
          let p = both_true (leb d v) (f (v - d)) (sym (ap (λ (b : Bool). b || (leb d v && f (v - d))) t) ∙ e) in
          let q : d ≤ v = leb-true d v p.0 in
          (v - d, omega arith, p.1, omega arith))
          (true_or_false (ltb (v + d) axis && f (v + d)))

pub distance_ext : (f g : ℕ → Bool) (v : ℕ) → v < axis → ((w : ℕ) → w < axis → f w ≡ g w) → distance f v ≡ distance g v
unfolding distance
distance_ext f g v h e =
    least_ext (member_at f v) (member_at g v) axis
    (λ d k.
    ap₂ ◌||◌
    (⊎_elim (λ l. ap (λ (b : Bool). ltb (v + d) axis && b) (e (v + d) l)) (λ l. rw (le-ltb (v + d) axis l)) (less_or_not (v + d) axis))
    (ap (λ (b : Bool). leb d v && b) (e (v - d) (omega arith))))

-- ---- the answer of the code

-- a distance is at most the size of the axis
pub distance_le : (f : ℕ → Bool) (v : ℕ) → distance f v ≤ axis
unfolding distance
distance_le f v = least_le (member_at f v) axis

-- a nearest member is at the distance
pub at_distance : (f : ℕ → Bool) (v d : ℕ) → Some d ≡ nearest_of f v → d ≡ distance f v
at_distance f v d e = by (ltb (distance f v) axis) e
  where
    by : (b : Bool) → Some d ≡ cond b (Some (distance f v)) None → d ≡ distance f v
    by true e = cc
    by false e = cc

-- no nearest member: the distance is the size of the axis
pub nothing-distance : (f : ℕ → Bool) (v : ℕ) → None ≡ nearest_of f v → distance f v ≡ axis
nothing-distance f v e =
    ⊎_elim (λ h. absurd (never (e ∙ ap (λ (b : Bool). cond b (Some (distance f v)) None) (lt-ltb (distance f v) axis h))))
    (λ h. omega (arith, distance_le f v)) (less_or_not (distance f v) axis)
  where
    never : None ≡ Some (distance f v) → ⊥
    never p = cc
