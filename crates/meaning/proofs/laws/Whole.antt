-- From whole numbers to indices: z stands at p from q where z is p − q. Each law is by the signs of z, and then arithmetic on ℕ.
use Rattle.std.specs.Prelude.{ℕ, zero, suc, ◌+◌, ◌<◌, ◌≡◌, refl, ◌↔◌, leb, ltb, eqb, ℤ, pos, negsuc, neg_ℤ, ◌+ℤ◌, ◌-ℤ◌, ◌≤ℤ◌, ◌<ℤ◌}
use Rattle.std.proofs.Common.{arith, sym, ap, ◌∙◌, subst, leb-true, le-leb, lt-ltb, le-ltb, ltb-true, eqb-true, eq-eqb}
use Rattle.std.proofs.Math.Decide.{dec_lt}
use Rattle.std.proofs.Math.Bool.{So}
use Rattle.std.proofs.Math.IntN.{sub_ℕ}
use Rattle.std.specs.Int.Signed.{le_z, lt_z}
use Rattle.std.proofs.lemmas.Bool.{lt-leb}
use Rattle.number.specs.Axis.{origin, whole}
use Rattle.number.proofs.laws.Boolean.{same, then, so_test}
use Rattle.recording.specs.Reading.{Reading, Curve, A, B, value}
use Rattle.meaning.specs.inner.Coded.{index, code, coded_value}

abbrev pub Stands : ℤ → ℕ → ℕ → Type 0
Stands (pos n) p q = p ≡ q + n
Stands (negsuc n) p q = p + suc n ≡ q

pub stands_sub : (p q : ℕ) → Stands (sub_ℕ p q) p q
stands_sub p q = by (dec_lt p q)
  where
    by : Dec (p < q) → Stands (sub_ℕ p q) p q
    by (yes h) = rw (lt-ltb p q h) (omega arith)
    by (no h) = rw (le-ltb p q (omega arith)) (omega arith)

pub stands_whole : (n : ℕ) → Stands (whole n) n origin
stands_whole n = stands_sub n origin

pub index_stands : (z : ℤ) (n : ℕ) → Stands z n origin → index z ≡ n
index_stands (pos k) n h = omega arith
index_stands (negsuc k) n h = omega arith

pub index-whole : (n : ℕ) → index (whole n) ≡ n
index-whole n = index_stands (whole n) n (stands_whole n)

pub coded-value : (c : Curve) (x : Reading) → coded_value c (code x) ≡ index (value c x)
coded-value A x = refl
coded-value B x = refl

move : (z : ℤ) (p q p' q' : ℕ) → Stands z p q → p + q' ≡ p' + q → Stands z p' q'
move (pos n) p q p' q' h e = omega arith
move (negsuc n) p q p' q' h e = omega arith

pub stands_le : (z z' : ℤ) (p q p' q' : ℕ) → Stands z p q → Stands z' p' q' → le_z z z' ≡ leb (p + q') (p' + q)
stands_le (pos n) (pos n') p q p' q' h k = same _ _
    (λ e. le-leb (p + q') (p' + q) (omega (arith, leb-true n n' e))) (λ e. le-leb n n' (omega (arith, leb-true (p + q') (p' + q) e)))
stands_le (pos n) (negsuc n') p q p' q' h k = sym (lt-leb (p + q') (p' + q) (omega arith))
stands_le (negsuc n) (pos n') p q p' q' h k = sym (le-leb (p + q') (p' + q) (omega arith))
stands_le (negsuc n) (negsuc n') p q p' q' h k = same _ _
    (λ e. le-leb (p + q') (p' + q) (omega (arith, leb-true n' n e))) (λ e. le-leb n' n (omega (arith, leb-true (p + q') (p' + q) e)))

stands_lt : (z z' : ℤ) (p q p' q' : ℕ) → Stands z p q → Stands z' p' q' → lt_z z z' ≡ ltb (p + q') (p' + q)
stands_lt (pos n) (pos n') p q p' q' h k = same _ _
    (λ e. lt-ltb (p + q') (p' + q) (omega (arith, ltb-true n n' e))) (λ e. lt-ltb n n' (omega (arith, ltb-true (p + q') (p' + q) e)))
stands_lt (pos n) (negsuc n') p q p' q' h k = sym (le-ltb (p + q') (p' + q) (omega arith))
stands_lt (negsuc n) (pos n') p q p' q' h k = sym (lt-ltb (p + q') (p' + q) (omega arith))
stands_lt (negsuc n) (negsuc n') p q p' q' h k = same _ _
    (λ e. lt-ltb (p + q') (p' + q) (omega (arith, ltb-true n' n e))) (λ e. lt-ltb n' n (omega (arith, ltb-true (p + q') (p' + q) e)))

stands_eq : (z : ℤ) (p q p' q' : ℕ) → Stands z p q → Stands z p' q' → p + q' ≡ p' + q
stands_eq (pos n) p q p' q' h k = omega arith
stands_eq (negsuc n) p q p' q' h k = omega arith

stands_one : (z z' : ℤ) (p q p' q' : ℕ) → Stands z p q → Stands z' p' q' → p + q' ≡ p' + q → z ≡ z'
stands_one (pos n) (pos n') p q p' q' h k e = let t : n ≡ n' = omega arith in ap pos t
stands_one (pos n) (negsuc n') p q p' q' h k e = absurd (omega arith)
stands_one (negsuc n) (pos n') p q p' q' h k e = absurd (omega arith)
stands_one (negsuc n) (negsuc n') p q p' q' h k e = let t : n ≡ n' = omega arith in ap negsuc t

pub stands_add : (z z' : ℤ) (p q p' q' : ℕ) → Stands z p q → Stands z' p' q' → Stands (z +ℤ z') (p + p') (q + q')
stands_add (pos n) (pos n') p q p' q' h k = omega arith
stands_add (pos n) (negsuc n') p q p' q' h k = move (sub_ℕ n (suc n')) n (suc n') (p + p') (q + q') (stands_sub n (suc n')) (omega arith)
stands_add (negsuc n) (pos n') p q p' q' h k = move (sub_ℕ n' (suc n)) n' (suc n) (p + p') (q + q') (stands_sub n' (suc n)) (omega arith)
stands_add (negsuc n) (negsuc n') p q p' q' h k = omega arith

stands_neg : (z : ℤ) (p q : ℕ) → Stands z p q → Stands (neg_ℤ z) q p
stands_neg (pos zero) p q h = omega arith
stands_neg (pos (suc n)) p q h = omega arith
stands_neg (negsuc n) p q h = omega arith

-- each whole number stands somewhere
upper : ℤ → ℕ
upper (pos n) = n
upper (negsuc n) = 0

lower : ℤ → ℕ
lower (pos n) = 0
lower (negsuc n) = suc n

stands : (z : ℤ) → Stands z (upper z) (lower z)
unfolding upper lower
stands (pos n) = omega arith
stands (negsuc n) = omega arith

-- ---- the order, as a test

pub le_test : (x y : ℤ) → So (le_z x y) ↔ (x ≤ℤ y)
le_test x y = (λ h. record { le = (so_test (le_z x y)).0 h }, λ h. (so_test (le_z x y)).1 h.le)

pub lt_test : (x y : ℤ) → So (lt_z x y) ↔ (x <ℤ y)
lt_test x y = (λ h. record { lt = (so_test (lt_z x y)).0 h }, λ h. (so_test (lt_z x y)).1 h.lt)

-- ---- numbers that stand over the origin: m is the index of x, n that of y

module _ (x y : ℤ) (m n : ℕ) (h : Stands x m origin) (k : Stands y n origin) where
  pub le_index : So (leb m n) ↔ (x ≤ℤ y)
  le_index = then (
    λ e. stands_le x y m origin n origin h k ∙ le-leb (m + origin) (n + origin) (omega (arith, leb-true m n e)),
    λ e. le-leb m n (omega (arith, leb-true (m + origin) (n + origin) (sym (stands_le x y m origin n origin h k) ∙ e))),
  )
      (le_test x y)

  pub lt_index : So (ltb m n) ↔ (x <ℤ y)
  lt_index = then (
    λ e. stands_lt x y m origin n origin h k ∙ lt-ltb (m + origin) (n + origin) (omega (arith, ltb-true m n e)),
    λ e. lt-ltb m n (omega (arith, ltb-true (m + origin) (n + origin) (sym (stands_lt x y m origin n origin h k) ∙ e))),
  )
      (lt_test x y)

  pub eq_index : So (eqb m n) ↔ (x ≡ y)
  eq_index = (
    λ e. stands_one x y m origin n origin h k (omega (arith, eqb-true m n e)),
    λ e. let s = stands_eq y m origin n origin (subst (λ (z : ℤ). Stands z m origin) e h) k in eq-eqb m n (omega arith),
  )

-- n is the index of y − x
pub apart-index : (x y z : ℤ) (s t n : ℕ) → Stands x s origin → Stands y t origin → Stands z n origin → So (eqb (s + n) (t + origin)) ↔ (y -ℤ x ≡ z)
apart-index x y z s t n hx hy hz =
    let d : Stands (y -ℤ x) (t + origin) (origin + s) = stands_add y (neg_ℤ x) t origin origin s hy (stands_neg x s origin hx) in (
      λ e. stands_one (y -ℤ x) z (t + origin) (origin + s) n origin d hz (omega (arith, eqb-true (s + n) (t + origin) e)),
      λ e. let q = stands_eq z (t + origin) (origin + s) n origin (subst (λ (u : ℤ). Stands u (t + origin) (origin + s)) e d) hz in
          eq-eqb (s + n) (t + origin) (omega arith),
    )

-- y is at least x + z
pub wide_index : (x y z : ℤ) (m o n : ℕ) → Stands x m origin → Stands y o origin → Stands z n origin
    → So (leb (m + n) (o + origin)) ↔ ((w : ℤ) × (x ≤ℤ w) × ((w +ℤ z) ≤ℤ y))
wide_index x y z m o n hx hy hz = (
  λ e. (
    x,
    (le_index x x m m hx hx).0 (le-leb m m (omega arith)),
    (le_test (x +ℤ z) y).0
        (stands_le (x +ℤ z) y (m + n) (origin + origin) o origin (stands_add x z m origin n origin hx hz) hy
        ∙ le-leb (m + n + origin) (o + (origin + origin)) (omega (arith, leb-true (m + n) (o + origin) e))),
  ),
  λ s. under s.0 ((le_test x s.0).1 s.1) ((le_test (s.0 +ℤ z) y).1 s.2),
)
  where
    under : (w : ℤ) → So (le_z x w) → So (le_z (w +ℤ z) y) → So (leb (m + n) (o + origin))
    under w h k =
        let p = upper w in let q = lower w in
        let a = leb-true (m + q) (p + origin) (sym (stands_le x w m origin p q hx (stands w)) ∙ h) in
        let b = leb-true (p + n + origin) (o + (q + origin))
        (sym (stands_le (w +ℤ z) y (p + n) (q + origin) o origin (stands_add w z p q n origin (stands w) hz) hy) ∙ k) in
        le-leb (m + n) (o + origin) (omega arith)
