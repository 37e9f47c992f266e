-- Bands of several widths: at e = 0 both sets are today's; what is certain is true today, and what is true today is possible; as e grows, certain never
-- gains a number and possible never loses one.
use Rattle.std.specs.Prelude.{ℕ, suc, ◌≤◌, ◌≡◌, refl, ◌↔◌, List, [], ◌∷◌, ℤ, pos, negsuc}
use Rattle.std.proofs.Common.{arith, sym, ap₂, subst, eq-eqb}
use Rattle.recording.specs.Reading.{Reading, Curve, A, B, value}
use Rattle.grammar.specs.Syntax.{Listed}
use Rattle.meaning.specs.Listed.{Says}
use Rattle.meaning.specs.inner.Recorded.{InRange}
use Rattle.meaning.specs.inner.Coded.{code, index, coded_value}
use Rattle.meaning.proofs.laws.Whole.{Stands, eq_index}
use Rattle.meaning.proofs.laws.Listed.{settled}
use Rattle.meaning.proofs.laws.Pick.{Each}
use Rattle.band.specs.Band.{NoFarther, Moved, Within, Certain, Possible}
use Rattle.band.proofs.laws.Curves.{near_stands, Ranged, all_ranged, moved_index}

-- ---- numbers

placed : (z : ℤ) → (p : ℕ) × (q : ℕ) × Stands z p q
placed (pos n) = (n, 0, omega arith)
placed (negsuc n) = (0, suc n, omega arith)

near_itself : (e : ℕ) (x : ℤ) → NoFarther e x x
near_itself e x = let s = placed x in (near_stands e x x s.0 s.1 s.0 s.1 s.2 s.2).1 (omega arith, omega arith)

near_wider : (e f : ℕ) → e ≤ f → (x y : ℤ) → NoFarther e x y → NoFarther f x y
near_wider e f l x y n =
    let s = placed x in let t = placed y in
    let b = (near_stands e x y s.0 s.1 t.0 t.1 s.2 t.2).0 n in
    let u = b.0 in let d = b.1 in
    (near_stands f x y s.0 s.1 t.0 t.1 s.2 t.2).1 (omega arith, omega arith)

-- ---- curves

-- the recording lies within every band of itself
pub within_itself : (e : ℕ) (r : List Reading) → Within e r r
within_itself e [] = tt
within_itself e (x ∷ r) = (record { same_time = refl; same_slope = λ c. refl; same_pigment = refl; near = λ c. near_itself e (value c x) }, within_itself e r)

pub within_wider : (e f : ℕ) → e ≤ f → (r s : List Reading) → Within e r s → Within f r s
within_wider e f l [] [] w = tt
within_wider e f l [] (y ∷ s) w = absurd w
within_wider e f l (x ∷ r) [] w = absurd w
within_wider e f l (x ∷ r) (y ∷ s) w = (
  record { same_time = w.0.same_time; same_slope = w.0.same_slope; same_pigment = w.0.same_pigment; near = λ c. near_wider e f l (value c x) (value c y) (w.0.near c) },
  within_wider e f l r s w.1,
)

-- within 0 lies nothing else
unmoved : (x y : Reading) → Ranged x → Moved 0 x y → y ≡ x
unmoved x y h m =
    let t = m.same_time in let a = same A in let b = same B in let u = m.same_slope A in let v = m.same_slope B in let k = m.same_pigment in
    λ i. record { time = t i; a = a i; b = b i; slope_a = u i; slope_b = v i; pigment = k i }
  where
    same : (c : Curve) → value c y ≡ value c x
    same c =
        let k = moved_index 0 (omega arith) c x y h m in
        let p = k.1.up in let q = k.1.down in
        (eq_index (value c y) (value c x) (index (value c y)) (coded_value c (code x)) k.0 (settled x h c)).0
        (eq-eqb (index (value c y)) (coded_value c (code x)) (omega arith))

within_none : (r s : List Reading) → Each Ranged r → Within 0 r s → s ≡ r
within_none [] [] h w = refl
within_none [] (y ∷ s) h w = absurd w
within_none (x ∷ r) [] h w = absurd w
within_none (x ∷ r) (y ∷ s) h w = ap₂ (λ (z : Reading) (l : List Reading). z ∷ l) (unmoved x y h.0 w.0) (within_none r s h.1 w.1)

-- ---- the two sets

module _ (q : Listed) (r : List Reading) (z : ℤ) where
  pub certain_today : (e : ℕ) → Certain q e r z → Says q r z
  certain_today e f = f r (within_itself e r)

  pub today_possible : (e : ℕ) → Says q r z → Possible q e r z
  today_possible e h = (r, within_itself e r, h)

  pub certain_narrower : (e f : ℕ) → e ≤ f → Certain q f r z → Certain q e r z
  certain_narrower e f l g s w = g s (within_wider e f l r s w)

  pub possible_wider : (e f : ℕ) → e ≤ f → Possible q e r z → Possible q f r z
  possible_wider e f l t = (t.0, within_wider e f l r t.0 t.1, t.2)

  -- AT e = 0 both sets are today's
  pub certain_exact : InRange r → Certain q 0 r z ↔ Says q r z
  certain_exact h = (certain_today 0, λ t s w. subst (λ (l : List Reading). Says q l z) (sym (within_none r s (all_ranged r h) w)) t)

  pub possible_exact : InRange r → Possible q 0 r z ↔ Says q r z
  possible_exact h = (λ t. subst (λ (l : List Reading). Says q l z) (within_none r t.0 (all_ranged r h) t.1) t.2, today_possible 0)
