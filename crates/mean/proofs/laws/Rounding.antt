-- The error of one rounding: `round` moves a fraction of the normal range by at most one part in 2 ^ prec.
use Rattle.std.specs.Prelude.{◌≡◌, false, not, T, eqb, Float}
use Rattle.std.proofs.Common.{sym, ap, ◌∙◌, subst, le_trans, le_of_eq, lt_of_le_of_lt, mul_comm, mul_assoc, mul-le-mul_left, mul-le-mul_right, mul-pos, div-add-mod', mod-lt, le-div_iff_mul-le, le_of_mul-le-mul_right, arith, leb→le, eqb→eq, lit<, pow-add, pow_pos}
use Prim.Native.Nat.{ℕ, suc, ◌+◌, ◌-◌, ◌*◌, ◌/◌, ◌%◌, ◌^◌, ◌≤◌, ◌<◌, compare, Ordering}
use Rattle.std.proofs.Math.Dec.{is_le, compare_is_eq, nleb→lt, eqb_refl}
use Rattle.std.proofs.Math.Arith.{lt_of_le-ne}
use Rattle.std.proofs.Math.Pow.{pow-lt}
use Rattle.std.specs.Float.{Format, binary32, binary64}
use Rattle.std.specs.Float.Ieee.{prec, emax, low, size, nearest, round}
use Rattle.std.specs.Float.Ieee.Digits.{size_reaches}
use Rattle.std.specs.Float.Ieee.Fits.{two, two-le_pos}
use Rattle.std.specs.Float.Ieee.Nearest.{closest}
use Rattle.std.specs.Float.Ieee.Exact.{HasValue}
use Rattle.std.specs.Float.Ieee.Order.{drop, kept}
use Rattle.std.specs.Float.Ieee.Scale.{grid, overflow, normal_of_fraction, round_val}

-- ---- to the nearest whole number

-- what `compare` says
abbrev Cmp : Ordering → ℕ → ℕ → Type 0
Cmp Ordering.lt a b = a < b
Cmp Ordering.eq a b = a ≡ b
Cmp Ordering.gt a b = b < a

cmp : (a b : ℕ) → Cmp (compare a b) a b
cmp a b = go (compare a b) (leb→le a b) (nleb→lt a b) (eqb→eq a b) (λ (e : a ≡ b). subst (λ (x : ℕ). T (eqb a x)) e (eqb_refl a))
  where
    go : (o : Ordering) → (T (is_le o) → a ≤ b) → (T (not (is_le o)) → b < a) → (T (compare_is_eq o) → a ≡ b) → (a ≡ b → T (compare_is_eq o)) → Cmp o a b
    go Ordering.lt h k e n = lt_of_le-ne (h tt) n
    go Ordering.eq h k e n = e tt
    go Ordering.gt h k e n = k tt

-- x * b lies within half of b of a
abbrev Half : ℕ → ℕ → ℕ → Type 0
Half x a b = (x * b * 2 ≤ a * 2 + b) × (a * 2 ≤ x * b * 2 + b)

half : (q r b : ℕ) (o : Ordering) → Cmp o (r * 2) b → r < b → Half (nearest q o) (q * b + r) b
half q r b Ordering.lt h l = (omega arith, omega arith)
half q r b Ordering.eq h l =
    let m : q % 2 * b ≤ 1 * b = mul-le-mul_right b (omega arith) in
    (omega arith, omega arith)
half q r b Ordering.gt h l = (omega arith, omega arith)

closest_half : (a b : ℕ) → 0 < b → Half (closest a b) a b
closest_half a b B = subst (λ (z : ℕ). Half (closest a b) z b) (div-add-mod' a b) (half (a / b) (a % b) b (compare (a % b * 2) b) (cmp (a % b * 2) b) (mod-lt a B))

-- ---- with `prec` digits kept

split_size : (z p : ℕ) → 0 < p → p ≤ z → z - 1 ≡ z - p + (p - 1)
split_size z p P h = omega arith

last_is : (z p : ℕ) → 0 < p → p ≤ z → z - 1 < z
last_is z p P h = omega arith

pred_suc : (p : ℕ) → 0 < p → p ≡ p - 1 + 1
pred_suc p P = omega arith

-- the last digit that is kept is worth at most n / 2 ^ (p - 1)
unit_small : (p n c : ℕ) → 0 < p → 0 < c → p ≤ size (n / c) → c * 2 ^ drop p n c * 2 ^ (p - 1) ≤ n
unit_small p n c P C N =
    let z = size (n / c) in
    let lo : 2 ^ (z - 1) * c ≤ n = (le-div_iff_mul-le C).0 (size_reaches (n / c) (z - 1) (last_is z p P N)) in
    let e : c * 2 ^ (z - p) * 2 ^ (p - 1) ≡ 2 ^ (z - 1) * c =
    mul_assoc c (2 ^ (z - p)) (2 ^ (p - 1)) ∙ ap (λ (y : ℕ). c * y) (sym (pow-add 2 (z - p) (p - 1)) ∙ ap (λ (y : ℕ). 2 ^ y) (sym (split_size z p P N))) ∙ mul_comm c (2 ^ (z - 1)) in
    le_trans (le_of_eq e) lo

-- x / n lies within one part in v of 1
abbrev Parts : ℕ → ℕ → ℕ → Type 0
Parts v x n = (x * v ≤ n * v + n) × (n * v ≤ x * v + n)

-- x is within half of b of n, b * w is at most n, and v is w * 2
widen : (x n b w v : ℕ) → v ≡ w * 2 → b * w ≤ n → (x * 2 ≤ n * 2 + b) × (n * 2 ≤ x * 2 + b) → Parts v x n
widen x n b w v e s h =
    let a1 : x * 2 * w ≤ (n * 2 + b) * w = mul-le-mul_right w h.0 in
    let a2 : n * 2 * w ≤ (x * 2 + b) * w = mul-le-mul_right w h.1 in
    subst (λ (z : ℕ). Parts z x n) (sym e) (omega arith, omega arith)

kept-parts : (p n c : ℕ) → 0 < p → 0 < c → p ≤ size (n / c) → Parts (2 ^ p) (kept p n c * 2 ^ drop p n c * c) n
kept-parts p n c P C N =
    let k = drop p n c in
    let b = c * 2 ^ k in
    let e : closest n b * 2 ^ k * c ≡ closest n b * b = mul_assoc (closest n b) (2 ^ k) c ∙ ap (λ (y : ℕ). closest n b * y) (mul_comm (2 ^ k) c) in
    subst (λ (x : ℕ). Parts (2 ^ p) x n) (sym e)
    (widen (closest n b * b) n b (2 ^ (p - 1)) (2 ^ p) (ap (λ (y : ℕ). 2 ^ y) (pred_suc p P) ∙ pow-add 2 (p - 1) 1) (unit_small p n c P C N) (closest_half n b (mul-pos C (pow_pos k))))

-- ---- the law

-- x is the fraction num / den, which differs from a / c by at most one part in 2 ^ prec of a / c
pub record Rounded (f : Format) (x : Float) (a c : ℕ) : Type 0 where
  pub num : ℕ
  pub den : ℕ
  pub some : 0 < den
  pub value : HasValue x false num den
  pub above : num * c * 2 ^ prec f ≤ a * den * (2 ^ prec f + 1)
  pub beneath : a * den * 2 ^ prec f ≤ num * c * 2 ^ prec f + a * den

-- a / c is at most w, so what it is rounded to is at most 2 * w
twice : (g c v n w t : ℕ) → 0 < v → 0 < c → g * c * v ≤ n * v + n → n ≤ c * w * t → g ≤ w * 2 * t
twice g c v n w t X C h k =
    let one : n * 1 ≤ n * v = mul-le-mul_left n X in
    let a : g * c ≤ n * 2 = le_of_mul-le-mul_right (omega arith) X in
    le_of_mul-le-mul_right (omega arith) C

room : (f : Format) → emax f - 1 + 1 + low f < low f + suc (emax f)
room binary32 = lit< tt
room binary64 = lit< tt

under : (f : Format) (a c : ℕ) → 0 < c → a ≤ c * 2 ^ (emax f - 1) → grid f a c * c * 2 ^ prec f ≤ a * 2 ^ low f * 2 ^ prec f + a * 2 ^ low f → grid f a c < overflow f
under f a c C top h =
    lt_of_le_of_lt
    (subst (λ (z : ℕ). grid f a c ≤ z) (sym (pow-add 2 (emax f - 1 + 1) (low f) ∙ ap (λ (z : ℕ). z * 2 ^ low f) (pow-add 2 (emax f - 1) 1)))
    (twice (grid f a c) c (2 ^ prec f) (a * 2 ^ low f) (2 ^ (emax f - 1)) (2 ^ low f) (pow_pos (prec f)) C h (mul-le-mul_right (2 ^ low f) top)))
    (pow-lt (room f))

-- a / c is normal, and no overflow is near: `2 ^ (1 - emax) ≤ a / c ≤ 2 ^ (emax - 1)`
pub round_error : (f : Format) (a c : ℕ) → 0 < c → 2 ^ (prec f - 1) * c ≤ a * 2 ^ low f → a ≤ c * 2 ^ (emax f - 1) → Rounded f (round f false a c) a c
round_error f a c C normal top =
    let p : Parts (2 ^ prec f) (grid f a c * c) (a * 2 ^ low f) = kept-parts (prec f) (a * 2 ^ low f) c (two-le_pos (prec f) (two f)) C (normal_of_fraction f a c C normal) in
    record {
      num = grid f a c;
      den = 2 ^ low f;
      some = pow_pos (low f);
      value = round_val f a c (under f a c C top p.0);
      above = le_trans p.0 (omega arith);
      beneath = p.1;
    }
