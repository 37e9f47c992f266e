-- ROUNDINGS IN A ROW, in binary64. A float that k roundings have led away from an exact fraction lies between (1 - 2 ^ -53) ^ k and (1 + 2 ^ -53) ^ k times it,
-- and for k up to 1,002 that is within one part in 1,000,000,000. Everything is said by cross products of whole numbers.
use Rattle.std.specs.Prelude.{◌≡◌, refl, false, ℕ, zero, suc, ◌+◌, ◌-◌, ◌*◌, ◌^◌, ◌≤◌, ◌<◌, Float}
use Rattle.std.proofs.Common.{sym, ap, ◌∙◌, subst, zero-lt-suc, le_trans, le_of_eq, zero-mul, mul-one, mul_comm, mul_assoc, mul-le-mul_left, mul-le-mul_right, mul-le-mul, le_of_mul-le-mul_right, arith, one-add, lit≤, lit<, pow-add}
use Rattle.std.proofs.Math.Nat.{pow-le-pow_left, one-le-pow, pow-succ', pow-zero}
use Rattle.std.specs.Float.{binary64}
use Rattle.std.specs.Float.Ieee.{round}
use Rattle.std.specs.Float.Ieee.Exact.{HasValue}
use Rattle.mean.proofs.laws.Rounding.{Rounded, round_error}

-- ---- 2 ^ 53, and one more and one less. They are no `abbrev`s, so a proof sees names and no numerals.
pub unit : ℕ
unit = 9007199254740992

pub more : ℕ
more = 9007199254740993

pub less : ℕ
less = 9007199254740991

unit_is : unit ≡ 2 ^ 53
unfolding unit
unit_is = refl

more_is : more ≡ unit + 1
unfolding unit more
more_is = refl

less_is : less + 1 ≡ unit
unfolding unit less
less_is = refl

unit_pos : 0 < unit
unfolding unit
unit_pos = lit< tt

less_pos : 0 < less
unfolding less
less_pos = lit< tt

unit_more : unit ≤ more
unfolding unit more
unit_more = lit≤ tt

less_unit : less ≤ unit
unfolding unit less
less_unit = lit≤ tt

-- 1,002 roundings, computed
all_above : more ^ 1002 * 1000000000 ≤ unit ^ 1002 * 1000000001
unfolding unit more
all_above = lit≤ tt

all_beneath : unit ^ 1002 * 999999999 ≤ less ^ 1002 * 1000000000
unfolding unit less
all_beneath = lit≤ tt

-- so fewer do no worse
early : (p q b b' k i : ℕ) → 0 < p → p ≤ q → q ^ (k + i) * b ≤ p ^ (k + i) * b' → q ^ k * b ≤ p ^ k * b'
early p q b b' k i P l h =
    let w : q ^ k * q ^ i * b ≤ p ^ k * p ^ i * b' = subst (λ (z : ℕ). z * b ≤ p ^ k * p ^ i * b') (pow-add q k i) (subst (λ (z : ℕ). q ^ (k + i) * b ≤ z * b') (pow-add p k i) h) in
    let m : q ^ k * b * p ^ i ≤ q ^ k * b * q ^ i = mul-le-mul_left (q ^ k * b) (pow-le-pow_left l i) in
    le_of_mul-le-mul_right (omega arith) (one-le-pow i p P)

rest : (k : ℕ) → k ≤ 1002 → k + (1002 - k) ≡ 1002
rest k h = omega arith

few_above : (k : ℕ) → k ≤ 1002 → more ^ k * 1000000000 ≤ unit ^ k * 1000000001
few_above k h = early unit more 1000000000 1000000001 k (1002 - k) unit_pos unit_more (subst (λ (z : ℕ). more ^ z * 1000000000 ≤ unit ^ z * 1000000001) (sym (rest k h)) all_above)

few_beneath : (k : ℕ) → k ≤ 1002 → unit ^ k * 999999999 ≤ less ^ k * 1000000000
few_beneath k h = early less unit 999999999 1000000000 k (1002 - k) less_pos less_unit (subst (λ (z : ℕ). unit ^ z * 999999999 ≤ less ^ z * 1000000000) (sym (rest k h)) all_beneath)

-- ---- a / c after k roundings from n / d
pub record Within (k a c n d : ℕ) : Type 0 where
  pub above : a * d * unit ^ k ≤ n * c * more ^ k
  pub beneath : n * c * less ^ k ≤ a * d * unit ^ k

-- no rounding: a / c is n / d
pub within_none : (a c n d : ℕ) → a * d ≡ n * c → Within 0 a c n d
within_none a c n d e = record { above = by (a * d) (n * c) unit more e; beneath = by (n * c) (a * d) less unit (sym e) }
  where
    by : (x y p q : ℕ) → x ≡ y → x * p ^ 0 ≤ y * q ^ 0
    by x y p q e = le_of_eq (ap (λ (z : ℕ). x * z) (pow-zero p) ∙ ap (λ (z : ℕ). z * 1) e ∙ ap (λ (z : ℕ). y * z) (sym (pow-zero q)))

-- g / t against a / c, and a / c against n / d
through : (g t a c n d p u q v : ℕ) → 0 < c → g * c * p ≤ a * t * u → a * d * q ≤ n * c * v → g * d * (p * q) ≤ n * t * (u * v)
through g t a c n d p u q v C h k =
    let x : g * c * p * (d * q) ≤ a * t * u * (d * q) = mul-le-mul_right (d * q) h in
    let y : a * d * q * (t * u) ≤ n * c * v * (t * u) = mul-le-mul_right (t * u) k in
    le_of_mul-le-mul_right (omega arith) C

powers : (p j k : ℕ) → p ^ k * p ^ j ≡ p ^ (j + k)
powers p j k = mul_comm (p ^ k) (p ^ j) ∙ sym (pow-add p j k)

-- j roundings more
pub within_then : (j k g t a c n d : ℕ) → 0 < c → Within j g t a c → Within k a c n d → Within (j + k) g t n d
within_then j k g t a c n d C w z = record {
  above = subst (λ (x : ℕ). g * d * x ≤ n * t * more ^ (j + k)) (sym (pow-add unit j k))
      (subst (λ (x : ℕ). g * d * (unit ^ j * unit ^ k) ≤ n * t * x) (sym (pow-add more j k)) (through g t a c n d (unit ^ j) (more ^ j) (unit ^ k) (more ^ k) C w.above z.above));
  beneath = subst (λ (x : ℕ). n * t * x ≤ g * d * unit ^ (j + k)) (powers less j k)
      (subst (λ (x : ℕ). n * t * (less ^ k * less ^ j) ≤ g * d * x) (powers unit j k) (through n d a c g t (less ^ k) (unit ^ k) (less ^ j) (unit ^ j) C z.beneath w.beneath));
}

-- after more roundings than there were
pub within_longer : (i k a c n d : ℕ) → Within k a c n d → Within (i + k) a c n d
within_longer i k a c n d w = record {
  above = by (a * d) (n * c) unit more unit_more w.above;
  beneath = by (n * c) (a * d) less unit less_unit w.beneath;
}
  where
    by : (x y p q : ℕ) → p ≤ q → x * p ^ k ≤ y * q ^ k → x * p ^ (i + k) ≤ y * q ^ (i + k)
    by x y p q l h =
        subst (λ (z : ℕ). x * z ≤ y * q ^ (i + k)) (powers p i k) (subst (λ (z : ℕ). x * (p ^ k * p ^ i) ≤ y * z) (powers q i k)
        (le_trans (le_of_eq (sym (mul_assoc x (p ^ k) (p ^ i)))) (le_trans (mul-le-mul h (pow-le-pow_left l i)) (le_of_eq (mul_assoc y (q ^ k) (q ^ i))))))

-- the sum of two
pub within_add : (k a c n d b g m e : ℕ) → Within k a c n d → Within k b g m e → Within k (a * g + b * c) (c * g) (n * e + m * d) (d * e)
within_add k a c n d b g m e w z = record {
  above = by a c n d b g m e (unit ^ k) (more ^ k) w.above z.above;
  beneath = by n d a c m e b g (less ^ k) (unit ^ k) w.beneath z.beneath;
}
  where
    by : (a c n d b g m e p u : ℕ) → a * d * p ≤ n * c * u → b * e * p ≤ m * g * u → (a * g + b * c) * (d * e) * p ≤ (n * e + m * d) * (c * g) * u
    by a c n d b g m e p u h k =
        let x : a * d * p * (g * e) ≤ n * c * u * (g * e) = mul-le-mul_right (g * e) h in
        let y : b * e * p * (c * d) ≤ m * g * u * (c * d) = mul-le-mul_right (c * d) k in
        omega arith

-- the quotient by a whole number
pub within-over : (k a c n d t : ℕ) → Within k a c n d → Within k a (c * t) n (d * t)
within-over k a c n d t w = record { above = by a c n d (unit ^ k) (more ^ k) w.above; beneath = by n d a c (less ^ k) (unit ^ k) w.beneath }
  where
    by : (a c n d p u : ℕ) → a * d * p ≤ n * c * u → a * (d * t) * p ≤ n * (c * t) * u
    by a c n d p u h =
        let x : a * d * p * t ≤ n * c * u * t = mul-le-mul_right t h in
        omega arith

-- ---- within one part in 1,000,000,000
pub record Billionth (a c n d : ℕ) : Type 0 where
  pub above : a * d * 1000000000 ≤ n * c * 1000000001
  pub beneath : n * c * 999999999 ≤ a * d * 1000000000

pub billionth : (k a c n d : ℕ) → k ≤ 1002 → Within k a c n d → Billionth a c n d
billionth k a c n d h w = record {
  above = by (a * d) (n * c) (unit ^ k) (more ^ k) 1000000000 1000000001 (one-le-pow k unit unit_pos) w.above (few_above k h);
  beneath = by (n * c) (a * d) (less ^ k) (unit ^ k) 999999999 1000000000 (one-le-pow k less less_pos) w.beneath (few_beneath k h);
}
  where
    by : (x y p u b b' : ℕ) → 0 < p → x * p ≤ y * u → u * b ≤ p * b' → x * b ≤ y * b'
    by x y p u b b' P h l =
        let g : x * p * b ≤ y * u * b = mul-le-mul_right b h in
        let m : y * (u * b) ≤ y * (p * b') = mul-le-mul_left y l in
        le_of_mul-le-mul_right (omega arith) P

-- ---- one rounding more

-- x is a fraction, after k roundings from n / d
pub record Close (k : ℕ) (x : Float) (n d : ℕ) : Type 0 where
  pub num : ℕ
  pub den : ℕ
  pub some : 0 < den
  pub value : HasValue x false num den
  pub within : Within k num den n d

-- n / d lies between 2 ^ -42 and 2 ^ 10
pub record Ranged (n d : ℕ) : Type 0 where
  pub some : 0 < d
  pub large : d ≤ n * 4398046511104
  pub small : n ≤ d * 1024

num_some : (n d w : ℕ) → 0 < d → d ≤ n * w → 0 < n
num_some zero d w D h = absurd (clash d D (subst (λ (z : ℕ). d ≤ z) (zero-mul w) h))
  where
    clash : (d : ℕ) → 0 < d → d ≤ 0 → ⊥
    clash d D h = omega arith
num_some (suc n) d w D h = zero-lt-suc n

not_small : (a c n d : ℕ) → Ranged n d → Billionth a c n d → c ≤ a * 8796093022208
not_small a c n d r b =
    let l : a * d ≤ a * (n * 4398046511104) = mul-le-mul_left a r.large in
    let h : n * c * 999999999 ≤ a * d * 1000000000 = b.beneath in
    le_of_mul-le-mul_right (omega (arith, l, h)) (num_some n d 4398046511104 r.some r.large)

not_large : (a c n d : ℕ) → Ranged n d → Billionth a c n d → a ≤ c * 2048
not_large a c n d r b =
    let l : c * n ≤ c * (d * 1024) = mul-le-mul_left c r.small in
    let h : a * d * 1000000000 ≤ n * c * 1000000001 = b.above in
    le_of_mul-le-mul_right (omega (arith, l, h)) r.some

-- the fraction is normal and far from an overflow
normal : (a c : ℕ) → c ≤ a * 8796093022208 → 2 ^ 52 * c ≤ a * 2 ^ 1074
normal a c h = le_trans (by a c h) (mul-le-mul_left a (lit≤ tt))
  where
    by : (a c : ℕ) → c ≤ a * 8796093022208 → 4503599627370496 * c ≤ a * 39614081257132168796771975168
    by a c h = omega arith

finite : (a c : ℕ) → a ≤ c * 2048 → a ≤ c * 2 ^ 1022
finite a c h = le_trans h (mul-le-mul_left c (lit≤ tt))

pow_one : (p : ℕ) → p ^ 1 ≡ p
pow_one p = pow-succ' p 0 ∙ ap (λ (z : ℕ). p * z) (pow-zero p) ∙ mul-one p

-- the law of one rounding, in the form of the chain
once : (a c : ℕ) (x : Float) → Rounded binary64 x a c → Close 1 x a c
once a c x r = record {
  num = r.num;
  den = r.den;
  some = r.some;
  value = r.value;
  within = record {
    above = subst (λ (z : ℕ). r.num * c * z ≤ a * r.den * more ^ 1) (sym (pow_one unit)) (subst (λ (z : ℕ). r.num * c * unit ≤ a * r.den * z) (sym (pow_one more ∙ more_is))
        (subst (λ (z : ℕ). r.num * c * z ≤ a * r.den * (z + 1)) (sym unit_is) r.above));
    beneath = subst (λ (z : ℕ). a * r.den * z ≤ r.num * c * unit ^ 1) (sym (pow_one less)) (subst (λ (z : ℕ). a * r.den * less ≤ r.num * c * z) (sym (pow_one unit))
        (lower (a * r.den) (r.num * c) less unit less_is (subst (λ (z : ℕ). a * r.den * z ≤ r.num * c * z + a * r.den) (sym unit_is) r.beneath)));
  };
}
  where
    lower : (x y l p : ℕ) → l + 1 ≡ p → x * p ≤ y * p + x → x * l ≤ y * p
    lower x y l p e h =
        let k : x * (l + 1) ≤ y * p + x = subst (λ (z : ℕ). x * z ≤ y * p + x) (sym e) h in
        omega (arith, k)

-- a / c, k roundings away from n / d, rounded once more
pub round_close : (k a c n d : ℕ) → 0 < c → k ≤ 1002 → Ranged n d → Within k a c n d → Close (suc k) (round binary64 false a c) n d
round_close k a c n d C K r w =
    let b : Billionth a c n d = billionth k a c n d K w in
    let o : Close 1 (round binary64 false a c) a c = once a c (round binary64 false a c) (round_error binary64 a c C (normal a c (not_small a c n d r b)) (finite a c (not_large a c n d r b))) in
    record { num = o.num; den = o.den; some = o.some; value = o.value; within = subst (λ (z : ℕ). Within z o.num o.den n d) (one-add k) (within_then 1 k o.num o.den a c n d C o.within w) }
