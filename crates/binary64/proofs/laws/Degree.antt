-- A distance is a float exactly, so is the sum of 1 and d, and the degree is the fraction 1 / (1 + d), rounded once to nearest.
use Rattle.std.specs.Prelude.{◌≡◌, refl, Bool, true, false, not, cond, ℕ, zero, suc, ◌+◌, ◌*◌, ◌^◌, ◌≤◌, ◌<◌, T, ltb, pos, Float}
use Rattle.std.proofs.Common.{sym, ap, ◌∙◌, subst, true≢false, zero-lt-suc, mul-one, one-mul, mul-pos, mul_comm, mul_assoc, add-mul, zero-mul, lt_irrefl, arith, ne_eqb}
use Rattle.std.specs.Float.{nan, inf, fin, Format, binary64}
use Rattle.std.specs.Float.Ieee.{prec, emax, low, up, down, odd, units, round, sum, add, div, of_int, is_nan}
use Rattle.std.specs.Float.Ieee.Fits.{down_pos}
use Rattle.std.specs.Float.Ieee.Exact.{HasValue}
use Rattle.std.specs.Float.Ieee.Scale.{round_same}
use Rattle.std.specs.Float.Ieee.Back.{round_whole}
use Rattle.binary64.specs.Degree.{one, distance_of, degree_of}

-- a whole number of at most 53 binary digits is a float exactly
pub int_exact : (n : ℕ) → n ≤ 2 ^ 53 → HasValue (of_int binary64 (pos n)) false n 1
unfolding of_int
int_exact n h = round_whole binary64 false n h

-- THE DISTANCE IS EXACT: up to the length of the axis its float is the whole number d, d / 1, with no minus sign
pub distance_exact : (d : ℕ) → d ≤ 4000000000 → HasValue (distance_of d) false d 1
distance_exact d h = int_exact d (omega arith)

-- M / e is the whole number a, and N / g the whole number b
whole_sum : (M e N g a b : ℕ) → M * 1 ≡ a * e → N * 1 ≡ b * g → (M * g + N * e) * 1 ≡ (a + b) * (e * g)
whole_sum M e N g a b p q =
    mul-one (M * g + N * e)
    ∙ ap (λ (z : ℕ). z * g + N * e) (sym (mul-one M) ∙ p)
    ∙ ap (λ (z : ℕ). a * e * g + z * e) (sym (mul-one N) ∙ q)
    ∙ ap (λ (z : ℕ). z + b * g * e) (mul_assoc a e g)
    ∙ ap (λ (z : ℕ). a * (e * g) + z) (mul_assoc b g e ∙ ap (λ (z : ℕ). b * z) (mul_comm g e))
    ∙ sym (add-mul a b (e * g))

-- the sum of two floats that are whole numbers is their sum, rounded
add_whole : (f : Format) (x y : Float) (a b : ℕ) → HasValue x false a 1 → HasValue y false b 1 → add f x y ≡ round f false (a + b) 1
unfolding add sum
add_whole f nan y a b h k = absurd h
add_whole f (inf s) y a b h k = absurd h
add_whole f (fin s m e) nan a b h k = absurd k
add_whole f (fin s m e) (inf t) a b h k = absurd k
add_whole f (fin true m e) (fin t n d) a b h k = absurd (true≢false h.0)
add_whole f (fin false m e) (fin true n d) a b h k = absurd (true≢false k.0)
add_whole f (fin false m e) (fin false n d) a b h k =
    round_same f false (m * up e * down d + n * up d * down e) (down e * down d) (a + b) 1 (mul-pos (down_pos e) (down_pos d)) (zero-lt-suc 0)
    (whole_sum (m * up e) (down e) (n * up d) (down d) a b h.1 k.1)

-- THE SUM IS EXACT
pub sum_exact : (d : ℕ) → d ≤ 2 ^ 53 → add binary64 one (of_int binary64 (pos d)) ≡ of_int binary64 (pos (1 + d))
unfolding of_int
sum_exact d h = add_whole binary64 one (of_int binary64 (pos d)) 1 d (refl, refl) (int_exact d h)

-- the quotient of 1 by a float that is a whole number above 0 is the fraction, rounded
inverse_whole : (f : Format) (x : Float) (n : ℕ) → 0 < n → HasValue x false n 1 → div f one x ≡ round f false 1 n
unfolding div
inverse_whole f nan n p h = absurd h
inverse_whole f (inf s) n p h = absurd h
inverse_whole f (fin true m e) n p h = absurd (true≢false h.0)
inverse_whole f (fin false m e) n p h =
    let some : m * up e * 1 ≡ n * down e = h.1 in
    let above : 0 < m * up e * 1 = subst (λ (z : ℕ). 0 < z) (sym some) (mul-pos p (down_pos e)) in
    let m-some : m ≡ 0 → ⊥ = λ z. lt_irrefl 0 (subst (λ (k : ℕ). 0 < k) (ap (λ (k : ℕ). k * up e * 1) z ∙ ap (λ (k : ℕ). k * 1) (zero-mul (up e))) above) in
    ap (λ (b : Bool). cond b (inf false) (round f false (1 * down e) (m * up e * 1))) (ne_eqb m 0 m-some)
    ∙ round_same f false (1 * down e) (m * up e * 1) 1 n above p
    (ap (λ (z : ℕ). z * n) (one-mul (down e)) ∙ mul_comm (down e) n ∙ sym some ∙ sym (one-mul (m * up e * 1)))

-- THE DEGREE IS 1 / (1 + d), ROUNDED ONCE TO NEAREST
pub degree_is : (d : ℕ) → d < 2 ^ 53 → degree_of d ≡ round binary64 false 1 (1 + d)
unfolding degree_of
degree_is d h = inverse_whole binary64 (of_int binary64 (pos (1 + d))) (1 + d) (omega arith) (int_exact (1 + d) (omega arith))

-- ---- the distance and the degree are numbers, so that their bits are fixed

odd_number : (d : ℕ) (s : Bool) (q k l : ℕ) → T (not (is_nan (odd d s q k l)))
unfolding odd is_nan
odd_number d s zero k l = tt
odd_number d s (suc q) k l = tt

units_number : (f : Format) (s : Bool) (q k : ℕ) → T (not (is_nan (units f s q k)))
unfolding units is_nan
units_number f s q k = by (ltb (q * 2 ^ k) (2 ^ (low f + suc (emax f))))
  where
    by : (b : Bool) → T (not (is_nan (cond b (odd (suc (prec f)) s q k (low f)) (inf s))))
    by true = odd_number (suc (prec f)) s q k (low f)
    by false = tt

pub round_number : (f : Format) (s : Bool) (num den : ℕ) → T (not (is_nan (round f s num den)))
unfolding round
round_number f s num den = units_number f s _ _

pub distance-number : (d : ℕ) → T (not (is_nan (distance_of d)))
unfolding of_int
distance-number d = round_number binary64 false d 1

pub degree_number : (d : ℕ) → d < 2 ^ 53 → T (not (is_nan (degree_of d)))
degree_number d h = subst (λ (x : Float). T (not (is_nan x))) (sym (degree_is d h)) (round_number binary64 false 1 (1 + d))
