-- THE MEAN IS WITHIN ONE PART IN 1,000,000,000 of the exact fraction, for up to 1,000 distances of at most 4,000,000,000.
use Rattle.std.specs.Prelude.{◌≡◌, refl, true, false, List, [], ◌∷◌, ℕ, suc, ◌+◌, ◌*◌, ◌≤◌, ◌<◌, length, pos, Float}
use Rattle.std.proofs.Common.{sym, ap, ◌∙◌, subst, true≢false, zero-lt-suc, lt_irrefl, add-zero, mul-one, one-mul, mul-pos, mul-le-mul_left, mul-le-mul_right, le_of_mul-le-mul_right, arith, add-one, one-add}
use Rattle.std.specs.Float.{nan, inf, fin, binary64}
use Rattle.std.specs.Float.Ieee.{up, down, round, add, of_int}
use Rattle.binary64.specs.Apart.{apart}
use Rattle.binary64.specs.Degree.{one, degree_of}
use Rattle.binary64.proofs.laws.Degree.{int_exact}
use Rattle.mean.specs.Mean.{nought, sum_from, sum_of, over, mean_of, Fraction, no_degree, plus, total_from, total, exact_mean, WithinBillionth, AtMost}
use Rattle.mean.proofs.laws.Chain.{Within, within_none, within_longer, within_add, within-over, Billionth, billionth, Close, Ranged, round_close}
use Rattle.mean.proofs.laws.Fractions.{add_fractions, div_fractions}

-- ---- one degree

same : (d : ℕ) → 1 * 1 * (1 + d) ≡ 1 * (1 * (1 + d))
same d = omega arith

pub degree_close : (d : ℕ) → d ≤ 4000000000 → Close 1 (degree_of d) 1 (1 + d)
unfolding degree_of
degree_close d h =
    subst (λ (x : Float). Close 1 x 1 (1 + d)) (sym (div_fractions binary64 one (of_int binary64 (pos (1 + d))) 1 1 (1 + d) 1 (zero-lt-suc 0) (omega arith) (refl, refl) (int_exact (1 + d) (omega arith))))
    (round_close 0 (1 * 1) (1 * (1 + d)) 1 (1 + d) (omega arith) (omega arith) (record { some = omega arith; large = omega arith; small = omega arith }) (within_none (1 * 1) (1 * (1 + d)) 1 (1 + d) (same d)))

-- ---- the running sum

-- s is the sum of i degrees after i + 1 roundings, one of each degree and one of each sum, and q the exact one
record Summed (i : ℕ) (s : Float) (q : Fraction) : Type 0 where
  close : Close (suc i) s q.num q.den
  some : 0 < q.den
  small : q.num ≤ q.den * i

-- a sum that is not empty is one degree at least
abbrev Large : Fraction → Type 0
Large q = q.den ≤ q.num * 4000000001

plus-large : (q : Fraction) (d : ℕ) → d ≤ 4000000000 → Large (plus q d)
plus-large q d h =
    let l : q.den * (1 + d) ≤ q.den * 4000000001 = mul-le-mul_left q.den (omega arith) in
    omega (arith, l)

none : Summed 0 nought no_degree
none = record {
  close = record { num = 0; den = 1; some = zero-lt-suc 0; value = (refl, refl); within = within_longer 1 0 0 1 0 1 (within_none 0 1 0 1 refl) };
  some = zero-lt-suc 0;
  small = omega arith;
}

step : (i : ℕ) (s : Float) (q : Fraction) (d : ℕ) → d ≤ 4000000000 → i < 1000 → Summed i s q → Summed (suc i) (add binary64 s (degree_of d)) (plus q d)
step i s q d h I w =
    let c : Close (suc i) s q.num q.den = w.close in
    let g : Close 1 (degree_of d) 1 (1 + d) = degree_close d h in
    let a : ℕ = c.num * g.den + g.num * c.den in
    let b : ℕ = c.den * g.den in
    let n : ℕ = q.num * (1 + d) + q.den in
    let e : ℕ = q.den * (1 + d) in
    let both : Within (suc i) a b n e =
    subst (λ (z : ℕ). Within (suc i) a b (q.num * (1 + d) + z) e) (one-mul q.den)
    (within_add (suc i) c.num c.den q.num q.den g.num g.den 1 (1 + d) c.within (subst (λ (z : ℕ). Within z g.num g.den 1 (1 + d)) (add-one i) (within_longer i 1 g.num g.den 1 (1 + d) g.within))) in
    let some : 0 < e = mul-pos w.some (omega arith) in
    let large : e ≤ n * 4000000001 = plus-large q d h in
    let small : n ≤ e * suc i = plus_small q.num q.den d i w.small in
    let few : e * suc i ≤ e * 1000 = mul-le-mul_left e I in
    record {
      close = subst (λ (x : Float). Close (suc (suc i)) x n e) (sym (add_fractions binary64 s (degree_of d) c.num c.den g.num g.den c.some g.some c.value g.value))
          (round_close (suc i) a b n e (mul-pos c.some g.some) (omega arith) (record { some = some; large = omega (arith, large); small = omega (arith, small, few) }) both);
      some = some;
      small = small;
    }
  where
    plus_small : (n e d i : ℕ) → n ≤ e * i → n * (1 + d) + e ≤ e * (1 + d) * suc i
    plus_small n e d i h =
        let l : n * (1 + d) ≤ e * i * (1 + d) = mul-le-mul_right (1 + d) h in
        omega arith

pub shift : (i n : ℕ) → suc i + n ≡ i + suc n
shift i n = omega arith

-- the sums of a list, after i others
sums : (ds : List ℕ) (i : ℕ) (s : Float) (q : Fraction) → AtMost 4000000000 ds → i + length ds ≤ 1000 → Summed i s q → Large q
    → Summed (i + length ds) (sum_from s ds) (total_from q ds) × Large (total_from q ds)
sums [] i s q h l w g = (subst (λ (z : ℕ). Summed z s q) (sym (add-zero i)) w, g)
sums (d ∷ ds) i s q h l w g =
    let n : ℕ = length ds in
    subst (λ (z : ℕ). Summed z (sum_from s (d ∷ ds)) (total_from q (d ∷ ds)) × Large (total_from q (d ∷ ds))) (shift i n)
    (sums ds (suc i) (add binary64 s (degree_of d)) (plus q d) h.1 (omega (arith, l)) (step i s q d h.0 (omega (arith, l)) w) (plus-large q d h.0))

-- ---- the mean

-- x is m * up e / down e, and also num / den
billionth_float : (k : ℕ) (x : Float) (n d : ℕ) → k ≤ 1002 → Close k x n d → WithinBillionth x (record { num = n; den = d })
billionth_float k nan n d K c = c.value
billionth_float k (inf s) n d K c = c.value
billionth_float k (fin true m e) n d K c = true≢false c.value.0
billionth_float k (fin false m e) n d K c =
    let b : Billionth c.num c.den n d = billionth k c.num c.den n d K c.within in
    by (m * up e) (down e) c.num c.den n d c.some c.value.1 b.above b.beneath
  where
    by : (x y a c n d : ℕ) → 0 < c → x * c ≡ a * y → a * d * 1000000000 ≤ n * c * 1000000001 → n * c * 999999999 ≤ a * d * 1000000000 → apart (x * d) (n * y) * 1000000000 ≤ n * y
    by x y a c n d C v h l =
        let e : x * c * d ≡ a * y * d = ap (λ (z : ℕ). z * d) v in
        let h' : a * d * 1000000000 * y ≤ n * c * 1000000001 * y = mul-le-mul_right y h in
        let l' : n * c * 999999999 * y ≤ a * d * 1000000000 * y = mul-le-mul_right y l in
        let up_to : x * d * 1000000000 ≤ n * y * 1000000001 = le_of_mul-le-mul_right (omega (arith, e, h')) C in
        let from : n * y * 999999999 ≤ x * d * 1000000000 = le_of_mul-le-mul_right (omega (arith, e, l')) C in
        omega (arith, up_to, from)

over-near : (i : ℕ) (s : Float) (q : Fraction) → 0 < i → i ≤ 1000 → Summed i s q → Large q
    → WithinBillionth (over s i) (record { num = q.num; den = q.den * i })
over-near i s q P I w g =
    let c : Close (suc i) s q.num q.den = w.close in
    let x : Close (suc (suc i)) (over s i) q.num (q.den * i) =
    subst (λ (x : Float). Close (suc (suc i)) x q.num (q.den * i))
    (sym (div_fractions binary64 s (of_int binary64 (pos i)) c.num c.den i 1 c.some P c.value (int_exact i (omega (arith, I))) ∙ ap (λ (z : ℕ). round binary64 false z (c.den * i)) (mul-one c.num)))
    (round_close (suc i) c.num (c.den * i) q.num (q.den * i) (mul-pos c.some P) (omega (arith, I)) (ranged q.num q.den i P I w.some w.small g)
    (within-over (suc i) c.num c.den q.num q.den i c.within)) in
    billionth_float (suc (suc i)) (over s i) q.num (q.den * i) (omega (arith, I)) x
  where
    ranged : (n d i : ℕ) → 0 < i → i ≤ 1000 → 0 < d → n ≤ d * i → d ≤ n * 4000000001 → Ranged n (d * i)
    ranged n d i P I D s g =
        let l : d * i ≤ d * 1000 = mul-le-mul_left d I in
        record { some = mul-pos D P; large = omega arith; small = omega arith }

-- THE BOUND, for the mean as one sum and one division
pub mean_near : (ds : List ℕ) → 0 < length ds → length ds ≤ 1000 → AtMost 4000000000 ds → WithinBillionth (mean_of ds) (exact_mean ds)
mean_near [] P l h = absurd (lt_irrefl 0 P)
mean_near (d ∷ ds) P l h =
    let n : ℕ = length ds in
    let w = sums ds 1 (add binary64 nought (degree_of d)) (plus no_degree d) h.1 (omega (arith, l)) (step 0 nought no_degree d h.0 (omega arith) none) (plus-large no_degree d h.0) in
    over-near (suc n) (sum_of (d ∷ ds)) (total (d ∷ ds)) P l (subst (λ (z : ℕ). Summed z (sum_of (d ∷ ds)) (total (d ∷ ds))) (one-add n) w.0) w.1
