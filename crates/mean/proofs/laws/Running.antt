-- What travels from batch to batch is the sum of the list and its mean.
use Rattle.std.specs.Prelude.{◌≡◌, refl, List, [], ◌∷◌, ℕ, suc, ◌+◌, ◌≤◌, ◌<◌, false, length, negsuc, Float}
use Rattle.std.proofs.Common.{sym, ap, ◌∙◌, subst, lt_irrefl, add-zero, one-add, lit≤, lit<}
use Rattle.std.specs.Float.{fin}
use Rattle.std.specs.Float.Ieee.{add, div, of_int, round}
use Rattle.binary64.specs.Degree.{one, degree_of}
use Rattle.mean.specs.Mean.{sum_from, sum_of, over, mean_of, exact_mean, WithinBillionth, AtMost}
use Rattle.mean.specs.inner.Running.{start, next, run_from, running}
use Rattle.mean.proofs.laws.Near.{shift, mean_near}
use Rattle.mean.specs.declared.Mean.{Mean}

-- after some batches the report holds their sum and its mean
run_is : (ds : List ℕ) (m : Mean) (n : ℕ) → m.mean ≡ over m.sum n
    → run_from m n ds ≡ record { sum = sum_from m.sum ds; mean = over (sum_from m.sum ds) (n + length ds) }
run_is [] m n e = λ i. record { sum = m.sum; mean = (e ∙ ap (λ (z : ℕ). over m.sum z) (sym (add-zero n))) i }
run_is (d ∷ ds) m n e =
    run_is ds (next m (suc n) (degree_of d)) (suc n) refl
    ∙ ap (λ (z : ℕ). record { sum = sum_from m.sum (d ∷ ds); mean = over (sum_from m.sum (d ∷ ds)) z }) (shift n (length ds))

pub running_is : (ds : List ℕ) → 0 < length ds → running ds ≡ record { sum = sum_of ds; mean = mean_of ds }
running_is [] P = absurd (lt_irrefl 0 P)
running_is (d ∷ ds) P =
    run_is ds (next start 1 (degree_of d)) 1 refl
    ∙ ap (λ (z : ℕ). record { sum = sum_of (d ∷ ds); mean = over (sum_of (d ∷ ds)) z }) (one-add (length ds))

-- THE BOUND, for what the calls of `with` leave
pub running-near : (ds : List ℕ) → 0 < length ds → length ds ≤ 1000 → AtMost 4000000000 ds → WithinBillionth (running ds).mean (exact_mean ds)
running-near ds P l h = subst (λ (m : Mean). WithinBillionth m.mean (exact_mean ds)) (sym (running_is ds P)) (mean_near ds P l h)

-- ---- examples, computed

met : degree_of 0 ≡ one
unfolding degree_of div of_int round
met = refl

-- 1, 1/2, 1/4 and 1/4 have the mean 1/2
half : (running (0 ∷ 1 ∷ 3 ∷ 3 ∷ [])).mean ≡ fin false 1 (negsuc 0)
unfolding degree_of add div of_int round
half = refl

half_exact : exact_mean (0 ∷ 1 ∷ 3 ∷ 3 ∷ []) ≡ record { num = 64; den = 128 }
half_exact = refl

-- 1/3, rounded
third : (running (2 ∷ [])).mean ≡ fin false 6004799503160661 (negsuc 53)
unfolding degree_of add div of_int round
third = refl

third_near : WithinBillionth (fin false 6004799503160661 (negsuc 53)) (record { num = 1; den = 3 })
third_near = subst (λ (x : Float). WithinBillionth x (record { num = 1; den = 3 })) third (running-near (2 ∷ []) (lit< tt) (lit≤ tt) (lit≤ tt, tt))
