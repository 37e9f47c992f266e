-- The least number of which a condition holds: it is reached, nothing lies below it, and it is the only such number.
use Rattle.std.specs.Prelude.{◌≡◌, ℕ, zero, suc, ◌<◌, ◌≤◌, Bool, true, false, refl}
use Rattle.std.proofs.Common.{sym, ◌∙◌, ⊎_elim, arith}
use Rattle.std.proofs.lemmas.Bool.{false≢true}
use Rattle.number.specs.Least.{least}
use Rattle.number.proofs.laws.Order.{less_or_not, less-more_equal, true_or_false}

-- by the condition at zero
least_here : (P : ℕ → Bool) (n : ℕ) → P zero ≡ true → least P (suc n) ≡ zero
unfolding least
least_here P n e = rw (e, least)

least-later : (P : ℕ → Bool) (n : ℕ) → P zero ≡ false → least P (suc n) ≡ suc (least (λ i. P (suc i)) n)
unfolding least
least-later P n e = rw (e, least)

least_zero : (P : ℕ → Bool) → least P zero ≡ zero
unfolding least
least_zero P = refl

pub least_le : (P : ℕ → Bool) (n : ℕ) → least P n ≤ n
least_le P zero = rw least_zero (omega arith)
least_le P (suc n) =
    ⊎_elim (λ e. rw (least_here P n e) (omega arith))
    (λ e. let h : least (λ i. P (suc i)) n ≤ n = least_le (λ i. P (suc i)) n in rw (least-later P n e) (omega arith))
    (true_or_false (P zero))

pub least_holds : (P : ℕ → Bool) (n : ℕ) → least P n < n → P (least P n) ≡ true
least_holds P zero h = absurd (omega arith)
least_holds P (suc n) h =
    ⊎_elim (λ e. rw (least_here P n e) e)
    (λ e. let q = least-later P n e in rw q (least_holds (λ i. P (suc i)) n (omega arith)))
    (true_or_false (P zero))

pub least_first : (P : ℕ → Bool) (n i : ℕ) → i < least P n → P i ≡ false
least_first P zero i h = absurd (let z : least P zero ≡ zero = least_zero P in omega arith)
least_first P (suc n) zero h =
    ⊎_elim (λ e. absurd (let z : least P (suc n) ≡ zero = least_here P n e in omega arith)) (λ e. e) (true_or_false (P zero))
least_first P (suc n) (suc i) h =
    ⊎_elim (λ e. absurd (let z : least P (suc n) ≡ zero = least_here P n e in omega arith))
    (λ e. let q = least-later P n e in least_first (λ i. P (suc i)) n i (omega arith))
    (true_or_false (P zero))

pub least_is : (P : ℕ → Bool) (n i : ℕ) → i < n → P i ≡ true → ((k : ℕ) → k < i → P k ≡ false) → least P n ≡ i
least_is P n i h e f =
    ⊎_elim (λ g. absurd (false≢true (sym (f (least P n) g) ∙ least_holds P n (omega arith))))
    (⊎_elim (λ g. absurd (false≢true (sym (least_first P n i g) ∙ e))) (λ q. q))
    (less-more_equal (least P n) i)

pub least_none : (P : ℕ → Bool) (n : ℕ) → ((k : ℕ) → k < n → P k ≡ false) → least P n ≡ n
least_none P n f =
    ⊎_elim (λ g. absurd (false≢true (sym (f (least P n) g) ∙ least_holds P n g)))
    (λ g. let h : least P n ≤ n = least_le P n in omega arith)
    (less_or_not (least P n) n)

pub least_ext : (P Q : ℕ → Bool) (n : ℕ) → ((i : ℕ) → i < n → P i ≡ Q i) → least P n ≡ least Q n
least_ext P Q n e =
    ⊎_elim
    (λ h. sym (least_is Q n (least P n) h (sym (e (least P n) h) ∙ least_holds P n h) (λ k g. sym (e k (omega arith)) ∙ least_first P n k g)))
    (λ h. let l : least P n ≤ n = least_le P n in
    let q : least P n ≡ n = omega arith in
    q ∙ sym (least_none Q n (λ k g. sym (e k g) ∙ least_first P n k (omega arith))))
    (less_or_not (least P n) n)
