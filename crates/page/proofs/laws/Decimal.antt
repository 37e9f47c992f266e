-- The digits of a number: how many there are.
use Prim.Native.Nat.{ℕ, zero, suc, ◌-◌, ◌/◌, ◌^◌, ◌≤◌, ◌<◌}
use Rattle.std.specs.Prelude.{◌≡◌, refl, [], ◌∷◌, ◌++◌, length, ltb}
use Rattle.std.proofs.Common.{sym, ap, ◌∙◌, ⊎_elim, length-append, lt-ltb, le-ltb}
use Rattle.std.proofs.lemmas.Bool.{false≢true}
use Rattle.std.proofs.Math.Nat.{pow-succ', pow-le-pow_right}
use native.Mathlib.Omega.{arith}
use Rattle.io.specs.Digits.{last_digits, IsDigitCount}
use Rattle.number.specs.Least.{least}
use Rattle.number.proofs.laws.Least.{least_is, least_first}
use Rattle.number.proofs.laws.Order.{less_or_not}
use Rattle.number.specs.Words.{offset_binary, signed}
use Rattle.page.specs.Decimal.{places, in_decimal, signed_decimal}

pub digits_length : (k n : ℕ) → length (last_digits 10 k n) ≡ k
digits_length zero n = refl
digits_length (suc k) n =
    let ih : length (last_digits 10 k (n / 10)) ≡ k = digits_length k (n / 10) in
    length-append (last_digits 10 k (n / 10)) _ ∙ omega arith

-- a power of ten is over its exponent
below_power : (k : ℕ) → k < 10 ^ k
below_power zero = omega arith
below_power (suc k) = let ih : k < 10 ^ k = below_power k in omega (arith, pow-succ' 10 k)

-- THE NUMBER OF DIGITS is the least that holds n
pub fewest_places : (n k : ℕ) → IsDigitCount 10 1 n k → k ≡ places n
unfolding places least
fewest_places n zero f = absurd (omega (arith, f.0))
fewest_places n (suc j) f = ap suc (by n f.1 (λ h. f.2 (omega arith)))
  where
    by : (n : ℕ) → n < 10 ^ suc j → (0 < j → 10 ^ (suc j - 1) ≤ n) → j ≡ least (λ k. ltb n (10 ^ suc k)) n
    by n h g = ⊎_elim (λ z. small n z g) (λ p. sym (least_is (λ k. ltb n (10 ^ suc k)) n j (below n p g) (lt-ltb n (10 ^ suc j) h) (λ i l. le-ltb n (10 ^ suc i) (power n i l g)))) (less_or_not n 1)
      where
        same : suc j - 1 ≡ j
        same = omega arith

        low : (n : ℕ) → (0 < j → 10 ^ (suc j - 1) ≤ n) → 0 < j → 10 ^ j ≤ n
        low n g p = rw same at (g p)

        power : (n i : ℕ) → i < j → (0 < j → 10 ^ (suc j - 1) ≤ n) → 10 ^ suc i ≤ n
        power n i l g = let a : 10 ^ suc i ≤ 10 ^ j = pow-le-pow_right (omega arith) (omega arith) in omega (arith, low n g (omega arith))

        below : (n : ℕ) → 1 ≤ n → (0 < j → 10 ^ (suc j - 1) ≤ n) → j < n
        below n p g = ⊎_elim (λ z. omega arith) (λ q. omega (arith, low n g q, below_power j)) (less_or_not j 1)

        small : (n : ℕ) → n < 1 → (0 < j → 10 ^ (suc j - 1) ≤ n) → j ≡ least (λ k. ltb n (10 ^ suc k)) n
        small zero z g = ⊎_elim (λ q. omega arith) (λ q. absurd (omega (arith, low zero g q, below_power j))) (less_or_not j 1)
        small (suc n) z g = absurd (omega arith)

pub decimal_is : (n k : ℕ) → IsDigitCount 10 1 n k → last_digits 10 k n ≡ in_decimal n
unfolding in_decimal
decimal_is n k f = ap (λ (j : ℕ). last_digits 10 j n) (fewest_places n k f)

-- a number below a power of ten
pub decimal-fits : (n k : ℕ) → n < 10 ^ suc k → length (in_decimal n) ≤ suc k
unfolding in_decimal places
decimal-fits n k h =
    ⊎_elim (λ g. absurd (false≢true (sym (least_first (λ i. ltb n (10 ^ suc i)) n k g) ∙ lt-ltb n (10 ^ suc k) h)))
    (λ g. omega (arith, digits_length (suc (least (λ i. ltb n (10 ^ suc i)) n)) n))
    (less_or_not k (least (λ i. ltb n (10 ^ suc i)) n))

-- ---- signed numbers of 32 bits, by where they stand among them

-- where 0 stands
abbrev pub middle : ℕ
middle = 2147483648

module _ (w t : ℕ) (is : t ≡ offset_binary w) where
  pub signed_below : t < middle → signed_decimal (signed w) ≡ (45 ∷ []) ++ in_decimal (middle - t)
  unfolding signed_decimal signed
  signed_below h =
      let e : suc (middle - suc (offset_binary w)) ≡ middle - t = omega arith in
      rw (lt-ltb (offset_binary w) middle (omega arith)) (ap (λ (n : ℕ). 45 ∷ in_decimal n) e)

  pub signed_above : middle ≤ t → signed_decimal (signed w) ≡ in_decimal (t - middle)
  unfolding signed_decimal signed
  signed_above h = rw (le-ltb (offset_binary w) middle (omega arith)) (ap (λ (k : ℕ). in_decimal (k - middle)) (sym is))

offset_binary_small : (w : ℕ) → offset_binary w < 4294967296
unfolding offset_binary
offset_binary_small w = omega arith

pub signed-fits : (w : ℕ) → length (signed_decimal (signed w)) ≤ 11
signed-fits w =
    ⊎_elim (λ h. omega (arith, ap length (signed_below w (offset_binary w) refl h), decimal-fits (middle - offset_binary w) 9 (omega arith)))
    (λ h. omega (arith, ap length (signed_above w (offset_binary w) refl h), decimal-fits (offset_binary w - middle) 9 (omega (arith, offset_binary_small w))))
    (less_or_not (offset_binary w) middle)
