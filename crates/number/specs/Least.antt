-- The least number of which a condition holds.
use Rattle.std.specs.Prelude.{ℕ, zero, suc, Bool, cond}

-- the least i below n of which P holds; where there is none, n
unfoldable pub least : (ℕ → Bool) → ℕ → ℕ
least P zero = zero
least P (suc n) = cond (P zero) zero (suc (least (λ i. P (suc i)) n))
