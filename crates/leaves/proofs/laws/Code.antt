-- The codes of a row, past the last that has a meaning of its own.
use Rattle.std.specs.Prelude.{◌≡◌, ℕ, zero, suc, ◌≤◌, ◌≢◌, refl}
use Rattle.std.proofs.Common.{arith}
use Rattle.grammar.specs.Syntax.{T, eq}
use Rattle.grammar.specs.inner.Table.{field_of, relation_of}

pub field_else : (n : ℕ) → (n ≢ 0) → (n ≢ 1) → field_of n ≡ T
field_else zero h k = absurd (h refl)
field_else (suc zero) h k = absurd (k refl)
field_else (suc (suc zero)) h k = refl
field_else (suc (suc (suc n))) h k = refl

pub relation_else : (n : ℕ) → 4 ≤ n → relation_of n ≡ eq
relation_else zero h = absurd (omega arith)
relation_else (suc zero) h = absurd (omega arith)
relation_else (suc (suc zero)) h = absurd (omega arith)
relation_else (suc (suc (suc zero))) h = absurd (omega arith)
relation_else (suc (suc (suc (suc zero)))) h = refl
relation_else (suc (suc (suc (suc (suc n))))) h = refl
