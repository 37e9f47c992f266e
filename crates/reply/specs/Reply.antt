-- Document 01, "When no result is given": an outcome as the one number that a call returns.
use Rattle.std.specs.Prelude.{ℕ, ◌+◌, ◌*◌, ◌/◌, ◌%◌, ◌<◌, cond, eqb}
use Rattle.refusal.specs.Outcome.{Outcome, result, refused}

-- the size of either half of 64 bits
abbrev pub half : ℕ
half = 4294967296

-- in the high half the refusal's number, 0 for a result; in the low half the result, or the refusal's place
abbrev pub packed : Outcome ℕ → ℕ
packed (result n) = n
packed (refused k p) = k * half + p

-- what stands in the low half fits in it, so that both halves can be told apart
abbrev pub InHalf : Outcome ℕ → Type 0
InHalf (result n) = n < half
InHalf (refused k p) = p < half

-- ---- what a caller reads off the number that was returned

-- the high half: the refusal's number, 0 for a result
abbrev pub number_in : ℕ → ℕ
number_in r = r / half

-- the low half: the result, or the refusal's place
abbrev pub low_in : ℕ → ℕ
low_in r = r % half

abbrev pub unpacked : ℕ → Outcome ℕ
unpacked r = cond (eqb (number_in r) 0) (result (low_in r)) (refused (number_in r) (low_in r))
