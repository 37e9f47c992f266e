-- Numbers in decimal, as ASCII bytes.
use Rattle.std.specs.Prelude.{ℕ, suc, ◌^◌, List, ◌++◌, ltb, ℤ, pos, negsuc}
use Rattle.io.specs.Digits.{last_digits}
use Rattle.number.specs.Least.{least}
use Rattle.grammar.specs.Bytes.{bytes}

-- how many digits n has: the fewest, and one at least, that hold it
unfoldable pub places : ℕ → ℕ
places n = suc (least (λ k. ltb n (10 ^ suc k)) n)

unfoldable pub in_decimal : ℕ → List ℕ
in_decimal n = last_digits 10 (places n) n

-- a minus before a number below 0
unfoldable pub signed_decimal : ℤ → List ℕ
signed_decimal (pos n) = in_decimal n
signed_decimal (negsuc n) = bytes "-" ++ in_decimal (suc n)
