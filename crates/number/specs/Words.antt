-- Document 01: numbers of 32 bits in bytes, little-endian, unsigned and signed (two's complement).
use Rattle.std.specs.Prelude.{ℕ, suc, ◌+◌, ◌-◌, ◌*◌, ◌/◌, ◌%◌, List, [], ◌∷◌, ◌++◌, ℤ, pos, negsuc, slice_index}
use Rattle.std.proofs.Math.IntN.{sub_ℕ}

-- the four bytes from `at` on, as a number
abbrev pub word : List ℕ → ℕ → ℕ
word bytes at =
    slice_index bytes at + 256 * slice_index bytes (at + 1) + 65536 * slice_index bytes (at + 2) + 16777216 * slice_index bytes (at + 3)

-- the four bytes of a number
abbrev pub word_bytes : ℕ → List ℕ
word_bytes n = n % 256 ∷ n / 256 % 256 ∷ n / 65536 % 256 ∷ n / 16777216 % 256 ∷ []

-- numbers in a row, four bytes each
abbrev pub words_bytes : List ℕ → List ℕ
words_bytes [] = []
words_bytes (n ∷ ns) = word_bytes n ++ words_bytes ns

-- 32 bits in offset binary: their order is that of the signed numbers, 0 is the least
unfoldable pub offset_binary : ℕ → ℕ
offset_binary bits = (bits + 2147483648) % 4294967296

-- the signed number of 32 bits
unfoldable pub signed : ℕ → ℤ
signed bits = sub_ℕ (offset_binary bits) 2147483648

-- the 32 bits of a signed number, −2,147,483,648 to 2,147,483,647
abbrev pub bits : ℤ → ℕ
bits (pos n) = n
bits (negsuc n) = 4294967296 - suc n
