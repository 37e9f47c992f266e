-- What written bytes of a set say, with no regard to how they came about: a number lies in a run that stands in them.
use Rattle.std.specs.Prelude.{ℕ, ◌+◌, ◌*◌, ◌≤◌, List, length, ℤ, ◌≤ℤ◌}
use Rattle.number.specs.Words.{word, signed}

-- run k stands in bytes 8k to 8k + 7, low and then high, both included: low ≤ z ≤ high for some k
abbrev pub in_bytes : List ℕ → ℤ → Type 0
in_bytes bytes z =
    (k : ℕ) × (8 * k + 8 ≤ length bytes) × (signed (word bytes (8 * k)) ≤ℤ z) × (z ≤ℤ signed (word bytes (8 * k + 4)))
