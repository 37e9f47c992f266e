-- Two places of a list of times whose times are a number apart.
use Rattle.std.specs.Prelude.{ℕ, ◌+◌, ◌≤◌, ◌<◌, ◌≡◌, ◌⊎◌, List, ℤ, length, get_or}
use Rattle.std.proofs.Math.IntN.{sub_ℕ}

-- the first n times ascend
abbrev pub Rising : List ℕ → ℕ → Type 0
Rising times n = (a b : ℕ) → a < b → b < n → get_or times a 0 < get_or times b 0

-- the time at place j is g more than the one at the earlier place i
pub record Apart (times : List ℕ) (g : ℤ) (i j : ℕ) : Type 0 where
  pub order : i < j
  pub inside : j < length times
  pub apart : sub_ℕ (get_or times j 0) (get_or times i 0) ≡ g

-- the same of the first n times, by a sum: what the search tests
pub record Spaced (times : List ℕ) (n g i j : ℕ) : Type 0 where
  pub order : i < j
  pub inside : j < n
  pub sum : get_or times i 0 + g ≡ get_or times j 0

-- places i and j are the first such two
pub record FirstApart (times : List ℕ) (g : ℤ) (i j : ℕ) : Type 0 where
  pub places : Apart times g i j
  pub before : (a b : ℕ) → Apart times g a b → (i < a) ⊎ ((i ≡ a) × (j ≤ b))
