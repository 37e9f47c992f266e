-- A part of bytes, and bytes put in the place of others.
use Rattle.std.specs.Prelude.{ℕ, ◌+◌, ◌≤◌, List, ◌++◌, ◌⊎◌, length, take, drop}

-- the n bytes from `at` on
abbrev pub part : ℕ → ℕ → List ℕ → List ℕ
part at n s = take n (drop at s)

-- the bytes s, with v in the place of those from `at` on
unfoldable pub put : ℕ → List ℕ → List ℕ → List ℕ
put at v s = take at s ++ v ++ drop (at + length v) s

-- n bytes from `a` on and n bytes from `b` on lie apart
abbrev pub Apart : ℕ → ℕ → ℕ → Type 0
Apart a b n = (a + n ≤ b) ⊎ (b + n ≤ a)
