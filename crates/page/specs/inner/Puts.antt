-- What a function leaves that puts bytes into an output.
use Rattle.std.specs.Prelude.{ℕ, ◌+◌, ◌≡◌, List, ◌++◌, length, take, drop}

-- `bytes` stand in the output from `at` to `end`, and nothing else of it changed: `old` before, `new` after
pub record Puts (bytes old : List ℕ) (at : ℕ) (new : List ℕ) (end : ℕ) : Type 0 where
  pub behind : end ≡ at + length bytes
  pub output : new ≡ take at old ++ bytes ++ drop end old
