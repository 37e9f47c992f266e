-- A set of at most one run.
use Rattle.std.specs.Prelude.{◌≡◌, ℕ, ◌<◌, Bool, ◌&&◌, nat_le}
use Rattle.number.specs.Axis.{axis}
use Rattle.leaves.specs.declared.span.Span.{Span}

-- the numbers from low to high are those of which f holds; there are none where high < low
pub record Spans (f : ℕ → Bool) (s : Span) : Type 0 where
  pub inside : s.high < axis
  pub members : (v : ℕ) → v < axis → (nat_le s.low v && nat_le v s.high) ≡ f v
