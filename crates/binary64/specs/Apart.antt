-- How far two numbers lie apart.
use Rattle.std.specs.Prelude.{ℕ, ◌+◌, ◌-◌}

-- |v − w|
abbrev pub apart : ℕ → ℕ → ℕ
apart v w = (v - w) + (w - v)
