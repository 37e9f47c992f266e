-- The cuts of a set at the ends of the axis, and those between.
use Rattle.std.specs.Prelude.{ℕ, ◌+◌, ◌-◌, ◌≤◌, ◌≡◌, List, [], ◌∷◌, ◌++◌, length, take, drop}
use Rattle.number.specs.Axis.{axis}
use Rattle.runs.specs.Set.{Ascending}
use Rattle.merge.specs.declared.complement.Ends.{Ends}

-- the cuts but those at the ends
abbrev pub between : List ℕ → Ends → List ℕ
between a r = take ((length a - r.high) - r.low) (drop r.low a)

-- as many cuts at the ends of the axis as r says, and the others between
pub record Ended (a : List ℕ) (r : Ends) : Type 0 where
  pub low : r.low ≤ 1
  pub high : r.high ≤ 1
  pub room : r.low + r.high ≤ length a
  pub parts : a ≡ take r.low (0 ∷ []) ++ (between a r ++ take r.high (axis ∷ []))
  pub inner : Ascending 1 (axis - 1) (between a r)
