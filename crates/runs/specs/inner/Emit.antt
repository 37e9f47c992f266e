-- One cut more in front of a list of cuts.
use Rattle.std.specs.Prelude.{ℕ, Bool, true, false, List, ◌∷◌}
use Rattle.runs.specs.Set.{xor}

-- a cut at x in front of the others, where the membership changes there from a to b
unfoldable pub emit : Bool → Bool → ℕ → List ℕ → List ℕ
emit a b x r = elim (xor a b) [ true ↦ x ∷ r | false ↦ r ]
