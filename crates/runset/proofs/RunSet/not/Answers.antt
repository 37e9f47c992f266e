-- The complement of the cuts.
use mathlib.Core.Bool.{not}
use mathlib.Core.List.{List}
use Prim.Native.Nat.{ℕ}
use Rattle.runs.specs.Set.{inside, member}
use Rattle.runs.proofs.laws.Set.{makes_of}
use Rattle.runset.proofs.RunSet.not.Goals as goal

pub returns : goal.returns
unfolding member
returns c = makes_of (λ (l : List ℕ) (v : ℕ). not (inside l v)) _ _ c.cuts_of.ensures c.complement.ensures
