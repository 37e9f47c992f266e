-- The kind of the last row.
use Prim.Native.Nat.{ℕ}
use mathlib.Core.Path.{ap}
use lib.Dec.{ltb}
use Rattle.grammar.specs.inner.Kinds.{NOT}
use borrow.Author.Rules.{rules}
use Rattle.question.proofs.answered.is_leaf.Goals as goal

pub returns : goal.returns
returns c = ap (λ (k : ℕ). ltb k NOT) c.kind.ensures
