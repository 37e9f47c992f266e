-- The atom, or the listed question, is lent the slot of its node.
use Prim.Native.Nat.{ℕ, ◌*◌, ◌<◌}
use mathlib.Core.Bool.{Bool}
use mathlib.Core.Path.{◌≡◌, ◌∙◌}
use mathlib.Core.List.{List}
use native.Mathlib.Omega.{arith}
use lib.ListN.{length, take, drop, length-drop}
use lib.Seq.{length-take-le}
use Rattle.runs.specs.Set.{slot_words}
use Rattle.runs.proofs.laws.Set.{holds_makes}
use Rattle.grammar.specs.declared.Row.{Row}
use Rattle.grammar.specs.Size.{most_nodes}
use Rattle.meaning.specs.inner.Truth.{val}
use Rattle.meaning.specs.inner.Coded.{coded}
use Rattle.leaves.specs.inner.Leaf.{leaf_of}
use Rattle.evaluation.specs.inner.Slots.{Sized}
use Rattle.evaluation.proofs.laws.Slots.{across, across_is, made_in}
use Rattle.evaluation.proofs.node.leaf_at.Goals as goal

-- the members of the leaf's set
abbrev members : List ℕ → ℕ → Row → ℕ → Bool
members rec i row v = val (coded rec) v (leaf_of row) i

-- the words that are lent
lent : (own : List ℕ) (n : ℕ) → n < most_nodes → Sized own → length (take (across n) (drop (slot_words * n) own)) ≡ slot_words
lent own n h sized = length-take-le (across n) _ (simp length-drop (omega (arith, sized, h, across_is n))) ∙ across_is n

pub atom-requires : goal.atom-requires
atom-requires c =
    (c.requires.0, c.if-row-lt-HIGH.true, lent c.args.own.now c.args.n c.requires.1 c.requires.2)

pub returns-then-row-lt-HIGH : goal.returns-then-row-lt-HIGH
returns-then-row-lt-HIGH c =
    made_in c.args.own.now _ c.args.n c.requires.2 c.requires.1 (c.atom.auto.set ∙ lent c.args.own.now c.args.n c.requires.1 c.requires.2) (across c.args.n) (across_is c.args.n) _ _
    (holds_makes (members c.args.rec.now c.args.i c.args.row) _ c.atom.ensures)

pub leaf-requires : goal.leaf-requires
leaf-requires c =
    (c.requires.0, lent c.args.own.now c.args.n c.requires.1 c.requires.2)

pub returns : goal.returns
returns c =
    made_in c.args.own.now _ c.args.n c.requires.2 c.requires.1 (c.leaf.auto.set ∙ lent c.args.own.now c.args.n c.requires.1 c.requires.2) (across c.args.n) (across_is c.args.n) _ _ c.leaf.ensures
