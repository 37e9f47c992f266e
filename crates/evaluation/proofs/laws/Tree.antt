-- The tree of a node, from the trees of its children.
use Rattle.std.specs.Prelude.{ℕ, zero, suc, ◌<◌, ◌≤◌, ◌≡◌, refl, List, [], ◌∷◌, ◌++◌, length, get_or}
use Rattle.std.proofs.Common.{le_of_suc-le-suc, not-suc-le-zero, ◌∙◌}
use Rattle.std.proofs.Math.ListN.{get_or-append}
use Rattle.grammar.specs.Syntax.{Text, listed, lag}
use Rattle.grammar.specs.declared.Row.{Row}
use Rattle.grammar.specs.inner.Table.{leaf_texts, unaries, binaries, build, row_at, Falling, binary_from, kinds, unary_from}
use Rattle.leaves.specs.inner.Leaf.{leaf_of}

get_d_within : {A : Type 0} (l : List A) (i : ℕ) (d e : A) → i < length l → get_or l i d ≡ get_or l i e
get_d_within [] i d e h = absurd (not-suc-le-zero h)
get_d_within (x ∷ l) zero d e h = refl
get_d_within (x ∷ l) (suc i) d e h = get_d_within l i d e (le_of_suc-le-suc h)

-- the trees of the children do not matter to a leaf
pub build_leaf : (r : Row) (p q : Text) → r.kind < unary_from → build r p q ≡ leaf_of r
build_leaf r p q h =
    get_or-append (leaf_texts r) (unaries p ++ binaries p q) p r.kind h ∙ get_d_within (leaf_texts r) r.kind p (listed lag) h

module _ (table : List ℕ) (count : ℕ) (falling : Falling table count) where
  pub falls-first : (n : ℕ) → n < count → unary_from ≤ (row_at table n).kind → (row_at table n).first < n
  unfolding Falling
  falls-first n c h = (falling n c).0 h

  pub falls-second : (n : ℕ) → n < count → binary_from ≤ (row_at table n).kind → (row_at table n).second < n
  unfolding Falling
  falls-second n c h = (falling n c).1 h

  pub kind-known : (n : ℕ) → n < count → (row_at table n).kind < kinds
  unfolding Falling
  kind-known n c = (falling n c).2
