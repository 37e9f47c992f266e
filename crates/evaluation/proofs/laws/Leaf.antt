-- The text of a leaf's row is a leaf: an atom or a listed question.
use Rattle.std.specs.Prelude.{ℕ, zero, suc, ◌≡◌, refl, Bool, true, false, ◌&&◌, List, [], ◌∷◌, get_or}
use Rattle.number.proofs.laws.Boolean.{and_left, and_right}
use Rattle.grammar.specs.Syntax.{Text, atom, listed, lag, or, and, neg, finally, globally, next, until, weak_until}
use Rattle.grammar.specs.declared.Row.{Row}
use Rattle.grammar.specs.inner.Table.{leaf_texts}
use Rattle.leaves.specs.inner.Leaf.{leaf_of}

abbrev pub is_leaf : Text → Bool
is_leaf (atom k) = true
is_leaf (listed q) = true
is_leaf (or p q) = false
is_leaf (and p q) = false
is_leaf (neg p) = false
is_leaf (finally p) = false
is_leaf (globally p) = false
is_leaf (next p) = false
is_leaf (until p q) = false
is_leaf (weak_until p q) = false

abbrev all_leaves : List Text → Bool
all_leaves [] = true
all_leaves (t ∷ l) = is_leaf t && all_leaves l

leaf-at : (l : List Text) (k : ℕ) → all_leaves l ≡ true → is_leaf (get_or l k (listed lag)) ≡ true
leaf-at [] k a = refl
leaf-at (x ∷ l) zero a = and_left (is_leaf x) _ a
leaf-at (x ∷ l) (suc k) a = leaf-at l k (and_right (is_leaf x) _ a)

pub row_leaf : (r : Row) → is_leaf (leaf_of r) ≡ true
row_leaf r = leaf-at (leaf_texts r) r.kind refl
