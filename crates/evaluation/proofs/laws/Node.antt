-- Some node of a text: the root, or one below it.
use Rattle.std.specs.Prelude.{ℕ, ◌<◌, ◌≤◌, ◌≡◌, Bool, true, ◌||◌, List}
use Rattle.std.proofs.Math.Path.{refl}
use Rattle.std.proofs.Common.{sym, ap, ◌∙◌}
use Rattle.std.proofs.lemmas.Bool.{false≢true}
use Rattle.grammar.specs.Syntax.{Text, atom, listed, or, and, neg, finally, globally, next, until, weak_until}
use Rattle.grammar.specs.declared.Row.{Row}
use Rattle.grammar.specs.inner.Table.{row, build, row_at, tree_at, Falling, binary_from, kinds, unary_from}
use Rattle.meaning.specs.inner.Truth.{some_node}
use Rattle.leaves.specs.inner.Leaf.{leaf_of}
use Rattle.evaluation.proofs.laws.Leaf.{is_leaf, row_leaf}
use Rattle.evaluation.proofs.laws.Step.{four}
use Rattle.text.proofs.laws.Table.{tree_step}
use Rattle.evaluation.proofs.laws.Tree.{build_leaf, kind-known}

abbrev kind : List ℕ → ℕ → ℕ
kind table n = (row_at table n).kind

abbrev first : List ℕ → ℕ → ℕ
first table n = (row_at table n).first

abbrev second : List ℕ → ℕ → ℕ
second table n = (row_at table n).second

module _ (G : Text → Bool) where
  one-node : (t : Text) → is_leaf t ≡ true → some_node G t ≡ G t
  unfolding some_node
  one-node (atom k) h = refl
  one-node (listed q) h = refl
  one-node (or p q) h = absurd (false≢true h)
  one-node (and p q) h = absurd (false≢true h)
  one-node (neg p) h = absurd (false≢true h)
  one-node (finally p) h = absurd (false≢true h)
  one-node (globally p) h = absurd (false≢true h)
  one-node (next p) h = absurd (false≢true h)
  one-node (until p q) h = absurd (false≢true h)
  one-node (weak_until p q) h = absurd (false≢true h)

  pub some_leaf : (r : Row) → some_node G (leaf_of r) ≡ G (leaf_of r)
  some_leaf r = one-node (leaf_of r) (row_leaf r)

  pub some_one : (k a b n : ℕ) (p q : Text) → unary_from ≤ k → k < binary_from → some_node G (build (row k a b n) p q) ≡ (G (build (row k a b n) p q) || some_node G p)
  unfolding some_node
  some_one k a b n p q l h =
      four (λ (k : ℕ). some_node G (build (row k a b n) p q) ≡ (G (build (row k a b n) p q) || some_node G p)) unary_from k l h refl refl refl refl

  pub some_two : (k a b n : ℕ) (p q : Text) → binary_from ≤ k → k < kinds
      → some_node G (build (row k a b n) p q) ≡ (G (build (row k a b n) p q) || (some_node G p || some_node G q))
  unfolding some_node
  some_two k a b n p q l h =
      four (λ (k : ℕ). some_node G (build (row k a b n) p q) ≡ (G (build (row k a b n) p q) || (some_node G p || some_node G q))) binary_from k l h refl refl refl refl

  module _ (table : List ℕ) (count : ℕ) (falling : Falling table count) (n : ℕ) (inn : n < count) where
    pub here_leaf : kind table n < unary_from → some_node G (tree_at table n) ≡ G (tree_at table n)
    here_leaf h =
        let e = tree_step table count falling n inn ∙ build_leaf (row_at table n) (tree_at table (first table n)) (tree_at table (second table n)) h in
        ap (some_node G) e ∙ some_leaf (row_at table n) ∙ ap G (sym e)

    pub here_one : unary_from ≤ kind table n → kind table n < binary_from → some_node G (tree_at table n) ≡ (G (tree_at table n) || some_node G (tree_at table (first table n)))
    here_one l h =
        let e = tree_step table count falling n inn in
        ap (some_node G) e ∙ some_one (kind table n) (first table n) (second table n) (row_at table n).number (tree_at table (first table n)) (tree_at table (second table n)) l h
        ∙ ap (λ (t : Text). G t || some_node G (tree_at table (first table n))) (sym e)

    pub here_two : binary_from ≤ kind table n → some_node G (tree_at table n) ≡ (G (tree_at table n) || (some_node G (tree_at table (first table n)) || some_node G (tree_at table (second table n))))
    here_two l =
        let e = tree_step table count falling n inn in
        ap (some_node G) e ∙ some_two (kind table n) (first table n) (second table n) (row_at table n).number (tree_at table (first table n)) (tree_at table (second table n)) l (kind-known table count falling n inn)
        ∙ ap (λ (t : Text). G t || (some_node G (tree_at table (first table n)) || some_node G (tree_at table (second table n)))) (sym e)
