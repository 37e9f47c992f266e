-- A text of one node: its set is the leaf's, and 8 judges it alone.
use Rattle.std.specs.Prelude.{ℕ, ◌-◌, ◌<◌, ◌≡◌, refl, true, List}
use Rattle.std.specs.Prelude.{Result}
use Rattle.runs.specs.declared.TooManyRuns.{TooManyRuns}
use Rattle.std.proofs.Common.{arith, sym, ap, subst, ◌∙◌}
use Rattle.std.proofs.lemmas.Bool.{false≢true}
use Rattle.runs.specs.Set.{Makes}
use Rattle.grammar.specs.Syntax.{Text, atom, listed, or, and, neg, finally, globally, next, until, weak_until}
use Rattle.grammar.specs.declared.Row.{Row}
use Rattle.grammar.specs.inner.Kinds.{NOT}
use Rattle.grammar.specs.inner.Table.{row_at}
use Rattle.meaning.specs.inner.Coded.{Coded, coded}
use Rattle.meaning.specs.inner.Truth.{val, large_at, some_node, refused8, refused9}
use Rattle.leaves.specs.inner.Leaf.{leaf_of, Asked}
use Rattle.evaluation.specs.inner.Evaluation.{text_of, Asking, Evaluates}
use Rattle.evaluation.proofs.laws.Leaf.{is_leaf, row_leaf}
use Rattle.parser.proofs.laws.Rows.{laid_above}
use Rattle.evaluation.proofs.laws.Laid.{leaf_text}

alone_eight : (r : List Coded) (p : Text) → is_leaf p ≡ true → refused8 r p ≡ large_at r p 0
unfolding refused8 some_node
alone_eight r (atom a) h = refl
alone_eight r (listed q) h = refl
alone_eight r (or p q) h = absurd (false≢true h)
alone_eight r (and p q) h = absurd (false≢true h)
alone_eight r (neg p) h = absurd (false≢true h)
alone_eight r (finally p) h = absurd (false≢true h)
alone_eight r (globally p) h = absurd (false≢true h)
alone_eight r (next p) h = absurd (false≢true h)
alone_eight r (until p q) h = absurd (false≢true h)
alone_eight r (weak_until p q) h = absurd (false≢true h)

module _ (table : List ℕ) (count : ℕ) (rec : List ℕ) (asking : Asking table count rec) (root : Row) (is-root : root ≡ row_at table (count - 1)) (leaf : root.kind < NOT) where
  root_text : leaf_of root ≡ text_of table count
  root_text = let some = laid_above asking.laid in leaf_text table (count - 1) root is-root asking.laid (omega arith) leaf

  pub alone_asked : Asked rec 0 root
  alone_asked = record {
    accepted = asking.accepted;
    index = asking.record_there;
    leaf = leaf;
    few_tops = ap (refused9 (coded rec)) root_text ∙ asking.few_tops;
  }

  pub alone_evaluates : (words : List ℕ) (over : Result (Unit {0}) TooManyRuns) → Makes (λ v. val (coded rec) v (leaf_of root) 0) words over → Evaluates (coded rec) (text_of table count) words over
  alone_evaluates words over m = subst (λ (p : Text). Evaluates (coded rec) p words over) root_text (record {
    flag = m.flag ∙ sym (alone_eight (coded rec) (leaf_of root) (row_leaf root));
    holds = m.holds;
  })
