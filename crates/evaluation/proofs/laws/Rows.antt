-- Rows in another table: the same text, which can be evaluated there as well.
use Rattle.std.specs.Prelude.{ℕ, ◌-◌, ◌*◌, ◌≤◌, ◌≡◌, Bool, List, length}
use Rattle.std.specs.Prelude.{Result}
use Rattle.runs.specs.declared.TooManyRuns.{TooManyRuns}
use Rattle.std.proofs.Common.{arith, sym, ap, subst, ◌∙◌}
use Rattle.grammar.specs.declared.Row.{Row}
use Rattle.grammar.specs.Syntax.{Text}
use Rattle.grammar.specs.Size.{temporal}
use Rattle.grammar.specs.inner.Table.{row_at, unary_from}
use Rattle.parser.specs.inner.Rows.{Same, Laid}
use Rattle.parser.proofs.laws.Rows.{laid_above, laid_stays}
use Rattle.text.proofs.laws.Table.{decoded}
use Rattle.meaning.specs.inner.Coded.{Coded, coded}
use Rattle.meaning.specs.inner.Truth.{refused9}
use Rattle.evaluation.specs.inner.Evaluate.{HasChild}
use Rattle.evaluation.specs.inner.Evaluation.{text_of, Asking, Evaluates}

module _ (table rows : List ℕ) (count : ℕ) (rec : List ℕ) (same : Same count table rows) (asking : Asking table count rec) where
  there : Laid rows 0 count (text_of table count)
  there = laid_stays count (omega arith) same asking.laid

  same_text : text_of rows count ≡ text_of table count
  same_text = decoded there

  pub same_asking : 4 * count ≤ length rows → Asking rows count rec
  same_asking room = record {
    laid = subst (Laid rows 0 count) (sym same_text) there;
    rows = room;
    few = asking.few;
    accepted = asking.accepted;
    record_there = asking.record_there;
    few_tops = ap (refused9 (coded rec)) same_text ∙ asking.few_tops;
  }

  pub same_temporal : (ahead : Bool) → temporal (text_of table count) ≡ ahead → temporal (text_of rows count) ≡ ahead
  same_temporal ahead e = ap temporal same_text ∙ e

  pub same_child : (root : Row) → root ≡ row_at table (count - 1) → unary_from ≤ root.kind → HasChild rows (count - 1)
  same_child root is h =
      let some = laid_above asking.laid in
      subst (λ (r : Row). unary_from ≤ r.kind) (is ∙ sym (same.row-at (count - 1) (omega arith))) h

  pub same_evaluates : (r : List Coded) (words : List ℕ) (over : Result (Unit {0}) TooManyRuns) → Evaluates r (text_of rows count) words over → Evaluates r (text_of table count) words over
  same_evaluates r words over = subst (λ (p : Text). Evaluates r p words over) same_text
