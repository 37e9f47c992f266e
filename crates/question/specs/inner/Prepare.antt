-- A text that is read, to be asked of a recording: what stands between bytes and the evaluation.
use Rattle.refusal.specs.declared.Refusal.{Refusal}
use Rattle.std.specs.Prelude.{ℕ, ◌≡◌, List, Result, Ok}
use Rattle.refusal.specs.Outcome.{reported, judged}
use Rattle.grammar.specs.inner.Parse.{parsed}
use Rattle.text.specs.Told.{nodes_of, Tabled}
use Rattle.question.specs.Question.{asking_lines}

-- refused by 1 to 7 exactly as the table has it; else the table stands for the text's one reading
pub record Prepares (bytes text table : List ℕ) (r : Result ℕ Refusal) : Type 0 where
  pub outcome : reported r ≡ judged (asking_lines bytes text) (nodes_of (parsed text))
  pub tabled : (n : ℕ) → r ≡ Ok n → Tabled text table n
