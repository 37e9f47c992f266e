-- A laboratory's text that is read, to be asked of a recording.
use Rattle.refusal.specs.declared.Refusal.{Refusal}
use Rattle.std.specs.Prelude.{ℕ, ◌≡◌, List, Result, Ok}
use Rattle.refusal.specs.Outcome.{judged, reported}
use Rattle.grammar.specs.inner.Parse.{parsed}
use Rattle.text.specs.Told.{nodes_of, Tabled}
use Rattle.lab.specs.Lab.{lab_asking_lines}

-- refused by 1 to 7, 11 and 14 exactly as the table has it; else the table stands for the text's one reading
pub record LabPrepares (bytes marks text table : List ℕ) (r : Result ℕ Refusal) : Type 0 where
  pub outcome : reported r ≡ judged (lab_asking_lines bytes marks text) (nodes_of (parsed text))
  pub tabled : (n : ℕ) → r ≡ Ok n → Tabled text table n
