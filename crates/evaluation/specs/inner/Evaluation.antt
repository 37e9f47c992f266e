-- What the evaluation of a text asks, and what it promises: the set of the text at the first record, or refusal 8.
use Rattle.std.specs.Prelude.{ℕ, ◌-◌, ◌*◌, ◌≤◌, ◌<◌, ◌≡◌, false, List, length, Result}
use Rattle.std.specs.Result.{is_err}
use Rattle.runs.specs.declared.TooManyRuns.{TooManyRuns}
use Rattle.recording.specs.Recording.{Accepted}
use Rattle.runs.specs.Set.{Holds}
use Rattle.grammar.specs.Syntax.{Text}
use Rattle.grammar.specs.Size.{most_nodes}
use Rattle.grammar.specs.inner.Table.{tree_at}
use Rattle.parser.specs.inner.Rows.{Laid}
use Rattle.meaning.specs.inner.Coded.{Coded, coded}
use Rattle.meaning.specs.inner.Truth.{val, refused8, refused9}

-- the text that a table of `count` nodes stands for: its last node is the root
abbrev pub text_of : List ℕ → ℕ → Text
text_of table count = tree_at table (count - 1)

-- a text that is laid in the first `count` rows, and an accepted recording with a record, which refusal 9 does not meet
pub record Asking (table : List ℕ) (count : ℕ) (rec : List ℕ) : Type 0 where
  pub laid : Laid table 0 count (text_of table count)
  pub rows : 4 * count ≤ length table
  pub few : count ≤ most_nodes
  pub accepted : Accepted rec
  pub record_there : 0 < length (coded rec)
  pub few_tops : refused9 (coded rec) (text_of table count) ≡ false

-- THE SET OF p AT THE FIRST RECORD: an error if and only if 8 refuses the text; else the words hold the set
pub record Evaluates (r : List Coded) (p : Text) (words : List ℕ) (over : Result (Unit {0}) TooManyRuns) : Type 0 where
  pub flag : is_err over ≡ refused8 r p
  pub holds : is_err over ≡ false → Holds (λ v. val r v p 0) words
