-- The answered set of a text that was read: what stands between the evaluation and the calls.
use Rattle.std.specs.Prelude.{ℕ, ◌*◌, ◌≤◌, ◌<◌, ◌≡◌, List, length, Result, Ok, Err, ⊤}
use Rattle.refusal.specs.Outcome.{refused, judged, NoneMeets}
use Rattle.refusal.specs.Numbers.{number_of, place_of}
use Rattle.refusal.specs.declared.Refusal.{Refusal}
use Rattle.recording.specs.Recording.{Accepted}
use Rattle.runs.specs.Set.{Holds}
use Rattle.grammar.specs.Syntax.{Text}
use Rattle.grammar.specs.Size.{most_nodes}
use Rattle.grammar.specs.inner.Table.{Falling}
use Rattle.parser.specs.inner.Rows.{Laid}
use Rattle.meaning.specs.inner.Coded.{coded}
use Rattle.meaning.specs.inner.Truth.{val}
use Rattle.leaves.specs.declared.TooMany.{TooMany}
use Rattle.leaves.specs.inner.Differing.{refusal_of}
use Rattle.evaluation.specs.inner.Evaluation.{text_of}
use Rattle.question.specs.Question.{set_lines}

-- a table of nodes that stands for a text, and an accepted recording with a record
pub record Answerable (table : List ℕ) (count : ℕ) (bytes : List ℕ) : Type 0 where
  pub accepted : Accepted bytes
  pub record_there : 0 < length (coded bytes)
  pub falling : Falling table count
  pub holds : Laid table 0 count (text_of table count)
  pub rows : 4 * count ≤ length table
  pub some : 0 < count
  pub few : count ≤ most_nodes

-- what differences between tops come to
abbrev pub verdict_of : Result ⊤ TooMany → Result ⊤ Refusal
verdict_of (Ok x) = Ok x
verdict_of (Err e) = Err (refusal_of e)

-- refused by 9 or 8 exactly as the table has it; else the set of the numbers with which the text is true at the first record
pub record Gives (bytes : List ℕ) (p : Text) (words : List ℕ) (verdict : Result ⊤ Refusal) : Type 0 where
  pub refusal : (x : Refusal) → verdict ≡ Err x → judged {R = Unit {0}} (set_lines bytes p) tt ≡ refused (number_of x) (place_of x)
  pub none : verdict ≡ Ok tt → NoneMeets (set_lines bytes p)
  pub set : verdict ≡ Ok tt → Holds (λ n. val (coded bytes) n p 0) words
