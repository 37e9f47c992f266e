-- The lines of document 01's table that the question call computes, by their meaning.
use Rattle.std.specs.Prelude.{ℕ, ◌<◌, ◌⊎◌, ◌↔◌, List}
use Rattle.std.proofs.Math.Bool.{So}
use Rattle.recording.specs.Recording.{readings}
use Rattle.grammar.specs.Syntax.{Text}
use Rattle.grammar.specs.Grammar.{ReadsWhole}
use Rattle.grammar.specs.Size.{nodes, most_nodes, too_deep}
use Rattle.grammar.specs.inner.Parse.{parsed}
use Rattle.text.specs.Told.{no_reading, too_large}
use Rattle.meaning.specs.Overfull.{Overfull, TooManyTops}
use Rattle.meaning.specs.inner.Coded.{coded}
use Rattle.meaning.specs.inner.Truth.{refused8, refused9}
use Rattle.question.specs.Question.{read}

-- THE LINES 6 TO 9 of the table, which the call judges by computing: each meets exactly where its condition holds of the text's reading
pub record LinesMean (bytes text : List ℕ) : Type 0 where
  pub six : So (no_reading (parsed text)) ↔ ((t : Text) → ReadsWhole text t → ⊥)
  pub seven : (t : Text) → ReadsWhole text t → So (too_large text) ↔ ((most_nodes < nodes t) ⊎ So (too_deep text))
  pub nine : (t : Text) → ReadsWhole text t → So (refused9 (coded bytes) (read text)) ↔ TooManyTops (readings bytes) t
  pub eight : (t : Text) → ReadsWhole text t → So (refused8 (coded bytes) (read text)) ↔ Overfull (readings bytes) t
