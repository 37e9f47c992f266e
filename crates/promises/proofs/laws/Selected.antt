-- Selections that include the kept readings answer as the recording.
use Rattle.std.specs.Prelude.{ℕ, List}
use Rattle.recording.specs.Recording.{Accepted}
use Rattle.marks.specs.Marks.{marks_of}
use Rattle.thin.specs.Selection.{Selection}
use Rattle.thin.proofs.laws.Selection.{selection_accepted}
use Rattle.promises.specs.inner.SameAnswers.{SameAnswers}
use Rattle.promises.specs.inner.StandIn.{StandIn}
use Rattle.promises.proofs.laws.StandIn.{stand_answers, selection_stands}

module _ (marks full held : List ℕ) (a : Accepted full) (s : Selection (marks_of marks) full held) where
  -- a selection of an accepted recording is a stand-in
  pub selected_stands : StandIn (marks_of marks) full held
  selected_stands = selection_stands (marks_of marks) full held (selection_accepted (marks_of marks) full held s a) s

  -- EVERY SELECTION that includes the kept readings answers as the recording
  pub selected_as_full : SameAnswers marks held full
  selected_as_full = stand_answers marks full held selected_stands a
