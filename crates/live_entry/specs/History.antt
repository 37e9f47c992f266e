-- Document 02, Paper 12, of the history of a run (live/specs/History): "what a fresh reckoning of the run would give; an empty run has none".
use Rattle.std.specs.Prelude.{ℕ, List, [], ◌∷◌, map, eqb, length}
use Rattle.refusal.specs.Outcome.{Outcome, line, judged}
use Rattle.recording.specs.Recording.{reading}
use Rattle.recording.specs.Output.{output_line}
use Rattle.marks.specs.Marks.{marks_line}
use Rattle.entry.specs.inner.Reckoned.{reckoned}
use Rattle.live.specs.History.{History}

-- the entry of all readings of the run
abbrev pub fresh_entry : History → List ℕ
fresh_entry h = reckoned (map reading h.run)

-- THE ENTRY OF THE RUN, which is no step: 11; 4, the run is empty; 10; else a fresh reckoning
unfoldable pub run_entry : History → ℕ → Outcome (List ℕ)
run_entry h room = judged (marks_line h.marks ∷ line 4 (eqb (length h.run) 0) ∷ output_line room (fresh_entry h) ∷ []) (fresh_entry h)
