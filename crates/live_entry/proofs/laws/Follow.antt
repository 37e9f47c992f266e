-- THE ENTRY FOLLOWS THE HISTORY: that of the readings held is what a fresh reckoning of the history's run gives.
use Rattle.std.specs.Prelude.{ℕ, ◌≡◌, true, eqb, length}
use Rattle.std.proofs.Math.Path.{sym, ap}
use Rattle.std.proofs.Common.{◌∙◌, ⊎_elim}
use mathlib.Core.List.{List, [], ◌∷◌, map}
use Rattle.refusal.specs.Outcome.{Outcome, refused, line, judged}
use Rattle.recording.specs.Recording.{Raw, concat, reading, readings, recording_lines}
use Rattle.recording.specs.Output.{output_line}
use Rattle.recording.proofs.laws.Record.{records-concat}
use Rattle.recording.proofs.laws.Outcome.{judged-first, judged_skip, judged_pass}
use Rattle.marks.specs.Marks.{marks_of, marks_line}
use Rattle.thin.proofs.laws.Selection.{kept_selection}
use Rattle.entry.specs.inner.Reckoned.{reckoned}
use Rattle.entry.specs.Call.{entry_lines, entry_of}
use Rattle.entry.proofs.laws.Selected.{selection_judged}
use Rattle.live.specs.History.{History, kept_run}
use Rattle.refinement.proofs.laws.Represents.{Represents, Follows}
use Rattle.refinement.proofs.laws.Run.{taken_accepted}
use Rattle.refinement.proofs.laws.State.{a_state, the_held}
use Rattle.live_entry.specs.Call.{held_entry_of}
use Rattle.live_entry.specs.History.{run_entry}
use Rattle.live_entry.proofs.laws.Call.{none_entry, state_entry}

-- the lines of the entry call, of the readings of a run
judged_of : ℕ → List Raw → Outcome (List ℕ)
judged_of room run = judged (line 4 (eqb (length run) 0) ∷ output_line room (reckoned (map reading run)) ∷ []) (reckoned (map reading run))

-- marks that 11 refused
refused_entry : (h : History) (room : ℕ) → (marks_line h.marks).meets ≡ true → run_entry h room ≡ refused 11 0
unfolding run_entry
refused_entry h room bad = judged-first (marks_line h.marks) _ _ bad

module _ (h : History) (s : List ℕ) (r : Represents h s) (room : ℕ) where
  full : List ℕ
  full = concat h.run

  -- the bytes of the run, judged as its readings are
  as_run : judged (entry_lines full room) (reckoned (readings full)) ≡ run_entry h room
  unfolding full run_entry judged_of
  as_run =
      ap (judged_of room) (records-concat h.run r.taken.sixteens)
      ∙ sym (judged_skip [] (marks_line h.marks) _ _ r.fine.0)

  -- THE RUN'S KEPT READINGS have the entry of the run
  represented : held_entry_of s room ≡ run_entry h room
  unfolding full
  represented =
      state_entry s (a_state h s r) room
      ∙ ap (λ (b : List ℕ). judged (entry_lines b room) (reckoned (readings b))) (the_held h s r)
      ∙ selection_judged (marks_of h.marks) (concat h.run) (kept_run h) (kept_selection (marks_of h.marks) (concat h.run)) room
      ∙ as_run

  -- A FRESH RECKONING: the entry call, on the bytes of the run
  pub fresh-entry : run_entry h room ≡ entry_of (concat h.run) room
  unfolding full entry_of
  fresh-entry =
      sym as_run
      ∙ sym (judged_pass (recording_lines full) (entry_lines full room) (reckoned (readings full)) (taken_accepted (marks_of h.marks) h.run r.taken))

pub entry-followed : (h : History) (s : List ℕ) → Follows h s → (room : ℕ) → held_entry_of s room ≡ run_entry h room
entry-followed h s f room = ⊎_elim (λ r. represented h s r room) (λ b. none_entry s b.1 room ∙ sym (refused_entry h room b.0)) f
