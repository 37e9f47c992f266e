-- Each call that carries bytes meets the page's contract where it meets that of the layer below.
use Rattle.std.specs.Prelude.{ℕ, ◌≡◌, refl, List, [], ◌∷◌, length}
use Rattle.std.proofs.Common.{arith, ap, ◌∙◌}
use Rattle.refusal.specs.Outcome.{Outcome, result, refused, line}
use Rattle.recording.specs.Recording.{readings, no_record}
use Rattle.entry.specs.inner.Reckoned.{reckoned}
use Rattle.report.specs.Report.{Naming, start_report, add_batch}
use Rattle.report.specs.inner.Running.{Addition, none, stopped, further, last, figures_in, answer_in}
use Rattle.report_state.specs.State.{addition_in}
use Rattle.report_state.specs.Call.{answer_told, Starts, Adds}
use Rattle.report_state.proofs.laws.Add.{Fine, in_fine}
use Rattle.reply.specs.Reply.{packed, InHalf, number_in, low_in}
use Rattle.reply.proofs.laws.Unpacked.{number_refused, low_refused}
use Rattle.boundary.specs.Boundary.{Writes}
use Rattle.live_state.specs.State.{held_in, no_state}
use Rattle.live.specs.History.{told}
use Rattle.live.specs.Call.{add_of, save_of, restore_of, start_of, held_of, StepTold, StartTold}
use Rattle.live.proofs.laws.InHalf.{add_in_half, save_in_half, restore_in_half, start_in_half, held_in_half}
use Rattle.live_entry.specs.Call.{held_entry_of}
use Rattle.live_entry.proofs.laws.InHalf.{run-entry_in_half}
use Rattle.promises.specs.Page.{behind, Returns}
use Rattle.promises.specs.InTurn.{made, Carries}
use Rattle.promises.specs.Reports.{ReportLent}
use Rattle.promises.specs.LiveCalls.{start, add, save, restore, read, entry}
use Rattle.promises.specs.LiveRuns.{LiveLent}
use Rattle.promises.specs.inner.Machines.{silent, report_machine, live_machine}
use Rattle.promises.proofs.laws.Computed.{Roomy, roomy, returns_writes}
use Rattle.promises.proofs.laws.Reports.{mean_half, told_name, told_add}

-- ---- the report calls

pub report_start : (n : Naming) (b : List ℕ) (r : ℕ) (b' : List ℕ) → Starts n b r b' → Carries report_machine ReportLent b (made (start_report n) [] r []) b'
report_start n b r b' w = record { lent = refl; returns = told_name (length b) n r w.returned; hands_on = w.state }

answer-half : (b g : List ℕ) → InHalf (answer_told (answer_in (addition_in b g)))
answer-half b g = by (addition_in b g) (in_fine b g)
  where
    by : (a : Addition) → Fine a b → InHalf (answer_told (answer_in a))
    by none f = omega arith
    by (stopped n p) f = f.tellable
    by (further r) f = omega arith
    by (last r) f = mean_half (figures_in r).mean

pub report_add : (b g : List ℕ) (m e d x r : ℕ) (b' : List ℕ) (m' e' d' x' : ℕ) → Adds b g m e d x r b' m' e' d' x'
    → Carries report_machine ReportLent b (made (add_batch g) (m ∷ e ∷ d ∷ x ∷ []) r (m' ∷ e' ∷ d' ∷ x' ∷ [])) b'
report_add b g m e d x r b' m' e' d' x' w =
    record { lent = refl; returns = told_add m e d x r m' e' d' x' (answer_in (addition_in b g)) (answer-half b g) w.told; hands_on = w.state }

-- ---- the live calls

told-silent : {R : Type 0} (o : Outcome R) (r : ℕ) → r ≡ packed (told o) → InHalf (told o) → Returns (silent (told o)) [] r []
told-silent (result x) r e h = (ap number_in e, ap low_in e, behind)
told-silent (refused n p) r e h = (ap number_in e ∙ number_refused n p h, ap low_in e ∙ low_refused n p h, refl)

pub live_start : (marks b : List ℕ) (r : ℕ) (b' : List ℕ) → StartTold marks b r b' → Carries live_machine LiveLent b (made (start marks) [] r []) b'
live_start marks b r b' w = record { lent = refl; returns = told-silent (start_of marks b) r w.returned (start_in_half marks b); hands_on = w.state }

pub live_add : (b x : List ℕ) (r : ℕ) (b' : List ℕ) → StepTold (add_of b x) b r b' → Carries live_machine LiveLent b (made (add x) [] r []) b'
live_add b x r b' w = record { lent = refl; returns = told-silent (add_of b x) r w.returned (add_in_half b x); hands_on = w.state }

pub live_save : (b : List ℕ) (name r : ℕ) (b' : List ℕ) → StepTold (save_of b name) b r b' → Carries live_machine LiveLent b (made (save name) [] r []) b'
live_save b name r b' w = record { lent = refl; returns = told-silent (save_of b name) r w.returned (save_in_half b name); hands_on = w.state }

pub live_restore : (b : List ℕ) (name r : ℕ) (b' : List ℕ) → StepTold (restore_of b name) b r b' → Carries live_machine LiveLent b (made (restore name) [] r []) b'
live_restore b name r b' w = record { lent = refl; returns = told-silent (restore_of b name) r w.returned (restore_in_half b name); hands_on = w.state }

held_roomy : (b : List ℕ) (room : ℕ) → Roomy (held_of b room) room
unfolding held_of
held_roomy b room = roomy [] (line 11 (no_state b) ∷ []) room (held_in b 0)

pub live_kept : (b out : List ℕ) (r : ℕ) (after : List ℕ) → Writes (held_of b (length out)) out r after → Carries live_machine LiveLent b (made read out r after) b
live_kept b out r after w =
    record { lent = tt; returns = returns_writes (held_of b (length out)) out r after (held_in_half b (length out)) (held_roomy b (length out)) w; hands_on = refl }

entry_roomy : (b : List ℕ) (room : ℕ) → Roomy (held_entry_of b room) room
unfolding held_entry_of
entry_roomy b room = roomy (line 11 (no_state b) ∷ []) (no_record (held_in b 0) ∷ []) room (reckoned (readings (held_in b 0)))

pub live_entry : (b out : List ℕ) (r : ℕ) (after : List ℕ) → Writes (held_entry_of b (length out)) out r after → Carries live_machine LiveLent b (made entry out r after) b
live_entry b out r after w =
    record { lent = tt; returns = returns_writes (held_entry_of b (length out)) out r after (run-entry_in_half b (length out)) (entry_roomy b (length out)) w; hands_on = refl }
