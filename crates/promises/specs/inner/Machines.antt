-- What the report calls and the live calls do, as functions of the bytes that they are handed: the definitions of the layers below, told by the page.
use Rattle.std.specs.Prelude.{ℕ, List, [], ◌∷◌, length}
use Rattle.std.specs.Float.{binary64}
use Rattle.std.specs.Float.Ieee.{to_bits}
use Rattle.refusal.specs.Outcome.{Outcome, result, refused}
use Rattle.degree.specs.inner.Reach.{mapped}
use Rattle.report.specs.Report.{MeanDegree, no_mean, mean_degree, named, ReportCall, start_report, add_batch}
use Rattle.report.specs.Report as report
use Rattle.report.specs.inner.Running.{answer_in}
use Rattle.report_state.specs.State.{naming_after, addition_in, add_after}
use Rattle.report_state.specs.Call.{mean_told, named_index}
use Rattle.live.specs.History.{told}
use Rattle.live.specs.Call.{add_of, save_of, restore_of, start_of, start_after, state_after, held_of}
use Rattle.live_entry.specs.Call.{held_entry_of}
use Rattle.promises.specs.Page.{Place, put, unchanged, Effect, effect, writing}
use Rattle.promises.specs.InTurn.{Transition, Machine}
use Rattle.promises.specs.LiveCalls.{LiveCall, start, add, save, restore, read, entry}

-- ---- a report

abbrev pub mean_place : MeanDegree → Place
mean_place no_mean = unchanged
mean_place (mean_degree x) = put (to_bits binary64 x)

abbrev pub shown : report.Answer → Effect
shown report.taken = effect 0 []
shown (report.given f) = effect (mean_told f.mean) (put f.met ∷ put f.empty ∷ put f.distances ∷ mean_place f.mean ∷ [])

abbrev pub report_machine : Machine ReportCall
report_machine b (start_report n) room = record { outcome = mapped shown (named (length b) n); state = naming_after n (named_index n (length b)) b }
report_machine b (add_batch g) room = record { outcome = mapped shown (answer_in (addition_in b g)); state = add_after (addition_in b g) b }

-- ---- a live run

-- a number is told, and nothing is written
abbrev pub silent : Outcome ℕ → Outcome Effect
silent (result n) = result (effect n [])
silent (refused n p) = refused n p

-- a step, and a read-out
abbrev pub stepping : List ℕ → Outcome (List ℕ) → Transition
stepping b o = record { outcome = silent (told o); state = state_after o b }

abbrev pub reading_out : List ℕ → Outcome (List ℕ) → Transition
reading_out b o = record { outcome = mapped writing o; state = b }

abbrev pub live_machine : Machine LiveCall
live_machine b (start marks) room = record { outcome = silent (told (start_of marks b)); state = start_after marks b }
live_machine b (add x) room = stepping b (add_of b x)
live_machine b (save name) room = stepping b (save_of b name)
live_machine b (restore name) room = stepping b (restore_of b name)
live_machine b read room = reading_out b (held_of b room)
live_machine b entry room = reading_out b (held_entry_of b room)
