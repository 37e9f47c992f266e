-- An accepted recording, by the page and by its computed lines.
use Rattle.std.specs.Prelude.{ℕ, ◌-◌, List}
use Rattle.std.proofs.Common.{subst}
use Rattle.refusal.specs.Outcome.{Outcome}
use Rattle.recording.specs.Recording.{recording_lines, Accepted}
use Rattle.recording.proofs.laws.Outcome.{judged_none}
use Rattle.promises.specs.Conditions.{recording_table}
use Rattle.promises.proofs.laws.Conditions.{AsTable, done, judged-told, agree_recording, none_meets}
use Rattle.promises.specs.KeptAsFull.{AcceptedRecording}

-- an accepted recording, by its computed lines
pub accepted-lines : (g : List ℕ) → AcceptedRecording g → Accepted g
accepted-lines g n = none_meets (recording_lines g) (recording_table g) (agree_recording g (λ a. done)) n

pub accepted_table : (g : List ℕ) → Accepted g → AcceptedRecording g
accepted_table g a = subst (λ (o : Outcome (Unit {0})). AsTable (recording_table g) o) (judged_none (recording_lines g) tt a) (judged-told (agree_recording g (λ a. done)) tt)
