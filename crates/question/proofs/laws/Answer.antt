-- DEMAND 2, of the question call: a whole number of the axis lies in some run of the written bytes if and only if the text's one reading holds at
-- the first record with that number put in.
use Rattle.std.specs.Prelude.{ℕ, ◌<◌, ◌≡◌, List, [], ◌∷◌, ◌++◌, ◌↔◌}
use Rattle.std.proofs.Common.{arith, subst}
use Rattle.std.proofs.Math.Path.{sym}
use Rattle.number.specs.Axis.{axis, whole}
use Rattle.refusal.specs.Outcome.{result}
use Rattle.recording.specs.Recording.{Accepted, readings, recording_lines, no_record}
use Rattle.recording.specs.Output.{output_line}
use Rattle.recording.proofs.laws.Outcome.{result_none, none_append}
use Rattle.runs.specs.Runs.{set_bytes}
use Rattle.runs.specs.Written.{in_bytes}
use Rattle.runs.proofs.laws.Written.{written-member, member-written}
use Rattle.text.specs.Told.{text_lines}
use Rattle.meaning.specs.Meaning.{Holds}
use Rattle.meaning.proofs.laws.Recorded.{accepted_recorded}
use Rattle.meaning.proofs.laws.Truth.{val_holds}
use Rattle.question.specs.Question.{read, answer, asking_lines, set_lines, question_of}

module _ (bytes text : List ℕ) (room : ℕ) (written : List ℕ) (e : question_of bytes text room ≡ result written) where
  -- no refusal meets, and what is written are the bytes of the answered set
  written-set : written ≡ set_bytes (answer bytes text)
  unfolding question_of
  written-set = sym (result_none (asking_lines bytes text ++ (set_lines bytes (read text) ++ (output_line room (set_bytes (answer bytes text)) ∷ []))) (set_bytes (answer bytes text)) written e).1

  pub answered_accepted : Accepted bytes
  unfolding question_of
  answered_accepted =
      (none_append (recording_lines bytes) (no_record bytes ∷ text_lines text)
      (none_append (asking_lines bytes text) (set_lines bytes (read text) ++ (output_line room (set_bytes (answer bytes text)) ∷ []))
      (result_none (asking_lines bytes text ++ (set_lines bytes (read text) ++ (output_line room (set_bytes (answer bytes text)) ∷ []))) (set_bytes (answer bytes text)) written e).0).0).0

  pub answered_holds : (n : ℕ) → n < axis → in_bytes written (whole n) ↔ Holds (readings bytes) (whole n) (read text) 0
  answered_holds n h =
      let holds = val_holds (readings bytes) (accepted_recorded bytes answered_accepted).in-range n (read text) 0 (omega arith) in (
        λ w. holds.0 (member-written (answer bytes text) n h (subst (λ (b : List ℕ). in_bytes b (whole n)) written-set w)),
        λ q. subst (λ (b : List ℕ). in_bytes b (whole n)) (sym written-set) (written-member (answer bytes text) n h (holds.1 q)),
      )
