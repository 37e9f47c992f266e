-- The refusals 1 to 7 in order: of the recording, of no record, of the text.
use Rattle.std.specs.Prelude.{ℕ, ◌/◌, ◌≡◌, List, [], ◌∷◌, length, Result, Ok, Err}
use Rattle.std.proofs.Common.{arith, sym, ap, ◌∙◌, eq-eqb, ne_eqb, subst}
use Rattle.refusal.specs.Outcome.{refused, judged, NoneMeets, reported}
use Rattle.refusal.specs.Numbers.{number_of, place_of}
use Rattle.refusal.specs.declared.Refusal.{Refusal}
use Rattle.recording.specs.Recording.{records, recording_lines, no_record}
use Rattle.recording.proofs.laws.Record.{length-records}
use Rattle.recording.proofs.laws.Acceptance.{check_accepts}
use Rattle.recording.proofs.laws.Outcome.{judged_pass, judged_skip, judged-first, result_none, refusal_stands}
use Rattle.grammar.specs.inner.Parse.{parsed}
use Rattle.text.specs.Told.{text_lines, nodes_of, Told}
use Rattle.question.specs.Question.{asking_lines}
use Rattle.question.specs.inner.Prepare.{Prepares}

pub refused_nodes : {C : Type 0} (x : Refusal) (n : ℕ) → ◌≡◌ {A = Result ℕ Refusal} (Err x) (Ok n) → C
refused_nodes x n e = let z : ◌≡◌ {A = ℕ} 0 1 = cc in absurd (bad z)
  where
    bad : ◌≡◌ {A = ℕ} 0 1 → ⊥
    bad z = omega arith

module _ (bytes text table : List ℕ) where
  refusing : (x : Refusal) → judged (asking_lines bytes text) (nodes_of (parsed text)) ≡ refused (number_of x) (place_of x) → Prepares bytes text table (Err x)
  refusing x e = record { outcome = sym e; tabled = λ n q. refused_nodes x n q }

  -- the recording is refused
  pub prepare_refused : (c : Result ℕ Refusal) (x : Refusal) → reported c ≡ judged (recording_lines bytes) (length bytes / 16) → c ≡ Err x → Prepares bytes text table (Err x)
  prepare_refused c x e q =
      refusing x (refusal_stands (recording_lines bytes) (no_record bytes ∷ text_lines text) (length bytes / 16) (nodes_of (parsed text)) (number_of x) (place_of x) (sym e ∙ ap reported q))

  module _ (c : Result ℕ Refusal) (n : ℕ) (e : reported c ≡ judged (recording_lines bytes) (length bytes / 16)) (q : c ≡ Ok n) where
    count_is : length (records bytes) ≡ n
    count_is = length-records bytes ∙ sym (check_accepts bytes c n e q).1

    pass : judged (asking_lines bytes text) (nodes_of (parsed text)) ≡ judged (no_record bytes ∷ text_lines text) (nodes_of (parsed text))
    pass = judged_pass (recording_lines bytes) (no_record bytes ∷ text_lines text) (nodes_of (parsed text)) (check_accepts bytes c n e q).0

    pub prepare_empty : n ≡ 0 → Prepares bytes text table (Err Rattle.refusal.specs.declared.Refusal.TheVariants.NoRecord)
    prepare_empty z =
        refusing Rattle.refusal.specs.declared.Refusal.TheVariants.NoRecord
        (pass ∙ judged-first (no_record bytes) (text_lines text) (nodes_of (parsed text)) (eq-eqb (length (records bytes)) 0 (count_is ∙ z)))

    module _ (some : n ≡ 0 → ⊥) (a : Result ℕ Refusal) (told : Told text table a) where
      past : judged (asking_lines bytes text) (nodes_of (parsed text)) ≡ judged (text_lines text) (nodes_of (parsed text))
      past = pass ∙ judged_skip [] (no_record bytes) (text_lines text) (nodes_of (parsed text)) (ne_eqb (length (records bytes)) 0 (λ z. some (sym count_is ∙ z)))

      -- what the reader answers is the answer
      pub prepare_asked : Prepares bytes text table a
      prepare_asked = record { outcome = told.outcome ∙ sym past; tabled = told.tabled }

      pub prepare_unread : (x : Refusal) → a ≡ Err x → Prepares bytes text table (Err x)
      prepare_unread x h = subst (Prepares bytes text table) h prepare_asked

      pub prepare_read : (m : ℕ) → a ≡ Ok m → Prepares bytes text table (Ok m)
      prepare_read m h = subst (Prepares bytes text table) h prepare_asked

-- a text that was read: none of 1 to 7 meets, and it has n nodes
pub prepared_passes : {bytes text table : List ℕ} {q : Result ℕ Refusal} (h : Prepares bytes text table q) (n : ℕ) → q ≡ Ok n → NoneMeets (asking_lines bytes text) × (nodes_of (parsed text) ≡ n)
prepared_passes {bytes} {text} h n e = result_none (asking_lines bytes text) (nodes_of (parsed text)) n (sym h.outcome ∙ ap reported e)
