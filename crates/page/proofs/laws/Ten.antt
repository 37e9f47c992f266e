-- Refusal 10 is never printed: a set that 8 does not refuse fits the output.
use Rattle.std.specs.Prelude.{ℕ, ◌<◌, ◌≡◌, Bool, true, false, cond, List, [], ◌∷◌, ◌++◌, eqb, ltb, length}
use Rattle.std.proofs.Common.{sym, ◌∙◌, true≢false, ⊎_elim, arith, ltb-true, lt-ltb}
use Rattle.std.proofs.lemmas.List.{length-map}
use Rattle.std.proofs.lemmas.Bool.{eqb-false}
use Rattle.number.proofs.laws.Order.{true_or_false}
use Rattle.refusal.specs.Outcome.{refused, Line, line, judged}
use Rattle.recording.specs.Recording.{records, reading, readings, recording_lines, no_record}
use Rattle.recording.specs.Output.{output_line}
use Rattle.recording.proofs.laws.Outcome.{judged_skip, no_result, same_number}
use Rattle.runs.specs.Runs.{most_runs, run_count, set_bytes}
use Rattle.runs.proofs.laws.Runs.{set_bytes-length}
use Rattle.grammar.specs.Syntax.{Text}
use Rattle.text.specs.Told.{text_lines}
use Rattle.meaning.specs.inner.Coded.{Coded, code, coded}
use Rattle.meaning.specs.inner.Truth.{large_at, refused8, refused9}
use Rattle.question.specs.Question.{read, answer, asking_lines, set_lines, question_of}
use Rattle.question.proofs.laws.Size.{few_first}
use Rattle.page.proofs.laws.Length.{line_stands}
use Rattle.page.specs.Printed.{set_room}

-- ---- a refusal has the number of one of the lines

abbrev Others : ℕ → List Line → Type 0
Others n [] = Unit {0}
Others n (l ∷ ls) = (l.number ≡ n → ⊥) × Others n ls

no_other : {R : Type 0} (n p : ℕ) (ls : List Line) (r : R) → Others n ls → judged ls r ≡ refused n p → ⊥
unfolding judged
no_other n p [] r o e = no_result n p r (sym e)
no_other {R} n p (l ∷ ls) r o e = by l.meets e (no_other n p ls r o.1)
  where
    by : (b : Bool) → cond b (refused l.number l.place) (judged ls r) ≡ refused n p → (judged ls r ≡ refused n p → ⊥) → ⊥
    by true e rest = o.0 (same_number l.number l.place n p e)
    by false e rest = rest e

-- ---- a set over the limit at the first record is refused by 8

large_refused : (r : List Coded) (p : Text) → 0 < length r → large_at r p 0 ≡ true → refused8 r p ≡ true
large_refused r p h e = ⊎_elim (λ t. t) (λ f. absurd (true≢false (sym e ∙ few_first r p h f))) (true_or_false (refused8 r p))

-- ---- the law

module _ (rec text : List ℕ) where
  abbrev lines : List Line
  lines = asking_lines rec text ++ set_lines rec (read text)

  abbrev bytes : List ℕ
  bytes = set_bytes (answer rec text)

  coded-count : length (coded rec) ≡ length (records rec)
  coded-count = length-map (readings rec) code ∙ length-map (records rec) reading

  earlier : (p : ℕ) → judged (asking_lines rec text ++ (set_lines rec (read text) ++ (output_line set_room bytes ∷ []))) bytes ≡ refused 10 p → ⊥
  earlier p e =
      ⊎_elim
      (λ long.
      let large : large_at (coded rec) (read text) 0 ≡ true =
      lt-ltb most_runs (run_count (answer rec text)) (omega (arith, ltb-true set_room (length bytes) long, set_bytes-length (answer rec text))) in
      ⊎_elim
      (λ none.
      no_other 10 p (recording_lines rec ++ (no_record rec ∷ [])) bytes
      (λ z. omega arith, (λ z. omega arith, (λ z. omega arith, (λ z. omega arith, tt))))
      (line_stands (recording_lines rec) 4 (eqb (length (records rec)) 0) (eqb (length (records rec)) 0) [] (text_lines text ++ (set_lines rec (read text) ++ (output_line set_room bytes ∷ []))) bytes bytes none none ∙ e))
      (λ some.
      let eight = large_refused (coded rec) (read text) (omega (arith, coded-count, eqb-false (length (records rec)) 0 some)) large in
      no_other 10 p (asking_lines rec text ++ (line 9 (refused9 (coded rec) (read text)) ∷ line 8 (refused8 (coded rec) (read text)) ∷ [])) bytes ten_not
      (line_stands (asking_lines rec text ++ (line 9 (refused9 (coded rec) (read text)) ∷ [])) 8 (refused8 (coded rec) (read text)) (refused8 (coded rec) (read text)) [] (output_line set_room bytes ∷ []) bytes bytes eight eight ∙ e))
      (true_or_false (eqb (length (records rec)) 0)))
      (λ short. no_other 10 p (lines ++ []) bytes ten_not (sym (judged_skip lines (output_line set_room bytes) [] bytes short) ∙ e))
      (true_or_false (ltb set_room (length bytes)))
    where
      ten_not : Others 10 (asking_lines rec text ++ set_lines rec (read text))
      ten_not = (
        λ z. omega arith,
        (λ z. omega arith, (λ z. omega arith, (λ z. omega arith, (λ z. omega arith, (λ z. omega arith, (λ z. omega arith, (λ z. omega arith, (λ z. omega arith, tt)))))))),
      )

  -- REFUSAL 10 IS NEVER PRINTED
  pub never_ten : (p : ℕ) → question_of rec text set_room ≡ refused 10 p → ⊥
  unfolding question_of
  never_ten p e = earlier p e
