-- The question call from its parts: prepared, answered, written.
use Rattle.std.specs.Prelude.{ℕ, ◌*◌, ◌≤◌, ◌<◌, ◌≡◌, List, [], ◌∷◌, ◌++◌, Bool, length, drop, ltb, Result, Ok, Err, ⊤}
use Rattle.std.proofs.Common.{arith, ◌∙◌, ltb-false, lt-ltb, le-ltb, eq-eqb}
use Rattle.std.proofs.Math.Decide.{ℕ_discrete}
use Rattle.std.proofs.Math.Path.{sym, ap, subst}
use Rattle.std.proofs.lemmas.Bool.{false≢true}
use Rattle.number.proofs.laws.Boolean.{none_left}
use Rattle.refusal.specs.Outcome.{Outcome, judged, NoneMeets, reported}
use Rattle.refusal.specs.Numbers.{number_of, place_of}
use Rattle.refusal.specs.declared.Refusal.{Refusal}
use Rattle.refusal.specs.declared.Refusal.TheVariants.{ShortOutput}
use Rattle.recording.specs.Recording.{records, recording_lines, no_record}
use Rattle.recording.proofs.laws.Record.{length-records}
use Rattle.recording.specs.Output.{output_line, Answers}
use Rattle.recording.proofs.laws.Outcome.{judged_pass, judged-first, judged_none, refusal_stands, none_append, answers_refused, answers_written}
use Rattle.runs.specs.Runs.{run_count, set_bytes}
use Rattle.runs.proofs.laws.Runs.{set_bytes_ext, set_bytes-length}
use Rattle.runs.specs.Set.{member}
use Rattle.grammar.specs.Syntax.{Text}
use Rattle.grammar.specs.Size.{too_deep, most_nodes}
use Rattle.parser.proofs.laws.Rows.{laid_above}
use Rattle.grammar.specs.inner.Parse.{none, parsed}
use Rattle.text.specs.Told.{text_lines, nodes_of, Tabled}
use Rattle.meaning.specs.inner.Coded.{coded}
use Rattle.meaning.specs.inner.Truth.{val}
use Rattle.evaluation.specs.inner.Evaluation.{text_of}
use Rattle.leaves.proofs.laws.Coding.{length-coded}
use Rattle.question.specs.Question.{the_text, read, answer, asking_lines, set_lines, answer_of, written_of, question_of}
use Rattle.question.specs.inner.Prepare.{Prepares}
use Rattle.question.proofs.laws.Prepare.{prepared_passes}
use Rattle.question.specs.inner.Answered.{Answerable, Gives}

-- ---- writing a set

module _ (f : ℕ → Bool) (old : List ℕ) (n : ℕ) (size : n ≡ 8 * run_count f) where
  bytes_size : length (set_bytes f) ≡ n
  bytes_size = set_bytes-length f ∙ sym size

  pub write_short : length old < n → Answers (written_of f (length old)) old (Err ShortOutput) old
  write_short h =
      answers_refused (written_of f (length old)) old ShortOutput
      (judged-first (output_line (length old) (set_bytes f)) [] (set_bytes f) (lt-ltb (length old) (length (set_bytes f)) (omega (arith, bytes_size))))

  pub write_whole : n ≤ length old → (new : List ℕ) → new ≡ set_bytes f ++ drop (length (set_bytes f)) old → Answers (written_of f (length old)) old (Ok n) new
  write_whole h new e =
      answers_written (written_of f (length old)) old (set_bytes f) new n
      (judged_none (output_line (length old) (set_bytes f) ∷ []) (set_bytes f) (le-ltb (length old) (length (set_bytes f)) (omega (arith, bytes_size)), tt))
      (sym bytes_size) (e ∙ ap (λ (k : ℕ). set_bytes f ++ drop k old) bytes_size)

-- ---- the answered set, or 9 or 8

module _ (bytes : List ℕ) (p : Text) (words : List ℕ) (a : Result ⊤ Refusal) (g : Gives bytes p words a) (old : List ℕ) where
  pub answer_refused : (x : Refusal) → a ≡ Err x → Answers (answer_of bytes p (length old)) old (Err x) old
  answer_refused x e =
      answers_refused (answer_of bytes p (length old)) old x
      (refusal_stands (set_lines bytes p) (output_line (length old) (set_bytes (λ n. val (coded bytes) n p 0)) ∷ []) tt (set_bytes (λ n. val (coded bytes) n p 0)) (number_of x) (place_of x) (g.refusal x e))

  pub answer_fine : a ≡ (Ok tt) → (r : Result ℕ Refusal) (new : List ℕ) → Answers (written_of (member words) (length old)) old r new → Answers (answer_of bytes p (length old)) old r new
  answer_fine e r new w =
      let same : set_bytes (member words) ≡ set_bytes (λ n. val (coded bytes) n p 0) = set_bytes_ext (member words) (λ n. val (coded bytes) n p 0) (g.set e).members in
      let o : written_of (member words) (length old) ≡ answer_of bytes p (length old) =
      ap (λ (bs : List ℕ). judged (output_line (length old) bs ∷ []) bs) same
      ∙ sym (judged_pass (set_lines bytes p) (output_line (length old) (set_bytes (λ n. val (coded bytes) n p 0)) ∷ []) (set_bytes (λ n. val (coded bytes) n p 0)) (g.none e)) in
      subst (λ (k : Outcome (List ℕ)). Answers k old r new) o w

-- ---- the text that was read

module _ (bytes text table : List ℕ) where
  pub question_refused : (q : Result ℕ Refusal) (x : Refusal) → Prepares bytes text table q → q ≡ Err x → (old : List ℕ)
      → Answers (question_of bytes text (length old)) old (Err x) old
  unfolding question_of
  question_refused q x h e old =
      answers_refused (question_of bytes text (length old)) old x
      (refusal_stands (asking_lines bytes text) (set_lines bytes (read text) ++ (output_line (length old) (set_bytes (answer bytes text)) ∷ [])) (nodes_of (parsed text)) (set_bytes (answer bytes text)) (number_of x) (place_of x)
      (sym h.outcome ∙ ap reported e))

  module _ (q : Result ℕ Refusal) (n : ℕ) (h : Prepares bytes text table q) (e : q ≡ Ok n) where
    parts : NoneMeets (recording_lines bytes) × NoneMeets (no_record bytes ∷ text_lines text)
    parts = none_append (recording_lines bytes) (no_record bytes ∷ text_lines text) (prepared_passes h n e).0

    tabled : Tabled text table n
    tabled = h.tabled n e

    few_nodes : n ≤ most_nodes
    few_nodes =
        omega (arith, (prepared_passes h n e).1, ltb-false most_nodes (nodes_of (parsed text)) (none_left (ltb most_nodes (nodes_of (parsed text))) (too_deep text) parts.1.1.1.1.0))

    some_record : 0 < length (coded bytes)
    some_record = by (ℕ_discrete (length (records bytes)) 0)
      where
        by : Dec (length (records bytes) ≡ 0) → 0 < length (coded bytes)
        by (yes z) = absurd (false≢true (sym parts.1.0 ∙ eq-eqb (length (records bytes)) 0 z))
        by (no z) = omega (arith, length-coded bytes, length-records bytes)

    pub prepared_ready : 4 * most_nodes ≤ length table → Answerable table n bytes
    prepared_ready room =
        record {
          accepted = parts.0;
          record_there = some_record;
          falling = tabled.falling;
          holds = tabled.rows;
          rows = omega (arith, few_nodes);
          some = laid_above tabled.rows;
          few = few_nodes;
        }

    pub question_answered : (old : List ℕ) (r : Result ℕ Refusal) (new : List ℕ) → Answers (answer_of bytes (text_of table n) (length old)) old r new
        → Answers (question_of bytes text (length old)) old r new
    unfolding question_of
    question_answered old r new w =
        let is : text_of table n ≡ read text = ap the_text (sym tabled.reads) in
        let o : answer_of bytes (text_of table n) (length old) ≡ question_of bytes text (length old) =
        ap (λ (p : Text). answer_of bytes p (length old)) is
        ∙ sym (judged_pass (asking_lines bytes text) (set_lines bytes (read text) ++ (output_line (length old) (set_bytes (answer bytes text)) ∷ [])) (set_bytes (answer bytes text)) (prepared_passes h n e).0) in
        subst (λ (k : Outcome (List ℕ)). Answers k old r new) o w
