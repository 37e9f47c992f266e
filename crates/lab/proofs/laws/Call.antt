-- The laboratory's calls from their parts.
use Rattle.std.specs.Prelude.{ℕ, ◌≡◌, Bool, true, false, List, [], ◌∷◌, ◌++◌, ℤ, length, Result, Ok, Err}
use Rattle.std.proofs.Math.Path.{sym, ap, subst}
use Rattle.std.proofs.Common.{◌∙◌}
use Rattle.refusal.specs.Outcome.{Outcome, result, refused, Line, judged, NoneMeets, reported}
use Rattle.refusal.specs.Numbers.{number_of, place_of}
use Rattle.refusal.specs.declared.Refusal.{Refusal}
use Rattle.refusal.specs.declared.Refusal.TheVariants.{BadMarks, NotForLaboratory}
use Rattle.recording.specs.Output.{output_line, Answers}
use Rattle.recording.proofs.laws.Outcome.{judged_pass, judged_skip, judged-first, judged_none, result_none, refusal_stands, none_append, answers_refused}
use Rattle.runs.specs.Runs.{set_bytes}
use Rattle.grammar.specs.Syntax.{Text}
use Rattle.grammar.specs.inner.Parse.{parsed}
use Rattle.parser.specs.inner.Rows.{Laid}
use Rattle.text.specs.Told.{nodes_of}
use Rattle.meaning.specs.inner.Coded.{coded, index}
use Rattle.meaning.specs.inner.Truth.{val}
use Rattle.evaluation.specs.inner.Evaluation.{text_of}
use Rattle.question.specs.Question.{the_text, read, answer, asking_lines, set_lines, answer_of}
use Rattle.question.specs.inner.Prepare.{Prepares}
use Rattle.question.proofs.laws.Prepare.{refused_nodes, prepared_passes}
use Rattle.degree.specs.Degree.{Value, value_of, target_line}
use Rattle.marks.specs.Marks.{marks_of, marks_line}
use Rattle.lab.specs.Lab.{text_line, asker_lines, lab_asking_lines, lab_question_of, lab_degree_of}
use Rattle.lab.specs.inner.Barred.{not_for_laboratory}
use Rattle.lab.specs.inner.Prepare.{LabPrepares}

-- ---- 11 and 14

module _ (marks : List ℕ) (n : ℕ) where
  pub marks_refused : (b : Bool) → b ≡ (marks_line marks).meets → b ≡ true → (t : Text) → reported (Err BadMarks) ≡ judged (asker_lines marks t) n
  marks_refused b e h t = sym (judged-first (marks_line marks) (text_line marks t ∷ []) n (sym e ∙ h))

  module _ (b : Bool) (e : b ≡ (marks_line marks).meets) (h : b ≡ false) (t : Text) (u : Bool) (d : u ≡ not_for_laboratory (marks_of marks) t) where
    pub text_refused : u ≡ true → reported (Err NotForLaboratory) ≡ judged (asker_lines marks t) n
    text_refused g = sym (judged_skip [] (marks_line marks) (text_line marks t ∷ []) n (sym e ∙ h) ∙ judged-first (text_line marks t) [] n (sym d ∙ g))

    pub text_allowed : u ≡ false → reported (Ok n) ≡ judged (asker_lines marks t) n
    text_allowed g = sym (judged_none (asker_lines marks t) n (sym e ∙ h, (sym d ∙ g, tt)))

-- ---- a text that is read

module _ (bytes marks text table : List ℕ) (q : Result ℕ Refusal) (h : Prepares bytes text table q) where
  pub prepare_refused : (x : Refusal) → q ≡ Err x → LabPrepares bytes marks text table (Err x)
  prepare_refused x e = record {
    outcome = sym (refusal_stands (asking_lines bytes text) (asker_lines marks (read text)) (nodes_of (parsed text)) (nodes_of (parsed text)) (number_of x) (place_of x)
        (sym h.outcome ∙ ap reported e));
    tabled = λ n f. refused_nodes x n f;
  }

  module _ (n : ℕ) (e : q ≡ Ok n) where
    is_read : text_of table n ≡ read text
    is_read = ap the_text (sym (h.tabled n e).reads)

    pub prepare_asked : (r : Result ℕ Refusal) → ((t : Text) → Laid table 0 n t → reported r ≡ judged (asker_lines marks t) n) → LabPrepares bytes marks text table r
    prepare_asked r a =
        let o : reported r ≡ judged (lab_asking_lines bytes marks text) (nodes_of (parsed text)) =
        a (text_of table n) (h.tabled n e).rows
        ∙ ap (λ (t : Text). judged (asker_lines marks t) n) is_read
        ∙ ap (judged (asker_lines marks (read text))) (sym (prepared_passes h n e).1)
        ∙ sym (judged_pass (asking_lines bytes text) (asker_lines marks (read text)) (nodes_of (parsed text)) (prepared_passes h n e).0) in
        record {
          outcome = o;
          tabled = λ m f.
              let k = result_none (lab_asking_lines bytes marks text) (nodes_of (parsed text)) m (sym o ∙ ap reported f) in
              h.tabled m (e ∙ ap Ok (sym (prepared_passes h n e).1 ∙ k.1));
        }

-- ---- the calls

module _ (bytes marks text table : List ℕ) (q : Result ℕ Refusal) (h : LabPrepares bytes marks text table q) where
  -- a refusal stands, whatever follows
  asking_refused : {R : Type 0} (ms : List Line) (r : R) (x : Refusal) → q ≡ Err x
      → judged (lab_asking_lines bytes marks text ++ ms) r ≡ refused (number_of x) (place_of x)
  asking_refused ms r x e =
      refusal_stands (lab_asking_lines bytes marks text) ms (nodes_of (parsed text)) r (number_of x) (place_of x) (sym h.outcome ∙ ap reported e)

  pub question_refused : (x : Refusal) → q ≡ Err x → (old : List ℕ) → Answers (lab_question_of bytes marks text (length old)) old (Err x) old
  unfolding lab_question_of
  question_refused x e old = answers_refused (lab_question_of bytes marks text (length old)) old x (asking_refused _ _ x e)

  pub degree_refused : (g : ℤ) (x : Refusal) → q ≡ Err x → refused (number_of x) (place_of x) ≡ lab_degree_of bytes marks text g
  unfolding lab_degree_of
  degree_refused g x e = sym (asking_refused _ _ x e)

  module _ (n : ℕ) (e : q ≡ Ok n) where
    asked : NoneMeets (lab_asking_lines bytes marks text) × (nodes_of (parsed text) ≡ n)
    asked = result_none (lab_asking_lines bytes marks text) (nodes_of (parsed text)) n (sym h.outcome ∙ ap reported e)

    -- it is prepared as for the plain call
    pub plainly : Prepares bytes text table (Ok n)
    plainly = record {
      outcome = ap result (sym asked.1) ∙ sym (judged_none (asking_lines bytes text) (nodes_of (parsed text)) (none_append (asking_lines bytes text) (asker_lines marks (read text)) asked.0).0);
      tabled = λ m f. h.tabled m (e ∙ f);
    }

    the-text : text_of table n ≡ read text
    the-text = ap the_text (sym (h.tabled n e).reads)

    pub question_answered : (old : List ℕ) (r : Result ℕ Refusal) (new : List ℕ) → Answers (answer_of bytes (text_of table n) (length old)) old r new
        → Answers (lab_question_of bytes marks text (length old)) old r new
    unfolding lab_question_of
    question_answered old r new w =
        let o : answer_of bytes (text_of table n) (length old) ≡ lab_question_of bytes marks text (length old) =
        ap (λ (p : Text). answer_of bytes p (length old)) the-text
        ∙ sym (judged_pass (lab_asking_lines bytes marks text) (set_lines bytes (read text) ++ (output_line (length old) (set_bytes (answer bytes text)) ∷ [])) (set_bytes (answer bytes text)) asked.0) in
        subst (λ (k : Outcome (List ℕ)). Answers k old r new) o w

    -- the target is handed on as z
    pub degree_answered : (g z : ℤ) → z ≡ g → (o : Outcome Value)
        → o ≡ judged (target_line z ∷ set_lines bytes (text_of table n)) (value_of (λ k. val (coded bytes) k (text_of table n) 0) (index z)) → o ≡ lab_degree_of bytes marks text g
    unfolding lab_degree_of
    degree_answered g z same o w =
        w ∙ ap (λ (t : ℤ). judged (target_line t ∷ set_lines bytes (text_of table n)) (value_of (λ k. val (coded bytes) k (text_of table n) 0) (index t))) same
        ∙ ap (λ (p : Text). judged (target_line g ∷ set_lines bytes p) (value_of (λ k. val (coded bytes) k p 0) (index g))) the-text
        ∙ sym (judged_pass (lab_asking_lines bytes marks text) (target_line g ∷ set_lines bytes (read text)) (value_of (answer bytes text) (index g)) asked.0)
