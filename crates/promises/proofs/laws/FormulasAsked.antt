-- Asked alone, each question that has a formula and its formula have the same outcome: from the readings (`formula_holds`) to the calls.
use Prim.Native.Nat.{ℕ, ◌<◌}
use Rattle.std.proofs.Common.{arith, sym, ap, ◌∙◌, subst, ⊎_elim}
use Rattle.std.specs.Prelude.{◌≡◌, refl, Bool, false, ℤ, length}
use Rattle.std.proofs.Math.Path.{ap₂, fun_ext}
use mathlib.Core.List.Memᴰ
use mathlib.Core.List.{List, [], ◌∷◌, ◌++◌, Memᴰ}
use Rattle.number.specs.Least.{least}
use Rattle.refusal.specs.Outcome.{Line, line, judged, NoneMeets}
use Rattle.recording.specs.Recording.{readings, recording_lines, no_record, Accepted}
use Rattle.recording.specs.Output.{output_line}
use Rattle.recording.proofs.laws.Outcome.{judged_pass, none_append}
use Rattle.runs.specs.Runs.{set_bytes}
use Rattle.grammar.specs.Bytes.{bytes}
use Rattle.grammar.specs.inner.Lexer.{unsigned_at, number_at, pigment_at, pigment_leaf_at, operand_at, comparison_at, timed_at, arguments_at, named_at, headed_at, leaf_at}
use Rattle.grammar.specs.inner.Parse.{one, parse, parsed}
use Rattle.grammar.specs.Size.{too_deep}
use Rattle.grammar.specs.Syntax.{Listed, Text, listed}
use Rattle.text.specs.Told.{text_lines}
use Rattle.grammar.proofs.laws.Unique.{reading_is}
use Rattle.number.proofs.laws.Boolean.{back}
use Rattle.meaning.specs.inner.Coded.{Coded, coded, index}
use Rattle.meaning.specs.Formulas.{Formula, of_high, of_low, of_lowafter, of_capafter, of_peaks, of_cross, of_dips, of_crossup, of_dose}
use Rattle.meaning.proofs.laws.Formulas.{formula_holds, formula_overfull}
use Rattle.meaning.proofs.laws.Overfull.{eight_overfull}
use Rattle.meaning.specs.inner.Recorded.{Recorded}
use Rattle.meaning.proofs.laws.Recorded.{accepted_recorded}
use Rattle.meaning.specs.inner.Truth.{some_node, val, refused8, refused9}
use Rattle.meaning.proofs.laws.Truth.{val_holds}
use Rattle.question.specs.Question.{the_text, read, answer, asking_lines, set_lines, question_of}
use Rattle.degree.specs.Degree.{value_of, target_line, nearness_of}
use Rattle.promises.proofs.laws.StandIn.{judged_behind, same_test, some_readings}
use Rattle.promises.specs.inner.LinesComputed.{SameOutcome, ReadsAs, FormulasAsked, NamedFormula, written_formulas, BothRead}

-- 9 refuses none of them, and no formula
name_nine : {q : Listed} {p : Text} → Formula q p → (r : List Coded) → refused9 r (listed q) ≡ false
unfolding refused9 some_node
name_nine of_high r = refl
name_nine of_low r = refl
name_nine of_lowafter r = refl
name_nine of_capafter r = refl
name_nine of_peaks r = refl
name_nine of_cross r = refl
name_nine of_dips r = refl
name_nine of_crossup r = refl
name_nine of_dose r = refl

formula_nine : {q : Listed} {p : Text} → Formula q p → (r : List Coded) → refused9 r p ≡ false
unfolding refused9 some_node
formula_nine of_high r = refl
formula_nine of_low r = refl
formula_nine of_lowafter r = refl
formula_nine of_capafter r = refl
formula_nine of_peaks r = refl
formula_nine of_cross r = refl
formula_nine of_dips r = refl
formula_nine of_crossup r = refl
formula_nine of_dose r = refl

-- ---- on an accepted recording with a record

module _ {q : Listed} {p : Text} (f : Formula q p) (recording : List ℕ) (accepted : Accepted recording) (some : (no_record recording).meets ≡ false) where
  recorded : Recorded (readings recording)
  recorded = accepted_recorded recording accepted

  there : 0 < length (readings recording)
  there = some_readings recording some

  pub same_val : (n : ℕ) → val (coded recording) n (listed q) 0 ≡ val (coded recording) n p 0
  same_val n = same_test _ _
      (val_holds (readings recording) recorded.in-range n (listed q) 0 (omega arith)) (back (formula_holds f (readings recording) recorded there n))
      (val_holds (readings recording) recorded.in-range n p 0 (omega arith))

  pub same_eight : refused8 (coded recording) (listed q) ≡ refused8 (coded recording) p
  same_eight = same_test _ _
      (eight_overfull (readings recording) recorded.in-range there (listed q)) (back (formula_overfull f (readings recording) recorded there))
      (eight_overfull (readings recording) recorded.in-range there p)

  same_set_lines : set_lines recording (listed q) ≡ set_lines recording p
  same_set_lines = ap₂ (λ (x y : Bool). line 9 x ∷ line 8 y ∷ []) (name_nine f (coded recording) ∙ sym (formula_nine f (coded recording))) same_eight

-- ---- the calls

module _ (text : List ℕ) (p : Text) (r : ReadsAs text p) where
  is_read : read text ≡ p
  is_read = ap the_text ((reading_is text p).1 r.reads)

  -- 5, 6 and 7 let the others judge
  passes : {R : Type 0} (recording : List ℕ) (ms : List Line) (x : R)
      → judged (asking_lines recording text ++ ms) x ≡ judged ((recording_lines recording ++ (no_record recording ∷ [])) ++ ms) x
  passes recording ms x =
      judged_behind (recording_lines recording) ((no_record recording ∷ text_lines text) ++ ms) ((no_record recording ∷ []) ++ ms) x x
      (λ n. judged_behind (no_record recording ∷ []) (text_lines text ++ ms) ms x x (λ m. judged_pass (text_lines text) ms x r.sized))

module _ {q : Listed} {p : Text} (f : Formula q p) (s t : List ℕ) (rs : ReadsAs s (listed q)) (rt : ReadsAs t p) where
  -- REFUSALS 1 TO 7: what follows them matters only where the recording is accepted and has a record
  same_asking : {R : Type 0} (recording : List ℕ) (ms ns : List Line) (x y : R)
      → (Accepted recording → (no_record recording).meets ≡ false → judged ms x ≡ judged ns y)
      → judged (asking_lines recording s ++ ms) x ≡ judged (asking_lines recording t ++ ns) y
  same_asking recording ms ns x y h =
      passes s (listed q) rs recording ms x
      ∙ judged_behind (recording_lines recording ++ (no_record recording ∷ [])) ms ns x y
      (λ n. let k = none_append (recording_lines recording) (no_record recording ∷ []) n in h k.0 k.1.0)
      ∙ sym (passes t p rt recording ns y)

  module _ (recording : List ℕ) (accepted : Accepted recording) (some : (no_record recording).meets ≡ false) where
    asked-answer : (n : ℕ) → answer recording s n ≡ answer recording t n
    asked-answer n =
        ap (λ (x : Text). val (coded recording) n x 0) (is_read s (listed q) rs) ∙ same_val f recording accepted some n
        ∙ ap (λ (x : Text). val (coded recording) n x 0) (sym (is_read t p rt))

    asked-set_lines : set_lines recording (read s) ≡ set_lines recording (read t)
    asked-set_lines =
        ap (set_lines recording) (is_read s (listed q) rs) ∙ same_set_lines f recording accepted some ∙ ap (set_lines recording) (sym (is_read t p rt))

  same_question : (recording : List ℕ) (room : ℕ) → question_of recording s room ≡ question_of recording t room
  unfolding question_of
  same_question recording room =
      same_asking recording (set_lines recording (read s) ++ (output_line room (set_bytes (answer recording s)) ∷ []))
      (set_lines recording (read t) ++ (output_line room (set_bytes (answer recording t)) ∷ [])) (set_bytes (answer recording s)) (set_bytes (answer recording t))
      (λ accepted some. ap₂ (λ (ls : List Line) (f : ℕ → Bool). judged (ls ++ (output_line room (set_bytes f) ∷ [])) (set_bytes f))
      (asked-set_lines recording accepted some) (fun_ext (asked-answer recording accepted some)))

  same_degree : (recording : List ℕ) (target : ℤ) → nearness_of recording s target ≡ nearness_of recording t target
  unfolding nearness_of
  same_degree recording target =
      same_asking recording (target_line target ∷ set_lines recording (read s)) (target_line target ∷ set_lines recording (read t))
      (value_of (answer recording s) (index target)) (value_of (answer recording t) (index target))
      (λ accepted some. ap₂ (λ (ls : List Line) (f : ℕ → Bool). judged (target_line target ∷ ls) (value_of f (index target)))
      (asked-set_lines recording accepted some) (fun_ext (asked-answer recording accepted some)))

-- ASKED ALONE, EACH OF THEM HAS THE OUTCOME OF ITS FORMULA, ASKED ALONE
pub formulas_asked : FormulasAsked
formulas_asked q p f s t rs rt = record { question = same_question f s t rs rt; degree = same_degree f s t rs rt }

-- ---- the nine as the documents write them

met : {q : Listed} {p : Text} → Formula q p → (w : NamedFormula) → parsed (bytes w.name) ≡ one (listed q) → NoneMeets (text_lines (bytes w.name))
    → parsed (bytes w.formula) ≡ one p → NoneMeets (text_lines (bytes w.formula)) → BothRead w
met {q} {p} f w a b c d = record {
  question = q;
  tree = p;
  its_formula = f;
  name_reads = record { reads = (reading_is (bytes w.name) (listed q)).0 a; sized = b };
  formula_reads = record { reads = (reading_is (bytes w.formula) p).0 c; sized = d };
}

-- a pair of texts, and then the pairs after it
infixr 5 ◌also◌
◌also◌ : {w x : NamedFormula} {r : List NamedFormula} → BothRead x → (Memᴰ w r → BothRead w) → Memᴰ w (x ∷ r) → BothRead w
(t also rest) m = ⊎_elim (λ e. subst BothRead (sym e) t) rest (Memᴰ.cases_cons m)

-- the names and the formulas of the document read as such
pub formulas_met : (w : NamedFormula) → Memᴰ w written_formulas → BothRead w
unfolding too_deep least parsed parse unsigned_at number_at pigment_at pigment_leaf_at operand_at comparison_at timed_at arguments_at named_at headed_at leaf_at
formulas_met w =
    met of_high _ refl (refl, (refl, (refl, tt))) refl (refl, (refl, (refl, tt)))
    also met of_low _ refl (refl, (refl, (refl, tt))) refl (refl, (refl, (refl, tt)))
    also met of_lowafter _ refl (refl, (refl, (refl, tt))) refl (refl, (refl, (refl, tt)))
    also met of_capafter _ refl (refl, (refl, (refl, tt))) refl (refl, (refl, (refl, tt)))
    also met of_peaks _ refl (refl, (refl, (refl, tt))) refl (refl, (refl, (refl, tt)))
    also met of_cross _ refl (refl, (refl, (refl, tt))) refl (refl, (refl, (refl, tt)))
    also met of_dips _ refl (refl, (refl, (refl, tt))) refl (refl, (refl, (refl, tt)))
    also met of_crossup _ refl (refl, (refl, (refl, tt))) refl (refl, (refl, (refl, tt)))
    also met of_dose _ refl (refl, (refl, (refl, tt))) refl (refl, (refl, (refl, tt)))
    also (λ m. absurd (Memᴰ.not-nil m))

-- SO EACH OF THE NINE, AS WRITTEN, HAS THE OUTCOME OF ITS FORMULA, AS WRITTEN
pub formulas_written : (w : NamedFormula) → Memᴰ w written_formulas → SameOutcome (bytes w.name) (bytes w.formula)
formulas_written w m = let k = formulas_met w m in formulas_asked k.question k.tree k.its_formula (bytes w.name) (bytes w.formula) k.name_reads k.formula_reads
