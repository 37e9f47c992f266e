-- A laboratory's call answers as the plain call does, or 11 or 14 refuses it.
use Rattle.std.specs.Prelude.{ℕ, ◌≡◌, Bool, ◌⊎◌, ℤ}
use Rattle.std.proofs.Math.Path.{refl}
use Rattle.std.proofs.Common.{◌∙◌, ⊎_elim}
use Rattle.std.proofs.Math.Bool.{true, false, cond}
use Rattle.std.proofs.Math.Logic.{inl, inr}
use mathlib.Core.List.{List, [], ◌∷◌, ◌++◌}
use Rattle.targets.specs.Target.{bad_target}
use Rattle.refusal.specs.Outcome.{Outcome, refused, Line, judged, NoneMeets}
use Rattle.recording.proofs.laws.Outcome.{judged_pass, judged_skip, judged-first}
use Rattle.recording.specs.Reading.{curve_of}
use Rattle.recording.specs.Recording.{readings, recording_lines, no_record}
use Rattle.recording.specs.Output.{output_line}
use Rattle.runs.specs.Runs.{set_bytes}
use Rattle.meaning.specs.inner.Coded.{index}
use Rattle.question.specs.Question.{read, answer, asking_lines, set_lines, question_of}
use Rattle.degree.specs.Degree.{value_of, target_line, nearness_of}
use Rattle.pair.specs.Pair.{first_pair, too_many_tops, pair_of}
use Rattle.marks.specs.Marks.{marks_line}
use Rattle.lab.specs.Lab.{text_line, curve_line, asker_lines, lab_question_of, lab_degree_of, lab_pair_of}

-- a line more: it refuses, or the outcome is as without it
module _ {R : Type 0} where
  line-more : (ls : List Line) (l : Line) (ms : List Line) (r : R)
      → (judged (ls ++ l ∷ ms) r ≡ judged (ls ++ ms) r) ⊎ (judged (ls ++ l ∷ ms) r ≡ refused l.number l.place)
  unfolding judged
  line-more [] l ms r = go l.meets
    where
      go : (b : Bool) → (cond b (refused l.number l.place) (judged ms r) ≡ judged ms r) ⊎ (cond b (refused l.number l.place) (judged ms r) ≡ refused l.number l.place)
      go true = inr refl
      go false = inl refl
  line-more (k ∷ ls) l ms r = go k.meets (line-more ls l ms r)
    where
      go : (b : Bool) → (judged (ls ++ l ∷ ms) r ≡ judged (ls ++ ms) r) ⊎ (judged (ls ++ l ∷ ms) r ≡ refused l.number l.place)
          → (cond b (refused k.number k.place) (judged (ls ++ l ∷ ms) r) ≡ cond b (refused k.number k.place) (judged (ls ++ ms) r))
          ⊎ (cond b (refused k.number k.place) (judged (ls ++ l ∷ ms) r) ≡ refused l.number l.place)
      go true h = inl refl
      go false h = h

  -- as without both, or one of them refuses
  two-more : (ls : List Line) (l m : Line) (ms : List Line) (r : R)
      → (judged (ls ++ l ∷ m ∷ ms) r ≡ judged (ls ++ ms) r) ⊎ ((judged (ls ++ l ∷ m ∷ ms) r ≡ refused l.number l.place) ⊎ (judged (ls ++ l ∷ m ∷ ms) r ≡ refused m.number m.place))
  two-more ls l m ms r =
      ⊎_elim (λ e. ⊎_elim (λ f. inl (e ∙ f)) (λ f. inr (inr (e ∙ f))) (line-more ls m ms r)) (λ e. inr (inl e)) (line-more ls l (m ∷ ms) r)

-- the outcome is that of the plain call, or refusal 11, or refusal 14
abbrev pub PlainOr14 : {R : Type 0} → Outcome R → Outcome R → Type 0
PlainOr14 o plain = (o ≡ plain) ⊎ (o ≡ refused 14 0)

abbrev pub PlainOr11Or14 : {R : Type 0} → Outcome R → Outcome R → Type 0
PlainOr11Or14 o plain = (o ≡ plain) ⊎ ((o ≡ refused 11 0) ⊎ (o ≡ refused 14 0))

pub question_plain : (bytes marks text : List ℕ) (room : ℕ) → PlainOr11Or14 (lab_question_of bytes marks text room) (question_of bytes text room)
unfolding lab_question_of question_of
question_plain bytes marks text room =
    two-more (asking_lines bytes text) (marks_line marks) (text_line marks (read text)) (set_lines bytes (read text) ++ (output_line room (set_bytes (answer bytes text)) ∷ [])) (set_bytes (answer bytes text))

pub degree_plain : (bytes marks text : List ℕ) (g : ℤ) → PlainOr11Or14 (lab_degree_of bytes marks text g) (nearness_of bytes text g)
unfolding lab_degree_of nearness_of
degree_plain bytes marks text g =
    two-more (asking_lines bytes text) (marks_line marks) (text_line marks (read text)) (target_line g ∷ set_lines bytes (read text)) (value_of (answer bytes text) (index g))

pub pair_plain : (bytes : List ℕ) (c : ℕ) (g : ℤ) → PlainOr14 (lab_pair_of bytes c g) (pair_of bytes c g)
unfolding lab_pair_of pair_of
pair_plain bytes c g =
    line-more (recording_lines bytes ++ (no_record bytes ∷ bad_target c g ∷ [])) (curve_line c) (too_many_tops bytes c ∷ []) (first_pair (readings bytes) (curve_of c) g)

-- a text that neither 11 nor 14 meets, asked by a laboratory
pub question_allowed : (bytes marks text : List ℕ) → NoneMeets (asker_lines marks (read text)) → (room : ℕ) → lab_question_of bytes marks text room ≡ question_of bytes text room
unfolding lab_question_of question_of
question_allowed bytes marks text n room =
    let ms : List Line = set_lines bytes (read text) ++ (output_line room (set_bytes (answer bytes text)) ∷ []) in
    judged_skip (asking_lines bytes text) (marks_line marks) (text_line marks (read text) ∷ ms) (set_bytes (answer bytes text)) n.0
    ∙ judged_skip (asking_lines bytes text) (text_line marks (read text)) ms (set_bytes (answer bytes text)) n.1.0

-- a text that 14 meets, and nothing before it
pub question_barred : (bytes marks text : List ℕ) → NoneMeets (asking_lines bytes text) → (marks_line marks).meets ≡ false → (text_line marks (read text)).meets ≡ true → (room : ℕ)
    → lab_question_of bytes marks text room ≡ refused 14 0
unfolding lab_question_of
question_barred bytes marks text n e h room =
    judged_pass (asking_lines bytes text) _ (set_bytes (answer bytes text)) n
    ∙ judged_pass (marks_line marks ∷ []) _ (set_bytes (answer bytes text)) (e, tt)
    ∙ judged-first (text_line marks (read text)) _ (set_bytes (answer bytes text)) h
