-- DEMAND 3, its last sentence, and Paper 10, hold: what a call computes of a selection that includes the kept readings it computes of the recording.
use Rattle.std.specs.Prelude.{ℕ, suc, ◌*◌, ◌-◌, ◌≤◌, ◌≡◌, refl, Bool, true, false, List, [], ◌∷◌, map, length, eqb, ◌↔◌}
use Rattle.std.proofs.Common.{arith, sym, ap, subst, inl, eqb-true, eq-eqb, ⊎_elim}
use Rattle.number.specs.Axis.{whole}
use Rattle.refusal.specs.Outcome.{NoneMeets, Outcome, result, refused}
use Rattle.recording.specs.Reading.{Reading, A, B}
use Rattle.recording.specs.Condition.{pick}
use Rattle.recording.specs.Recording.{concat, records, readings, Accepted}
use Rattle.recording.proofs.laws.Outcome.{judged_none}
use Rattle.grammar.specs.Syntax.{Text}
use Rattle.grammar.specs.Grammar.{ReadsWhole}
use Rattle.text.specs.Told.{text_lines}
use Rattle.question.specs.Question.{read}
use Rattle.question.proofs.laws.Lines.{read_reads}
use Rattle.degree.specs.inner.Reach.{mapped}
use Rattle.marks.specs.Marks.{marks_of}
use Rattle.thin.specs.Thin.{kept_bytes, thin_of}
use Rattle.thin.specs.Selection.{Selection}
use Rattle.thin.proofs.laws.Selection.{kept_selection, selection_thinned}
use Rattle.meaning.specs.Named.{Channel, SameChannel, Agreeing, agree_none, agree_more}
use Rattle.meaning.specs.Named as named
use Rattle.lab.specs.Lab.{lab_question_of, lab_degree_of}
use Rattle.assured.specs.Assured.{Assured}
use Rattle.promises.proofs.laws.Assured.{AssuredText, assured_question, assured_degree, assured_band}
use Rattle.promises.proofs.laws.Nodes.{laboratory_text}
use Rattle.promises.specs.Conditions.{text_table, NoneMet}
use Rattle.promises.proofs.laws.Conditions.{AsTable, done, judged-told, first-met}
use Rattle.promises.specs.Page.{Call, question, degree, pair, thin, band, order, entry, find, lab_question, lab_degree, lab_pair, assured, version, Effect, effect, writing, refusals, is-assured, not_assured, Right, answers, refuses}
use Rattle.promises.proofs.laws.Computed.{of_value, of_pair, of_bands, of_finding, computed, right_computed}
use Rattle.promises.specs.KeptAsFull.{AskedOfKept, Askable, OfKept, KeptAsFull}
use Rattle.promises.specs.Secrecy.{Public, AllButB}
use Rattle.promises.specs.inner.SameAnswers.{PlainlyRead, SameAnswers}
use Rattle.recording.specs.Condition.{Condition, pick, pick_from, when, on}
use Rattle.recording.specs.Recording.{concat, records, readings, reading}
use Rattle.recording.proofs.laws.Record.{length-concat}
use Rattle.kept.specs.Kept.{kept_for, most_kept}
use Rattle.kept.proofs.laws.Limit.{kept_limit}
use Rattle.thin.specs.Thin.{kept_bytes}
use Rattle.thin.proofs.laws.Model.{kept_sixteens}
use Rattle.recording.proofs.laws.Acceptance.{accepted_sound}
use Rattle.thin.proofs.laws.Selection.{kept_selection, whole_selection, selection_accepted}
use Rattle.meaning.specs.Alike.{Plain}
use Rattle.kept.proofs.laws.Mark.{is_mark, rule_marks}
use Rattle.promises.proofs.laws.Nodes.{marked-times}
use Rattle.promises.proofs.laws.Operator.{unwritten_propositional}
use Rattle.promises.proofs.laws.Acceptance.{accepted-lines, accepted_table}
use Rattle.promises.proofs.laws.Rows.{agree_text}
use Rattle.promises.proofs.laws.Selected.{selected_as_full}
use Rattle.promises.proofs.laws.Secrecy.{same_question, same_degree, same_pair}
use Rattle.promises.proofs.laws.Page.{same_text, same_right}
use Rattle.std.proofs.lemmas.Bool.{false≢true}
use mathlib.Core.List.Memᴰ
use mathlib.Core.List.{Memᴰ}
use Rattle.number.proofs.laws.Boolean.{same, or_left, or_right, or_cases}

-- ---- the condition on texts

pub asked-plain : (marks text : List ℕ) → AskedOfKept marks text → (t : Text) → ReadsWhole text t → Plain (marks_of marks) t
asked-plain marks text l t r = record { propositional = unwritten_propositional text t r l.none_written; marked = (marked-times (marks_of marks) t).0 (l.marked t r) }

-- by the lines that are computed
pub assured_text : (marks text : List ℕ) → Askable marks text → AssuredText marks text
assured_text marks text l n =
    l (subst (λ (o : Outcome (Unit {0})). AsTable (text_table text) o) (judged_none (text_lines text) tt n) (judged-told (agree_text text (λ m. done)) tt))

-- ---- in the recording's place

itself : (ks recording : List ℕ) → Accepted recording → Selection ks recording recording
itself ks recording a = whole_selection ks recording (accepted_sound recording a).whole

agree_itself : (r : List Reading) → Agreeing Public r r
agree_itself [] = agree_none
agree_itself (x ∷ r) = agree_more (record { time = refl; same = λ n h. by n }) (agree_itself r)
  where
    by : (n : Channel) → SameChannel n x x
    by (named.curve c) = (refl, refl)
    by named.additions = refl

module _ (marks recording held : List ℕ) (a : Accepted recording) (s : Selection (marks_of marks) recording held) where
  as_full : SameAnswers marks held recording
  as_full = selected_as_full marks recording held a s

  itself_too : AllButB recording recording
  itself_too = record { accepted = accepted_table recording a; other_accepted = accepted_table recording a; agree = agree_itself (readings recording) }

  whole_too : Selection (marks_of marks) recording recording
  whole_too = itself (marks_of marks) recording a

  same_computed : (c : Call) → OfKept marks c → (room : ℕ) → computed c held room ≡ computed c recording room
  same_computed (question text) l room = ap (mapped writing) (assured_question marks recording held a s text (assured_text marks text l) room)
  same_computed (degree text target) l room = ap (mapped of_value) (assured_degree marks recording held a s text (assured_text marks text l) target)
  same_computed (pair curve target) l room = ap (mapped of_pair) (as_full.pair curve target)
  same_computed (thin ks) l room = subst (λ (ks : List ℕ). mapped writing (thin_of held ks room) ≡ mapped writing (thin_of recording ks room)) (sym l) (ap (mapped writing) (selection_thinned marks recording held s a room))
  same_computed (band text e) l room = ap (mapped of_bands) (assured_band marks recording held a s text (assured_text marks text l) e)
  same_computed (order sheet) l room = ap (mapped of_finding) (as_full.ordering sheet)
  same_computed entry l room = ap (mapped writing) (as_full.entry room)
  same_computed (find curve level) l room = absurd l
  same_computed (lab_question ks text) l room = subst (λ (ks : List ℕ). mapped writing (lab_question_of held ks text room) ≡ mapped writing (lab_question_of recording ks text room)) (sym l) (ap (mapped writing) (same_question marks recording recording held recording itself_too s whole_too text room))
  same_computed (lab_degree ks text target) l room = subst (λ (ks : List ℕ). mapped of_value (lab_degree_of held ks text target) ≡ mapped of_value (lab_degree_of recording ks text target)) (sym l) (ap (mapped of_value) (same_degree marks recording recording held recording itself_too s whole_too text target))
  same_computed (lab_pair curve target) l room = ap (mapped of_pair) (same_pair marks recording recording held recording itself_too s whole_too curve target)
  same_computed (assured ks) l room = absurd l
  same_computed version l room = refl

-- ---- the limit on kept readings

module _ {A B : Type 0} (f : A → B) where
  same_when : (e : Bool) (x : A) (y : B) (l : List A) (m : List B) → length l ≡ length m → length (when e x l) ≡ length (when e y m)
  same_when true x y l m h = ap suc h
  same_when false x y l m h = h

  count_on : (ρ : Condition B) (b r : List A) → length (pick_from (on f ρ) b r) ≡ length (pick_from ρ (map f b) (map f r))
  count_on ρ b [] = refl
  count_on ρ b (x ∷ r) =
      same_when (on f ρ b x r) x (f x) (pick_from (on f ρ) (x ∷ b) r) (pick_from ρ (f x ∷ map f b) (map f r)) (count_on ρ (x ∷ b) r)

bytes_limit : (marks bytes : List ℕ) → length (kept_bytes marks bytes) ≤ 16 * most_kept marks (readings bytes)
unfolding kept_bytes
bytes_limit marks bytes =
    let e = length-concat (pick (on reading (kept_for marks)) (records bytes)) (kept_sixteens marks bytes) in
    let c = count_on reading (kept_for marks) [] (records bytes) in
    let k = kept_limit marks (readings bytes) in
    omega arith

-- ---- "repeats are harmless"

mark_member : (k : ℕ) (ks : List ℕ) → (is_mark k ks ≡ true) ↔ Memᴰ k ks
mark_member k [] = (λ e. absurd (false≢true e), λ m. absurd (Memᴰ.not-nil m))
mark_member k (m ∷ ks) =
    let r = mark_member k ks in (
      λ e. or_cases (eqb k m) (is_mark k ks) e (λ h. Memᴰ.head (eqb-true k m h)) (λ h. Memᴰ.tail (r.0 h)),
      λ i. ⊎_elim (λ h. or_left (eqb k m) (is_mark k ks) (eq-eqb k m h)) (λ h. or_right (eqb k m) (is_mark k ks) (r.1 h)) (Memᴰ.cases_cons i),
    )

same_kept : (ks ks' g : List ℕ) → ((k : ℕ) → Memᴰ k ks ↔ Memᴰ k ks') → kept_bytes ks g ≡ kept_bytes ks' g
unfolding kept_bytes
same_kept ks ks' g h =
    ap (λ (ρ : Condition Reading). concat (pick (on reading ρ) (records g)))
    (rule_marks ks ks' (λ k. same (is_mark k ks) (is_mark k ks') (λ e. (mark_member k ks').1 ((h k).0 ((mark_member k ks).0 e))) (λ e. (mark_member k ks).1 ((h k).1 ((mark_member k ks').0 e)))))

-- ---- what the assured call tells

module _ (marks text : List ℕ) where
  abbrev low : Outcome Effect → ℕ
  low (result x) = x.low
  low (refused n p) = 0

  said : {room : ℕ} {o : Outcome Effect} → Right (assured marks) text room o → low o ≡ 1 → Askable marks text
  said (answers n (is-assured {t = t} r a)) e = λ k u q. subst (Assured (marks_of marks)) (same_text text t u r q) a
  said (answers n (not_assured r k)) e = let z : ◌≡◌ {A = ℕ} 0 1 = e in absurd (omega arith)
  said (refuses f) e = let z : ◌≡◌ {A = ℕ} 0 1 = e in absurd (omega arith)

  says : {room : ℕ} {o : Outcome Effect} → Right (assured marks) text room o → NoneMet (refusals (assured marks) text room) → Askable marks text
      → Right (assured marks) text room (result (effect 1 []))
  says (answers n (is-assured r a)) k l = answers n (is-assured r a)
  says (answers n (not_assured {t = t} r other)) k l = absurd (other (l (k.0, (k.1.0, (k.1.1.0, tt))) t r))
  says {room} (refuses {n = n} {p = p} f) k l = absurd (first-met (refusals (assured marks) text room) n p f k)

-- ---- KEPT AS FULL
pub kept_as_full : KeptAsFull
kept_as_full = record {
  in_place = λ marks {recording} {held} a s c k {room} {o} h. same_right c held recording room (same_computed marks recording held (accepted-lines recording a) s c k room) h;
  kept_selects = λ marks recording. kept_selection (marks_of marks) recording;
  whole_selects = λ marks recording a. itself (marks_of marks) recording (accepted-lines recording a);
  selection_accepted = λ marks {recording} {held} a s. accepted_table held (selection_accepted (marks_of marks) recording held s (accepted-lines recording a));
  demand_3 = λ marks text l n t r. inl (asked-plain marks text l t r);
  laboratory = λ marks text m n t r. inl (subst (Plain (marks_of marks)) (same_text text m.0 t m.1 r) ((laboratory_text (marks_of marks) m.0).1 m.2).plain);
  said_assured = λ marks text {room} h. said marks text h refl;
  says_assured = λ marks text {room} k l. says marks text (right_computed (assured marks) text room) k l;
  limit = λ marks recording. bytes_limit (marks_of marks) recording;
  repeats = λ marks marks' recording h. same_kept (marks_of marks) (marks_of marks') recording h;
}
