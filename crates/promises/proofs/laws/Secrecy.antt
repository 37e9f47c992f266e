-- SECRECY holds: a laboratory text names the public parts only, so it means the same of both recordings, and of every selection in the place of either.
use Prim.Native.Nat.{ℕ, zero, suc, ◌≤◌}
use Rattle.std.proofs.Common.{arith, ◌∙◌, ltb-false, inl, inr, ⊎_elim}
use Rattle.std.specs.Prelude.{◌≡◌, refl, Bool, false, ◌||◌, eqb, ltb, ℤ, ◌⊎◌}
use Rattle.std.proofs.Math.Path.{sym, ap, ap₂, subst, fun_ext}
use mathlib.Core.List.{List, [], ◌∷◌, ◌++◌}
use Rattle.std.proofs.Math.ListN.{length, length-map}
use Rattle.std.proofs.lemmas.Bool.{eqb-false}
use Rattle.targets.specs.Target.{bad_target}
use Rattle.number.proofs.laws.Boolean.{then, back, none_left}
use Rattle.refusal.specs.Outcome.{Outcome, refused, Line, line, judged}
use Rattle.recording.specs.Condition.{pick}
use Rattle.recording.specs.Reading.{Reading, A, B, top, curve_of, a_top}
use Rattle.recording.specs.Recording.{records, reading, readings, recording_lines, no_record}
use Rattle.recording.specs.Output.{output_line}
use Rattle.recording.proofs.laws.Outcome.{judged_pass}
use Rattle.runs.specs.Runs.{set_bytes}
use Rattle.runs.proofs.laws.Runs.{set_bytes_ext}
use Rattle.tops.specs.Tops.{recorded_time, event_times, top_times, most_tops}
use Rattle.grammar.specs.Syntax.{Text}
use Rattle.text.specs.Told.{text_lines}
use Rattle.meaning.specs.Alike.{Same}
use Rattle.meaning.specs.Named.{Channel, curve, additions, Names}
use Rattle.meaning.proofs.laws.Named.{length_agreeing, same_times, top_blind, agreeing_same}
use Rattle.meaning.specs.inner.Coded.{index}
use Rattle.question.specs.Question.{read, answer, set_lines}
use Rattle.degree.specs.Degree.{Value, value_of, target_line}
use Rattle.pair.specs.Pair.{pairs_of, first_apart, first_pair, too_many_tops}
use Rattle.marks.specs.Marks.{marks_of}
use Rattle.lab.specs.Lab.{LaboratoryText, asker_lines, curve_line, lab_asking_lines, lab_question_of, lab_degree_of, lab_pair_of}
use Rattle.lab.proofs.laws.Laboratory.{clear_laboratory}
use Rattle.thin.specs.Selection.{Selection}
use Rattle.promises.specs.inner.StandIn.{StandIn}
use Rattle.promises.proofs.laws.StandIn.{judged_behind, same_no_record, stand_same, meant_val, meant_lines}
use Rattle.promises.proofs.laws.Selected.{selected_stands}
use Rattle.promises.proofs.laws.Acceptance.{accepted-lines}
use Rattle.promises.proofs.laws.Page.{is_computed, same_right}
use Rattle.promises.specs.Page.{Call, Effect, writing, Right}
use Rattle.promises.proofs.laws.Computed.{of_value, of_pair, computed, right_computed}
use Rattle.promises.specs.Secrecy.{Public, the_batch, the_additions, AllButB, OfLaboratory, a_question, a_degree, a_pair, Secrecy}
use Rattle.degree.specs.inner.Reach.{mapped}
use Rattle.lab.proofs.laws.Plain.{PlainOr11Or14, question_plain, degree_plain, pair_plain}

-- ---- what a laboratory text names is public

public : (marks : List ℕ) (p : Text) → LaboratoryText marks p → (n : Channel) → Names p n → Public n
public marks p t (curve A) h = the_batch
public marks p t (curve B) h = absurd (t.no_B h)
public marks p t additions h = the_additions

same_then : {r s t : List Reading} {p : Text} → Same r s p → Same s t p → Same r t p
same_then a b = record { truth = λ z. then (a.truth z) (b.truth z); eight = then a.eight b.eight; nine = then a.nine b.nine }

same_back : {r s : List Reading} {p : Text} → Same r s p → Same s r p
same_back a = record { truth = λ z. back (a.truth z); eight = back a.eight; nine = back a.nine }

-- ---- the outcomes are the same

module _ (marks recording other held held' : List ℕ) (two : AllButB recording other) (s : Selection (marks_of marks) recording held) (s' : Selection (marks_of marks) other held') where
  stands : StandIn (marks_of marks) recording held
  stands = selected_stands marks recording held (accepted-lines recording two.accepted) s

  stands' : StandIn (marks_of marks) other held'
  stands' = selected_stands marks other held' (accepted-lines other two.other_accepted) s'

  same_records : length (records recording) ≡ length (records other)
  same_records = sym (length-map (records recording) reading) ∙ length_agreeing two.agree ∙ length-map (records other) reading

  same_none : no_record held ≡ no_record held'
  same_none =
      same_no_record (marks_of marks) recording held stands ∙ ap (λ (n : ℕ). line 4 (eqb n 0)) same_records
      ∙ sym (same_no_record (marks_of marks) other held' stands')

  -- a laboratory text means the same of both
  both_mean : (no_record held).meets ≡ false → (no_record held').meets ≡ false → (p : Text) → LaboratoryText (marks_of marks) p → Same (readings held) (readings held') p
  both_mean some some' p t =
      let m = agreeing_same two.agree p (public (marks_of marks) p t) in
      same_then (stand_same (marks_of marks) recording held stands some p t.plain)
      (same_then (record { truth = λ z. m.truth z 0; eight = m.eight; nine = m.nine }) (same_back (stand_same (marks_of marks) other held' stands' some' p t.plain)))

  module _ (text : List ℕ) where
    -- REFUSALS 1 TO 7, 11 AND 14: what follows them matters only where there is a record and the text is a laboratory text
    lab_asking : {R : Type 0} (ms ns : List Line) (x y : R)
        → ((no_record held).meets ≡ false → (no_record held').meets ≡ false → LaboratoryText (marks_of marks) (read text) → judged ms x ≡ judged ns y)
        → judged (lab_asking_lines held marks text ++ ms) x ≡ judged (lab_asking_lines held' marks text ++ ns) y
    lab_asking ms ns x y h =
        judged_pass (recording_lines held) ((no_record held ∷ text_lines text) ++ (asker_lines marks (read text) ++ ms)) x stands.accepted
        ∙ ap (λ (l : Line). judged (l ∷ (text_lines text ++ (asker_lines marks (read text) ++ ms))) x) same_none
        ∙ judged_behind ((no_record held' ∷ text_lines text) ++ asker_lines marks (read text)) ms ns x y
        (λ n. h (ap (λ (l : Line). l.meets) same_none ∙ n.0) n.0 (clear_laboratory (marks_of marks) (read text) n.1.1.1.1.1.0))
        ∙ sym (judged_pass (recording_lines held') ((no_record held' ∷ text_lines text) ++ (asker_lines marks (read text) ++ ns)) y stands'.accepted)

    pub same_question : (room : ℕ) → lab_question_of held marks text room ≡ lab_question_of held' marks text room
    unfolding lab_question_of
    same_question room =
        lab_asking (set_lines held (read text) ++ (output_line room (set_bytes (answer held text)) ∷ [])) (set_lines held' (read text) ++ (output_line room (set_bytes (answer held' text)) ∷ []))
        (set_bytes (answer held text)) (set_bytes (answer held' text))
        (λ some some' t. let m = both_mean some some' (read text) t in
        ap₂ (λ (ls : List Line) (set : List ℕ). judged (ls ++ (output_line room set ∷ [])) set)
        (meant_lines held' held stands'.accepted stands.accepted some' some (read text) m)
        (set_bytes_ext (answer held text) (answer held' text) (λ n l. meant_val held' held stands'.accepted stands.accepted some' some (read text) m n)))

    pub same_degree : (target : ℤ) → lab_degree_of held marks text target ≡ lab_degree_of held' marks text target
    unfolding lab_degree_of
    same_degree target =
        lab_asking (target_line target ∷ set_lines held (read text)) (target_line target ∷ set_lines held' (read text))
        (value_of (answer held text) (index target)) (value_of (answer held' text) (index target))
        (λ some some' t. let m = both_mean some some' (read text) t in
        ap₂ (λ (ls : List Line) (x : Value). judged (target_line target ∷ ls) x)
        (meant_lines held' held stands'.accepted stands.accepted some' some (read text) m)
        (ap (λ (f : ℕ → Bool). value_of f (index target)) (fun_ext (meant_val held' held stands'.accepted stands.accepted some' some (read text) m))))

  -- the tops of A are at the same times
  same_tops : top_times A (readings held) ≡ top_times A (readings held')
  unfolding event_times
  same_tops = stands.alike.events (a_top A) ∙ same_times two.agree (top A) (top_blind A the_batch) ∙ sym (stands'.alike.events (a_top A))

  same_count : length (pick (top A) (readings held)) ≡ length (pick (top A) (readings held'))
  unfolding event_times
  same_count =
      sym (length-map (pick (top A) (readings held)) recorded_time) ∙ ap length same_tops ∙ length-map (pick (top A) (readings held')) recorded_time

  -- a curve number that neither 12 nor 14 refuses is that of A
  is_batch : (c : ℕ) (off : Bool) → (ltb 1 c || off) ≡ false → eqb c 1 ≡ false → c ≡ 0
  is_batch c off h k = let a = ltb-false 1 c (none_left (ltb 1 c) off h) in let b = eqb-false c 1 k in small c a b
    where
      small : (c : ℕ) → c ≤ 1 → (c ≡ 1 → ⊥) → c ≡ 0
      small zero a b = refl
      small (suc n) a b = absurd (b (omega arith))

  pub same_pair : (c : ℕ) (target : ℤ) → lab_pair_of held c target ≡ lab_pair_of held' c target
  unfolding lab_pair_of first_pair
  same_pair c target =
      judged_pass (recording_lines held) (no_record held ∷ bad_target c target ∷ curve_line c ∷ too_many_tops held c ∷ []) _ stands.accepted
      ∙ ap (λ (l : Line). judged (l ∷ bad_target c target ∷ curve_line c ∷ too_many_tops held c ∷ []) (first_pair (readings held) (curve_of c) target)) same_none
      ∙ judged_behind (no_record held' ∷ bad_target c target ∷ curve_line c ∷ []) (too_many_tops held c ∷ []) (too_many_tops held' c ∷ []) _ _
      (λ n. subst (λ (k : ℕ). judged (too_many_tops held k ∷ []) (first_pair (readings held) (curve_of k) target) ≡ judged (too_many_tops held' k ∷ []) (first_pair (readings held') (curve_of k) target))
      (sym (is_batch c _ n.1.0 n.1.1.0))
      (ap₂ (λ (k : ℕ) (ts : List ℕ). judged (line 9 (ltb most_tops k) ∷ []) (first_apart target (pairs_of ts))) same_count same_tops))
      ∙ sym (judged_pass (recording_lines held') (no_record held' ∷ bad_target c target ∷ curve_line c ∷ too_many_tops held' c ∷ []) _ stands'.accepted)

-- ---- SECRECY

lab_computed : (marks recording other held held' : List ℕ) → AllButB recording other → Selection (marks_of marks) recording held → Selection (marks_of marks) other held' → {c d : Call} → OfLaboratory marks c d → (room : ℕ)
    → computed c held room ≡ computed c held' room
lab_computed marks recording other held held' b s s' (a_question {text = text}) room = ap (mapped writing) (same_question marks recording other held held' b s s' text room)
lab_computed marks recording other held held' b s s' (a_degree {text = text} {target = target}) room = ap (mapped of_value) (same_degree marks recording other held held' b s s' text target)
lab_computed marks recording other held held' b s s' (a_pair {number = n} {target = target}) room = ap (mapped of_pair) (same_pair marks recording other held held' b s s' n target)

-- ---- a laboratory's call that neither 11 nor 14 refuses

mapped_same : {R : Type 0} (shown : R → Effect) {o q : Outcome R} → PlainOr11Or14 o q → PlainOr11Or14 (mapped shown o) (mapped shown q)
mapped_same shown h = ⊎_elim (λ e. inl (ap (mapped shown) e)) (λ k. inr (⊎_elim (λ e. inl (ap (mapped shown) e)) (λ e. inr (ap (mapped shown) e)) k)) h

lab_same : {marks : List ℕ} {c d : Call} → OfLaboratory marks c d → (g : List ℕ) (room : ℕ) → PlainOr11Or14 (computed c g room) (computed d g room)
lab_same {marks} (a_question {text = text}) g room = mapped_same writing (question_plain g marks text room)
lab_same {marks} (a_degree {text = text} {target = target}) g room = mapped_same of_value (degree_plain g marks text target)
lab_same (a_pair {number = n} {target = target}) g room = mapped_same of_pair (⊎_elim (λ e. inl e) (λ e. inr (inr e)) (pair_plain g n target))

lab_plainly : {marks g : List ℕ} {c d : Call} → OfLaboratory marks c d → {room : ℕ} {o : Outcome Effect} → ¬ (o ≡ refused 11 0) → ¬ (o ≡ refused 14 0) → Right c g room o → Right d g room o
lab_plainly {marks} {g} {c} {d} k {room} {o} n m h =
    let e = is_computed h in
    ⊎_elim (λ s. subst (Right d g room) (sym (e ∙ s)) (right_computed d g room)) (λ q. ⊎_elim (λ s. absurd (n (e ∙ s))) (λ s. absurd (m (e ∙ s))) q) (lab_same k g room)

pub secrecy : Secrecy
secrecy = record {
  secret = λ marks {recording} {other} {held} {held'} b s s' {c} {d} k {room} {o} h. same_right c held held' room (lab_computed marks recording other held held' b s s' k room) h;
  plainly = lab_plainly;
}
