-- A REPORT tells by its history.
use Rattle.std.specs.Prelude.{ℕ, suc, ◌+◌, ◌*◌, ◌≤◌, ◌<◌, ◌≡◌, refl, Bool, true, false, cond, List, [], ◌∷◌, ◌++◌, map, eqb, ltb, ℤ, length, drop, ◌⊎◌, get_or}
use Rattle.std.proofs.Common.{arith, sym, ap, ap₂, subst, ◌∙◌, eqb-true, ltb-true, ltb-false, inl, inr, ⊎_elim}
use Rattle.std.proofs.lemmas.Bool.{eqb-false}
use Rattle.number.specs.Axis.{axis}
use Rattle.refusal.specs.Outcome.{Outcome, result, refused}
use Rattle.recording.specs.Recording.{readings, recording_lines, no_record}
use Rattle.recording.proofs.laws.Outcome.{no_result, result_none, none_append}
use Rattle.runs.specs.Distance.{distance}
use Rattle.runs.proofs.laws.Distance.{distance_least, distance-reached}
use Rattle.grammar.specs.Syntax.{Text}
use Rattle.grammar.specs.Grammar.{ReadsWhole}
use Rattle.meaning.specs.Overfull.{IsSet}
use Rattle.text.specs.Told.{text_lines}
use Rattle.meaning.specs.inner.Coded.{index}
use Rattle.question.specs.Question.{read, answer, set_lines}
use Rattle.question.proofs.laws.Lines.{read_reads}
use Rattle.degree.specs.Degree.{Value, Reach, away, nowhere, reach_in, valued, target_line, degree_lines, reach_of}
use Rattle.degree.specs.Nearest.{Member, Distance}
use Rattle.degree.specs.inner.Reach.{mapped}
use Rattle.degree.proofs.laws.Nearest.{on-axis}
use Rattle.degree.proofs.laws.Reach.{nearness_valued}
use Rattle.mean.specs.Mean.{AtMost}
use Rattle.mean.proofs.laws.Near.{mean_near}
use Rattle.report.specs.Report.{met_in, empty_in, distances_in, sum_in, mean_in, MeanDegree, no_mean, mean_degree, Figures, figures_of, Naming, most_batches, naming_lines, Stage, closed, under_way, ReportCall, start_report, add_batch, opened_by, batch_answer, onward, answered, stage_after}
use Rattle.report.specs.Report as report
use Rattle.marks.specs.Marks.{marks_of}
use Rattle.thin.specs.Selection.{Selection}
use Rattle.report.proofs.laws.Steps.{AllSmall, small_more, small_most, length_more}
use Rattle.report.proofs.laws.Fold.{Lawful, stage_lawful}
use Rattle.report_state.specs.Call.{mean_told, answer_told, bits_after, ReportTold}
use Rattle.reply.specs.Reply.{half, packed, InHalf, number_in, low_in}
use Rattle.reply.proofs.laws.Unpacked.{number_refused, low_refused}
use Rattle.reply.proofs.laws.Place.{plain-place}
use Rattle.boundary.specs.Boundary.{value_told}
use mathlib.Core.List.{Memᴰ}
use Rattle.number.specs.Words.{word}
use Rattle.number.specs.Least.{least}
use Rattle.number.proofs.laws.Boolean.{clash}
use Rattle.number.proofs.laws.Order.{less_or_not}
use Rattle.number.proofs.laws.Words.{word-front}
use Rattle.refusal.specs.Outcome.{Line, judged}
use Rattle.recording.specs.Recording.{first_bad}
use Rattle.degree.specs.inner.Reach.{reach_at}
use Rattle.report.specs.Report.{report_bytes}
use Rattle.report.specs.declared.Report.{Report}
use Rattle.report.specs.inner.Running as running
use Rattle.report.specs.inner.Running.{Addition, none, further, last, counted, with_batch, figures_in, added_to, running_of, answer_in}
use Rattle.reply.proofs.laws.Place.{plain-place}
use Rattle.report_state.specs.State.{report_signature, report_text, index_in, report_in, no_report, closed_bytes, naming_after, addition_in, add_after}
use Rattle.report_state.specs.Call.{named_index, handed_lines, Behind}
use Rattle.report_state.proofs.laws.Carried.{closed_none, under-added}
use Rattle.report_state.proofs.laws.Carried as carried
use Rattle.report_state.proofs.laws.Calls.{start-onward, add_onward}
use Rattle.report_state.proofs.laws.Start.{named-mapped}
use Rattle.report_state.proofs.laws.Read.{too_short, other_head, stateless_none}
use Rattle.report_state.proofs.laws.Add.{Fine, in_fine, handed, handed-judged}
use Rattle.report_state.proofs.laws.Behind.{start_behind, add_behind}
use Rattle.promises.specs.Page.{put, degree, Effect, effect, behind, is_put, is_unchanged, Returns, AtIndex, Right}
use Rattle.promises.specs.KeptAsFull.{AcceptedRecording, Askable}
use Rattle.promises.specs.InTurn.{Exchange, InTurn, no_call, and_then, ByHistory, told_none, told_then, Transition, Carries, HoldsNone}
use Rattle.promises.specs.Reports.{FarFrom, at_distance, no_member, report_of, MeanWithin, naming_refusals, ReportStep, named, not_named, no-report, stopped, taken, given, ReportLent, IsNaming, a_naming, report_numbers, AskedIn, Reports}
use Rattle.promises.specs.inner.Machines.{mean_place, shown, report_machine}
use Rattle.promises.proofs.laws.InHalf.{degree_in_half}
use Rattle.boundary.specs.Boundary.{value_told}
use Rattle.promises.proofs.laws.Conditions.{AsTable, judged-told, first-met}
use Rattle.promises.proofs.laws.Rows.{in_its_place, answer_is, agree_naming}
use Rattle.promises.proofs.laws.Acceptance.{accepted-lines}
use Rattle.promises.proofs.laws.Selected.{selected_as_full}
use Rattle.promises.proofs.laws.KeptAsFull.{assured_text}
use Rattle.promises.proofs.laws.Assured.{assured_reach}
use Rattle.promises.proofs.laws.Computed.{leaves_as, of_value, right_computed}
use Rattle.promises.proofs.laws.Page.{one-outcome, same_refusal, at_0, one_index, one-distance, same_text}

-- the bytes hold this stage
abbrev Holding : List ℕ → Stage → Type 0
Holding = carried.Carries

-- ---- what is shown of an answer

shown_figures : (xs : List Reach) → shown (report.given (figures_of xs)) ≡ report_of xs (distances_in xs)
shown_figures xs = by (distances_in xs)
  where
    by : (ds : List ℕ) → effect (mean_told (mean_in ds)) (put (met_in xs) ∷ put (empty_in xs) ∷ put (sum_in ds) ∷ mean_place (mean_in ds) ∷ []) ≡ report_of xs ds
    by [] = refl
    by (d ∷ ds) = refl

abbrev pub four : (a b c d : ℕ) → List ℕ
four a b c d = a ∷ b ∷ c ∷ d ∷ []

module _ (m e d x r m' e' d' x' : ℕ) where
  pub told_add : (o : Outcome report.Answer) → InHalf (answer_told o) → ReportTold o m e d x r m' e' d' x' → Returns (mapped shown o) (four m e d x) r (four m' e' d' x')
  told_add (result report.taken) h w =
      (ap number_in w.returned, ap low_in w.returned, leaves_as (λ i. four (w.first-place i) (w.second-place i) (w.third_place i) (w.fourth_place i)) behind)
  told_add (result (report.given f)) h w = by f.mean w.returned w.fourth_place
    where
      by : (k : MeanDegree) → r ≡ mean_told k → x' ≡ bits_after k x
          → Returns (result (effect (mean_told k) (put f.met ∷ put f.empty ∷ put f.distances ∷ mean_place k ∷ []))) (four m e d x) r (four m' e' d' x')
      by no_mean a b = (ap number_in a, ap low_in a, leaves_as (λ i. four (w.first-place i) (w.second-place i) (w.third_place i) (b i)) (is_put (is_put (is_put (is_unchanged behind)))))
      by (mean_degree y) a b = (ap number_in a, ap low_in a, leaves_as (λ i. four (w.first-place i) (w.second-place i) (w.third_place i) (b i)) (is_put (is_put (is_put (is_put behind)))))
  told_add (refused n p) h w =
      (ap number_in w.returned ∙ number_refused n p h, ap low_in w.returned ∙ low_refused n p h, λ i. four (w.first-place i) (w.second-place i) (w.third_place i) (w.fourth_place i))

-- ---- the distance

reach_says : (g text : List ℕ) (target : ℤ) (x : Reach) → reach_of g text target ≡ result x → FarFrom text target g x
unfolding reach_of
reach_says g text target x e =
    let k = result_none (degree_lines g text target) (reach_in set v) x e in
    let n = none_append (recording_lines g) (no_record g ∷ text_lines text ++ (target_line target ∷ set_lines g (read text))) k.0 in
    let m = none_append (text_lines text) (target_line target ∷ set_lines g (read text)) n.1.1 in
    let a = on-axis target m.1.0 in
    let is = answer_is g g text (in_its_place g text n.0) n.1.0 m.0 in
    subst (FarFrom text target g) k.1 (by (ltb (distance set v) axis) refl a (read_reads text m.0.1.0) is)
  where
    set : ℕ → Bool
    set = answer g text

    v : ℕ
    v = index target

    by : (b : Bool) → ltb (distance set v) axis ≡ b → AtIndex v target → ReadsWhole text (read text) → IsSet set (readings g) (read text) 0
        → FarFrom text target g (cond b (away (distance set v)) nowhere)
    by true t a r is =
        let near = distance-reached set v a.0 (ltb-true (distance set v) axis t) in
        at_distance v (distance set v) a r (record {
          nearest = near.0;
          on-axis = near.1;
          member = (is near.0 near.1).0 near.2;
          there = near.3;
          least = λ w hw m. distance_least set v a.0 w hw ((is w hw).1 m);
        })
    by false t a r is = no_member r (λ w hw m. omega (arith, ltb-false (distance set v) axis t, distance_least set v a.0 w hw ((is w hw).1 m), a.0))

right_reach : (g text : List ℕ) (target : ℤ) (o : Outcome Reach) → reach_of g text target ≡ o → Right (degree text target) g 2 (mapped of_value (mapped valued o))
right_reach g text target o e =
    subst (λ (q : Outcome Value). Right (degree text target) g 2 (mapped of_value q)) (nearness_valued g text target ∙ ap (mapped valued) e) (right_computed (degree text target) g 2)

reach_half : (g text : List ℕ) (target : ℤ) (k p : ℕ) → reach_of g text target ≡ refused k p → p < half
reach_half g text target k p e = subst (λ (q : Outcome Value). InHalf (value_told q)) (nearness_valued g text target ∙ ap (mapped valued) e) (degree_in_half g text target)

-- ---- the mean

few_distances : (xs : List Reach) → length (distances_in xs) ≤ length xs
few_distances [] = omega arith
few_distances (away d ∷ xs) = let h = few_distances xs in omega arith
few_distances (nowhere ∷ xs) = let h = few_distances xs in omega arith

near_of : (xs : List Reach) → AllSmall xs → length xs ≤ most_batches → MeanWithin (distances_in xs)
near_of xs h l = let f = few_distances xs in by (distances_in xs) (small_most xs h) (omega arith)
  where
    by : (ds : List ℕ) → AtMost 4000000000 ds → length ds ≤ 1000 → MeanWithin ds
    by [] a f = tt
    by (d ∷ ds) a f = mean_near (d ∷ ds) (omega arith) f a

-- ---- a step

module _ (bytes room : ℕ) where
  name_step : (s : Stage) (n : Naming) → ReportStep bytes s (start_report n) room (mapped shown (report.named bytes n)) (opened_by n (report.named bytes n))
  name_step s n = by (report.named bytes n) refl (judged-told (agree_naming n bytes) report.taken)
    where
      by : (o : Outcome report.Answer) → report.named bytes n ≡ o → AsTable (naming_refusals n bytes) o
          → ReportStep bytes s (start_report n) room (mapped shown o) (opened_by n o)
      by (refused k p) e t = not_named t.0
      by (result x) e t = subst (λ (x : report.Answer). ReportStep bytes s (start_report n) room (result (shown x)) (under_way n [])) (result_none (naming_lines n bytes) report.taken x e).1 (named t)

  add_step : (n : Naming) (xs : List Reach) (g : List ℕ) → Lawful (under_way n xs) → (o : Outcome Reach) → reach_of g n.text n.target ≡ o
      → ReportStep bytes (under_way n xs) (add_batch g) room (mapped shown (batch_answer n xs o)) (onward n xs o)
  add_step n xs g l (refused k p) e = stopped (right_reach g n.text n.target (refused k p) e)
  add_step n xs g l (result x) e = by (eqb (suc (length xs)) n.count) refl
    where
      ys : List Reach
      ys = xs ++ x ∷ []

      right : Right (degree n.text n.target) g 2 (result (of_value (valued x)))
      right = right_reach g n.text n.target (result x) e

      reach : FarFrom n.text n.target g x
      reach = reach_says g n.text n.target x e

      by : (b : Bool) → eqb (suc (length xs)) n.count ≡ b
          → ReportStep bytes (under_way n xs) (add_batch g) room (mapped shown (cond b (result (report.given (figures_of ys))) (result report.taken))) (cond b closed (under_way n ys))
      by true t =
          let c = eqb-true (suc (length xs)) n.count t in
          let q = length_more xs x in
          let k = l.0 in
          subst (λ (a : Effect). ReportStep bytes (under_way n xs) (add_batch g) room (result a) closed) (sym (shown_figures ys))
          (given x right reach c (near_of ys (small_more xs g n.text n.target x l.2 e) (omega arith)))
      by false t = taken x right reach (eqb-false (suc (length xs)) n.count t)

  step_right : (s : Stage) (c : ReportCall) → Lawful s → ReportStep bytes s c room (mapped shown (answered bytes s c)) (stage_after bytes s c)
  step_right s (start_report n) l = name_step s n
  step_right closed (add_batch g) l = no-report
  step_right (under_way n xs) (add_batch g) l = add_step n xs g l (reach_of g n.text n.target) refl

-- what is answered fits
pub mean_half : (k : MeanDegree) → mean_told k < half
mean_half no_mean = omega arith
mean_half (mean_degree x) = omega arith

pub naming-half : (bytes : ℕ) (n : Naming) → InHalf (answer_told (report.named bytes n))
naming-half bytes n = by (report.named bytes n) refl
  where
    by : (o : Outcome report.Answer) → report.named bytes n ≡ o → InHalf (answer_told o)
    by (result report.taken) e = omega arith
    by (result (report.given f)) e = mean_half f.mean
    by (refused k p) e = let z = plain-place (naming_lines n bytes) report.taken k p (refl, (refl, (refl, (refl, (refl, (refl, tt)))))) e in omega arith

answer-half : (bytes : ℕ) (s : Stage) (g : List ℕ) → InHalf (answer_told (answered bytes s (add_batch g)))
answer-half bytes closed g = omega arith
answer-half bytes (under_way n xs) g = by (reach_of g n.text n.target) refl
  where
    last : (x : Reach) (b : Bool) → InHalf (answer_told (cond b (result (report.given (figures_of (xs ++ x ∷ [])))) (result report.taken)))
    last x true = mean_half (figures_of (xs ++ x ∷ [])).mean
    last x false = omega arith

    by : (o : Outcome Reach) → reach_of g n.text n.target ≡ o → InHalf (answer_told (batch_answer n xs o))
    by (refused k p) e = reach_half g n.text n.target k p e
    by (result x) e = last x (eqb (suc (length xs)) n.count)

given_taken : {C : Type 0} (f : Figures) → report.taken ≡ report.given f → C
given_taken f e = let z : ◌≡◌ {A = ℕ} 0 1 = cc in absurd (bad z)
  where
    bad : ◌≡◌ {A = ℕ} 0 1 → ⊥
    bad z = omega arith

pub told_name : (bytes : ℕ) (n : Naming) (r : ℕ) → r ≡ packed (answer_told (report.named bytes n)) → Returns (mapped shown (report.named bytes n)) [] r []
told_name bytes n r a = by (report.named bytes n) refl a (naming-half bytes n)
  where
    by : (o : Outcome report.Answer) → report.named bytes n ≡ o → r ≡ packed (answer_told o) → InHalf (answer_told o) → Returns (mapped shown o) [] r []
    by (result report.taken) e a h = (ap number_in a, ap low_in a, behind)
    by (result (report.given f)) e a h = given_taken f (result_none (naming_lines n bytes) report.taken (report.given f) e).1
    by (refused k p) e a h = (ap number_in a ∙ number_refused k p h, ap low_in a ∙ low_refused k p h, refl)

-- ---- the list

record Next (s : Stage) (b : List ℕ) (c : ReportCall) (room : ℕ) : Type 0 where
  pub stage : Stage
  pub by : ReportStep (length b) s c room (report_machine b c room).outcome stage
  pub lawful : Lawful stage
  pub holds : Holding (report_machine b c room).state stage
  pub same_length : length (report_machine b c room).state ≡ length b

name_next : (s : Stage) (b : List ℕ) → Lawful s → (n : Naming) (room : ℕ) → Next s b (start_report n) room
name_next s b l n room =
    let o = start-onward n b in
    record {
      stage = opened_by n (report.named (length b) n);
      by = name_step (length b) room s n;
      lawful = stage_lawful (length b) s (start_report n) l;
      holds = o.carries;
      same_length = o.same_length;
    }

first_next : (b : List ℕ) (c : ReportCall) → IsNaming c → (room : ℕ) → Next closed b c room
first_next b c (a_naming {n = n}) room = name_next closed b tt n room

next : (s : Stage) (b : List ℕ) → Lawful s → Holding b s → (c : ReportCall) (room : ℕ) → Next s b c room
next s b l h (start_report n) room = name_next s b l n room
next s b l h (add_batch g) room =
    let o = add_onward (length b) b s g h in
    record {
      stage = stage_after (length b) s (add_batch g);
      by = subst (λ (a : Outcome report.Answer). ReportStep (length b) s (add_batch g) room (mapped shown a) (stage_after (length b) s (add_batch g))) (sym o.1) (step_right (length b) room s (add_batch g) l);
      lawful = stage_lawful (length b) s (add_batch g) l;
      holds = o.0.carries;
      same_length = o.0.same_length;
    }

record Followed (size : ℕ) (s : Stage) (xs : List (Exchange ReportCall)) (b'' : List ℕ) : Type 0 where
  pub stage : Stage
  pub history : ByHistory (ReportStep size) s xs stage
  pub holds : Holding b'' stage

-- one call, and then those behind it
joined : (size : ℕ) {b b' b'' : List ℕ} {x : Exchange ReportCall} {xs : List (Exchange ReportCall)} (s : Stage) → length b ≡ size → (n : Next s b x.call (length x.before))
    → Carries report_machine ReportLent b x b' → Followed size n.stage xs b'' → Followed size s (x ∷ xs) b''
joined size {b} {x = x} s z n t k =
    let o : Outcome Effect = (report_machine b x.call (length x.before)).outcome in
    record {
      stage = k.stage;
      history = told_then o (subst (λ (i : ℕ). ReportStep i s x.call (length x.before) o n.stage) z n.by) t.returns k.history;
      holds = k.holds;
    }

by_history : (size : ℕ) {b b'' : List ℕ} {xs : List (Exchange ReportCall)} (s : Stage) → length b ≡ size → Lawful s → Holding b s → InTurn (Carries report_machine ReportLent) b xs b'' → Followed size s xs b''
by_history size s z l h no_call = record { stage = s; history = told_none; holds = h }
by_history size {b} s z l h (and_then {x = x} t ts) =
    let n = next s b l h x.call (length x.before) in
    let e = t.hands_on in
    joined size s z n t (by_history size n.stage (ap length e ∙ n.same_length ∙ z) n.lawful (subst (λ (c : List ℕ). Holding c n.stage) (sym e) n.holds) ts)

-- a list that begins with a naming, whatever the bytes held
from_start : {b b'' : List ℕ} {x : Exchange ReportCall} {xs : List (Exchange ReportCall)} → IsNaming x.call → InTurn (Carries report_machine ReportLent) b (x ∷ xs) b'' → Followed (length b) closed (x ∷ xs) b''
from_start i (and_then {b = b} {x = x} t ts) =
    let n = first_next b x.call i (length x.before) in
    let e = t.hands_on in
    joined (length b) closed refl n t (by_history (length b) n.stage (ap length e ∙ n.same_length) n.lawful (subst (λ (c : List ℕ). Holding c n.stage) (sym e) n.holds) ts)

-- ---- the steps leave no choice

one_reach : {text g : List ℕ} {target : ℤ} {x y : Reach} → FarFrom text target g x → FarFrom text target g y → x ≡ y
one_reach {text} {g} {target} (at_distance {t = t} v d e r m) (at_distance {t = t'} v' d' e' r' m') =
    let q : v ≡ v' = one_index v v' (e.1 ∙ sym e'.1) in
    ap away (one-distance (readings g) t' v' d d' (subst (λ (x : Text). Distance (readings g) x v' d) (same_text text t t' r r') (subst (λ (i : ℕ). Distance (readings g) t i d) q m)) m')
one_reach {text} {g} (at_distance {t = t} v d e r m) (no_member {t = t'} r' n) = absurd (n m.nearest m.on-axis (subst (λ (x : Text). Member (readings g) x m.nearest) (same_text text t t' r r') m.member))
one_reach {text} {g} (no_member {t = t} r n) (at_distance {t = t'} v d e r' m) = absurd (n m.nearest m.on-axis (subst (λ (x : Text). Member (readings g) x m.nearest) (same_text text t' t r' r) m.member))
one_reach (no_member r n) (no_member r' n') = refl

module _ {bytes room : ℕ} where
  one_step : {s s' s'' : Stage} {c : ReportCall} {o o' : Outcome Effect} → ReportStep bytes s c room o s' → ReportStep bytes s c room o' s'' → (o ≡ o') × (s' ≡ s'')
  one_step (named h) (named k) = (refl, refl)
  one_step (named {n = n} h) (not_named {k = k} {p = p} f) = absurd (first-met (naming_refusals n bytes) k p f h)
  one_step (not_named {n = n} {k = k} {p = p} f) (named h) = absurd (first-met (naming_refusals n bytes) k p f h)
  one_step (not_named {n = n} {k = k} {p = p} f) (not_named {k = m} {p = q} h) =
      let e = same_refusal (naming_refusals n bytes) (at_0, (at_0, (at_0, (at_0, (at_0, (at_0, tt)))))) k p m q f h in
      (ap₂ refused e.0 e.1, refl)
  one_step no-report no-report = (refl, refl)
  one_step (stopped h) (stopped k) = (one-outcome h k, refl)
  one_step (stopped {k = k} {p = p} h) (taken {e = a} x r m c) = no_result k p a (one-outcome h r)
  one_step (stopped {k = k} {p = p} h) (given {e = a} x r m c f) = no_result k p a (one-outcome h r)
  one_step (taken {e = a} x r m c) (stopped {k = k} {p = p} h) = no_result k p a (one-outcome h r)
  one_step (taken {n = n} {xs = xs} x r m c) (taken x' r' m' c') = (refl, ap (λ (y : Reach). under_way n (xs ++ y ∷ [])) (one_reach m m'))
  one_step (taken x r m c) (given x' r' m' c' f) = absurd (c c')
  one_step (given {e = a} x r m c f) (stopped {k = k} {p = p} h) = no_result k p a (one-outcome h r)
  one_step (given x r m c f) (taken x' r' m' c') = absurd (c' c)
  one_step (given {xs = xs} x r m c f) (given x' r' m' c' f') = (ap (λ (y : Reach). result (report_of (xs ++ y ∷ []) (distances_in (xs ++ y ∷ [])))) (one_reach m m'), refl)

-- ---- from kept readings

module _ {size : ℕ} where
  one_history : {s s' s'' : Stage} {xs : List (Exchange ReportCall)} → ByHistory (ReportStep size) s xs s' → ByHistory (ReportStep size) s xs s'' → s' ≡ s''
  one_history told_none told_none = refl
  one_history {s'' = s''} (told_then {xs = xs} o p r h) (told_then o' p' r' h') =
      one_history h (subst (λ (t : Stage). ByHistory (ReportStep size) t xs s'') (sym (one_step p p').1) h')

module _ (marks recording held : List ℕ) (acc : AcceptedRecording recording) (sel : Selection (marks_of marks) recording held) where
  same_reach : (text : List ℕ) → Askable marks text → (target : ℤ) → reach_of held text target ≡ reach_of recording text target
  same_reach text k target = assured_reach marks recording held (accepted-lines recording acc) sel text (assured_text marks text k) target

  same_addition : (b : List ℕ) (s : Stage) → Holding b s → AskedIn marks s → addition_in b held ≡ addition_in b recording
  same_addition b closed h k = h held ∙ sym (h recording)
  same_addition b (under_way n xs) h k =
      under-added b n xs h held ∙ ap (added_to (running_of n.count xs)) (same_reach n.text k n.target) ∙ sym (under-added b n xs h recording)

  kept_same : {b b'' : List ℕ} {x : Exchange ReportCall} {xs : List (Exchange ReportCall)} {s : Stage} → IsNaming x.call → InTurn (Carries report_machine ReportLent) b (x ∷ xs) b''
      → ByHistory (ReportStep (length b)) closed (x ∷ xs) s → AskedIn marks s → (room : ℕ) → report_machine b'' (add_batch held) room ≡ report_machine b'' (add_batch recording) room
  kept_same {b'' = b''} i t h k room =
      let f = from_start i t in
      ap (λ (a : Addition). record { outcome = mapped shown (answer_in a); state = add_after a b'' })
      (same_addition b'' f.stage f.holds (subst (AskedIn marks) (one_history h f.history) k))

-- ---- any bytes

none_holds : (b : List ℕ) → no_report b ≡ true → HoldsNone report_machine IsNaming 15 b
none_holds b h (start_report n) k room = absurd (k a_naming)
none_holds b h (add_batch g) k room =
    ap (λ (a : Addition). record { outcome = mapped shown (answer_in a); state = add_after a b }) (ap (λ (t : Bool). cond t none (added_to (report_in b) (reach_at g (report_text b) (index_in b)))) h)

not_naming : (g : List ℕ) → ¬ IsNaming (add_batch g)
not_naming g i = by (add_batch g) refl i
  where
    by : (c : ReportCall) → add_batch g ≡ c → IsNaming c → ⊥
    by c e (a_naming {n = n}) = let z : ◌≡◌ {A = ℕ} 0 1 = cc in bad z
      where
        bad : ◌≡◌ {A = ℕ} 0 1 → ⊥
        bad z = omega arith

-- bytes that hold a report do not answer 15 to a recording without a record
empty_stops : (b : List ℕ) → no_report b ≡ false → addition_in b [] ≡ running.stopped 4 0
unfolding reach_at judged first_bad least
empty_stops b h = ap (λ (t : Bool). cond t none (added_to (report_in b) (reach_at [] (report_text b) (index_in b)))) h

holds_none : (b : List ℕ) → HoldsNone report_machine IsNaming 15 b → no_report b ≡ true
holds_none b k = by (no_report b) refl
  where
    numbered : Outcome Effect → ℕ
    numbered (result x) = 0
    numbered (refused n p) = n

    by : (t : Bool) → no_report b ≡ t → no_report b ≡ true
    by true e = e
    by false e =
        let z : ◌≡◌ {A = ℕ} 4 15 =
        ap (λ (a : Addition). numbered (mapped shown (answer_in a))) (sym (empty_stops b e)) ∙ ap (λ (x : Transition). numbered x.outcome) (k (add_batch []) (not_naming []) 0) in
        absurd (bad z)
      where
        bad : ◌≡◌ {A = ℕ} 4 15 → ⊥
        bad z = omega arith

-- the head of a report that was named
named_head : (n : Naming) (b : List ℕ) (x : Effect) → mapped shown (report.named (length b) n) ≡ result x → word (naming_after n (named_index n (length b)) b) 0 ≡ report_signature
named_head n b x e = by (named_index n (length b)) refl
  where
    by : (o : Outcome ℕ) → named_index n (length b) ≡ o → word (naming_after n o b) 0 ≡ report_signature
    by (result v) q = word-front report_signature (drop 4 (naming_after n (result v) b)) (omega arith)
    by (refused k p) q = no_result k p x (sym (ap (mapped shown) (named-mapped n b ∙ ap (mapped (λ (j : ℕ). report.taken)) q)) ∙ e)

other_head_none : (b : List ℕ) → ¬ (word b 0 ≡ report_signature) → no_report b ≡ true
other_head_none b k = stateless_none b (sym (other_head b k))

no_head : (p q r s x : ℕ) → p ≡ x → q ≡ x → r ≡ x → s ≡ x → (x ≡ 0) ⊎ (x ≡ 255) → p + 256 * q + 65536 * r + 16777216 * s ≡ report_signature → ⊥
no_head p q r s x a b c d h e = ⊎_elim (λ z. omega arith) (λ z. omega arith) h

all_alike : (b : List ℕ) (x : ℕ) → (x ≡ 0) ⊎ (x ≡ 255) → ((i : ℕ) → i < length b → get_or b i 0 ≡ x) → no_report b ≡ true
all_alike b x h a =
    ⊎_elim (λ l. stateless_none b (sym (too_short b l)))
    (λ l. other_head_none b (no_head (get_or b 0 0) (get_or b 1 0) (get_or b 2 0) (get_or b 3 0) x (a 0 (omega arith)) (a 1 (omega arith)) (a 2 (omega arith)) (a 3 (omega arith)) h)) (less_or_not (length b) report_bytes)

-- what a refusal leaves
abbrev Ends : (b b' : List ℕ) → Type 0
Ends b b' = (b' ≡ b) ⊎ ((¬ HoldsNone report_machine IsNaming 15 b) × HoldsNone report_machine IsNaming 15 b' × (drop 4 b' ≡ drop 4 b))

closed-ends : (b : List ℕ) → no_report b ≡ false → Ends b (closed_bytes b)
closed-ends b h = inr (λ k. clash (holds_none b k) h, none_holds (closed_bytes b) (closed_none b), refl)

name_ends : (n : Naming) (b : List ℕ) (k p : ℕ) → mapped shown (report.named (length b) n) ≡ refused k p → Ends b (naming_after n (named_index n (length b)) b)
name_ends n b k p e = by (named_index n (length b)) refl
  where
    ended : (t : Bool) → no_report b ≡ t → Ends b (cond t b (closed_bytes b))
    ended true h = inl refl
    ended false h = closed-ends b h

    by : (o : Outcome ℕ) → named_index n (length b) ≡ o → Ends b (naming_after n o b)
    by (result v) q = no_result k p (effect 0 []) (sym e ∙ ap (mapped shown) (named-mapped n b ∙ ap (mapped (λ (j : ℕ). report.taken)) q))
    by (refused i j) q = ended (no_report b) refl

add_ends : (b g : List ℕ) (n p : ℕ) → mapped shown (answer_in (addition_in b g)) ≡ refused n p → Ends b (add_after (addition_in b g) b)
add_ends b g n p e = by (no_report b) refl
  where
    of : (a : Addition) → no_report b ≡ false → mapped shown (answer_in a) ≡ refused n p → Ends b (add_after a b)
    of none h q = inl refl
    of (running.stopped i j) h q = closed-ends b h
    of (further r) h q = no_result n p (effect 0 []) (sym q)
    of (last r) h q = no_result n p (shown (report.given (figures_in r))) (sym q)

    by : (t : Bool) → no_report b ≡ t → Ends b (add_after (addition_in b g) b)
    by true h = inl (ap (λ (t : Bool). add_after (cond t none (added_to (report_in b) (reach_at g (report_text b) (index_in b)))) b) h)
    by false h = of (addition_in b g) h e

any-ends : (b : List ℕ) (c : ReportCall) (room n p : ℕ) → (report_machine b c room).outcome ≡ refused n p → Ends b (report_machine b c room).state
any-ends b (start_report m) room n p e = name_ends m b n p e
any-ends b (add_batch g) room n p e = add_ends b g n p e

-- 15 leaves every byte
fifteen_stays : (b g : List ℕ) (room p : ℕ) → (report_machine b (add_batch g) room).outcome ≡ refused 15 p
    → (report_machine b (add_batch g) room).state ≡ b
fifteen_stays b g room p e = of (addition_in b g) (in_fine b g) e
  where
    number : Outcome Effect → ℕ
    number (result x) = 0
    number (refused n p) = n

    of : (a : Addition) → Fine a b → mapped shown (answer_in a) ≡ refused 15 p → add_after a b ≡ b
    of none f q = refl
    of (running.stopped n _) f q = let l = f.stopping.1 in let z : n ≡ 15 = ap number q in absurd (omega arith)
    of (further r) f q = no_result 15 p (effect 0 []) (sym q)
    of (last r) f q = no_result 15 p (shown (report.given (figures_in r))) (sym q)

-- the numbers
pub judged-numbered : {R : Type 0} (ls : List Line) (r : R) (n p : ℕ) → judged ls r ≡ refused n p → Memᴰ n (map (λ (l : Line). l.number) ls)
unfolding judged
judged-numbered [] r n p e = no_result n p r (sym e)
judged-numbered {R} (l ∷ ls) r n p e = go l.meets e (judged-numbered ls r n p)
  where
    number : Outcome R → ℕ
    number (result x) = 0
    number (refused m q) = m

    go : (b : Bool) → cond b (refused l.number l.place) (judged ls r) ≡ refused n p → (judged ls r ≡ refused n p → Memᴰ n (map (λ (l : Line). l.number) ls))
        → Memᴰ n (map (λ (l : Line). l.number) (l ∷ ls))
    go true q rest = Memᴰ.head (sym (ap number q))
    go false q rest = Memᴰ.tail (rest q)

-- a batch that is counted is taken or the last
abbrev Stopless : Addition → Type 0
Stopless none = ⊥
Stopless (running.stopped n p) = ⊥
Stopless (further r) = Unit {0}
Stopless (last r) = Unit {0}

counted_stopless : (r : Report) → Stopless (counted r)
counted_stopless r = by (eqb r.taken r.count)
  where
    by : (t : Bool) → Stopless (cond t (last r) (further r))
    by true = tt
    by false = tt

listed-number : (b : List ℕ) (c : ReportCall) (room n p : ℕ) → (report_machine b c room).outcome ≡ refused n p → Memᴰ n (report_numbers c)
listed-number b (start_report m) room n p e = by (report.named (length b) m) refl e
  where
    by : (o : Outcome report.Answer) → report.named (length b) m ≡ o → mapped shown o ≡ refused n p → Memᴰ n (report_numbers (start_report m))
    by (result x) h q = no_result n p (shown x) (sym q)
    by (refused k j) h q = subst (λ (i : ℕ). Memᴰ i (report_numbers (start_report m))) (ap number q) (judged-numbered (naming_lines m (length b)) report.taken k j h)
      where
        number : Outcome Effect → ℕ
        number (result x) = 0
        number (refused m q) = m
listed-number b (add_batch g) room n p e = judged-listed (counted (with_batch (report_in b) (reach_in (answer g (report_text b)) (index_in b)))) (counted_stopless (with_batch (report_in b) (reach_in (answer g (report_text b)) (index_in b)))) (sym (ap (mapped shown) (handed-judged b g)) ∙ e)
  where
    number : Outcome Effect → ℕ
    number (result x) = 0
    number (refused m q) = m

    given_result : (a : Addition) → Stopless a → mapped shown (answer_in a) ≡ refused n p → Memᴰ n (report_numbers (add_batch g))
    given_result none s q = absurd s
    given_result (running.stopped i j) s q = absurd s
    given_result (further r) s q = no_result n p (effect 0 []) (sym q)
    given_result (last r) s q = no_result n p (shown (report.given (figures_in r))) (sym q)

    judged-listed : (y : Addition) → Stopless y → mapped shown (handed (judged (handed_lines b g) y)) ≡ refused n p → Memᴰ n (report_numbers (add_batch g))
    judged-listed y s q = by (judged (handed_lines b g) y) refl q
      where
        by : (o : Outcome Addition) → judged (handed_lines b g) y ≡ o → mapped shown (handed o) ≡ refused n p → Memᴰ n (report_numbers (add_batch g))
        by (refused k j) h q = subst (λ (i : ℕ). Memᴰ i (report_numbers (add_batch g))) (ap number q) (judged-numbered (handed_lines b g) y k j h)
        by (result a) h q = given_result a (subst Stopless (result_none (handed_lines b g) y a h).1 s) q

-- ---- REPORTS
pub reports : Reports report_machine
reports = record {
  every_list = λ i t. let f = from_start i t in (f.stage, f.history);
  from_none = λ {b} h t. let f = by_history (length b) closed refl tt (carried.no-report b (holds_none b h)) t in (f.stage, f.history);
  step_once = one_step;
  from-kept = λ marks {recording} {held} a s i t h k room. kept_same marks recording held a s i t h k room;
  any-bytes = record {
    short = λ b l. none_holds b (stateless_none b (sym (too_short b l)));
    other_format = λ b b' c room x i e k. format b b' c room x i e k;
    alike = λ b x h a. none_holds b (all_alike b x h a);
    same_length = λ b c room. (left b c room).same_length;
    behind = λ b c room. (left b c room).same;
    refusal_ends = any-ends;
  };
  no_report_stays = fifteen_stays;
  listed = listed-number;
}
  where
    format : (b b' : List ℕ) (c : ReportCall) (room : ℕ) (x : Effect) → IsNaming c → (report_machine b' c room).outcome ≡ result x
        → ¬ (word b 0 ≡ word (report_machine b' c room).state 0) → HoldsNone report_machine IsNaming 15 b
    format b b' c room x (a_naming {n = n}) e k = none_holds b (other_head_none b (λ h. k (h ∙ sym (named_head n b' x e))))

    left : (b : List ℕ) (c : ReportCall) (room : ℕ) → Behind b (report_machine b c room).state
    left b (start_report n) room = start_behind n b
    left b (add_batch g) room = add_behind b g
