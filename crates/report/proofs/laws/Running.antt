-- The figures of the report under way are those of the list of its batches.
use Rattle.std.specs.Prelude.{ℕ, suc, ◌+◌, ◌-◌, ◌*◌, ◌≤◌, ◌<◌, ◌≡◌, refl, Bool, true, false, ◌||◌, List, [], ◌∷◌, ◌++◌, T, eqb, ltb, leb, length, Float}
use Rattle.std.proofs.Common.{arith, ◌∙◌, subst, length-append, eq-eqb, ne_eqb, ltb-false, leb-false, lt-ltb, le-ltb, le-leb}
use Rattle.std.proofs.Math.Path.{sym, ap}
use Rattle.std.proofs.Math.Bool.{cond}
use Rattle.std.specs.Float.{nan, inf, fin}
use Rattle.std.specs.Float.Ieee.{ne, is_nan}
use Rattle.std.specs.Float.Ieee.Compare.{differs_from_itself, nan_differs}
use Rattle.std.proofs.lemmas.Bool.{lt-leb}
use Rattle.number.proofs.laws.Boolean.{none_left, none_right, or_none, or_left, or_right, clash, or_pass}
use Rattle.refusal.specs.Outcome.{Outcome, result, refused, Line, judged, NoneMeets}
use Rattle.recording.specs.Recording.{recording_lines, no_record}
use Rattle.recording.proofs.laws.Outcome.{no_result, result_none, none_append}
use Rattle.text.specs.Told.{text_lines}
use Rattle.question.specs.Question.{read, answer, asking_lines, set_lines}
use Rattle.binary64.specs.Degree.{degree_of}
use Rattle.degree.specs.Degree.{Reach, away, nowhere, reach_in}
use Rattle.mean.specs.inner.Running.{start, next, run_from, running}
use Rattle.mean.proofs.laws.Running.{running_is}
use Rattle.mean.specs.declared.Mean.{Mean}
use Rattle.report.specs.Report.{MeanDegree, no_mean, mean_degree, Figures, met_in, empty_in, distances_in, sum_in, mean_in, figures_of, most_batches}
use Rattle.report.specs.inner.Running.{running_of, with_batch, figures_in, faulty, Sound, Addition, none, further, last, counted, added_to, some_meets, unread, unsound, addition_to, added_with, Small}
use Rattle.degree.specs.inner.Reach.{reach_at}
use Rattle.degree.proofs.laws.Reach.{at_small}
use Rattle.report.specs.declared.Report.{Report}

-- ---- one batch more

met_more : (xs : List Reach) (d : ℕ) → met_in (xs ++ away d ∷ []) ≡ met_in xs + cond (eqb d 0) 1 0
met_more [] d = omega arith
met_more (away e ∷ xs) d = let h = met_more xs d in omega arith
met_more (nowhere ∷ xs) d = met_more xs d

met_same : (xs : List Reach) → met_in (xs ++ nowhere ∷ []) ≡ met_in xs
met_same [] = refl
met_same (away e ∷ xs) = ap (λ (n : ℕ). cond (eqb e 0) 1 0 + n) (met_same xs)
met_same (nowhere ∷ xs) = met_same xs

empty_same : (xs : List Reach) (d : ℕ) → empty_in (xs ++ away d ∷ []) ≡ empty_in xs
empty_same [] d = refl
empty_same (away e ∷ xs) d = empty_same xs d
empty_same (nowhere ∷ xs) d = ap suc (empty_same xs d)

empty_more : (xs : List Reach) → empty_in (xs ++ nowhere ∷ []) ≡ empty_in xs + 1
empty_more [] = refl
empty_more (away e ∷ xs) = empty_more xs
empty_more (nowhere ∷ xs) = let h = empty_more xs in omega arith

distances_more : (xs : List Reach) (d : ℕ) → distances_in (xs ++ away d ∷ []) ≡ distances_in xs ++ d ∷ []
distances_more [] d = refl
distances_more (away e ∷ xs) d = ap (λ (l : List ℕ). e ∷ l) (distances_more xs d)
distances_more (nowhere ∷ xs) d = distances_more xs d

distances_same : (xs : List Reach) → distances_in (xs ++ nowhere ∷ []) ≡ distances_in xs
distances_same [] = refl
distances_same (away e ∷ xs) = ap (λ (l : List ℕ). e ∷ l) (distances_same xs)
distances_same (nowhere ∷ xs) = distances_same xs

sum_more : (ds : List ℕ) (d : ℕ) → sum_in (ds ++ d ∷ []) ≡ sum_in ds + d
sum_more [] d = omega arith
sum_more (e ∷ ds) d = let h = sum_more ds d in omega arith

length_more : {X : Type 0} (xs : List X) (x : X) → length (xs ++ x ∷ []) ≡ length xs + 1
length_more xs x = length-append xs (x ∷ [])

-- the batches that the mean counts are all but the empty ones
pub counted_distances : (xs : List Reach) → length (distances_in xs) + empty_in xs ≡ length xs
counted_distances [] = refl
counted_distances (away e ∷ xs) = let h = counted_distances xs in omega arith
counted_distances (nowhere ∷ xs) = let h = counted_distances xs in omega arith

run_more : (ds : List ℕ) (d : ℕ) (m : Mean) (n : ℕ) → run_from m n (ds ++ d ∷ []) ≡ next (run_from m n ds) (n + length ds + 1) (degree_of d)
run_more [] d m n = let e : suc n ≡ n + 0 + 1 = omega arith in ap (λ (k : ℕ). next m k (degree_of d)) e
run_more (e ∷ ds) d m n =
    let k : ℕ = length ds in
    let p : suc n + k + 1 ≡ n + suc k + 1 = omega arith in
    run_more ds d (next m (suc n) (degree_of e)) (suc n) ∙ ap (λ (j : ℕ). next (run_from (next m (suc n) (degree_of e)) (suc n) ds) j (degree_of d)) p

-- equal figures are an equal report
pub same_report : (n t t' m m' e e' d d' : ℕ) (f f' : Mean) → t ≡ t' → m ≡ m' → e ≡ e' → d ≡ d' → f ≡ f'
    → ◌≡◌ {A = Report} (record { count = n; taken = t; met = m; empty = e; distances = d; mean = f }) (record { count = n; taken = t'; met = m'; empty = e'; distances = d'; mean = f' })
same_report n t t' m m' e e' d d' f f' a b c g h = λ i. record { count = n; taken = a i; met = b i; empty = c i; distances = g i; mean = h i }

-- THE REPORT WITH ONE BATCH MORE is that of the list with one batch more
pub batch_more : (n : ℕ) (xs : List Reach) (x : Reach) → with_batch (running_of n xs) x ≡ running_of n (xs ++ x ∷ [])
batch_more n xs (away d) =
    let c = counted_distances xs in
    let k : length xs + 1 - empty_in xs ≡ 0 + length (distances_in xs) + 1 = omega arith in
    same_report n _ _ _ _ _ _ _ _ _ _ (sym (length_more xs (away d))) (sym (met_more xs d)) (sym (empty_same xs d))
    (sym (ap sum_in (distances_more xs d) ∙ sum_more (distances_in xs) d))
    (ap (λ (j : ℕ). next (running (distances_in xs)) j (degree_of d)) k ∙ sym (ap running (distances_more xs d) ∙ run_more (distances_in xs) d start 0))
batch_more n xs nowhere =
    same_report n _ _ _ _ _ _ _ _ _ _ (sym (length_more xs nowhere)) (sym (met_same xs)) (sym (empty_more xs)) (sym (ap sum_in (distances_same xs))) (sym (ap running (distances_same xs)))

-- ---- the figures

same_figures : (m e d : ℕ) (x y : MeanDegree) → x ≡ y → ◌≡◌ {A = Figures} (record { met = m; empty = e; distances = d; mean = x }) (record { met = m; empty = e; distances = d; mean = y })
same_figures m e d x y p = λ i. record { met = m; empty = e; distances = d; mean = p i }

pub figures_running : (n : ℕ) (xs : List Reach) → figures_in (running_of n xs) ≡ figures_of xs
figures_running n xs = same_figures (met_in xs) (empty_in xs) (sum_in (distances_in xs)) _ _ (by (distances_in xs) refl)
  where
    by : (ds : List ℕ) → distances_in xs ≡ ds → cond (eqb (empty_in xs) (length xs)) no_mean (mean_degree (running (distances_in xs)).mean) ≡ mean_in (distances_in xs)
    by [] e =
        let c = counted_distances xs in
        let l : length (distances_in xs) ≡ 0 = ap length e in
        ap (λ (b : Bool). cond b no_mean (mean_degree (running (distances_in xs)).mean)) (eq-eqb (empty_in xs) (length xs) (omega arith)) ∙ sym (ap mean_in e)
    by (d ∷ ds) e =
        let c = counted_distances xs in
        let l : length (distances_in xs) ≡ suc (length ds) = ap length e in
        ap (λ (b : Bool). cond b no_mean (mean_degree (running (distances_in xs)).mean)) (ne_eqb (empty_in xs) (length xs) (λ z. omega arith))
        ∙ ap (λ (l : List ℕ). mean_degree (running l).mean) e ∙ ap (λ (m : Mean). mean_degree m.mean) (running_is (d ∷ ds) (omega arith)) ∙ sym (ap mean_in e)

-- ---- a report that is not faulty

-- the tests of a report, one by one
pub sound_of : (r : Report) → faulty r ≡ false → Sound r
sound_of r h =
    let a = none_right (leb r.count r.taken) _ h in
    let b = none_right (ltb most_batches r.count) _ a in
    let c = none_right (ltb r.taken (r.met + r.empty)) _ b in
    let d = none_right (ltb (4000000000 * r.taken) r.distances) _ c in
    record {
      more = leb-false r.count r.taken (none_left (leb r.count r.taken) _ h);
      few = ltb-false most_batches r.count (none_left (ltb most_batches r.count) _ a);
      parts = ltb-false r.taken (r.met + r.empty) (none_left (ltb r.taken (r.met + r.empty)) _ b);
      small = ltb-false (4000000000 * r.taken) r.distances (none_left (ltb (4000000000 * r.taken) r.distances) _ c);
      sum_number = none_left (is_nan r.mean.sum) _ d;
      mean_number = none_right (is_nan r.mean.sum) _ d;
    }

pub sound_not : (r : Report) → Sound r → faulty r ≡ false
sound_not r s =
    or_none (lt-leb r.count r.taken s.more) (or_none (le-ltb most_batches r.count s.few) (or_none (le-ltb r.taken (r.met + r.empty) s.parts)
    (or_none (le-ltb (4000000000 * r.taken) r.distances s.small) (or_none s.sum_number s.mean_number))))

module _ (r : Report) where
  abbrev whole : Bool
  whole = leb r.count r.taken

  abbrev many : Bool
  many = ltb most_batches r.count

  abbrev parts : Bool
  parts = ltb r.taken (r.met + r.empty)

  abbrev far : Bool
  far = ltb (4000000000 * r.taken) r.distances

  abbrev no_sum : Bool
  no_sum = is_nan r.mean.sum

  abbrev no-mean : Bool
  no-mean = is_nan r.mean.mean

  pub fault_whole : r.count ≤ r.taken → true ≡ faulty r
  fault_whole h = sym (or_left whole _ (le-leb _ _ h))

  pub fault_many : most_batches < r.count → true ≡ faulty r
  fault_many h = sym (or_right whole _ (or_left many _ (lt-ltb _ _ h)))

  pub fault_parts : r.taken < r.met + r.empty → true ≡ faulty r
  fault_parts h = sym (or_right whole _ (or_right many _ (or_left parts _ (lt-ltb _ _ h))))

  pub fault_far : 4000000000 * r.taken < r.distances → true ≡ faulty r
  fault_far h = sym (or_right whole _ (or_right many _ (or_right parts _ (or_left far _ (lt-ltb _ _ h)))))

  pub fault_sum : no_sum ≡ true → true ≡ faulty r
  fault_sum h = sym (or_right whole _ (or_right many _ (or_right parts _ (or_right far _ (or_left no_sum no-mean h)))))

  pub fault_mean : r.taken < r.count → r.count ≤ most_batches → r.met + r.empty ≤ r.taken → r.distances ≤ 4000000000 * r.taken → no_sum ≡ false → no-mean ≡ faulty r
  fault_mean a b c d e =
      let f : (whole || (many || (parts || (far || (no_sum || no-mean))))) ≡ no-mean =
      or_pass whole _ (lt-leb _ _ a) ∙ or_pass many _ (le-ltb _ _ b) ∙ or_pass parts _ (le-ltb _ _ c) ∙ or_pass far _ (le-ltb _ _ d) ∙ or_pass no_sum no-mean e in
      sym f

-- only a NaN differs from itself
pub differs_nan : (x : Float) → ne x x ≡ is_nan x
unfolding is_nan
differs_nan x = by (ne x x) refl x refl
  where
    by : (b : Bool) → ne x x ≡ b → (y : Float) → x ≡ y → b ≡ is_nan x
    by true e y z = sym (ap is_nan (differs_from_itself x (subst T (sym e) tt)))
    by false e nan z = absurd (clash nan_differs (sym (ap (λ (u : Float). ne u u) z) ∙ e))
    by false e (inf s) z = sym (ap is_nan z)
    by false e (fin s m k) z = sym (ap is_nan z)

-- ---- the next recording

pub counted-last : (r : Report) → r.taken ≡ r.count → last r ≡ counted r
counted-last r e = sym (ap (λ (b : Bool). cond b (last r) (further r)) (eq-eqb r.taken r.count e))

pub counted_taken : (r : Report) → (r.taken ≡ r.count → ⊥) → further r ≡ counted r
counted_taken r e = sym (ap (λ (b : Bool). cond b (last r) (further r)) (ne_eqb r.taken r.count e))

-- a batch that is counted
pub batch_added : (r next : Report) (text : List ℕ) (x : Reach) (o : Outcome Reach) (a : Addition) → o ≡ result x → next ≡ with_batch r x → a ≡ counted next → a ≡ added_with r text o
batch_added r next text x o a e n h = h ∙ ap counted n ∙ sym (ap (added_with r text) e)

pub some_none : (ls : List Line) → NoneMeets ls → some_meets ls ≡ false
some_none [] n = refl
some_none (l ∷ ls) n = or_none n.0 (some_none ls n.1)

pub none_some : (ls : List Line) → some_meets ls ≡ false → NoneMeets ls
none_some [] h = tt
none_some (l ∷ ls) h = (none_left l.meets (some_meets ls) h, none_some ls (none_right l.meets (some_meets ls) h))

pub some_refused : {R : Type 0} (ls : List Line) (r : R) (n p : ℕ) → judged ls r ≡ refused n p → some_meets ls ≡ true
unfolding judged
some_refused [] r n p e = no_result n p r (sym e)
some_refused (l ∷ ls) r n p e = go l.meets e (some_refused ls r n p)
  where
    go : (b : Bool) → cond b (refused l.number l.place) (judged ls r) ≡ refused n p → (judged ls r ≡ refused n p → some_meets ls ≡ true) → (b || some_meets ls) ≡ true
    go true e rest = refl
    go false e rest = rest e

-- a text that is answered was read
pub reached-read : (recording text : List ℕ) (v : ℕ) (x : Reach) → reach_at recording text v ≡ result x → unread text ≡ false
unfolding reach_at unread
reached-read recording text v x e =
    let n = (result_none (asking_lines recording text ++ set_lines recording (read text)) (reach_in (answer recording text) v) x e).0 in
    let a = (none_append (asking_lines recording text) (set_lines recording (read text)) n).0 in
    some_none (text_lines text) (none_append (recording_lines recording) (no_record recording ∷ text_lines text) a).1.1

module _ (r : Report) (recording text : List ℕ) (v : ℕ) where
  pub unsound_none : unsound r v ≡ true → none ≡ addition_to r recording text v
  unfolding addition_to
  unsound_none h = sym (ap (λ (b : Bool). cond b none (added_to r (reach_at recording text v))) (or_left (unsound r v) (unread text) h))

  pub sound_added : unsound r v ≡ false → (o : Outcome Reach) → o ≡ reach_at recording text v → (a : Addition) → a ≡ added_with r text o → a ≡ addition_to r recording text v
  unfolding addition_to
  sound_added h o e a q = q ∙ by o e ∙ sym (ap (λ (b : Bool). cond b none (added_to r (reach_at recording text v))) (or_pass (unsound r v) (unread text) h))
    where
      by : (o : Outcome Reach) → o ≡ reach_at recording text v → added_with r text o ≡ cond (unread text) none (added_to r (reach_at recording text v))
      by (result x) e = ap (added_to r) e ∙ sym (ap (λ (b : Bool). cond b none (added_to r (reach_at recording text v))) (reached-read recording text v x (sym e)))
      by (refused n p) e = ap (λ (o : Outcome Reach). cond (unread text) none (added_to r o)) e

pub small_reached : (recording text : List ℕ) (v : ℕ) (o : Outcome Reach) → o ≡ reach_at recording text v → Small o
small_reached recording text v (result (away d)) e = at_small recording text v d (sym e)
small_reached recording text v (result nowhere) e = tt
small_reached recording text v (refused n p) e = tt
