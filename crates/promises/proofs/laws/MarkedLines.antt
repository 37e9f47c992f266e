-- The marked lines of R1, and the lines of R2 and R3, hold by one fact: the texts are read by computing, their sets are those of R1Lines, R2Lines and R3Lines,
-- and the runs of a set fix its bytes.
use Rattle.std.specs.Prelude.{ℕ, ◌*◌, zero, suc, ◌+◌, ◌-◌, ◌≤◌, ◌<◌, ◌≡◌, refl, Bool, true, false, ◌&&◌, ◌||◌, not, cond, ◌↔◌, leb, ltb, eqb, ℤ, pos, negsuc, length}
use Rattle.std.proofs.Common.{arith, sym, ◌∙◌, subst, ⊎_elim, leb-true, ltb-true, le-ltb}
use Rattle.std.proofs.Math.Path.{ap, fun_ext}
use Rattle.std.proofs.Math.Bool.{So}
use mathlib.Core.List.Memᴰ
use mathlib.Core.List.{List, [], ◌∷◌, ◌++◌, map, Memᴰ}
use Rattle.number.specs.Axis.{origin, axis, whole}
use Rattle.number.specs.Least.{least}
use Rattle.number.specs.Words.{offset_binary, signed, words_bytes}
use Rattle.refusal.specs.Outcome.{NoneMeets}
use Rattle.recording.specs.Output.{output_line}
use Rattle.recording.proofs.laws.Outcome.{judged_pass, append_none}
use Rattle.recording.specs.R1.{R1}
use Rattle.recording.specs.R2.{R2}
use Rattle.recording.specs.R3.{R3}
use Rattle.recording.proofs.laws.Pigment.{R3-accepted}
use Rattle.recording.specs.Reading.{Reading, A}
use Rattle.recording.specs.Recording as recording
use Rattle.runs.specs.Runs.{run_count, most_runs, starts_at, run_bytes, set_bytes}
use Rattle.runs.specs.Set.{inside, Ascending, Canonical}
use Rattle.runs.proofs.laws.Cuts.{low_cuts, high_cuts, none, behind_run, covers, inside-covers}
use Rattle.runs.proofs.laws.Runs.{cuts-bytes, cuts-count}
use Rattle.grammar.specs.Bytes.{bytes}
use Rattle.grammar.specs.inner.Lexer.{unsigned_at, number_at, pigment_at, pigment_leaf_at, operand_at, comparison_at, timed_at, arguments_at, named_at, headed_at, leaf_at}
use Rattle.grammar.specs.inner.Parse.{one, parse, parsed}
use Rattle.grammar.specs.Size.{too_deep}
use Rattle.grammar.specs.Syntax.{ge, eq, of, v, number, Atom, compare, pigment, Listed, high, low, lowafter, capafter, peaks, dips, cross, crossup, dose, ampl, gaps, lag, Text, atom, listed, next, until}
use Rattle.text.specs.Told.{text_lines}
use Rattle.grammar.proofs.laws.Unique.{reading_is}
use Rattle.number.proofs.laws.Boolean.{same, then, back, or_none, and_left, and_right}
use Rattle.meaning.specs.inner.Coded.{Coded, coded, index}
use Rattle.meaning.specs.Meaning.{Holds}
use Rattle.meaning.proofs.laws.Pick.{Each}
use Rattle.meaning.specs.Ranges.{Run, InRuns}
use Rattle.meaning.proofs.laws.Lines.{Example, Holding, within, OnAxis, in-runs}
use Rattle.meaning.proofs.laws.R1Lines as r1
use Rattle.meaning.proofs.laws.R2Lines as r2
use Rattle.meaning.proofs.laws.R3Lines as r3
use Rattle.meaning.proofs.laws.R1Lines.{marked-lines}
use Rattle.meaning.proofs.laws.R2Lines.{lines_hold}
use Rattle.meaning.proofs.laws.Run.{starts, run-count, Convex, const_convex, point_convex, convex_runs, convex_few}
use Rattle.meaning.proofs.laws.Recorded.{accepted_recorded}
use Rattle.meaning.specs.inner.Truth.{all_of, coded_at, last_coded, until_from, val, some_node, over_at, refused8, refused9}
use Rattle.meaning.proofs.laws.Truth.{val_holds}
use Rattle.meaning.proofs.laws.Whole.{Stands}
use Rattle.question.specs.Question.{the_text, read, answer, asking_lines, set_lines, question_of}
use Rattle.thin.specs.Thin.{kept_bytes, thin_of}
use Rattle.marks.specs.Marks.{marks_of, marks_line, AcceptedMarks}
use Rattle.thin.proofs.laws.R1Calls.{R1-accepted}
use Rattle.thin.proofs.laws.Examples.{R2-accepted}
use Rattle.promises.proofs.laws.FormulasAsked.{same_val, same_eight}
use Rattle.meaning.specs.Formulas.{of_dose}
use Rattle.meaning.proofs.laws.Overfull.{below_none}
use Rattle.promises.specs.Lines.{MarkedLine, marked_lines, R2Lines, R3Lines, bytes_of_runs}
use Rattle.promises.specs.inner.LinesComputed.{written_in, Asked, Thinned, LineHolds}
use Rattle.recording.specs.Condition.{some_of}

-- ---- the runs of a set fix its bytes

-- the two cuts of each run, by their indices
abbrev cuts : List Run → List ℕ
cuts [] = []
cuts (x ∷ l) = index x.low ∷ (index x.high + 1) ∷ cuts l

covered : (l : List Run) (n : ℕ) → covers (low_cuts (cuts l)) (high_cuts (cuts l)) n ≡ some_of (within n) l
unfolding low_cuts high_cuts covers
covered [] n = refl
covered (x ∷ l) n =
    let e : index x.high + 1 - 1 ≡ index x.high = omega arith in
    let t = covered l n in
    λ i. (leb (index x.low) n && leb n (e i)) || t i

-- a whole number of the axis, as a test
abbrev on_axis : ℤ → Bool
on_axis (pos n) = true
on_axis (negsuc n) = ltb n origin

stands : (z : ℤ) → on_axis z ≡ true → Stands z (index z) origin
stands (pos n) h = omega arith
stands (negsuc n) h = omega (arith, ltb-true n origin h)

all_stand : (l : List Run) → all_of (λ x. on_axis x.low && on_axis x.high) l ≡ true → Each OnAxis l
all_stand [] h = tt
all_stand (x ∷ l) h =
    let a = and_left (on_axis x.low && on_axis x.high) _ h in
    ((stands x.low (and_left (on_axis x.low) _ a), stands x.high (and_right (on_axis x.low) _ a)), all_stand l (and_right (on_axis x.low && on_axis x.high) _ h))

-- strictly ascending from m on and within the axis, as a test
abbrev ascends : ℕ → List ℕ → Bool
ascends m [] = true
ascends m (c ∷ l) = leb m c && (leb c axis && ascends (c + 1) l)

ascending : (m : ℕ) (l : List ℕ) → ascends m l ≡ true → Ascending m axis l
ascending m [] h = tt
ascending m (c ∷ l) h =
    let r = and_right (leb m c) _ h in
    (leb-true m c (and_left (leb m c) _ h), leb-true c axis (and_left (leb c axis) _ r), ascending (c + 1) l (and_right (leb c axis) _ r))

ended : (m : ℕ) (l : List Run) → Ascending m axis (cuts l) → inside (cuts l) axis ≡ false
ended m [] a = none axis
ended m (x ∷ l) a =
    behind_run m axis (index x.low) (index x.high + 1) (cuts l) a axis a.2.1 ∙ ended (index x.high + 1 + 1) l a.2.2

-- runs of the axis, ascending, with a gap between any two, and no more than a set holds
abbrev fits : List Run → Bool
fits l = all_of (λ x. on_axis x.low && on_axis x.high) l && (ascends 0 (cuts l) && leb (length (cuts l)) (2 * most_runs))

module _ (l : List Run) (h : fits l ≡ true) where
  on-axis : Each OnAxis l
  on-axis = all_stand l (and_left (all_of (λ x. on_axis x.low && on_axis x.high) l) _ h)

  rest : (ascends 0 (cuts l) && leb (length (cuts l)) (2 * most_runs)) ≡ true
  rest = and_right (all_of (λ x. on_axis x.low && on_axis x.high) l) _ h

  ascend : Ascending 0 axis (cuts l)
  ascend = ascending 0 (cuts l) (and_left (ascends 0 (cuts l)) _ rest)

  canonical : Canonical (cuts l)
  canonical = record { ascending = ascend; ended = ended 0 l ascend }

  few_cuts : length (cuts l) ≤ 2 * most_runs
  few_cuts = leb-true (length (cuts l)) (2 * most_runs) (and_right (ascends 0 (cuts l)) _ rest)

  -- the numbers inside the cuts are those of the runs
  inside_runs : (n : ℕ) → So (inside (cuts l) n) ↔ InRuns l (whole n)
  inside_runs n =
      let e = sym (inside-covers 0 axis (cuts l) n ascend (ended 0 l ascend)) ∙ covered l n in
      then (λ k. sym e ∙ k, λ k. e ∙ k) (in-runs l on-axis n)

-- ---- a line from its parts

-- a line of the meaning, read from a text: 5, 6, 7 and 9 do not refuse it, and 8 does not where the set has at most 256 runs
module _ (R : List ℕ) (accepted : recording.Accepted R) (some : (recording.no_record R).meets ≡ false) {l : Example} (told : Holding (recording.readings R) l) (text : List ℕ) (reads : parsed text ≡ one l.text) (sized : NoneMeets (text_lines text))
    (fit : fits l.runs ≡ true) (written : run_bytes (low_cuts (cuts l.runs)) (high_cuts (cuts l.runs)) ≡ bytes_of_runs l.runs)
    (nine : refused9 (coded R) l.text ≡ false) (eight : run_count (λ n. val (coded R) n l.text 0) ≤ most_runs → refused8 (coded R) l.text ≡ false) where
  is_read : read text ≡ l.text
  is_read = ap the_text reads

  line_holds : (n : ℕ) → n < axis → Holds (recording.readings R) (whole n) l.text 0 ↔ InRuns l.runs (whole n)
  line_holds n h = back (told.set n h)

  line_set : (n : ℕ) → n < axis → So (val (coded R) n l.text 0) ↔ InRuns l.runs (whole n)
  line_set n h = then (val_holds (recording.readings R) (accepted_recorded R accepted).in-range n l.text 0 (omega arith)) (line_holds n h)

  line-inside : (n : ℕ) → n < axis → inside (cuts l.runs) n ≡ val (coded R) n l.text 0
  line-inside n h = same _ _
      (λ e. (line_set n h).1 ((inside_runs l.runs fit n).0 e)) (λ e. (inside_runs l.runs fit n).1 ((line_set n h).0 e))

  line-bytes : set_bytes (λ n. val (coded R) n l.text 0) ≡ bytes_of_runs l.runs
  line-bytes = cuts-bytes (λ n. val (coded R) n l.text 0) (cuts l.runs) (canonical l.runs fit) line-inside ∙ written

  line_few : run_count (λ n. val (coded R) n l.text 0) ≤ most_runs
  line_few =
      omega (arith, few_cuts l.runs fit, cuts-count (λ n. val (coded R) n l.text 0) (cuts l.runs) (canonical l.runs fit) line-inside)

  line_call : (room : ℕ) → question_of R text room ≡ written_in room (bytes_of_runs l.runs)
  unfolding question_of
  line_call room =
      let set : set_bytes (answer R text) ≡ bytes_of_runs l.runs = ap (λ (p : Text). set_bytes (λ n. val (coded R) n p 0)) is_read ∙ line-bytes in
      judged_pass (asking_lines R text) (set_lines R (read text) ++ (output_line room (set_bytes (answer R text)) ∷ [])) (set_bytes (answer R text))
      (append_none (recording.recording_lines R) (recording.no_record R ∷ text_lines text) accepted (some, sized))
      ∙ judged_pass (set_lines R (read text)) (output_line room (set_bytes (answer R text)) ∷ []) (set_bytes (answer R text))
      (ap (refused9 (coded R)) is_read ∙ nine, (ap (refused8 (coded R)) is_read ∙ eight line_few, tt))
      ∙ ap (written_in room) set

  pub asked : Asked R text l.runs
  asked = record {
    reads = (reading_is text (read text)).0 (reads ∙ ap one (sym is_read));
    holds = λ n h. subst (λ (p : Text). Holds (recording.readings R) (whole n) p 0 ↔ InRuns l.runs (whole n)) (sym is_read) (line_holds n h);
    set = λ n h. subst (λ (p : Text). So (val (coded R) n p 0) ↔ InRuns l.runs (whole n)) (sym is_read) (line_set n h);
    maximal = told.maximal;
    call = line_call;
  }

-- ---- refusal 8

-- a listed question has one node, judged at the first record
pub listed-eight : (R : List ℕ) (q : Listed) → run_count (λ n. val (coded R) n (listed q) 0) ≤ most_runs → refused8 (coded R) (listed q) ≡ false
unfolding refused8 some_node
listed-eight R q h = le-ltb most_runs (run_count (λ n. val (coded R) n (listed q) 0)) h

atom_eight : (R : List ℕ) (k : Atom) → run_count (λ n. val (coded R) n (atom k) 0) ≤ most_runs → refused8 (coded R) (atom k) ≡ false
unfolding refused8 some_node
atom_eight R k h = le-ltb most_runs (run_count (λ n. val (coded R) n (atom k) 0)) h

-- `dose(k)` written out
dosed-eight : run_count (λ n. val (coded R3) n r3.dosed 0) ≤ most_runs → refused8 (coded R3) r3.dosed ≡ false
dosed-eight h =
    sym (same_eight of_dose R3 R3-accepted refl)
    ∙ listed-eight R3 (dose 7) (subst (λ (f : ℕ → Bool). run_count f ≤ most_runs) (sym (fun_ext (same_val of_dose R3 R3-accepted refl))) h)

-- the runs of a union are not more than those of its two sides
starts_or : (f g : ℕ → Bool) (n : ℕ) → starts (λ m. f m || g m) n ≤ starts f n + starts g n
unfolding starts
starts_or f g zero = omega arith
starts_or f g (suc n) = let h = starts_or f g n in let k = at n in omega arith
  where
    first : (a b : Bool) → cond (a || b) 1 0 ≤ cond a 1 0 + cond b 1 0
    first true true = omega arith
    first true false = omega arith
    first false true = omega arith
    first false false = omega arith

    later : (a b c d : Bool) → cond ((a || b) && not (c || d)) 1 0 ≤ cond (a && not c) 1 0 + cond (b && not d) 1 0
    later true b true d = omega arith
    later true b false true = omega arith
    later true b false false = omega arith
    later false true true d = omega arith
    later false true false true = omega arith
    later false true false false = omega arith
    later false false c d = omega arith

    at : (n : ℕ) → cond (starts_at (λ m. f m || g m) n) 1 0 ≤ cond (starts_at f n) 1 0 + cond (starts_at g n) 1 0
    at zero = first (f zero) (g zero)
    at (suc n) = later (f (suc n)) (g (suc n)) (f n) (g n)

convex_starts : (f : ℕ → Bool) → Convex f → starts f axis ≤ 1
convex_starts f h = omega (arith, run-count f, convex_runs f h)

-- U(p,q) where v is not in p and q is one number at each record: at most one run for each record from here on
until_starts : (f : ℕ → Bool) (g : ℕ → ℕ) (d i : ℕ) → starts (λ n. until_from f (λ j. eqb n (g j)) d i) axis ≤ suc d
until_starts f g zero i = convex_starts (λ n. eqb n (g i)) (point_convex (g i))
until_starts f g (suc d) i = go (f i) (until_starts f g d (suc i))
  where
    go : (e : Bool) → starts (λ n. until_from f (λ j. eqb n (g j)) d (suc i)) axis ≤ suc d
        → starts (λ n. eqb n (g i) || (e && until_from f (λ j. eqb n (g j)) d (suc i))) axis ≤ suc (suc d)
    go true h =
        omega (arith, h, starts_or (λ n. eqb n (g i)) (λ n. until_from f (λ j. eqb n (g j)) d (suc i)) axis, convex_starts (λ n. eqb n (g i)) (point_convex (g i)))
    go false h =
        omega (arith, starts_or (λ n. eqb n (g i)) (λ n. false) axis, convex_starts (λ n. eqb n (g i)) (point_convex (g i)), convex_starts (λ n. false) (const_convex false))

-- U(A>=k,A=v)
abbrev until_text : ℕ → Text
until_text k = until (atom (compare (of A) ge (number k))) (atom (compare (of A) eq v))

until_over : (r : List Coded) (k i : ℕ) → length r ≤ most_runs → over_at r (until_text k) i ≡ false
unfolding some_node val
until_over r k i h =
    or_none (le-ltb most_runs (run_count (λ n. until_from (λ j. leb k (coded_at r j).a) (λ j. eqb n (coded_at r j).a) (last_coded r - i) i))
    (omega (
      arith,
      run-count (λ n. until_from (λ j. leb k (coded_at r j).a) (λ j. eqb n (coded_at r j).a) (last_coded r - i) i),
      until_starts (λ j. leb k (coded_at r j).a) (λ j. (coded_at r j).a) (last_coded r - i) i,
    )))
    (or_none (convex_few (λ n. leb k (coded_at r i).a) (const_convex (leb k (coded_at r i).a))) (convex_few (λ n. eqb n (coded_at r i).a) (point_convex (coded_at r i).a)))

until_eight : (k : ℕ) → refused8 (coded R1) (until_text k) ≡ false
unfolding refused8
until_eight k = below_none (over_at (coded R1) (until_text k)) (length (coded R1)) (λ i h. until_over (coded R1) k i (leb-true _ _ refl))

-- X(X(P=7)), which has no v
two_on-over : (r : List Coded) (i : ℕ) → over_at r r3.two_on i ≡ false
unfolding some_node val
two_on-over r i =
    or_none (convex_few (λ n. val r n r3.two_on i) (const_convex (val r 0 r3.two_on i)))
    (or_none (convex_few (λ n. val r n (next (atom (pigment 7))) i) (const_convex (val r 0 (next (atom (pigment 7))) i)))
    (convex_few (λ n. val r n (atom (pigment 7)) i) (const_convex (val r 0 (atom (pigment 7)) i))))

two_on-eight : refused8 (coded R3) r3.two_on ≡ false
unfolding refused8
two_on-eight = below_none (over_at (coded R3) r3.two_on) (length (coded R3)) (λ i h. two_on-over (coded R3) i)

-- ---- thinning

module _ (R : List ℕ) (accepted : recording.Accepted R) (marks times : List ℕ) (numbers : marks_of (words_bytes marks) ≡ marks) (fine : AcceptedMarks (words_bytes marks))
    (kept : map (λ (x : Reading). x.time) (recording.readings (kept_bytes marks R)) ≡ times) where
  thinned : Thinned R marks times
  unfolding thin_of
  thinned = record {
    kept = kept;
    call = λ room.
        judged_pass (recording.recording_lines R)
        (marks_line (words_bytes marks) ∷ output_line room (kept_bytes (marks_of (words_bytes marks)) R) ∷ []) (kept_bytes (marks_of (words_bytes marks)) R) accepted
        ∙ judged_pass (marks_line (words_bytes marks) ∷ []) (output_line room (kept_bytes (marks_of (words_bytes marks)) R) ∷ []) (kept_bytes (marks_of (words_bytes marks)) R) fine
        ∙ ap (λ (m : List ℕ). written_in room (kept_bytes m R)) numbers;
  }

-- ---- the lists

each : {X : Type 0} (P : X → Type 0) (l : List X) → ((x : X) → Memᴰ x l → P x) → Each P l
each P [] h = tt
each P (x ∷ l) h = (h x (Memᴰ.head refl), each P l (λ y m. h y (Memᴰ.tail m)))

-- what holds of each holds of any
any : {X : Type 0} (P : X → Type 0) (l : List X) → Each P l → (x : X) → Memᴰ x l → P x
any P [] a x m = absurd (Memᴰ.not-nil m)
any P (y ∷ l) a x m = ⊎_elim (λ e. subst P (sym e) a.0) (any P l a.1 x) (Memᴰ.cases_cons m)

R1-readings : recording.readings R1 ≡ r1.R1
unfolding recording.reading signed offset_binary
R1-readings = refl

told : Each (Holding (recording.readings R1)) r1.marked
told = each (Holding (recording.readings R1)) r1.marked (λ l m. subst (λ (r : List Reading). Holding r l) (sym R1-readings) (marked-lines l m))

R2-readings : recording.readings R2 ≡ r2.R2
unfolding recording.reading signed offset_binary
R2-readings = refl

told_2 : Each (Holding (recording.readings R2)) r2.lines
told_2 = each (Holding (recording.readings R2)) r2.lines (λ l m. subst (λ (r : List Reading). Holding r l) (sym R2-readings) (lines_hold l m))

R3-readings : recording.readings R3 ≡ r3.R3
unfolding recording.reading signed offset_binary
R3-readings = refl

told_3 : Each (Holding (recording.readings R3)) r3.lines
told_3 = each (Holding (recording.readings R3)) r3.lines (λ l m. subst (λ (r : List Reading). Holding r l) (sym R3-readings) (r3.lines_hold l m))

line_1 : {l : Example} → Holding (recording.readings R1) l → (text : List ℕ) → parsed text ≡ one l.text → NoneMeets (text_lines text) → fits l.runs ≡ true
    → run_bytes (low_cuts (cuts l.runs)) (high_cuts (cuts l.runs)) ≡ bytes_of_runs l.runs → refused9 (coded R1) l.text ≡ false
    → (run_count (λ n. val (coded R1) n l.text 0) ≤ most_runs → refused8 (coded R1) l.text ≡ false) → Asked R1 text l.runs
line_1 = asked R1 R1-accepted refl

line_2 : {l : Example} → Holding (recording.readings R2) l → (text : List ℕ) → parsed text ≡ one l.text → NoneMeets (text_lines text) → fits l.runs ≡ true
    → run_bytes (low_cuts (cuts l.runs)) (high_cuts (cuts l.runs)) ≡ bytes_of_runs l.runs → refused9 (coded R2) l.text ≡ false
    → (run_count (λ n. val (coded R2) n l.text 0) ≤ most_runs → refused8 (coded R2) l.text ≡ false) → Asked R2 text l.runs
line_2 = asked R2 R2-accepted refl

line_3 : {l : Example} → Holding (recording.readings R3) l → (text : List ℕ) → parsed text ≡ one l.text → NoneMeets (text_lines text) → fits l.runs ≡ true
    → run_bytes (low_cuts (cuts l.runs)) (high_cuts (cuts l.runs)) ≡ bytes_of_runs l.runs → refused9 (coded R3) l.text ≡ false
    → (run_count (λ n. val (coded R3) n l.text 0) ≤ most_runs → refused8 (coded R3) l.text ≡ false) → Asked R3 text l.runs
line_3 = asked R3 R3-accepted refl

-- THE MARKED LINES OF R1 HOLD
pub marked_hold : (l : MarkedLine) → Memᴰ l marked_lines → LineHolds R1 l
unfolding too_deep least parsed parse unsigned_at number_at operand_at comparison_at timed_at arguments_at named_at headed_at leaf_at low_cuts high_cuts refused9 some_node marks_of kept_bytes recording.reading signed offset_binary
marked_hold =
    any (LineHolds R1) marked_lines (
      line_1 told.0 (bytes "high(A)") refl (refl, (refl, (refl, tt))) refl refl refl (listed-eight R1 (high A)),
      (
        line_1 told.1.0 (bytes "low(A)") refl (refl, (refl, (refl, tt))) refl refl refl (listed-eight R1 (low A)),
        (
          line_1 told.1.1.0 (bytes "ampl(A)") refl (refl, (refl, (refl, tt))) refl refl refl (listed-eight R1 (ampl A)),
          (
            line_1 told.1.1.1.0 (bytes "peaks(A)") refl (refl, (refl, (refl, tt))) refl refl refl (listed-eight R1 (peaks A)),
            (
              line_1 told.1.1.1.1.0 (bytes "gaps(A)") refl (refl, (refl, (refl, tt))) refl refl refl (listed-eight R1 (gaps A)),
              (
                line_1 told.1.1.1.1.1.0 (bytes "cross") refl (refl, (refl, (refl, tt))) refl refl refl (listed-eight R1 cross),
                (
                  line_1 told.1.1.1.1.1.1.1.1.0 (bytes "lag") refl (refl, (refl, (refl, tt))) refl refl refl (listed-eight R1 lag),
                  (
                    line_1 told.1.1.1.1.1.1.1.1.1.0 (bytes "lowafter(A,40)") refl (refl, (refl, (refl, tt))) refl refl refl (listed-eight R1 (lowafter A 2000000040)),
                    (
                      line_1 told.1.1.1.1.1.1.1.1.1.1.0 (bytes "lowafter(A,70)") refl (refl, (refl, (refl, tt))) refl refl refl (listed-eight R1 (lowafter A 2000000070)),
                      (
                        line_1 told.1.1.1.1.1.1.1.1.1.1.1.0 (bytes "capafter(A,70)") refl (refl, (refl, (refl, tt))) refl refl refl (listed-eight R1 (capafter A 2000000070)),
                        (
                          line_1 told.1.1.1.1.1.1.1.1.1.1.1.1.0 (bytes "U(A>=40,A=v)") refl (refl, (refl, (refl, tt))) refl refl refl (λ few. until_eight 2000000040),
                          (
                            thinned R1 R1-accepted _ _ refl (refl, tt) refl,
                            (
                              thinned R1 R1-accepted _ _ refl (refl, tt) refl,
                              (
                                line_1 told.1.1.1.1.1.1.0 (bytes "dips(A)") refl (refl, (refl, (refl, tt))) refl refl refl (listed-eight R1 (dips A)),
                                (
                                  line_1 told.1.1.1.1.1.1.1.0 (bytes "crossup") refl (refl, (refl, (refl, tt))) refl refl refl (listed-eight R1 crossup),
                                  tt,
                                ),
                              ),
                            ),
                          ),
                        ),
                      ),
                    ),
                  ),
                ),
              ),
            ),
          ),
        ),
      ),
    )

-- THE LINES OF R2 HOLD
pub R2-hold : (l : MarkedLine) → Memᴰ l R2Lines → LineHolds R2 l
unfolding too_deep least parsed parse unsigned_at number_at operand_at comparison_at timed_at arguments_at named_at headed_at leaf_at low_cuts high_cuts refused9 some_node marks_of kept_bytes recording.reading signed offset_binary
R2-hold =
    any (LineHolds R2) R2Lines (
      line_2 told_2.0 (bytes "peaks(A)") refl (refl, (refl, (refl, tt))) refl refl refl (listed-eight R2 (peaks A)),
      (
        line_2 told_2.1.0 (bytes "dips(A)") refl (refl, (refl, (refl, tt))) refl refl refl (listed-eight R2 (dips A)),
        (
          thinned R2 R2-accepted _ _ refl (refl, tt) refl,
          (
            thinned R2 R2-accepted _ _ refl (refl, tt) refl,
            (
              thinned R2 R2-accepted _ _ refl (refl, tt) refl,
              tt,
            ),
          ),
        ),
      ),
    )

-- THE LINES OF R3 HOLD
pub R3-hold : (l : MarkedLine) → Memᴰ l R3Lines → LineHolds R3 l
unfolding too_deep least parsed parse unsigned_at number_at pigment_at pigment_leaf_at operand_at comparison_at timed_at arguments_at named_at headed_at leaf_at low_cuts high_cuts refused9 some_node marks_of kept_bytes recording.reading signed offset_binary
R3-hold =
    any (LineHolds R3) R3Lines (
      line_3 told_3.0 (bytes "dose(7)") refl (refl, (refl, (refl, tt))) refl refl refl (listed-eight R3 (dose 7)),
      (
        line_3 told_3.1.0 (bytes "dose(16)") refl (refl, (refl, (refl, tt))) refl refl refl (listed-eight R3 (dose 16)),
        (
          line_3 told_3.1.1.0 (bytes "dose(3)") refl (refl, (refl, (refl, tt))) refl refl refl (listed-eight R3 (dose 3)),
          (
            line_3 told_3.1.1.1.0 (bytes "P=7") refl (refl, (refl, (refl, tt))) refl refl refl (atom_eight R3 (pigment 7)),
            (
              line_3 told_3.1.1.1.1.0 (bytes "X(X(P=7))") refl (refl, (refl, (refl, tt))) refl refl refl (λ few. two_on-eight),
              (
                line_3 told_3.1.1.1.1.1.0 (bytes "F(P=7&T=v)") refl (refl, (refl, (refl, tt))) refl refl refl dosed-eight,
                (
                  thinned R3 R3-accepted _ _ refl (refl, tt) refl,
                  tt,
                ),
              ),
            ),
          ),
        ),
      ),
    )
