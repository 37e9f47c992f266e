-- What each call computes goes over to the caller as the page says, and is right: `every_call` ties the page to the contracts of the layers below.
use Rattle.std.specs.Prelude.{ℕ, ◌+◌, ◌*◌, ◌-◌, ◌≤◌, ◌<◌, ◌≡◌, refl, ◌⊎◌, ◌↔◌, List, [], ◌∷◌, ◌++◌, map, ℤ, pos, negsuc, length, drop, Float, Bool, true, false}
use Rattle.std.proofs.Common.{arith, sym, ap, ap₂, subst, ◌∙◌, true≢false, inl, ⊎_elim, ltb-false}
use Rattle.std.specs.Float.{binary64}
use Rattle.std.specs.Float.Ieee.{to_bits}
use Rattle.number.specs.Axis.{axis, whole}
use Rattle.refusal.specs.Outcome.{Outcome, result, refused, Line}
use Rattle.recording.specs.Reading.{curve_of}
use Rattle.number.proofs.laws.Boolean.{then}
use Rattle.recording.specs.Recording.{readings, recording_lines, no_record}
use Rattle.recording.specs.Output.{counted, output_line}
use Rattle.recording.proofs.laws.Outcome.{no_result, result_none, none_append}
use Rattle.runs.specs.Runs.{set_bytes}
use Rattle.meaning.specs.Meaning.{Holds}
use Rattle.text.specs.Told.{text_lines}
use Rattle.meaning.specs.inner.Coded.{index}
use Rattle.question.specs.Question.{read, answer, asking_lines, set_lines, question_of}
use Rattle.question.proofs.laws.Lines.{read_reads}
use Rattle.binary64.specs.Degree.{distance_of}
use Rattle.degree.specs.Degree.{Value, nearness_of}
use Rattle.degree.specs.Degree as value
use Rattle.degree.specs.Nearest.{Near}
use Rattle.degree.proofs.laws.Nearest.{nearness_says}
use Rattle.degree.specs.inner.Reach.{mapped}
use Rattle.pair.specs.Pair.{Given, times, none, time_at, FirstFitting, pair_of}
use Rattle.band.specs.Means.{Part, empty, run, InPart, Bands, Meant}
use Rattle.band.specs.inner.OnAxis.{EndsOnAxis}
use Rattle.band.specs.Band.{Certain, Possible}
use Rattle.band.specs.Call.{band_of, width_line, extreme_line}
use Rattle.band.proofs.laws.OnAxis.{given_on_axis}
use Rattle.band.proofs.laws.Meant.{band_meant}
use Rattle.sheet.specs.Sheet.{sheet_of}
use Rattle.sheet.specs.Finding.{Finding, all_met, broken_at, TrueFinding}
use Rattle.sheet.specs.Call.{order_of}
use Rattle.sheet.proofs.laws.Finding.{finding_true}
use Rattle.marks.specs.Marks.{marks_of, marks_line}
use Rattle.thin.specs.Thin.{kept_bytes, thin_of}
use Rattle.entry.specs.inner.Reckoned.{above, under, utmost, reckoned}
use Rattle.entry.specs.Call.{entry_lines, entry_of}
use Rattle.entry.proofs.laws.Entry.{greatest_is, least_is}
use Rattle.listing.specs.Listing.{listing}
use Rattle.listing.specs.Call.{bad_summary, level_lines, find_of}
use Rattle.listing.proofs.laws.Opened.{listing_exactly}
use Rattle.lab.specs.Lab.{lab_question_of, lab_degree_of, lab_pair_of}
use Rattle.lab.proofs.laws.Plain.{PlainOr14, PlainOr11Or14, question_plain, degree_plain, pair_plain}
use Rattle.reply.specs.Reply.{InHalf, number_in, low_in}
use Rattle.reply.proofs.laws.Unpacked.{number_result, low_result, number_refused, low_refused}
use Rattle.boundary.specs.Boundary.{Writes, Degrees, value_told, Pairs, pair_told, band_told, InBands, finding_told, Orders}
use Rattle.grammar.specs.Grammar.{ReadsWhole}
use Rattle.number.proofs.laws.Boolean.{clash}
use Rattle.reply.specs.Reply.{packed}
use Rattle.assured.specs.Call.{assured_lines, told, assured_of}
use Rattle.assured.specs.inner.Test.{is_assured}
use Rattle.assured.proofs.laws.Test.{assured_test}
use Rattle.assured.proofs.laws.Call.{assured_in_half}
use Rattle.promises.proofs.laws.InHalf.{thin_in_half, question_in_half, degree_in_half, pair_in_half, band_in_half, order_in_half, lab_question_in_half, lab_degree_in_half, lab_pair_in_half, entry_in_half, find_in_half}
use Rattle.pair.specs.Pair.{accepted_lines, pair_lines, first_pair}
use Rattle.pair.proofs.laws.Pair.{first_fitting}
use Rattle.sheet.specs.inner.Found.{finding}
use Rattle.sheet.specs.Call.{order_lines}
use Rattle.targets.specs.Target.{bad_target}
use Rattle.lab.specs.Lab.{lab_asking_lines}
use Rattle.refusal.specs.Outcome.{judged}
use Rattle.promises.proofs.laws.Conditions.{AsTable, judged-told}
use Rattle.promises.proofs.laws.Rows.{in_its_place, answer_is, agree_question, agree_degree, agree_pair, agree_thin, agree_band, agree_order, agree_entry, agree_find, agree_lab_question, agree_lab_degree, agree_lab_pair, agree_assured}
use Rattle.promises.proofs.laws.StandIn.{some_readings}
use Rattle.promises.specs.MaximalRuns.{Interval, MaximalRuns}
use Rattle.promises.proofs.laws.MaximalRuns.{runs, runs_maximal, runs_written}
use Rattle.promises.specs.inner.Made.{two, four, Made, version_number}
use Rattle.promises.specs.Page.{Call, question, degree, pair, thin, band, order, entry, find, lab_question, lab_degree, lab_pair, assured, version, Lent, Place, put, Effect, effect, writing, Leaves, behind, is_put, is_unchanged, Returns, refusals, ends, IsAnswer, the_set, met, short, no-value, first-pair, no_pair, the_kept, two-sets, all-met, broken, the_entry, the_found, lab-question, lab-degree, lab-pair, is-assured, not_assured, the_version, Right, answers, refuses, Complete}

-- ---- the answers that are computed

abbrev pub of_value : Value → Effect
of_value value.met = effect 0 []
of_value (value.short x k) = effect 1 (put (to_bits binary64 x) ∷ put (to_bits binary64 k) ∷ [])
of_value value.no_value = effect 2 []

abbrev pub of_pair : Given → Effect
of_pair (times t u) = effect 1 (put t ∷ put u ∷ [])
of_pair none = effect 0 []

abbrev pub runs_in : Part → List Interval
runs_in empty = []
runs_in (run l h) = record { low = l; high = h } ∷ []

abbrev pub of_runs : (certain possible : List Interval) → Effect
of_runs c p = effect (length c + 2 * length p) (ends c ++ ends p)

abbrev pub of_bands : Bands → Effect
of_bands b = of_runs (runs_in b.certain) (runs_in b.possible)

abbrev pub of_finding : Finding → Effect
of_finding all_met = effect 0 []
of_finding (broken_at t k) = effect 1 (put t ∷ put k ∷ [])

abbrev pub computed : Call → List ℕ → ℕ → Outcome Effect
computed (question text) g room = mapped writing (question_of g text room)
computed (degree text target) g room = mapped of_value (nearness_of g text target)
computed (pair curve target) g room = mapped of_pair (pair_of g curve target)
computed (thin marks) g room = mapped writing (thin_of g marks room)
computed (band text e) g room = mapped of_bands (band_of g text e)
computed (order sheet) g room = mapped of_finding (order_of g sheet)
computed entry g room = mapped writing (entry_of g room)
computed (find curve level) g room = mapped writing (find_of g curve level room)
computed (lab_question marks text) g room = mapped writing (lab_question_of g marks text room)
computed (lab_degree marks text target) g room = mapped of_value (lab_degree_of g marks text target)
computed (lab_pair curve target) g room = mapped of_pair (lab_pair_of g curve target)
computed (assured marks) g room = mapped (λ n. effect n []) (assured_of g marks)
computed version g room = result (effect version_number [])

-- ---- what is computed goes over to the caller

pub leaves_as : {ps : List Place} {old new new' : List ℕ} → new' ≡ new → Leaves ps old new → Leaves ps old new'
leaves_as {ps} {old} e l = subst (Leaves ps old) (sym e) l

pub leaves_bytes : (b old : List ℕ) → length b ≤ length old → Leaves (map put b) old (b ++ drop (length b) old)
leaves_bytes [] old h = behind
leaves_bytes (x ∷ b) [] h = absurd (omega arith)
leaves_bytes (x ∷ b) (y ∷ old) h = is_put (leaves_bytes b old (omega arith))

abbrev pair-of : (x y : ℕ) → List ℕ
pair-of x y = x ∷ y ∷ []

-- the result, if there is one, has room
abbrev pub Roomy : Outcome (List ℕ) → (room : ℕ) → Type 0
Roomy (result b) room = length b ≤ room
Roomy (refused n p) room = Unit {0}

pub returns_writes : (o : Outcome (List ℕ)) (out : List ℕ) (r : ℕ) (after : List ℕ) → InHalf (counted o) → Roomy o (length out) → Writes o out r after
    → Returns (mapped writing o) out r after
returns_writes (result b) out r after h f w =
    (ap number_in w.returned ∙ number_result (length b) h, ap low_in w.returned ∙ low_result (length b) h, leaves_as w.output (leaves_bytes b out f))
returns_writes (refused n p) out r after h f w = (ap number_in w.returned ∙ number_refused n p h, ap low_in w.returned ∙ low_refused n p h, w.output)

-- a call whose last line is that of 10
pub roomy : (ls ms : List Line) (room : ℕ) (s : List ℕ) → Roomy (judged (ls ++ (ms ++ (output_line room s ∷ []))) s) room
roomy ls ms room s = by (judged (ls ++ (ms ++ (output_line room s ∷ []))) s) refl
  where
    by : (o : Outcome (List ℕ)) → judged (ls ++ (ms ++ (output_line room s ∷ []))) s ≡ o → Roomy o room
    by (refused n p) e = tt
    by (result x) e =
        let k = result_none (ls ++ (ms ++ (output_line room s ∷ []))) s x e in
        let n = (none_append ms (output_line room s ∷ []) (none_append ls (ms ++ (output_line room s ∷ [])) k.0).1).1 in
        subst (λ (b : List ℕ). length b ≤ room) k.1 (ltb-false room (length s) n.0)

module _ (x y r x' y' : ℕ) where
  returns_degrees : (o : Outcome Value) → InHalf (value_told o) → Degrees o x y r x' y' → Returns (mapped of_value o) (pair-of x y) r (pair-of x' y')
  returns_degrees (result value.met) h w = (ap number_in w.returned, ap low_in w.returned, leaves_as (ap₂ pair-of w.first-place w.second-place) behind)
  returns_degrees (result (value.short d k)) h w = (ap number_in w.returned, ap low_in w.returned, leaves_as (ap₂ pair-of w.first-place w.second-place) (is_put (is_put behind)))
  returns_degrees (result value.no_value) h w = (ap number_in w.returned, ap low_in w.returned, leaves_as (ap₂ pair-of w.first-place w.second-place) behind)
  returns_degrees (refused n p) h w = (ap number_in w.returned ∙ number_refused n p h, ap low_in w.returned ∙ low_refused n p h, ap₂ pair-of w.first-place w.second-place)

  returns_pairs : (o : Outcome Given) → InHalf (pair_told o) → Pairs o x y r x' y' → Returns (mapped of_pair o) (pair-of x y) r (pair-of x' y')
  returns_pairs (result (times t u)) h w = (ap number_in w.returned, ap low_in w.returned, leaves_as (ap₂ pair-of w.first-place w.second-place) (is_put (is_put behind)))
  returns_pairs (result none) h w = (ap number_in w.returned, ap low_in w.returned, leaves_as (ap₂ pair-of w.first-place w.second-place) behind)
  returns_pairs (refused n p) h w = (ap number_in w.returned ∙ number_refused n p h, ap low_in w.returned ∙ low_refused n p h, ap₂ pair-of w.first-place w.second-place)

  returns_orders : (o : Outcome Finding) → InHalf (finding_told o) → Orders o x y r x' y' → Returns (mapped of_finding o) (pair-of x y) r (pair-of x' y')
  returns_orders (result all_met) h w = (ap number_in w.returned, ap low_in w.returned, leaves_as (ap₂ pair-of w.first-place w.second-place) behind)
  returns_orders (result (broken_at t k)) h w = (ap number_in w.returned, ap low_in w.returned, leaves_as (ap₂ pair-of w.first-place w.second-place) (is_put (is_put behind)))
  returns_orders (refused n p) h w = (ap number_in w.returned ∙ number_refused n p h, ap low_in w.returned ∙ low_refused n p h, ap₂ pair-of w.first-place w.second-place)

module _ (x y z u r x' y' z' u' : ℕ) where
  abbrev four_of : (x y z u : ℕ) → List ℕ
  four_of x y z u = x ∷ y ∷ z ∷ u ∷ []

  returns_sets : (c p : Part) → InBands (result (record { certain = c; possible = p })) x y z u r x' y' z' u'
      → Returns (result (of_bands (record { certain = c; possible = p }))) (four_of x y z u) r (four_of x' y' z' u')
  returns_sets empty empty w = (ap number_in w.returned, ap low_in w.returned, leaves_as (λ i. w.first-place i ∷ w.second-place i ∷ w.third_place i ∷ w.fourth_place i ∷ []) (is_unchanged (is_unchanged (is_unchanged (is_unchanged behind)))))
  returns_sets empty (run l h) w = (ap number_in w.returned, ap low_in w.returned, leaves_as (λ i. w.first-place i ∷ w.second-place i ∷ w.third_place i ∷ w.fourth_place i ∷ []) (is_unchanged (is_unchanged (is_put (is_put behind)))))
  returns_sets (run l h) empty w = (ap number_in w.returned, ap low_in w.returned, leaves_as (λ i. w.first-place i ∷ w.second-place i ∷ w.third_place i ∷ w.fourth_place i ∷ []) (is_put (is_put (is_unchanged (is_unchanged behind)))))
  returns_sets (run l h) (run l' h') w = (ap number_in w.returned, ap low_in w.returned, leaves_as (λ i. w.first-place i ∷ w.second-place i ∷ w.third_place i ∷ w.fourth_place i ∷ []) (is_put (is_put (is_put (is_put behind)))))

  returns_bands : (o : Outcome Bands) → InHalf (band_told o) → InBands o x y z u r x' y' z' u' → Returns (mapped of_bands o) (four_of x y z u) r (four_of x' y' z' u')
  returns_bands (result b) h w = returns_sets b.certain b.possible w
  returns_bands (refused n p) h w =
      (ap number_in w.returned ∙ number_refused n p h, ap low_in w.returned ∙ low_refused n p h, λ i. w.first-place i ∷ w.second-place i ∷ w.third_place i ∷ w.fourth_place i ∷ [])

question_roomy : (g text : List ℕ) (room : ℕ) → Roomy (question_of g text room) room
unfolding question_of
question_roomy g text room = roomy (asking_lines g text) (set_lines g (read text)) room (set_bytes (answer g text))

thin_roomy : (g marks : List ℕ) (room : ℕ) → Roomy (thin_of g marks room) room
unfolding thin_of
thin_roomy g marks room = roomy (recording_lines g) (marks_line marks ∷ []) room (kept_bytes (marks_of marks) g)

entry_roomy : (g : List ℕ) (room : ℕ) → Roomy (entry_of g room) room
unfolding entry_of
entry_roomy g room = roomy (recording_lines g) (no_record g ∷ []) room (reckoned (readings g))

find_roomy : (g : List ℕ) (curve : ℕ) (level : ℤ) (room : ℕ) → Roomy (find_of g curve level room) room
unfolding find_of
find_roomy g curve level room = roomy (bad_summary g ∷ []) (bad_target curve level ∷ []) room (listing (curve_of curve) level g)

lab_question_roomy : (g marks text : List ℕ) (room : ℕ) → Roomy (lab_question_of g marks text room) room
unfolding lab_question_of
lab_question_roomy g marks text room = roomy (lab_asking_lines g marks text) (set_lines g (read text)) room (set_bytes (answer g text))

returns_number : (o : Outcome ℕ) (before : List ℕ) (r : ℕ) (after : List ℕ) → InHalf o → r ≡ packed o → after ≡ before → Returns (mapped (λ n. effect n []) o) before r after
returns_number (result n) before r after h e f = (ap number_in e ∙ number_result n h, ap low_in e ∙ low_result n h, leaves_as f behind)
returns_number (refused n p) before r after h e f = (ap number_in e ∙ number_refused n p h, ap low_in e ∙ low_refused n p h, f)

returns_made : (c : Call) (g before : List ℕ) (r : ℕ) (after : List ℕ) → Made c g before r after → Returns (computed c g (length before)) before r after
returns_made (question text) g before r after w = returns_writes (question_of g text (length before)) before r after (question_in_half g text (length before)) (question_roomy g text (length before)) w
returns_made (degree text target) g before r after (two {x = x} {y = y} {x' = x'} {y' = y'} w) = returns_degrees x y r x' y' (nearness_of g text target) (degree_in_half g text target) w
returns_made (pair curve target) g before r after (two {x = x} {y = y} {x' = x'} {y' = y'} w) = returns_pairs x y r x' y' (pair_of g curve target) (pair_in_half g curve target) w
returns_made (thin marks) g before r after w = returns_writes (thin_of g marks (length before)) before r after (thin_in_half g marks (length before)) (thin_roomy g marks (length before)) w
returns_made (band text e) g before r after (four {x = x} {y = y} {z = z} {w = u} {x' = x'} {y' = y'} {z' = z'} {w' = u'} w) =
    returns_bands x y z u r x' y' z' u' (band_of g text e) (band_in_half g text e) w
returns_made (order sheet) g before r after (two {x = x} {y = y} {x' = x'} {y' = y'} w) = returns_orders x y r x' y' (order_of g sheet) (order_in_half g sheet) w
returns_made entry g before r after w = returns_writes (entry_of g (length before)) before r after (entry_in_half g (length before)) (entry_roomy g (length before)) w
returns_made (find curve level) g before r after w =
    returns_writes (find_of g curve level (length before)) before r after (find_in_half g curve level (length before)) (find_roomy g curve level (length before)) w
returns_made (lab_question marks text) g before r after w =
    returns_writes (lab_question_of g marks text (length before)) before r after (lab_question_in_half g marks text (length before)) (lab_question_roomy g marks text (length before)) w
returns_made (lab_degree marks text target) g before r after (two {x = x} {y = y} {x' = x'} {y' = y'} w) =
    returns_degrees x y r x' y' (lab_degree_of g marks text target) (lab_degree_in_half g marks text target) w
returns_made (lab_pair curve target) g before r after (two {x = x} {y = y} {x' = x'} {y' = y'} w) = returns_pairs x y r x' y' (lab_pair_of g curve target) (lab_pair_in_half g curve target) w
returns_made (assured marks) g before r after w = returns_number (assured_of g marks) before r after (assured_in_half g marks) w.1 w.2
returns_made version g before r after w = (ap number_in w.1, ap low_in w.1, leaves_as w.2 behind)

lent_made : (c : Call) (g before : List ℕ) (r : ℕ) (after : List ℕ) → Made c g before r after → Lent c before
lent_made (question text) g before r after w = tt
lent_made (degree text target) g before r after (two w) = refl
lent_made (pair curve target) g before r after (two w) = refl
lent_made (thin marks) g before r after w = tt
lent_made (band text e) g before r after (four w) = refl
lent_made (order sheet) g before r after (two w) = refl
lent_made entry g before r after w = tt
lent_made (find curve level) g before r after w = tt
lent_made (lab_question marks text) g before r after w = tt
lent_made (lab_degree marks text target) g before r after (two w) = refl
lent_made (lab_pair curve target) g before r after (two w) = refl
lent_made (assured marks) g before r after w = ap length w.0
lent_made version g before r after w = ap length w.0

-- ---- what is computed is right

module _ (c : Call) (g : List ℕ) (room : ℕ) {R : Type 0} (shown : R → Effect) where
  right_by : (o : Outcome R) → AsTable (refusals c g room) o → ((x : R) → o ≡ result x → IsAnswer g c (shown x)) → Right c g room (mapped shown o)
  right_by (result x) t h = answers t (h x refl)
  right_by (refused n p) t h = refuses t.0

-- of a laboratory's call
module _ (c d : Call) (g : List ℕ) {R : Type 0} (shown : R → Effect) (plain lab : Outcome R) (same : (a : Effect) → IsAnswer g c a → IsAnswer g d a) where
  lab_by_14 : PlainOr14 lab plain → ((x : R) → plain ≡ result x → IsAnswer g c (shown x)) → (x : R) → lab ≡ result x → IsAnswer g d (shown x)
  lab_by_14 p h x e = ⊎_elim (λ f. same (shown x) (h x (sym f ∙ e))) (λ f. no_result 14 0 x (sym f ∙ e)) p

  lab_by : PlainOr11Or14 lab plain → ((x : R) → plain ≡ result x → IsAnswer g c (shown x)) → (x : R) → lab ≡ result x → IsAnswer g d (shown x)
  lab_by p h x e = ⊎_elim (λ f. same (shown x) (h x (sym f ∙ e))) (λ q. ⊎_elim (λ f. no_result 11 0 x (sym f ∙ e)) (λ f. no_result 14 0 x (sym f ∙ e)) q) p

set_answers : (g text : List ℕ) (room : ℕ) (b : List ℕ) → question_of g text room ≡ result b → IsAnswer g (question text) (writing b)
unfolding question_of
set_answers g text room b e =
    let k = result_none (asking_lines g text ++ (set_lines g (read text) ++ (output_line room (set_bytes (answer g text)) ∷ []))) (set_bytes (answer g text)) b e in
    let n = none_append (recording_lines g) (no_record g ∷ text_lines text ++ (set_lines g (read text) ++ (output_line room (set_bytes (answer g text)) ∷ []))) k.0 in
    let sized = (none_append (text_lines text) (set_lines g (read text) ++ (output_line room (set_bytes (answer g text)) ∷ [])) n.1.1).0 in
    subst (λ (s : List ℕ). IsAnswer g (question text) (writing s)) (runs_written (answer g text) ∙ k.1)
    (the_set (runs (answer g text)) (read_reads text sized.1.0)
    (runs_maximal (answer g text) (λ z. Holds (readings g) z (read text) 0) (answer_is g g text (in_its_place g text n.0) n.1.0 sized)))

value_answers : (g text : List ℕ) (target : ℤ) (x : Value) → nearness_of g text target ≡ result x → IsAnswer g (degree text target) (of_value x)
value_answers g text target x e = let n = nearness_says g text target x e in by x n.2
  where
    v : ℕ
    v = index target

    by : (x : Value) → Near g text v x → IsAnswer g (degree text target) (of_value x)
    by value.met n = met v ((nearness_says g text target x e).0, (nearness_says g text target x e).1) n.reads n.says
    by (value.short y k) n =
        let s = n.says in
        subst (λ (y : Float). IsAnswer g (degree text target) (of_value (value.short y k))) (sym s.3)
        (subst (λ (k : Float). IsAnswer g (degree text target) (of_value (value.short (distance_of s.0) k))) (sym s.4)
        (short v s.0 ((nearness_says g text target x e).0, (nearness_says g text target x e).1) n.reads s.1 s.2))
    by value.no_value n = no-value n.reads n.says

-- what the call gives is the first pair that fits
given_pair : (bytes : List ℕ) (curve : ℕ) (target : ℤ) (g : Given) → pair_of bytes curve target ≡ result g → FirstFitting (readings bytes) (curve_of curve) target g
unfolding pair_of
given_pair bytes curve target g e =
    let k = result_none (pair_lines bytes curve target) (first_pair (readings bytes) (curve_of curve) target) g e in
    subst (FirstFitting (readings bytes) (curve_of curve) target) k.1
    (first_fitting (curve_of curve) bytes (none_append (recording_lines bytes) (accepted_lines bytes curve target) k.0).0 target)

pair_answers : (g : List ℕ) (curve : ℕ) (target : ℤ) (x : Given) → pair_of g curve target ≡ result x → IsAnswer g (pair curve target) (of_pair x)
pair_answers g curve target x e = by x (given_pair g curve target x e)
  where
    by : (x : Given) → FirstFitting (readings g) (curve_of curve) target x → IsAnswer g (pair curve target) (of_pair x)
    by none f = no_pair f
    by (times t u) f =
        let o = f.0 in
        let same : times t u ≡ times (time_at (readings g) o.i) (time_at (readings g) o.j) = ap₂ times o.first o.second in
        subst (λ (x : Given). IsAnswer g (pair curve target) (of_pair x)) (sym same)
        (first-pair o.i o.j o.fits (subst (FirstFitting (readings g) (curve_of curve) target) same f).1)

kept_answers : (g marks : List ℕ) (room : ℕ) (b : List ℕ) → thin_of g marks room ≡ result b → IsAnswer g (thin marks) (writing b)
unfolding thin_of
kept_answers g marks room b e =
    let kept : List ℕ = kept_bytes (marks_of marks) g in
    subst (λ (s : List ℕ). IsAnswer g (thin marks) (writing s)) (result_none (recording_lines g ++ marks_line marks ∷ output_line room kept ∷ []) kept b e).1 the_kept

-- a set of one run, by its maximal runs
part_runs : (P : ℤ → Type 0) (s : Part) → ((n : ℕ) → n < axis → InPart s n ↔ P (whole n)) → EndsOnAxis s → MaximalRuns P (runs_in s)
part_runs P empty m o = record { apart = tt; members = m }
part_runs P (run l h) m o =
    record { apart = (omega arith, o.0, o.1, tt); members = λ n k. then (λ i. ⊎_elim (λ j. j) (λ j. absurd j) i, λ i. inl i) (m n k) }

one-run : (s : Part) → length (runs_in s) ≤ 1
one-run empty = omega arith
one-run (run l h) = omega arith

sets_answers : (g text : List ℕ) (e : ℤ) (x : Bands) → band_of g text e ≡ result x → IsAnswer g (band text e) (of_bands x)
unfolding band_of
sets_answers g text (pos e) x h =
    let m : Meant g text e x = band_meant g text e x h in
    let o = given_on_axis g text (pos e) x h in
    two-sets m.question (runs_in x.certain) (runs_in x.possible) m.reads (part_runs (Certain m.question e (readings g)) x.certain m.means.certain o.0)
    (part_runs (Possible m.question e (readings g)) x.possible m.means.possible o.1) (one-run x.certain) (one-run x.possible)
sets_answers g text (negsuc n) x h =
    let k = result_none (asking_lines g text ++ (width_line (negsuc n) ∷ extreme_line (read text) ∷ [])) _ x h in
    absurd (true≢false (none_append (asking_lines g text) (width_line (negsuc n) ∷ extreme_line (read text) ∷ []) k.0).1.0)

-- a finding that is given is the one of the sheet
given-finding : (bytes sheet : List ℕ) (f : Finding) → order_of bytes sheet ≡ result f → finding (sheet_of sheet) (readings bytes) ≡ f
unfolding order_of
given-finding bytes sheet f e = (result_none (order_lines bytes sheet) (finding (sheet_of sheet) (readings bytes)) f e).1

finding_answers : (g sheet : List ℕ) (x : Finding) → order_of g sheet ≡ result x → IsAnswer g (order sheet) (of_finding x)
finding_answers g sheet x e = by x (subst (TrueFinding (readings g) (sheet_of sheet)) (given-finding g sheet x e) (finding_true (readings g) (sheet_of sheet)))
  where
    by : (x : Finding) → TrueFinding (readings g) (sheet_of sheet) x → IsAnswer g (order sheet) (of_finding x)
    by all_met t = all-met t
    by (broken_at t k) b = broken t k b.0 b.1

pub reckoned_answers : (g : List ℕ) → 0 < length (readings g) → IsAnswer g entry (writing (reckoned (readings g)))
unfolding reckoned
reckoned_answers g some =
    the_entry (λ c. utmost above c (readings g)) (λ c. utmost under c (readings g)) (λ c. greatest_is c (readings g) some) (λ c. least_is c (readings g) some)

pub entry_answers : (g : List ℕ) (room : ℕ) (b : List ℕ) → entry_of g room ≡ result b → IsAnswer g entry (writing b)
unfolding entry_of
entry_answers g room b e =
    let k = result_none (recording_lines g ++ entry_lines g room) (reckoned (readings g)) b e in
    let n = none_append (recording_lines g) (entry_lines g room) k.0 in
    subst (λ (s : List ℕ). IsAnswer g entry (writing s)) k.1 (reckoned_answers g (some_readings g n.1.0))

found_answers : (g : List ℕ) (curve : ℕ) (level : ℤ) (room : ℕ) (b : List ℕ) → find_of g curve level room ≡ result b → IsAnswer g (find curve level) (writing b)
unfolding find_of
found_answers g curve level room b e =
    let m = listing_exactly (curve_of curve) level g in
    subst (λ (s : List ℕ). IsAnswer g (find curve level) (writing s)) (sym m.1 ∙ (result_none (bad_summary g ∷ level_lines g curve level room) (listing (curve_of curve) level g) b e).1) (the_found m.0 m.2)

assured_answers : (g marks : List ℕ) (n : ℕ) → assured_of g marks ≡ result n → IsAnswer g (assured marks) (effect n [])
unfolding assured_of
assured_answers g marks n e =
    let k = result_none (assured_lines g marks) (told (is_assured (marks_of marks) (read g))) n e in
    let r = read_reads g (none_append (text_lines g) (marks_line marks ∷ []) k.0).0.1.0 in
    subst (λ (n : ℕ). IsAnswer g (assured marks) (effect n [])) k.1 (by (is_assured (marks_of marks) (read g)) refl r)
  where
    by : (b : Bool) → is_assured (marks_of marks) (read g) ≡ b → ReadsWhole g (read g) → IsAnswer g (assured marks) (effect (told b) [])
    by true e r = is-assured r ((assured_test (marks_of marks) (read g)).0 e)
    by false e r = not_assured r (λ a. clash ((assured_test (marks_of marks) (read g)).1 a) e)

pub right_computed : (c : Call) (g : List ℕ) (room : ℕ) → Right c g room (computed c g room)
unfolding question_of nearness_of pair_of thin_of band_of order_of entry_of find_of lab_question_of lab_degree_of lab_pair_of assured_of
right_computed (question text) g room = right_by (question text) g room writing (question_of g text room) (judged-told (agree_question g text room) _) (set_answers g text room)
right_computed (degree text target) g room = right_by (degree text target) g room of_value (nearness_of g text target) (judged-told (agree_degree g text target room) _) (value_answers g text target)
right_computed (pair curve target) g room = right_by (pair curve target) g room of_pair (pair_of g curve target) (judged-told (agree_pair g curve target room) _) (pair_answers g curve target)
right_computed (thin marks) g room = right_by (thin marks) g room writing (thin_of g marks room) (judged-told (agree_thin g marks room) _) (kept_answers g marks room)
right_computed (band text e) g room = right_by (band text e) g room of_bands (band_of g text e) (judged-told (agree_band g text e room) _) (sets_answers g text e)
right_computed (order sheet) g room = right_by (order sheet) g room of_finding (order_of g sheet) (judged-told (agree_order g sheet room) _) (finding_answers g sheet)
right_computed entry g room = right_by entry g room writing (entry_of g room) (judged-told (agree_entry g room) _) (entry_answers g room)
right_computed (find curve level) g room = right_by (find curve level) g room writing (find_of g curve level room) (judged-told (agree_find g curve level room) _) (found_answers g curve level room)
right_computed (lab_question marks text) g room =
    right_by (lab_question marks text) g room writing (lab_question_of g marks text room) (judged-told (agree_lab_question g marks text room) _)
    (lab_by (question text) (lab_question marks text) g writing (question_of g text room) (lab_question_of g marks text room) (λ a h. lab-question h) (question_plain g marks text room) (set_answers g text room))
right_computed (lab_degree marks text target) g room =
    right_by (lab_degree marks text target) g room of_value (lab_degree_of g marks text target) (judged-told (agree_lab_degree g marks text target room) _)
    (lab_by (degree text target) (lab_degree marks text target) g of_value (nearness_of g text target) (lab_degree_of g marks text target) (λ a h. lab-degree h) (degree_plain g marks text target) (value_answers g text target))
right_computed (lab_pair curve target) g room =
    right_by (lab_pair curve target) g room of_pair (lab_pair_of g curve target) (judged-told (agree_lab_pair g curve target room) _)
    (lab_by_14 (pair curve target) (lab_pair curve target) g of_pair (pair_of g curve target) (lab_pair_of g curve target) (λ a h. lab-pair h) (pair_plain g curve target) (pair_answers g curve target))
right_computed (assured marks) g room = right_by (assured marks) g room (λ n. effect n []) (assured_of g marks) (judged-told (agree_assured g marks room) _) (assured_answers g marks)
right_computed version g room = answers tt the_version

-- ---- EVERY CALL is as the page says
pub every_call : (c : Call) (g before : List ℕ) (r : ℕ) (after : List ℕ) → Made c g before r after → Complete c g before r after
every_call c g before r after w = record {
  lent = lent_made c g before r after w;
  outcome = computed c g (length before);
  right = right_computed c g (length before);
  returns = returns_made c g before r after w;
}
