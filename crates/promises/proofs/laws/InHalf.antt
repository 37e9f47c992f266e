-- Laws of the calls: the result and the place fit in the low half of what a call returns, so that a reply can be told from another.
use Rattle.std.specs.Prelude.{ℕ, ◌*◌, ◌/◌, ◌≤◌, ◌≡◌, refl, List, [], ◌∷◌, ◌++◌, ℤ, length}
use Rattle.std.proofs.Common.{arith, sym, ap, subst, ⊎_elim, ltb-false}
use Rattle.refusal.specs.Outcome.{Outcome, result, refused, Line}
use Rattle.recording.specs.Condition.{Condition, pick, on}
use Rattle.recording.specs.Reading.{curve_of}
use Rattle.recording.specs.Recording.{Raw, records, reading, readings, recording_lines, no_record, most_records}
use Rattle.recording.specs.Output.{counted, output_line}
use Rattle.recording.proofs.laws.Record.{length-concat, length-records}
use Rattle.recording.proofs.laws.Outcome.{result_none, none_append}
use Rattle.kept.specs.Kept.{kept_for}
use Rattle.thin.specs.Thin.{kept_bytes, thin_of}
use Rattle.marks.specs.Marks.{marks_of, marks_line}
use Rattle.thin.proofs.laws.Model.{kept_sixteens}
use Rattle.runs.specs.Runs.{set_bytes}
use Rattle.text.specs.Told.{text_lines}
use Rattle.meaning.specs.inner.Coded.{coded, index}
use Rattle.question.specs.Question.{answer, read, set_lines, question_of}
use Rattle.question.proofs.laws.Size.{answered_few}
use Rattle.degree.specs.Degree.{Value, met, short, no_value, value_of, target_line, nearness_of}
use Rattle.degree.proofs.laws.Call.{short-numbers}
use Rattle.band.specs.Call.{width_of, the_question, width_line, extreme_line, band_of}
use Rattle.band.specs.Means.{Bands}
use Rattle.band.specs.inner.Ends.{bands_of}
use Rattle.band.proofs.laws.OnAxis.{given_on_axis}
use Rattle.pair.specs.Pair.{Given, times, none, first_pair, accepted_lines, pair_of}
use Rattle.sheet.specs.Sheet.{sheet_of}
use Rattle.sheet.specs.Finding.{Finding, all_met, broken_at}
use Rattle.sheet.specs.inner.Found.{finding}
use Rattle.sheet.specs.Call.{sheet_lines, order_of}
use Rattle.entry.specs.inner.Reckoned.{reckoned}
use Rattle.entry.specs.Call.{entry_lines, entry_of}
use Rattle.entry.proofs.laws.Reckoned.{length-reckoned}
use Rattle.listing.specs.Listing.{listing}
use Rattle.listing.specs.Call.{bad_summary, level_lines, find_of}
use Rattle.listing.proofs.laws.Call.{listing_few}
use Rattle.lab.specs.Lab.{lab_question_of, lab_degree_of, lab_pair_of}
use Rattle.lab.proofs.laws.Plain.{PlainOr14, PlainOr11Or14, question_plain, degree_plain, pair_plain}
use Rattle.reply.specs.Reply.{InHalf}
use Rattle.reply.proofs.laws.Place.{plain-place, place-below}
use Rattle.tops.proofs.laws.Pick.{few_picked}
use Rattle.boundary.specs.Boundary.{value_told, pair_told, band_told, finding_told}
use Rattle.boundary.proofs.laws.Boundary.{filled-one}
use Rattle.boundary.specs.inner.Fits.{NumbersIn, EndsIn}

-- ---- bytes written

-- kept readings are no more than the readings
pub kept_most : (marks bytes : List ℕ) → length (kept_bytes marks bytes) ≤ 16 * (length bytes / 16)
unfolding kept_bytes
kept_most marks bytes =
    let ρ : Condition Raw = on reading (kept_for marks) in
    let a = length-concat (pick ρ (records bytes)) (kept_sixteens marks bytes) in
    let b = few_picked ρ [] (records bytes) in
    let c = length-records bytes in
    omega arith

-- ---- the calls

pub thin_in_half : (bytes marks : List ℕ) (room : ℕ) → InHalf (counted (thin_of bytes marks room))
unfolding thin_of
thin_in_half bytes marks room = go (thin_of bytes marks room) refl
  where
    kept : List ℕ
    kept = kept_bytes (marks_of marks) bytes

    go : (o : Outcome (List ℕ)) → thin_of bytes marks room ≡ o → InHalf (counted o)
    go (refused n p) e = place-below bytes (marks_line marks ∷ output_line room (kept_bytes (marks_of marks) bytes) ∷ []) (kept_bytes (marks_of marks) bytes) n p (refl, (refl, tt)) e
    go (result written) e =
        let ls : List Line = marks_line marks ∷ output_line room (kept_bytes (marks_of marks) bytes) ∷ [] in
        let k = result_none (recording_lines bytes ++ ls) (kept_bytes (marks_of marks) bytes) written e in
        let a = (none_append (recording_lines bytes) ls k.0).0 in
        let m : length bytes / 16 ≤ most_records = ltb-false most_records (length bytes / 16) a.1.0 in
        let q = kept_most (marks_of marks) bytes in
        let l = ap length k.1 in
        omega arith

pub question_in_half : (bytes text : List ℕ) (room : ℕ) → InHalf (counted (question_of bytes text room))
unfolding question_of
question_in_half bytes text room = go (question_of bytes text room) refl
  where
    set : List ℕ
    set = set_bytes (answer bytes text)

    go : (o : Outcome (List ℕ)) → question_of bytes text room ≡ o → InHalf (counted o)
    go (refused n p) e =
        place-below bytes (no_record bytes ∷ text_lines text ++ (set_lines bytes (read text) ++ (output_line room set ∷ []))) set n p
        (refl, (refl, (refl, (refl, (refl, (refl, (refl, tt))))))) e
    go (result written) e = omega (arith, answered_few bytes text room written e)

pub entry_in_half : (bytes : List ℕ) (room : ℕ) → InHalf (counted (entry_of bytes room))
unfolding entry_of
entry_in_half bytes room = go (entry_of bytes room) refl
  where
    go : (o : Outcome (List ℕ)) → entry_of bytes room ≡ o → InHalf (counted o)
    go (refused n p) e = place-below bytes (entry_lines bytes room) (reckoned (readings bytes)) n p (refl, (refl, tt)) e
    go (result written) e =
        let k = result_none (recording_lines bytes ++ entry_lines bytes room) (reckoned (readings bytes)) written e in
        omega (arith, ap length k.1, length-reckoned (readings bytes))

pub find_in_half : (summary : List ℕ) (curve : ℕ) (level : ℤ) (room : ℕ) → InHalf (counted (find_of summary curve level room))
unfolding find_of
find_in_half summary curve level room = go (find_of summary curve level room) refl
  where
    go : (o : Outcome (List ℕ)) → find_of summary curve level room ≡ o → InHalf (counted o)
    go (refused n p) e =
        let z = plain-place (bad_summary summary ∷ level_lines summary curve level room) (listing (curve_of curve) level summary) n p (refl, (refl, (refl, tt))) e in
        omega arith
    go (result written) e =
        let k = result_none (bad_summary summary ∷ level_lines summary curve level room) (listing (curve_of curve) level summary) written e in
        omega (arith, ap length k.1, listing_few (curve_of curve) level summary k.0.0)

-- ---- the calls that tell by places: a refusal's place fits in the low half

pub degree_in_half : (bytes text : List ℕ) (g : ℤ) → InHalf (value_told (nearness_of bytes text g))
unfolding nearness_of
degree_in_half bytes text g = go (nearness_of bytes text g) refl
  where
    go : (o : Outcome Value) → nearness_of bytes text g ≡ o → InHalf (value_told o)
    go (result met) e = omega arith
    go (result (short d k)) e = omega arith
    go (result no_value) e = omega arith
    go (refused n p) e =
        place-below bytes (no_record bytes ∷ text_lines text ++ (target_line g ∷ set_lines bytes (read text))) (value_of (answer bytes text) (index g)) n p
        (refl, (refl, (refl, (refl, (refl, (refl, (refl, tt))))))) e

-- a distance and a degree that are given are numbers
pub degree_numbers : (bytes text : List ℕ) (g : ℤ) → NumbersIn (nearness_of bytes text g)
degree_numbers bytes text g = go (nearness_of bytes text g) refl
  where
    go : (o : Outcome Value) → nearness_of bytes text g ≡ o → NumbersIn o
    go (result met) e = tt
    go (result (short d k)) e = short-numbers bytes text g d k (sym e)
    go (result no_value) e = tt
    go (refused n p) e = tt

pub pair_in_half : (bytes : List ℕ) (curve : ℕ) (g : ℤ) → InHalf (pair_told (pair_of bytes curve g))
unfolding pair_of
pair_in_half bytes curve g = go (pair_of bytes curve g) refl
  where
    go : (o : Outcome Given) → pair_of bytes curve g ≡ o → InHalf (pair_told o)
    go (result (times t u)) e = omega arith
    go (result none) e = omega arith
    go (refused n p) e = place-below bytes (accepted_lines bytes curve g) (first_pair (readings bytes) (curve_of curve) g) n p (refl, (refl, (refl, tt))) e

pub band_in_half : (bytes text : List ℕ) (e : ℤ) → InHalf (band_told (band_of bytes text e))
unfolding band_of
band_in_half bytes text e = go (band_of bytes text e) refl
  where
    go : (o : Outcome Bands) → band_of bytes text e ≡ o → InHalf (band_told o)
    go (result b) h = omega (arith, filled-one b.certain, filled-one b.possible)
    go (refused n p) h =
        place-below bytes (no_record bytes ∷ text_lines text ++ (width_line e ∷ extreme_line (read text) ∷ [])) (bands_of (the_question (read text)) (width_of e) (coded bytes)) n p
        (refl, (refl, (refl, (refl, (refl, (refl, tt)))))) h

-- the ends of sets that are given are on the axis
pub band_ends : (bytes text : List ℕ) (e : ℤ) → EndsIn (band_of bytes text e)
band_ends bytes text e = go (band_of bytes text e) refl
  where
    go : (o : Outcome Bands) → band_of bytes text e ≡ o → EndsIn o
    go (result b) h = given_on_axis bytes text e b h
    go (refused n p) h = tt

pub order_in_half : (bytes sheet : List ℕ) → InHalf (finding_told (order_of bytes sheet))
unfolding order_of
order_in_half bytes sheet = go (order_of bytes sheet) refl
  where
    go : (o : Outcome Finding) → order_of bytes sheet ≡ o → InHalf (finding_told o)
    go (result all_met) e = omega arith
    go (result (broken_at t k)) e = omega arith
    go (refused n p) e = place-below bytes (sheet_lines bytes sheet) (finding (sheet_of sheet) (readings bytes)) n p (refl, (refl, tt)) e

-- ---- the laboratory's calls: what holds of the plain outcome and of the refusals 11 and 14 holds of theirs

module _ {R : Type 0} (P : Outcome R → Type 0) {o plain : Outcome R} where
  of_plain_or_14 : P plain → P (refused 14 0) → PlainOr14 o plain → P o
  of_plain_or_14 p c h = ⊎_elim (λ e. subst P (sym e) p) (λ e. subst P (sym e) c) h

  of_plain_11_or_14 : P plain → P (refused 11 0) → P (refused 14 0) → PlainOr11Or14 o plain → P o
  of_plain_11_or_14 p b c h = ⊎_elim (λ e. subst P (sym e) p) (λ k. ⊎_elim (λ e. subst P (sym e) b) (λ e. subst P (sym e) c) k) h

pub lab_question_in_half : (bytes marks text : List ℕ) (room : ℕ) → InHalf (counted (lab_question_of bytes marks text room))
lab_question_in_half bytes marks text room =
    of_plain_11_or_14 (λ (o : Outcome (List ℕ)). InHalf (counted o)) (question_in_half bytes text room) (omega arith) (omega arith) (question_plain bytes marks text room)

pub lab_degree_in_half : (bytes marks text : List ℕ) (g : ℤ) → InHalf (value_told (lab_degree_of bytes marks text g))
lab_degree_in_half bytes marks text g =
    of_plain_11_or_14 (λ (o : Outcome Value). InHalf (value_told o)) (degree_in_half bytes text g) (omega arith) (omega arith) (degree_plain bytes marks text g)

pub lab_degree_numbers : (bytes marks text : List ℕ) (g : ℤ) → NumbersIn (lab_degree_of bytes marks text g)
lab_degree_numbers bytes marks text g = of_plain_11_or_14 NumbersIn (degree_numbers bytes text g) tt tt (degree_plain bytes marks text g)

pub lab_pair_in_half : (bytes : List ℕ) (curve : ℕ) (g : ℤ) → InHalf (pair_told (lab_pair_of bytes curve g))
lab_pair_in_half bytes curve g = of_plain_or_14 (λ (o : Outcome Given). InHalf (pair_told o)) (pair_in_half bytes curve g) (omega arith) (pair_plain bytes curve g)
