-- Recordings R6 and R7, our own, which differ in B alone and keep different readings: secrecy is not empty, and each part of refusal 14 is needed. A is 11, 19, 14, 15, 16 at T 0 to 40;
-- B is 0, but 4 at T 20 in R6 and 3 at T 30 in R7; all is flat. So R6 keeps T 0, 10, 20, 40, and R7 T 0, 10, 30, 40.
use Rattle.std.specs.Prelude.{ℕ, ◌≡◌, refl, true, List, [], ◌∷◌, ◌++◌, map, pos}
use Rattle.std.proofs.Common.{◌∙◌}
use Rattle.std.specs.Int.Signed.{le_z_yes}
use Rattle.number.specs.Least.{least}
use Rattle.number.specs.Words.{offset_binary, signed}
use Rattle.refusal.specs.Outcome.{refused}
use Rattle.recording.specs.Reading.{Reading, A, B, value, nothing}
use Rattle.recording.specs.Recording.{reading, readings, in_range, fields_of, fields, lawful, first_bad, Accepted}
use Rattle.runs.proofs.laws.Cuts.{low_cuts, high_cuts}
use Rattle.grammar.specs.Bytes.{bytes}
use Rattle.grammar.specs.Size.{too_deep}
use Rattle.grammar.specs.Syntax.{high, lowafter, listed}
use Rattle.grammar.specs.inner.Lexer.{unsigned_at, number_at, operand_at, comparison_at, timed_at, arguments_at, named_at, headed_at, leaf_at}
use Rattle.grammar.specs.inner.Parse.{parse, parsed}
use Rattle.meaning.specs.Ranges.{◌to◌, Lo, Hi}
use Rattle.meaning.specs.Named.{Channel, SameChannel, Agree, agree_none, agree_more}
use Rattle.meaning.specs.inner.Recorded.{InRange}
use Rattle.meaning.specs.inner.Coded.{Coded, code, coded_value, coded_after}
use Rattle.meaning.specs.inner.Truth.{truth, val, some_node, refused9}
use Rattle.meaning.proofs.laws.Extreme.{Greatest, Least, greatest_some, least_some}
use Rattle.meaning.proofs.laws.Lines.{◌is◌, at, Holding, up_to, from_on, told}
use Rattle.meaning.proofs.laws.Pick.{all_at}
use Rattle.marks.specs.Marks.{marks_of}
use Rattle.lab.specs.Lab.{lab_question_of}
use Rattle.lab.specs.inner.Barred.{not_for_laboratory}
use Rattle.lab.proofs.laws.Plain.{question_allowed, question_barred}
use Rattle.thin.specs.Thin.{kept_bytes}
use Rattle.thin.proofs.laws.Examples.{mark10}
use Rattle.promises.specs.Lines.{bytes_of_runs}
use Rattle.promises.specs.inner.LinesComputed.{written_in, Asked}
use Rattle.promises.specs.Secrecy.{Public, the_batch, the_additions, AllButB}
use Rattle.promises.proofs.laws.Acceptance.{accepted_table}
use Rattle.promises.proofs.laws.MarkedLines.{asked, listed-eight}

-- a flat record: time, A and B
abbrev pub steady : ℕ → ℕ → ℕ → List ℕ
steady time a b = time ∷ 0 ∷ 0 ∷ 0 ∷ a ∷ 0 ∷ 0 ∷ 0 ∷ b ∷ 0 ∷ 0 ∷ 0 ∷ 1 ∷ 1 ∷ 0 ∷ 0 ∷ []

abbrev pub R6 : List ℕ
R6 = steady 0 11 0 ++ steady 10 19 0 ++ steady 20 14 4 ++ steady 30 15 0 ++ steady 40 16 0

abbrev pub R7 : List ℕ
R7 = steady 0 11 0 ++ steady 10 19 0 ++ steady 20 14 0 ++ steady 30 15 3 ++ steady 40 16 0

-- what they keep without marks
abbrev pub R6-kept : List ℕ
R6-kept = steady 0 11 0 ++ steady 10 19 0 ++ steady 20 14 4 ++ steady 40 16 0

abbrev pub R7-kept : List ℕ
R7-kept = steady 0 11 0 ++ steady 10 19 0 ++ steady 30 15 3 ++ steady 40 16 0

-- TWO RECORDINGS
pub record TwoRecordings : Type 0 where
  -- they differ in B alone, and keep different readings
  pub but_for_B : AllButB R6 R7
  pub keep : kept_bytes [] R6 ≡ R6-kept
  pub other_keep : kept_bytes [] R7 ≡ R7-kept
  -- a laboratory text is answered: `high(A)` is Lo..19, of the kept readings of either
  pub answered : (room : ℕ) → lab_question_of R6-kept [] (bytes "high(A)") room ≡ written_in room (bytes_of_runs ((Lo to pos 19) ∷ []))
  pub other-answered : (room : ℕ) → lab_question_of R7-kept [] (bytes "high(A)") room ≡ written_in room (bytes_of_runs ((Lo to pos 19) ∷ []))
  -- B must not be named: the plain call tells the two apart by `high(B)`, and 14 refuses it
  pub told_by_B : Asked R6-kept (bytes "high(B)") ((Lo to pos 4) ∷ []) × Asked R7-kept (bytes "high(B)") ((Lo to pos 3) ∷ [])
  pub B-refused : (room : ℕ) → lab_question_of R6-kept [] (bytes "high(B)") room ≡ refused 14 0
  -- an after-time must be a mark: `lowafter(A,10)` names A alone, and still the plain call tells the kept readings apart; 14 refuses it
  pub told_by_time : Asked R6-kept (bytes "lowafter(A,10)") ((pos 14 to Hi) ∷ []) × Asked R7-kept (bytes "lowafter(A,10)") ((pos 15 to Hi) ∷ [])
  pub time_refused : (room : ℕ) → lab_question_of R6-kept [] (bytes "lowafter(A,10)") room ≡ refused 14 0
  -- and the marks must be those of the thinning: with the mark 10, of readings kept without marks, a laboratory's call tells the two apart. Nothing is promised there
  pub other_marks : (room : ℕ) → (lab_question_of R6-kept mark10 (bytes "lowafter(A,10)") room ≡ written_in room (bytes_of_runs ((pos 14 to Hi) ∷ [])))
      × (lab_question_of R7-kept mark10 (bytes "lowafter(A,10)") room ≡ written_in room (bytes_of_runs ((pos 15 to Hi) ∷ [])))

-- ---- the readings

abbrev at_rest : ℕ → ℕ → ℕ → Reading
at_rest t x y = record { time = t; a = pos x; b = pos y; slope_a = 1; slope_b = 1; pigment = 0 }

abbrev r6_kept : List Reading
r6_kept = at_rest 0 11 0 ∷ at_rest 10 19 0 ∷ at_rest 20 14 4 ∷ at_rest 40 16 0 ∷ []

abbrev r7_kept : List Reading
r7_kept = at_rest 0 11 0 ∷ at_rest 10 19 0 ∷ at_rest 30 15 3 ∷ at_rest 40 16 0 ∷ []

-- at one time with one A, whatever the two Bs
agree : (t x y z : ℕ) → Agree Public (at_rest t x y) (at_rest t x z)
agree t x y z = record { time = refl; same = same }
  where
    same : (n : Channel) → Public n → SameChannel n (at_rest t x y) (at_rest t x z)
    same n the_batch = (refl, refl)
    same n the_additions = refl

accepted : Accepted R6
unfolding reading signed offset_binary fields_of fields lawful first_bad least
accepted = (refl, (refl, (refl, tt)))

other_accepted : Accepted R7
unfolding reading signed offset_binary fields_of fields lawful first_bad least
other_accepted = (refl, (refl, (refl, tt)))

kept_accepted : Accepted R6-kept
unfolding reading signed offset_binary fields_of fields lawful first_bad least
kept_accepted = (refl, (refl, (refl, tt)))

other-kept_accepted : Accepted R7-kept
unfolding reading signed offset_binary fields_of fields lawful first_bad least
other-kept_accepted = (refl, (refl, (refl, tt)))

differ_in_B : AllButB R6 R7
unfolding reading signed offset_binary
differ_in_B = record {
  accepted = accepted_table R6 accepted;
  other_accepted = accepted_table R7 other_accepted;
  agree = agree_more (agree 0 11 0 0) (agree_more (agree 10 19 0 0) (agree_more (agree 20 14 4 0) (agree_more (agree 30 15 0 3) (agree_more (agree 40 16 0 0) agree_none))));
}

-- ---- the sets

in-range : InRange r6_kept
in-range i h A = all_at nothing (λ x. in_range (value A x)) r6_kept refl i h
in-range i h B = all_at nothing (λ x. in_range (value B x)) r6_kept refl i h

other_in_range : InRange r7_kept
other_in_range i h A = all_at nothing (λ x. in_range (value A x)) r7_kept refl i h
other_in_range i h B = all_at nothing (λ x. in_range (value B x)) r7_kept refl i h

abbrev one-coded : List Coded
one-coded = map code r6_kept

abbrev other-coded : List Coded
other-coded = map code r7_kept

high_A : Greatest (λ (x : Coded). true) (coded_value A) one-coded (at 19)
high_A = record { one = refl; all = refl }

other-high_A : Greatest (λ (x : Coded). true) (coded_value A) other-coded (at 19)
other-high_A = record { one = refl; all = refl }

high_B : Greatest (λ (x : Coded). true) (coded_value B) one-coded (at 4)
high_B = record { one = refl; all = refl }

other-high_B : Greatest (λ (x : Coded). true) (coded_value B) other-coded (at 3)
other-high_B = record { one = refl; all = refl }

low-after : Least (coded_after (at 10)) (coded_value A) one-coded (at 14)
low-after = record { one = refl; all = refl }

other-low-after : Least (coded_after (at 10)) (coded_value A) other-coded (at 15)
other-low-after = record { one = refl; all = refl }

-- ---- the lines

one-high_A : Holding (readings R6-kept) (listed (high A) is ((Lo to pos 19) ∷ []))
unfolding reading signed offset_binary val truth
one-high_A = told r6_kept in-range (listed (high A) is ((Lo to pos 19) ∷ [])) ((refl, refl), tt)
    (λ n h. greatest_some (λ x. true) (coded_value A) one-coded n (at 19) high_A ∙ up_to n (at 19)) (le_z_yes tt)

two-high_A : Holding (readings R7-kept) (listed (high A) is ((Lo to pos 19) ∷ []))
unfolding reading signed offset_binary val truth
two-high_A = told r7_kept other_in_range (listed (high A) is ((Lo to pos 19) ∷ [])) ((refl, refl), tt)
    (λ n h. greatest_some (λ x. true) (coded_value A) other-coded n (at 19) other-high_A ∙ up_to n (at 19)) (le_z_yes tt)

one-high_B : Holding (readings R6-kept) (listed (high B) is ((Lo to pos 4) ∷ []))
unfolding reading signed offset_binary val truth
one-high_B = told r6_kept in-range (listed (high B) is ((Lo to pos 4) ∷ [])) ((refl, refl), tt)
    (λ n h. greatest_some (λ x. true) (coded_value B) one-coded n (at 4) high_B ∙ up_to n (at 4)) (le_z_yes tt)

two-high_B : Holding (readings R7-kept) (listed (high B) is ((Lo to pos 3) ∷ []))
unfolding reading signed offset_binary val truth
two-high_B = told r7_kept other_in_range (listed (high B) is ((Lo to pos 3) ∷ [])) ((refl, refl), tt)
    (λ n h. greatest_some (λ x. true) (coded_value B) other-coded n (at 3) other-high_B ∙ up_to n (at 3)) (le_z_yes tt)

one_lowafter : Holding (readings R6-kept) (listed (lowafter A (at 10)) is ((pos 14 to Hi) ∷ []))
unfolding reading signed offset_binary val truth
one_lowafter = told r6_kept in-range (listed (lowafter A (at 10)) is ((pos 14 to Hi) ∷ [])) ((refl, refl), tt)
    (λ n h. least_some (coded_after (at 10)) (coded_value A) one-coded n (at 14) low-after ∙ from_on n (at 14) h) (le_z_yes tt)

two_lowafter : Holding (readings R7-kept) (listed (lowafter A (at 10)) is ((pos 15 to Hi) ∷ []))
unfolding reading signed offset_binary val truth
two_lowafter = told r7_kept other_in_range (listed (lowafter A (at 10)) is ((pos 15 to Hi) ∷ [])) ((refl, refl), tt)
    (λ n h. least_some (coded_after (at 10)) (coded_value A) other-coded n (at 15) other-low-after ∙ from_on n (at 15) h) (le_z_yes tt)

-- THE TWO RECORDINGS ARE AS TOLD
pub two_recordings : TwoRecordings
unfolding too_deep least parsed parse unsigned_at number_at operand_at comparison_at timed_at arguments_at named_at headed_at leaf_at low_cuts high_cuts refused9 some_node marks_of kept_bytes reading signed offset_binary not_for_laboratory fields_of fields lawful first_bad
two_recordings = record {
  but_for_B = differ_in_B;
  keep = refl;
  other_keep = refl;
  answered = λ room. question_allowed R6-kept [] (bytes "high(A)") (refl, (refl, tt)) room
      ∙ (asked R6-kept kept_accepted refl one-high_A (bytes "high(A)") refl (refl, (refl, (refl, tt))) refl refl refl (listed-eight R6-kept (high A))).call room;
  other-answered = λ room. question_allowed R7-kept [] (bytes "high(A)") (refl, (refl, tt)) room
      ∙ (asked R7-kept other-kept_accepted refl two-high_A (bytes "high(A)") refl (refl, (refl, (refl, tt))) refl refl refl (listed-eight R7-kept (high A))).call room;
  told_by_B = (
    asked R6-kept kept_accepted refl one-high_B (bytes "high(B)") refl (refl, (refl, (refl, tt))) refl refl refl (listed-eight R6-kept (high B)),
    asked R7-kept other-kept_accepted refl two-high_B (bytes "high(B)") refl (refl, (refl, (refl, tt))) refl refl refl (listed-eight R7-kept (high B)),
  );
  B-refused = λ room. question_barred R6-kept [] (bytes "high(B)") (refl, (refl, (refl, (refl, (refl, (refl, (refl, tt))))))) refl refl room;
  told_by_time = (
    asked R6-kept kept_accepted refl one_lowafter (bytes "lowafter(A,10)") refl (refl, (refl, (refl, tt))) refl refl refl (listed-eight R6-kept (lowafter A 2000000010)),
    asked R7-kept other-kept_accepted refl two_lowafter (bytes "lowafter(A,10)") refl (refl, (refl, (refl, tt))) refl refl refl (listed-eight R7-kept (lowafter A 2000000010)),
  );
  time_refused = λ room. question_barred R6-kept [] (bytes "lowafter(A,10)") (refl, (refl, (refl, (refl, (refl, (refl, (refl, tt))))))) refl refl room;
  other_marks = λ room. (
    question_allowed R6-kept mark10 (bytes "lowafter(A,10)") (refl, (refl, tt)) room ∙ (asked R6-kept kept_accepted refl one_lowafter (bytes "lowafter(A,10)") refl (refl, (refl, (refl, tt))) refl refl refl (listed-eight R6-kept (lowafter A 2000000010))).call room,
    question_allowed R7-kept mark10 (bytes "lowafter(A,10)") (refl, (refl, tt)) room ∙ (asked R7-kept other-kept_accepted refl two_lowafter (bytes "lowafter(A,10)") refl (refl, (refl, (refl, tt))) refl refl refl (listed-eight R7-kept (lowafter A 2000000010))).call room,
  );
}
