-- Readings whose records keep to their rules, however many they are, are in range, in time and increasing; so are those of an accepted recording, of which no record is the first out of its rules.
use Rattle.std.specs.Prelude.{ℕ, suc, ◌≤◌, ◌<◌, ◌≡◌, not, leb, length, get_or}
use Rattle.std.proofs.Common.{arith, sym}
use Rattle.std.proofs.Math.Path.{subst}
use Rattle.std.proofs.Math.Bool.{So}
use mathlib.Core.List.{List, []}
use Rattle.std.proofs.lemmas.List.{length-map}
use Rattle.std.proofs.Math.ListN.{get_or-map}
use borrow.Author.Tests.{leb-true, ltb-true, ltb-false, not-false}
use Rattle.number.proofs.laws.Least.{least_first}
use Rattle.number.specs.Words.{word, signed, offset_binary}
use Rattle.recording.specs.Reading.{Reading, Curve, A, B, value}
use Rattle.recording.specs.Recording.{Raw, records, reading, readings, latest, in_range, fields_of, fields, lawful, first_bad, Accepted}
use Rattle.meaning.specs.Listed.{record_at}
use Rattle.meaning.specs.inner.Recorded.{InRange, InTime, Increasing, Recorded}
use Rattle.number.proofs.laws.Boolean.{and_left, and_right}

module _ (bytes : List ℕ) (all-lawful : (i : ℕ) → i < length (records bytes) → So (lawful (records bytes) i)) where
  abbrev xs : List Raw
  xs = records bytes

  in_fields : (i : ℕ) → i < length xs → So (fields (get_or xs i []))
  unfolding lawful
  in_fields i l = and_left (fields (get_or xs i [])) _ (all-lawful i l)

  at_reading : (i : ℕ) → record_at (readings bytes) i ≡ reading (get_or xs i [])
  unfolding reading signed offset_binary
  at_reading i = get_or-map reading xs i []

  inside : (i : ℕ) → i < length (readings bytes) → i < length xs
  inside i l = omega (arith, length-map xs reading)

  in-range : InRange (readings bytes)
  unfolding fields fields_of reading
  in-range i l c =
      subst (λ (x : Reading). So (in_range (value c x))) (sym (at_reading i)) (of_record (get_or xs i []) (in_fields i (inside i l)) c)
    where
      of_record : (x : Raw) → So (fields x) → (c : Curve) → So (in_range (value c (reading x)))
      of_record x f A = and_left (in_range (signed (word x 4))) _ (and_right (leb (word x 0) latest) _ f)
      of_record x f B = and_left (in_range (signed (word x 8))) _ (and_right (in_range (signed (word x 4))) _ (and_right (leb (word x 0) latest) _ f))

  in_time : InTime (readings bytes)
  unfolding fields fields_of reading
  in_time i l =
      subst (λ (x : Reading). x.time ≤ latest) (sym (at_reading i))
      (leb-true (word (get_or xs i []) 0) latest (and_left (leb (word (get_or xs i []) 0) latest) _ (in_fields i (inside i l))))

  increasing : Increasing (readings bytes)
  unfolding lawful reading
  increasing i l =
      let h = ltb-true (word (get_or xs i []) 0) (word (get_or xs (suc i) []) 0)
      (and_right (fields (get_or xs (suc i) [])) _ (all-lawful (suc i) (inside (suc i) l))) in
      subst (λ (x : Reading). x.time < (record_at (readings bytes) (suc i)).time) (sym (at_reading i))
      (subst (λ (x : Reading). word (get_or xs i []) 0 < x.time) (sym (at_reading (suc i))) h)

  pub lawful-recorded : Recorded (readings bytes)
  lawful-recorded = record { in-range = in-range; in_time = in_time; increasing = increasing }

accepted_lawful : (bytes : List ℕ) → Accepted bytes → (i : ℕ) → i < length (records bytes) → So (lawful (records bytes) i)
unfolding first_bad
accepted_lawful bytes accepted i l =
    let few : length (records bytes) ≤ first_bad (records bytes) = ltb-false (first_bad (records bytes)) (length (records bytes)) accepted.1.1.0 in
    not-false (lawful (records bytes) i) (least_first (λ i. not (lawful (records bytes) i)) (length (records bytes)) i (omega arith))

pub accepted_recorded : (bytes : List ℕ) → Accepted bytes → Recorded (readings bytes)
accepted_recorded bytes accepted = lawful-recorded bytes (accepted_lawful bytes accepted)
