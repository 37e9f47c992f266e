-- A selection of a recording that includes its kept readings has the same observation: the same first reading and events, and each curve
-- goes as far up and down, also after each mark.
use Rattle.std.specs.Prelude.{ℕ, min, ◌≡◌, refl, Bool, true, false, ◌&&◌, List, [], ◌∷◌, ℤ, ltb}
use Rattle.std.proofs.Common.{arith, sym, ap, ◌∙◌}
use Rattle.std.proofs.lemmas.Bool.{false≢true, not-true, not-false}
use Rattle.std.specs.Int.Signed.{le_z, lt_z}
use Rattle.number.proofs.laws.Boolean.{and_left, and_right}
use Rattle.number.proofs.laws.Words.{le_z_not_lt_z}
use Rattle.recording.proofs.laws.Value.{lt_z_asym, lt_le_trans, lt_z_between}
use Rattle.recording.specs.Reading.{Reading, value}
use Rattle.meaning.specs.Listed.{record_at}
use Rattle.meaning.specs.Meaning.{last_of, reading_at}
use Rattle.meaning.specs.Alike.{Alike}
use Rattle.meaning.proofs.laws.Alike.{Tested, tested_alike}
use Rattle.kept.specs.Kept.{less, more, any_time, later_than, kept_for}
use Rattle.kept.specs.Selection.{flags, select, Includes}
use Rattle.kept.proofs.laws.Kept.{extremes-kept, extremes-after-kept, same_events, same_additions}
use Rattle.kept.proofs.laws.Seen.{greatest, least, seen}

-- ---- tests that go up or down with the value

le_above : (x y : ℤ) → le_z x y ≡ true → lt_z y x ≡ false
le_above x y h = not-true (lt_z y x) (sym (le_z_not_lt_z x y) ∙ h)

not_le : (x y : ℤ) → le_z x y ≡ false → lt_z y x ≡ true
not_le x y h = not-false (lt_z y x) (sym (le_z_not_lt_z x y) ∙ h)

and_off : (e f : Bool) → (e && f) ≡ false → e ≡ true → f ≡ false
and_off true f h k = h
and_off false f h k = absurd (false≢true k)

module _ (marks : List ℕ) (r : List Reading) (mask : List Bool) (w : Includes mask (flags (kept_for marks) r)) where
  same_first : reading_at (select mask r) 0 ≡ reading_at r 0
  same_first = go r mask w
    where
      at_0 : (x : Reading) (r s : List Reading) → reading_at (x ∷ r) 0 ≡ reading_at (x ∷ s) 0
      at_0 x r s =
          let e : min 0 (last_of (x ∷ r)) ≡ 0 = omega arith in
          let f : min 0 (last_of (x ∷ s)) ≡ 0 = omega arith in
          ap (record_at (x ∷ r)) e ∙ sym (ap (record_at (x ∷ s)) f)

      go : (r : List Reading) (mask : List Bool) → Includes mask (flags (kept_for marks) r) → reading_at (select mask r) 0 ≡ reading_at r 0
      go [] mask w = refl
      go (x ∷ r) [] w = absurd w
      go (x ∷ r) (true ∷ mask) w = at_0 x (select mask r) r
      go (x ∷ r) (false ∷ mask) w = absurd (false≢true (w.0 refl))

  selection_tested : Tested marks (select mask r) r
  selection_tested = record {
    first = same_first;
    up = λ c z. seen marks r mask w any_time (less c) (λ b x a h. extremes-kept marks b x a (greatest any_time c b x a h)) (λ x. le_z z (value c x))
        (λ x h. refl)
        (λ x y h k q. lt_le_trans (value c y) z (value c x) (not_le z (value c y) k) (le_above z (value c x) h))
        (λ x y h. lt_z_asym (value c x) (value c y) h);
    down = λ c z. seen marks r mask w any_time (more c) (λ b x a h. extremes-kept marks b x a (least any_time c b x a h)) (λ x. le_z (value c x) z)
        (λ x h. refl)
        (λ x y h k q. lt_z_between z (value c x) (value c y) (not_le (value c y) z k) (le_above (value c x) z h))
        (λ x y h. lt_z_asym (value c y) (value c x) h);
    up_after = λ m e c z.
        seen marks r mask w (later_than m) (less c) (λ b x a h. extremes-after-kept marks m e b x a (greatest (later_than m) c b x a h)) (λ x. ltb m x.time && lt_z z (value c x))
        (λ x h. and_left (ltb m x.time) (lt_z z (value c x)) h)
        (λ x y h k q. lt_z_between z (value c y) (value c x) (and_right (ltb m x.time) (lt_z z (value c x)) h) (and_off (ltb m y.time) (lt_z z (value c y)) k q))
        (λ x y h. lt_z_asym (value c x) (value c y) h);
    down_after = λ m e c z.
        seen marks r mask w (later_than m) (more c) (λ b x a h. extremes-after-kept marks m e b x a (least (later_than m) c b x a h)) (λ x. ltb m x.time && le_z (value c x) z)
        (λ x h. and_left (ltb m x.time) (le_z (value c x) z) h)
        (λ x y h k q. lt_z_between z (value c x) (value c y) (not_le (value c y) z (and_off (ltb m y.time) (le_z (value c y) z) k q)) (le_above (value c x) z (and_right (ltb m x.time) (le_z (value c x) z) h)))
        (λ x y h. lt_z_asym (value c y) (value c x) h);
    events = same_events marks r mask w;
    additions = same_additions marks r mask w;
  }

  -- A SELECTION THAT INCLUDES THE KEPT READINGS HAS THE SAME OBSERVATION
  pub selection_alike : Alike marks (select mask r) r
  selection_alike = tested_alike selection_tested
