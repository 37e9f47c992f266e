-- The laboratory's pair call, line by line.
use Rattle.std.specs.Prelude.{ℕ, ◌/◌, ◌≡◌, refl, List, [], ◌∷◌, ◌++◌, ℤ, length, Result, Ok, Err, Some, None}
use Rattle.std.proofs.Math.Path.{sym, ap}
use Rattle.std.proofs.Common.{◌∙◌, eq-eqb, ne_eqb}
use Rattle.refusal.specs.Outcome.{refused, judged, NoneMeets, reported}
use Rattle.refusal.specs.Numbers.{number_of, place_of}
use Rattle.refusal.specs.declared.Refusal.{Refusal}
use Rattle.recording.specs.Reading.{curve_of}
use Rattle.recording.specs.Recording.{records, readings, recording_lines, no_record}
use Rattle.recording.proofs.laws.Outcome.{judged_pass, judged_skip, judged-first, refusal_stands}
use Rattle.recording.proofs.laws.Acceptance.{check_accepts}
use Rattle.recording.proofs.laws.Record.{length-records}
use Rattle.targets.specs.Target.{Placed, bad_target}
use Rattle.pair.specs.Pair.{first_pair, too_many_tops, pair_of}
use Rattle.lab.specs.Lab.{curve_line, lab_pair_of}

-- a curve that is not B: 14 does not meet, and the call is the plain one
pub other_curve : (bytes : List ℕ) (c : ℕ) (g : ℤ) → (c ≡ 1 → ⊥) → pair_of bytes c g ≡ lab_pair_of bytes c g
unfolding pair_of lab_pair_of
other_curve bytes c g h =
    sym (judged_skip (recording_lines bytes ++ (no_record bytes ∷ bad_target c g ∷ [])) (curve_line c) (too_many_tops bytes c ∷ []) (first_pair (readings bytes) (curve_of c) g) (ne_eqb c 1 h))

-- ---- the pair call on B

module _ (bytes : List ℕ) (g : ℤ) (r : Result ℕ Refusal) where
  pub recording_refused : (x : Refusal) → reported r ≡ judged (recording_lines bytes) (length bytes / 16) → r ≡ Err x → refused (number_of x) (place_of x) ≡ lab_pair_of bytes 1 g
  unfolding lab_pair_of
  recording_refused x e q = sym (refusal_stands (recording_lines bytes) _ (length bytes / 16) _ (number_of x) (place_of x) (sym e ∙ ap reported q))

  module _ (n : ℕ) (e : reported r ≡ judged (recording_lines bytes) (length bytes / 16)) (q : r ≡ Ok n) where
    count : length (records bytes) ≡ n
    count = length-records bytes ∙ sym (check_accepts bytes r n e q).1

    pub none_there : n ≡ 0 → refused 4 0 ≡ lab_pair_of bytes 1 g
    unfolding lab_pair_of
    none_there z = sym (judged_pass (recording_lines bytes) _ _ (check_accepts bytes r n e q).0 ∙ judged-first (no_record bytes) _ _ (eq-eqb (length (records bytes)) 0 (count ∙ z)))

    module _ (some : n ≡ 0 → ⊥) where
      passed : NoneMeets (no_record bytes ∷ [])
      passed = (ne_eqb (length (records bytes)) 0 (λ z. some (sym count ∙ z)), tt)

      pub target_off : Placed g None → refused 12 0 ≡ lab_pair_of bytes 1 g
      unfolding lab_pair_of
      target_off h =
          sym (judged_pass (recording_lines bytes) _ _ (check_accepts bytes r n e q).0 ∙ judged_pass (no_record bytes ∷ []) _ _ passed ∙ judged-first (bad_target 1 g) _ _ h)

      pub always_b : (i : ℕ) → Placed g (Some i) → refused 14 0 ≡ lab_pair_of bytes 1 g
      unfolding lab_pair_of
      always_b i h =
          sym (judged_pass (recording_lines bytes) _ _ (check_accepts bytes r n e q).0 ∙ judged_pass (no_record bytes ∷ []) _ _ passed ∙ judged_pass (bad_target 1 g ∷ []) _ _ (h.0, tt)
          ∙ judged-first (curve_line 1) _ _ refl)
