-- Laws of places: the place of a refusal fits in the low half of what a call returns.
use Rattle.std.specs.Prelude.{ℕ, ◌/◌, ◌%◌, ◌≤◌, ◌<◌, ◌≡◌, refl, Bool, not, eqb}
use native.Mathlib.Omega.{arith}
use Rattle.std.proofs.Math.Path.{sym}
use Rattle.std.proofs.Common.{◌∙◌}
use Rattle.std.proofs.Math.Bool.{true, false, cond}
use mathlib.Core.List.{List, [], ◌∷◌, ◌++◌}
use Rattle.std.proofs.Math.Dec.{ltb}
use Rattle.std.proofs.Math.ListN.{length}
use borrow.Author.Tests.{ltb-true, ltb-false}
use Rattle.refusal.specs.Outcome.{Outcome, refused, Line, judged}
use Rattle.recording.specs.Recording.{records, first_bad, recording_lines, most_records}
use Rattle.recording.proofs.laws.Record.{length-records}
use Rattle.recording.proofs.laws.Outcome.{no_result}
use Rattle.reply.specs.Reply.{half}

-- lines whose place is 0
abbrev pub Plain : List Line → Type 0
Plain [] = Unit {0}
Plain (l ∷ ls) = (l.place ≡ 0) × Plain ls

module _ {R : Type 0} where
  place_of : (n p m q : ℕ) → ◌≡◌ {A = Outcome R} (refused n p) (refused m q) → p ≡ q
  place_of n p m q e = cc

  pub plain-place : (ls : List Line) (r : R) (n p : ℕ) → Plain ls → judged ls r ≡ refused n p → p ≡ 0
  unfolding judged
  plain-place [] r n p k e = no_result n p r (sym e)
  plain-place (l ∷ ls) r n p k e = go l.meets e (plain-place ls r n p k.1)
    where
      go : (b : Bool) → cond b (refused l.number l.place) (judged ls r) ≡ refused n p → (judged ls r ≡ refused n p → p ≡ 0) → p ≡ 0
      go true e rest = sym (place_of l.number l.place n p e) ∙ k.0
      go false e rest = rest e

  -- the place of a refusal is a record of a recording, or 0
  pub place-below : (bytes : List ℕ) (ls : List Line) (r : R) (n p : ℕ) → Plain ls → judged (recording_lines bytes ++ ls) r ≡ refused n p → p < half
  unfolding judged
  place-below bytes ls r n p k e = first (not (eqb (length bytes % 16) 0)) e
    where
      third : (c : Bool) → ltb most_records (length bytes / 16) ≡ false → ltb (first_bad (records bytes)) (length (records bytes)) ≡ c
          → cond c (refused 3 (first_bad (records bytes))) (judged ls r) ≡ refused n p → p < half
      third true s h e =
          let m : length bytes / 16 ≤ most_records = ltb-false most_records (length bytes / 16) s in
          let f : first_bad (records bytes) < length (records bytes) = ltb-true _ _ h in
          let l = length-records bytes in
          let q = place_of 3 (first_bad (records bytes)) n p e in
          omega arith
      third false s h e = let z = plain-place ls r n p k e in omega arith

      second : (b : Bool) → ltb most_records (length bytes / 16) ≡ b
          → cond b (refused 2 0) (cond (ltb (first_bad (records bytes)) (length (records bytes))) (refused 3 (first_bad (records bytes))) (judged ls r)) ≡ refused n p → p < half
      second true h e = let z = place_of 2 0 n p e in omega arith
      second false h e = third (ltb (first_bad (records bytes)) (length (records bytes))) h refl e

      first : (b : Bool) → cond b (refused 1 0) (cond (ltb most_records (length bytes / 16)) (refused 2 0) (cond (ltb (first_bad (records bytes)) (length (records bytes))) (refused 3 (first_bad (records bytes))) (judged ls r))) ≡ refused n p → p < half
      first true e = let z = place_of 1 0 n p e in omega arith
      first false e = second (ltb most_records (length bytes / 16)) refl e
