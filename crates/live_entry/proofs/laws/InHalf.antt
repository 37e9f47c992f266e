-- What the call answers can be read off the number that it returns: it fits in the low half, and the number of a refusal is not 0.
use Rattle.std.specs.Prelude.{ℕ, ◌≡◌, refl, Bool, true, false, List, ltb, length}
use Rattle.std.proofs.Common.{arith, sym, subst}
use Rattle.std.proofs.Math.Bool.{cond}
use Rattle.refusal.specs.Outcome.{Outcome, result, refused, judged}
use Rattle.recording.specs.Recording.{readings, no_record}
use Rattle.recording.specs.Output.{counted}
use Rattle.reply.specs.Reply.{InHalf}
use Rattle.reply.proofs.laws.Unpacked.{Numbered}
use Rattle.entry.specs.inner.Reckoned.{reckoned}
use Rattle.entry.proofs.laws.Reckoned.{length-reckoned}
use Rattle.live_state.specs.State.{held_in, no_state}
use Rattle.live_entry.specs.Call.{held_entry_of}

module _ (s : List ℕ) (room : ℕ) where
  abbrev entry : List ℕ
  entry = reckoned (readings (held_in s 0))

  -- test by test
  entry_by : (a b c : Bool) → no_state s ≡ a → (no_record (held_in s 0)).meets ≡ b → ltb room (length entry) ≡ c
      → held_entry_of s room ≡ cond a (refused 11 0) (cond b (refused 4 0) (cond c (refused 10 0) (result entry)))
  unfolding held_entry_of judged
  entry_by a b c ea eb ec = λ i. cond (ea i) (refused 11 0) (cond (eb i) (refused 4 0) (cond (ec i) (refused 10 0) (result entry)))

  -- what holds of the three refusals and of the entry
  of_each : (P : Outcome (List ℕ) → Type 0) → P (refused 11 0) → P (refused 4 0) → P (refused 10 0) → P (result entry) → P (held_entry_of s room)
  of_each P eleven four ten done =
      subst P (sym (entry_by (no_state s) (no_record (held_in s 0)).meets (ltb room (length entry)) refl refl refl))
      (at (no_state s) (no_record (held_in s 0)).meets (ltb room (length entry)))
    where
      at : (a b c : Bool) → P (cond a (refused 11 0) (cond b (refused 4 0) (cond c (refused 10 0) (result entry))))
      at true b c = eleven
      at false true c = four
      at false false true = ten
      at false false false = done

  pub run-entry_in_half : InHalf (counted (held_entry_of s room))
  run-entry_in_half =
      of_each (λ (o : Outcome (List ℕ)). InHalf (counted o)) (omega arith) (omega arith) (omega arith) (omega (arith, length-reckoned (readings (held_in s 0))))

  pub run-entry-numbered : Numbered (counted (held_entry_of s room))
  run-entry-numbered = of_each (λ (o : Outcome (List ℕ)). Numbered (counted o)) (omega arith) (omega arith) (omega arith) tt
