-- The entry of a run, line by line.
use Rattle.refusal.specs.declared.Refusal.{Refusal}
use Rattle.std.specs.Prelude.{ℕ, ◌+◌, ◌-◌, ◌*◌, ◌≤◌, ◌≡◌, true, false, length, take, drop, Result, Err}
use Rattle.std.proofs.Common.{arith, sym, ap, ◌∙◌, subst}
use mathlib.Core.List.{List, []}
use Rattle.refusal.specs.Outcome.{Outcome, refused, line, judged}
use Rattle.refusal.specs.declared.Refusal.TheVariants.{BadMarks}
use Rattle.recording.specs.Recording.{readings}
use Rattle.recording.specs.Output.{Answers}
use Rattle.recording.proofs.laws.Outcome.{judged-first, judged_skip, answers_refused}
use Rattle.entry.specs.inner.Reckoned.{reckoned}
use Rattle.entry.specs.Call.{entry_lines}
use Rattle.copying.proofs.laws.Put.{length_part}
use Rattle.live_state.specs.Limits.{most_held}
use Rattle.live_state.specs.State.{live_bytes, held_count, held_in, no_state}
use Rattle.live_state.proofs.laws.State.{is_state}
use Rattle.live_entry.specs.Call.{held_entry_of}

module _ (s : List ℕ) where
  -- 11
  pub none_entry : no_state s ≡ true → (room : ℕ) → held_entry_of s room ≡ refused 11 0
  unfolding held_entry_of
  none_entry h room = judged-first (line 11 (no_state s)) _ _ h

  -- 4, 10, or the entry
  pub state_entry : no_state s ≡ false → (room : ℕ) → held_entry_of s room ≡ judged (entry_lines (held_in s 0) room) (reckoned (readings (held_in s 0)))
  unfolding held_entry_of
  state_entry h room = judged_skip [] (line 11 (no_state s)) _ _ h

  -- the part that the code takes for the readings held
  pub record Held (n : ℕ) : Type 0 where
    pub long : live_bytes ≤ length s
    pub few : n ≤ most_held

  pub held_few : no_state s ≡ false → (n : ℕ) → n ≡ held_count s 0 → Held n
  held_few h n e =
      let st = is_state s h in
      let f = st.few.held in
      record { long = st.long; few = omega arith }

  pub held-part : (n : ℕ) → n ≡ held_count s 0 → take (64 + 16 * n - 64) (drop 64 s) ≡ held_in s 0
  held-part n e =
      let k : 64 + 16 * n - 64 ≡ 16 * held_count s 0 = omega arith in
      ap (λ (m : ℕ). take m (drop 64 s)) k

  -- n records from a place on
  pub records-length : (at n : ℕ) → at + 16 * n ≤ length s → length (take (at + 16 * n - at) (drop at s)) ≡ 16 * n
  records-length at n h =
      let k : at + 16 * n - at ≡ 16 * n = omega arith in
      ap (λ (m : ℕ). length (take m (drop at s))) k ∙ length_part at (16 * n) s h

  pub answers_none : no_state s ≡ true → (out : List ℕ) → Answers (held_entry_of s (length out)) out (Err BadMarks) out
  answers_none h out = answers_refused (held_entry_of s (length out)) out BadMarks (none_entry h (length out))

  pub answers_held : no_state s ≡ false → (held out : List ℕ) → held ≡ held_in s 0 → (r : Result ℕ Refusal) (new : List ℕ)
      → Answers (judged (entry_lines held (length out)) (reckoned (readings held))) out r new → Answers (held_entry_of s (length out)) out r new
  answers_held h held out e r new w =
      subst (λ (o : Outcome (List ℕ)). Answers o out r new)
      (ap (λ (b : List ℕ). judged (entry_lines b (length out)) (reckoned (readings b))) e ∙ sym (state_entry h (length out))) w
