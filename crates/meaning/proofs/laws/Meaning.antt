-- Document 01: the meaning of a node from its children at this and the next record, and at the last record.
use Rattle.std.specs.Prelude.{ℕ, suc, ◌⊎◌, ◌↔◌, List, ℤ}
use Rattle.std.proofs.Common.{arith, le_refl}
use Rattle.recording.specs.Reading.{Reading}
use Rattle.grammar.specs.Syntax.{Text, or, finally, globally, next, until, weak_until}
use Rattle.meaning.specs.Meaning.{last_of, Holds}
use Rattle.meaning.proofs.laws.Step.{finally_step, globally_step, until_step, weak_until_step, finally_last, globally_last, until_last, weak_until_last}
use Rattle.meaning.proofs.laws.Truth.{still}

module _ (r : List Reading) (z : ℤ) (p q : Text) where
  -- X at the last record is the last again
  pub X-last : Holds r z (next p) (last_of r) ↔ Holds r z p (last_of r)
  unfolding Holds
  X-last = (
    still r z p (suc (last_of r)) (last_of r) (omega arith) (le_refl (last_of r)),
    still r z p (last_of r) (suc (last_of r)) (le_refl (last_of r)) (omega arith),
  )

  -- at the last record F(p) and G(p) are p, U(p,q) is q, W(p,q) is p or q
  pub F-last : Holds r z (finally p) (last_of r) ↔ Holds r z p (last_of r)
  unfolding Holds
  F-last = finally_last (Holds r z p) (last_of r) (still r z p)

  pub G-last : Holds r z (globally p) (last_of r) ↔ Holds r z p (last_of r)
  unfolding Holds
  G-last = globally_last (Holds r z p) (last_of r) (still r z p)

  pub U-last : Holds r z (until p q) (last_of r) ↔ Holds r z q (last_of r)
  unfolding Holds
  U-last = until_last (Holds r z p) (last_of r) (still r z p) (Holds r z q) (still r z q)

  pub W-last : Holds r z (weak_until p q) (last_of r) ↔ Holds r z (or p q) (last_of r)
  unfolding Holds
  W-last = weak_until_last (Holds r z p) (last_of r) (still r z p) (Holds r z q) (still r z q)

  -- from this record and the next
  pub F-step : (i : ℕ) → Holds r z (finally p) i ↔ (Holds r z p i ⊎ Holds r z (finally p) (suc i))
  unfolding Holds
  F-step = finally_step (Holds r z p)

  pub G-step : (i : ℕ) → Holds r z (globally p) i ↔ (Holds r z p i × Holds r z (globally p) (suc i))
  unfolding Holds
  G-step = globally_step (Holds r z p)

  pub U-step : (i : ℕ) → Holds r z (until p q) i ↔ (Holds r z q i ⊎ (Holds r z p i × Holds r z (until p q) (suc i)))
  unfolding Holds
  U-step = until_step (Holds r z p) (Holds r z q)

  pub W-step : (i : ℕ) → Holds r z (weak_until p q) i ↔ (Holds r z q i ⊎ (Holds r z p i × Holds r z (weak_until p q) (suc i)))
  unfolding Holds
  W-step = weak_until_step (Holds r z p) (Holds r z q)

  -- W(p,q) is G(p) or U(p,q)
  pub W-is : (i : ℕ) → Holds r z (weak_until p q) i ↔ Holds r z (or (globally p) (until p q)) i
  unfolding Holds
  W-is i = (λ h. h, λ h. h)
