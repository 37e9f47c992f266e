-- F, G, U and W from one record to the next, and at the last record, from the declarative meaning.
use Rattle.std.proofs.Common.{sym, subst, inl, inr, ⊎_elim, le_refl, eq-or-lt_of_le, arith}
use Rattle.std.specs.Prelude.{◌⊎◌, ◌↔◌, ℕ, suc, ◌≤◌}
use Rattle.meaning.specs.Meaning.{Finally, Globally, Until, WeakUntil}

module _ (P : ℕ → Type 0) where
  pub finally_step : (i : ℕ) → Finally P i ↔ (P i ⊎ Finally P (suc i))
  finally_step i = (
    λ s. ⊎_elim (λ e. inl (subst P (sym e) s.2)) (λ l. inr (s.0, l, s.2)) (eq-or-lt_of_le s.1),
    ⊎_elim (λ p. (i, le_refl i, p)) (λ s. (s.0, omega (arith, s.1), s.2)),
  )

  pub globally_step : (i : ℕ) → Globally P i ↔ (P i × Globally P (suc i))
  globally_step i = (
    λ a. (a i (le_refl i), λ j l. a j (omega arith)),
    λ h j l. ⊎_elim (λ e. subst P e h.0) (λ l'. h.1 j l') (eq-or-lt_of_le l),
  )

  module _ (Q : ℕ → Type 0) where
    pub until_step : (i : ℕ) → Until P Q i ↔ (Q i ⊎ (P i × Until P Q (suc i)))
    until_step i = (
      λ u. ⊎_elim (λ e. inl (subst Q (sym e) u.2))
          (λ l. inr (u.3 i (le_refl i) l, (u.0, l, u.2, λ k a b. u.3 k (omega arith) b)))
          (eq-or-lt_of_le u.1),
      ⊎_elim (λ q. (i, le_refl i, q, λ k a b. absurd (omega arith)))
          (λ h. (
            h.1.0,
            omega (arith, h.1.1),
            h.1.2,
            λ k a b. ⊎_elim (λ e. subst P e h.0) (λ l. h.1.3 k l b) (eq-or-lt_of_le a),
          )),
    )

    pub weak_until_step : (i : ℕ) → WeakUntil P Q i ↔ (Q i ⊎ (P i × WeakUntil P Q (suc i)))
    weak_until_step i = (
      ⊎_elim (λ a. inr (((globally_step i).0 a).0, inl ((globally_step i).0 a).1))
          (λ u. ⊎_elim (λ q. inl q) (λ h. inr (h.0, inr h.1)) ((until_step i).0 u)),
      ⊎_elim (λ q. inr ((until_step i).1 (inl q)))
          (λ h. ⊎_elim (λ a. inl ((globally_step i).1 (h.0, a))) (λ u. inr ((until_step i).1 (inr (h.0, u)))) h.1),
    )

-- at record n, from which on nothing changes
abbrev pub Still : (ℕ → Type 0) → ℕ → Type 0
Still P n = (i j : ℕ) → n ≤ i → n ≤ j → P i → P j

module _ (P : ℕ → Type 0) (n : ℕ) (still : Still P n) where
  pub finally_last : Finally P n ↔ P n
  finally_last = (λ s. still s.0 n s.1 (le_refl n) s.2, λ p. (n, le_refl n, p))

  pub globally_last : Globally P n ↔ P n
  globally_last = (λ a. a n (le_refl n), λ p j l. still n j (le_refl n) l p)

  module _ (Q : ℕ → Type 0) (stillQ : Still Q n) where
    pub until_last : Until P Q n ↔ Q n
    until_last = (λ u. stillQ u.0 n u.1 (le_refl n) u.2, λ q. (n, le_refl n, q, λ k a b. absurd (omega arith)))

    pub weak_until_last : WeakUntil P Q n ↔ (P n ⊎ Q n)
    weak_until_last = (
      ⊎_elim (λ a. inl (globally_last.0 a)) (λ u. inr (until_last.0 u)),
      ⊎_elim (λ p. inl (globally_last.1 p)) (λ q. inr (until_last.1 q)),
    )
