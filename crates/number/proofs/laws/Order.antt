-- Which of two numbers is less, and tests that pass together.
use Rattle.std.specs.Prelude.{◌≡◌, ℕ, ◌<◌, ◌≤◌, Bool, true, false, cond, not, ◌⊎◌, ◌≢◌, nat_le, nat_lt, refl}
use Rattle.std.proofs.Common.{sym, ap, ◌∙◌, inl, inr, ⊎_elim, arith, lt-ltb, le-ltb, le-leb, ltb-true, ltb-false}
use Rattle.std.proofs.lemmas.Bool.{lt-leb}

pub positive : (n : ℕ) → (n ≢ 0) → 0 < n
positive n h = omega arith

pub one_at_most : (e : Bool) → cond e 1 0 ≤ 1
one_at_most true = omega arith
one_at_most false = omega arith

pub less_or_not : (x y : ℕ) → (x < y) ⊎ (y ≤ x)
less_or_not x y = by (nat_lt x y) refl
  where
    by : (b : Bool) → nat_lt x y ≡ b → (x < y) ⊎ (y ≤ x)
    by true e = inl (ltb-true x y e)
    by false e = inr (ltb-false x y e)

pub less-more_equal : (x y : ℕ) → (x < y) ⊎ ((y < x) ⊎ (x ≡ y))
less-more_equal x y =
    ⊎_elim (λ h. inl h) (λ h. ⊎_elim (λ g. inr (inl g)) (λ g. inr (inr (omega arith))) (less_or_not y x)) (less_or_not x y)

pub ltb_same : (a b c d : ℕ) → (a < b → c < d) → (b ≤ a → d ≤ c) → nat_lt a b ≡ nat_lt c d
ltb_same a b c d f g =
    ⊎_elim (λ h. lt-ltb a b h ∙ sym (lt-ltb c d (f h))) (λ h. le-ltb a b h ∙ sym (le-ltb c d (g h))) (less_or_not a b)

pub leb_not_ltb : (m n : ℕ) → nat_le m n ≡ not (nat_lt n m)
leb_not_ltb m n =
    ⊎_elim (λ h. lt-leb m n h ∙ ap not (sym (lt-ltb n m h))) (λ h. le-leb m n h ∙ ap not (sym (le-ltb n m h))) (less_or_not n m)

-- a Bool is one of two
pub true_or_false : (b : Bool) → (b ≡ true) ⊎ (b ≡ false)
true_or_false true = inl refl
true_or_false false = inr refl
