-- The step is the meaning: from the last record back to the first.
use Prim.Native.Nat.{ℕ, zero, suc, ◌+◌, ◌-◌, ◌<◌, ◌≤◌, min}
use native.Mathlib.Omega.{arith}
use Rattle.std.proofs.Math.Decide.{ℕ_discrete}
use Rattle.std.specs.Prelude.{◌≡◌, Bool, ◌||◌, ◌&&◌, List}
use Rattle.std.proofs.Math.Path.{refl, ap}
use Rattle.std.proofs.Common.{sym, subst}
use Rattle.std.proofs.Math.Bool.{true, false}
use Rattle.grammar.specs.inner.Kinds.{AND}
use Rattle.meaning.specs.inner.Coded.{Coded}
use Rattle.meaning.specs.inner.Truth.{val, last_coded, finally_from, globally_from, until_from, weak_from}
use Rattle.grammar.specs.Syntax.{Text}
use Rattle.grammar.specs.inner.Table.{row, build, binary_from, kinds, unary_from}
use Rattle.evaluation.specs.inner.Step.{unary_of, binary_of}

-- what holds of four numbers in a row holds of each from the first up to the last
pub four : (P : ℕ → Type 0) (a k : ℕ) → a ≤ k → k < a + 4 → P a → P (a + 1) → P (a + 2) → P (a + 3) → P k
four P a k l h p q s t = by (ℕ_discrete k a) (ℕ_discrete k (a + 1)) (ℕ_discrete k (a + 2))
  where
    by : Dec (k ≡ a) → Dec (k ≡ a + 1) → Dec (k ≡ a + 2) → P k
    by (yes e) d f = subst P (sym e) p
    by (no n) (yes e) f = subst P (sym e) q
    by (no n) (no m) (yes e) = subst P (sym e) s
    by (no n) (no m) (no o) = let e : a + 3 ≡ k = omega arith in subst P e t

module _ (r : List Coded) (v i a b n : ℕ) (p q : Text) where
  at_last : i ≡ last_coded r → last_coded r - i ≡ zero
  at_last e = omega arith

  inner : i < last_coded r → last_coded r - i ≡ suc (last_coded r - suc i)
  inner h = omega arith

  -- a node with one child, at the last record and before it
  pub unary_last : (k : ℕ) → unary_from ≤ k → k < binary_from → (own old : Bool) → i ≡ last_coded r
      → val r v (build (row k a b n) p q) i ≡ unary_of k true (val r v p i) own old
  unfolding val
  unary_last k l h own old e =
      four (λ (k : ℕ). val r v (build (row k a b n) p q) i ≡ unary_of k true (val r v p i) own old) unary_from k l h
      refl
      (let m : min (suc i) (last_coded r) ≡ i = omega arith in ap (val r v p) m)
      (ap (λ (d : ℕ). finally_from (val r v p) d i) (at_last e))
      (ap (λ (d : ℕ). globally_from (val r v p) d i) (at_last e))

  pub unary_inner : (k : ℕ) → unary_from ≤ k → k < binary_from → i < last_coded r
      → val r v (build (row k a b n) p q) i
      ≡ unary_of k false (val r v p i) (val r v (build (row k a b n) p q) (suc i)) (val r v p (suc i))
  unfolding val
  unary_inner k l h e =
      four
      (λ (k : ℕ). val r v (build (row k a b n) p q) i
      ≡ unary_of k false (val r v p i) (val r v (build (row k a b n) p q) (suc i)) (val r v p (suc i)))
      unary_from k l h
      refl
      (let m : min (suc i) (last_coded r) ≡ suc i = omega arith in ap (val r v p) m)
      (ap (λ (d : ℕ). finally_from (val r v p) d i) (inner e))
      (ap (λ (d : ℕ). globally_from (val r v p) d i) (inner e))

  -- a node with two children
  pub binary_last : (k : ℕ) → binary_from ≤ k → k < kinds → (own : Bool) → i ≡ last_coded r
      → val r v (build (row k a b n) p q) i ≡ binary_of k true (val r v p i) (val r v q i) own
  unfolding val
  binary_last k l h own e =
      four (λ (k : ℕ). val r v (build (row k a b n) p q) i ≡ binary_of k true (val r v p i) (val r v q i) own) binary_from k l h
      refl
      refl
      (ap (λ (d : ℕ). until_from (val r v p) (val r v q) d i) (at_last e))
      (ap (λ (d : ℕ). weak_from (val r v p) (val r v q) d i) (at_last e))

  pub binary_inner : (k : ℕ) → binary_from ≤ k → k < kinds → i < last_coded r
      → val r v (build (row k a b n) p q) i
      ≡ binary_of k false (val r v p i) (val r v q i) (val r v (build (row k a b n) p q) (suc i))
  unfolding val
  binary_inner k l h e =
      four
      (λ (k : ℕ). val r v (build (row k a b n) p q) i
      ≡ binary_of k false (val r v p i) (val r v q i) (val r v (build (row k a b n) p q) (suc i)))
      binary_from k l h
      refl
      refl
      (ap (λ (d : ℕ). until_from (val r v p) (val r v q) d i) (inner e))
      (ap (λ (d : ℕ). weak_from (val r v p) (val r v q) d i) (inner e))

-- X, F and G at the last record are their child
pub child_at-last : (k : ℕ) → unary_from ≤ k → k < binary_from → (k ≡ unary_from → ⊥) → (p own old : Bool) → p ≡ unary_of k true p own old
child_at-last k l h ne p own old =
    four (λ (k : ℕ). (k ≡ unary_from → ⊥) → p ≡ unary_of k true p own old) unary_from k l h (λ n. absurd (n refl)) (λ n. refl) (λ n. refl) (λ n. refl) ne

-- the last of four numbers in a row
pub last_of_four : (a k : ℕ) → a ≤ k → k < a + 4 → (k ≡ a → ⊥) → (k ≡ a + 1 → ⊥) → (k ≡ a + 2 → ⊥) → k ≡ a + 3
last_of_four a k l h x y z = omega arith

-- U and W before the last record
pub until_or_weak : (k : ℕ) → binary_from ≤ k → k < kinds → (k ≡ binary_from → ⊥) → (k ≡ AND → ⊥) → (p q own : Bool) → (q || (p && own)) ≡ binary_of k false p q own
until_or_weak k l h m n p q own =
    four (λ (k : ℕ). (k ≡ binary_from → ⊥) → (k ≡ AND → ⊥) → (q || (p && own)) ≡ binary_of k false p q own) binary_from k l h
    (λ x y. absurd (x refl)) (λ x y. absurd (y refl)) (λ x y. refl) (λ x y. refl) m n
