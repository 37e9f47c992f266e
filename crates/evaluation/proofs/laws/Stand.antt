-- The sets of a text in the two tables: the root's, and that they stay where the slots of its rows stay.
use Rattle.std.specs.Prelude.{ℕ, ◌+◌, ◌-◌, ◌≤◌, ◌<◌, ◌≡◌, List}
use native.Mathlib.Omega.{arith}
use Rattle.std.proofs.Common.{sym}
use Rattle.std.proofs.Math.Path.{subst}
use Rattle.runs.specs.Set.{Holds}
use Rattle.grammar.specs.Syntax.{Text}
use Rattle.grammar.specs.inner.Parse.{node}
use Rattle.parser.specs.inner.Rows.{Laid, leaf, unary, binary}
use Rattle.meaning.specs.inner.Coded.{Coded}
use Rattle.meaning.specs.inner.Truth.{val}
use Rattle.parser.proofs.laws.Rows.{laid_above}
use Rattle.evaluation.specs.inner.Slots.{slot}
use Rattle.evaluation.specs.inner.Evaluate.{SlotHolds, Stand}

-- the slots from b on and before m are the same
abbrev pub Same : ℕ → ℕ → List ℕ → List ℕ → Type 0
Same b m before after = (k : ℕ) → b ≤ k → k < m → slot after k ≡ slot before k

module _ (r : List Coded) (i : ℕ) where
  -- the root's slot is the last
  pub stand_root : {table : List ℕ} {b m : ℕ} {t : Text} (laid : Laid table b m t) (own other : List ℕ) → Stand r i laid own other → SlotHolds r i t (m - 1) own
  unfolding Stand
  stand_root (leaf {b} {t} l e) own other s = let x : b ≡ b + 1 - 1 = omega arith in subst (λ (j : ℕ). SlotHolds r i t j own) x s
  stand_root (unary {b} {m} {p} k l h child e) own other s = let x : m ≡ m + 1 - 1 = omega arith in subst (λ (j : ℕ). SlotHolds r i (node k p p) j own) x s.0
  stand_root (binary {b} {m} {n} {p} {q} k l h first second e) own other s =
      let x : n ≡ n + 1 - 1 = omega arith in subst (λ (j : ℕ). SlotHolds r i (node k p q) j own) x s.0

  right_same : (t : Text) (n : ℕ) (x y : List ℕ) → slot y n ≡ slot x n → SlotHolds r i t n x → SlotHolds r i t n y
  right_same t n x y e h = subst (Holds (λ v. val r v t i)) (sym e) h

  pub stand_same : {table : List ℕ} {b m : ℕ} {t : Text} (laid : Laid table b m t) (own other own' other' : List ℕ) → Same b m own own' → Same b m other other'
      → Stand r i laid own other → Stand r i laid own' other'
  unfolding Stand
  stand_same (leaf {b} {t} l e) own other own' other' f g s = right_same t b own own' (f b (omega arith) (omega arith)) s
  stand_same (unary {b} {m} {p} k l h child e) own other own' other' f g s =
      let o = laid_above child in (
        right_same (node k p p) m own own' (f m (omega arith) (omega arith)) s.0,
        stand_same child other own other' own' (λ j d u. g j d (omega arith)) (λ j d u. f j d (omega arith)) s.1,
      )
  stand_same (binary {b} {m} {n} {p} {q} k l h first second e) own other own' other' f g s =
      let o = laid_above first in
      let u = laid_above second in (
        right_same (node k p q) n own own' (f n (omega arith) (omega arith)) s.0,
        stand_same first other own other' own' (λ j d w. g j d (omega arith)) (λ j d w. f j d (omega arith)) s.1,
        stand_same second other own other' own' (λ j d w. g j (omega arith) (omega arith)) (λ j d w. f j (omega arith) (omega arith)) s.2,
      )
