-- The meaning of a text without listed names from one reading to the next: by the list of the readings from there on.
use Prim.Native.Nat.{ℕ, zero, suc, ◌≤◌, ◌<◌, min}
use native.Mathlib.Omega.{arith}
use Rattle.std.specs.Prelude.{◌≡◌, false, ◌⊎◌, ◌↔◌, ℤ}
use Rattle.std.proofs.Common.{sym, true≢false}
use Rattle.std.proofs.Math.Path.{ap, subst}
use Rattle.std.proofs.Math.Logic.{inr, ⊎_elim}
use mathlib.Core.List.{List, [], ◌∷◌}
use Rattle.number.proofs.laws.Boolean.{none_left, none_right, then, either, both}
use Rattle.recording.specs.Reading.{Reading}
use Rattle.grammar.specs.Size.{has_listed}
use Rattle.grammar.specs.Syntax.{Text, atom, listed, or, and, neg, finally, globally, next, until, weak_until}
use Rattle.meaning.specs.Listed.{record_at}
use Rattle.meaning.specs.Meaning.{last_of, reading_at, AtomSays, Finally, Globally, Until, WeakUntil, Holds}
use Rattle.meaning.proofs.laws.Step.{finally_step, globally_step, until_step, weak_until_step}

-- ---- one reading on

module _ (P Q : ℕ → Type 0) (e : (j : ℕ) → P (suc j) ↔ Q j) where
  shift_finally : (i : ℕ) → Finally P (suc i) ↔ Finally Q i
  shift_finally i = (λ s. to s.0 s.1 s.2, λ s. (suc s.0, omega (arith, s.1), (e s.0).1 s.2))
    where
      to : (j : ℕ) → suc i ≤ j → P j → Finally Q i
      to zero l p = absurd (omega arith)
      to (suc j) l p = (j, omega arith, (e j).0 p)

  shift_globally : (i : ℕ) → Globally P (suc i) ↔ Globally Q i
  shift_globally i = (λ a j l. (e j).0 (a (suc j) (omega arith)), λ a j l. from a j l)
    where
      from : Globally Q i → (j : ℕ) → suc i ≤ j → P j
      from a zero l = absurd (omega arith)
      from a (suc j) l = (e j).1 (a j (omega arith))

  module _ (R S : ℕ → Type 0) (f : (j : ℕ) → R (suc j) ↔ S j) where
    shift_until : (i : ℕ) → Until P R (suc i) ↔ Until Q S i
    shift_until i = (
      λ u. to u.0 u.1 u.2 u.3,
      λ u. (suc u.0, omega (arith, u.1), (f u.0).1 u.2, λ k a b. from u.0 u.3 k a b),
    )
      where
        to : (j : ℕ) → suc i ≤ j → R j → ((k : ℕ) → suc i ≤ k → k < j → P k) → Until Q S i
        to zero l r p = absurd (omega arith)
        to (suc j) l r p = (j, omega arith, (f j).0 r, λ k a b. (e k).0 (p (suc k) (omega arith) (omega arith)))

        from : (j : ℕ) → ((k : ℕ) → i ≤ k → k < j → Q k) → (k : ℕ) → suc i ≤ k → k < suc j → P k
        from j q zero a b = absurd (omega arith)
        from j q (suc k) a b = (e k).1 (q k (omega arith) (omega arith))

    shift_weak : (i : ℕ) → WeakUntil P R (suc i) ↔ WeakUntil Q S i
    shift_weak i = either (shift_globally i) (shift_until i)

-- A TEXT AT THE NEXT READING is the text of the readings from there on
module _ (z : ℤ) (x y : Reading) (l : List Reading) where
  pub shift : (p : Text) → has_listed p ≡ false → (i : ℕ) → Holds (x ∷ y ∷ l) z p (suc i) ↔ Holds (y ∷ l) z p i
  unfolding Holds
  shift (atom k) h i =
      let m : min (suc i) (last_of (x ∷ y ∷ l)) ≡ suc (min i (last_of (y ∷ l))) = omega arith in
      let e : reading_at (x ∷ y ∷ l) (suc i) ≡ reading_at (y ∷ l) i = ap (record_at (x ∷ y ∷ l)) m in
      (subst (λ (w : Reading). AtomSays k w z) e, subst (λ (w : Reading). AtomSays k w z) (sym e))
  shift (listed q) h i = absurd (true≢false h)
  shift (or p q) h i = either (shift p (none_left (has_listed p) (has_listed q) h) i) (shift q (none_right (has_listed p) (has_listed q) h) i)
  shift (and p q) h i = both (shift p (none_left (has_listed p) (has_listed q) h) i) (shift q (none_right (has_listed p) (has_listed q) h) i)
  shift (neg p) h i = let a = shift p h i in (λ f t. f (a.1 t), λ f t. f (a.0 t))
  shift (finally p) h i = shift_finally (Holds (x ∷ y ∷ l) z p) (Holds (y ∷ l) z p) (shift p h) i
  shift (globally p) h i = shift_globally (Holds (x ∷ y ∷ l) z p) (Holds (y ∷ l) z p) (shift p h) i
  shift (next p) h i = shift p h (suc i)
  shift (until p q) h i =
      shift_until (Holds (x ∷ y ∷ l) z p) (Holds (y ∷ l) z p) (shift p (none_left (has_listed p) (has_listed q) h))
      (Holds (x ∷ y ∷ l) z q) (Holds (y ∷ l) z q) (shift q (none_right (has_listed p) (has_listed q) h)) i
  shift (weak_until p q) h i =
      shift_weak (Holds (x ∷ y ∷ l) z p) (Holds (y ∷ l) z p) (shift p (none_left (has_listed p) (has_listed q) h))
      (Holds (x ∷ y ∷ l) z q) (Holds (y ∷ l) z q) (shift q (none_right (has_listed p) (has_listed q) h)) i

-- ---- the text of readings: at the first of them

abbrev pub At : ℤ → Text → List Reading → Type 0
At z p l = Holds l z p 0

-- there are readings
abbrev pub Some : List Reading → Type 0
Some [] = ⊥
Some (x ∷ l) = Unit {0}

module _ (z : ℤ) where
  pub step_finally : (p : Text) → has_listed p ≡ false → (x : Reading) (s : List Reading) → Some s
      → At z (finally p) (x ∷ s) ↔ (At z p (x ∷ s) ⊎ (Unit {0} × At z (finally p) s))
  unfolding Holds
  step_finally p h x [] n = absurd n
  step_finally p h x (y ∷ l) n =
      then (finally_step (Holds (x ∷ y ∷ l) z p) 0) (either (λ t. t, λ t. t) (then (shift z x y l (finally p) h 0) (λ t. (tt, t), λ t. t.1)))

  pub step_globally : (p : Text) → has_listed p ≡ false → (x : Reading) (s : List Reading) → Some s
      → At z (globally p) (x ∷ s) ↔ (⊥ ⊎ (At z p (x ∷ s) × At z (globally p) s))
  unfolding Holds
  step_globally p h x [] n = absurd n
  step_globally p h x (y ∷ l) n =
      then (globally_step (Holds (x ∷ y ∷ l) z p) 0) (then (both (λ t. t, λ t. t) (shift z x y l (globally p) h 0)) (λ t. inr t, ⊎_elim (λ t. absurd t) (λ t. t)))

  pub step_until : (p q : Text) → has_listed (until p q) ≡ false → (x : Reading) (s : List Reading) → Some s
      → At z (until p q) (x ∷ s) ↔ (At z q (x ∷ s) ⊎ (At z p (x ∷ s) × At z (until p q) s))
  unfolding Holds
  step_until p q h x [] n = absurd n
  step_until p q h x (y ∷ l) n =
      then (until_step (Holds (x ∷ y ∷ l) z p) (Holds (x ∷ y ∷ l) z q) 0) (either (λ t. t, λ t. t) (both (λ t. t, λ t. t) (shift z x y l (until p q) h 0)))

  pub step_weak : (p q : Text) → has_listed (weak_until p q) ≡ false → (x : Reading) (s : List Reading) → Some s
      → At z (weak_until p q) (x ∷ s) ↔ (At z q (x ∷ s) ⊎ (At z p (x ∷ s) × At z (weak_until p q) s))
  unfolding Holds
  step_weak p q h x [] n = absurd n
  step_weak p q h x (y ∷ l) n =
      then (weak_until_step (Holds (x ∷ y ∷ l) z p) (Holds (x ∷ y ∷ l) z q) 0) (either (λ t. t, λ t. t) (both (λ t. t, λ t. t) (shift z x y l (weak_until p q) h 0)))

  pub step_next : (p : Text) → has_listed p ≡ false → (x : Reading) (s : List Reading) → Some s → At z (next p) (x ∷ s) ↔ At z p s
  unfolding Holds
  step_next p h x [] n = absurd n
  step_next p h x (y ∷ l) n = shift z x y l p h 0
