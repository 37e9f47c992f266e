-- `val` is true exactly where the meaning holds: by the text, and for F, G, U and W by the distance to the last record.
use Prim.Native.Nat.{ℕ, zero, suc, ◌+◌, ◌-◌, ◌≤◌, min}
use native.Mathlib.Omega.{arith}
use Rattle.std.proofs.Math.Nat.{le_refl}
use Rattle.std.proofs.Common.{eq-or-lt_of_le, sym, ◌∙◌}
use Rattle.std.specs.Prelude.{◌≡◌, refl, Bool, ◌&&◌, ◌↔◌, List, [], ◌∷◌, map, get_or, ℤ}
use Rattle.std.proofs.Math.Path.{ap, subst}
use Rattle.std.proofs.Math.Bool.{So}
use Rattle.std.proofs.Math.Logic.{inl, inr, ⊎_elim}
use Rattle.std.proofs.lemmas.List.{length-map}
use Rattle.std.proofs.Math.ListN.{get_or-map}
use Rattle.number.specs.Axis.{origin, whole}
use Rattle.recording.specs.Reading.{Reading, Curve, A, B, value, nothing}
use Rattle.grammar.specs.Syntax.{Field, of, T, Relation, ge, le, gt, lt, eq, Operand, v, number, Atom, compare, A-to-B, fall, rise, pigment, Text, atom, listed, or, and, neg, finally, globally, next, until, weak_until}
use Rattle.meaning.specs.Listed.{record_at}
use Rattle.meaning.specs.Meaning.{last_of, reading_at, field, operand, Relates, AtomSays, Finally, Globally, Until, WeakUntil, Holds}
use Rattle.meaning.specs.inner.Recorded.{InRange}
use Rattle.meaning.specs.inner.Coded.{Coded, code, blank}
use Rattle.meaning.specs.inner.Truth.{coded_field, coded_operand, relate, atom_val, last_coded, coded_at, finally_from, globally_from, until_from, weak_from, val}
use Rattle.number.proofs.laws.Boolean.{then, back, either, both, so_or, so_and, so_not}
use Rattle.meaning.proofs.laws.Whole.{Stands, stands_whole, le_index, lt_index, eq_index}
use Rattle.meaning.proofs.laws.Listed.{Settled, settled, stands_time, truth-says}
use Rattle.meaning.proofs.laws.Step.{Still, finally_step, globally_step, until_step, weak_until_step, finally_last, globally_last, until_last, weak_until_last}

-- ---- F, G, U and W

module _ (f : ℕ → Bool) (P : ℕ → Type 0) (n : ℕ) (isP : (k : ℕ) → k ≤ n → So (f k) ↔ P k) (still : Still P n) where
  still_at : (i : ℕ) → i + 0 ≡ n → Still P i
  still_at i e a b x y = still a b (omega arith) (omega arith)

  so_finally : (d i : ℕ) → i + d ≡ n → So (finally_from f d i) ↔ Finally P i
  so_finally zero i e = then (isP i (omega arith)) (back (finally_last P i (still_at i e)))
  so_finally (suc d) i e =
      then (so_or (f i) (finally_from f d (suc i))) (then (either (isP i (omega arith)) (so_finally d (suc i) (omega arith))) (back (finally_step P i)))

  so_globally : (d i : ℕ) → i + d ≡ n → So (globally_from f d i) ↔ Globally P i
  so_globally zero i e = then (isP i (omega arith)) (back (globally_last P i (still_at i e)))
  so_globally (suc d) i e =
      then (so_and (f i) (globally_from f d (suc i))) (then (both (isP i (omega arith)) (so_globally d (suc i) (omega arith))) (back (globally_step P i)))

module _ (f : ℕ → Bool) (P : ℕ → Type 0) (n : ℕ) (isP : (k : ℕ) → k ≤ n → So (f k) ↔ P k) (still : Still P n)
    (g : ℕ → Bool) (Q : ℕ → Type 0) (isQ : (k : ℕ) → k ≤ n → So (g k) ↔ Q k) (stillQ : Still Q n) where
  so_until : (d i : ℕ) → i + d ≡ n → So (until_from f g d i) ↔ Until P Q i
  so_until zero i e =
      then (isQ i (omega arith)) (back (until_last P i (still_at f P n isP still i e) Q (still_at g Q n isQ stillQ i e)))
  so_until (suc d) i e =
      then (so_or (g i) (f i && until_from f g d (suc i)))
      (then (either (isQ i (omega arith)) (then (so_and (f i) (until_from f g d (suc i))) (both (isP i (omega arith)) (so_until d (suc i) (omega arith)))))
      (back (until_step P Q i)))

  so_weak : (d i : ℕ) → i + d ≡ n → So (weak_from f g d i) ↔ WeakUntil P Q i
  so_weak zero i e =
      then (so_or (f i) (g i)) (then (either (isP i (omega arith)) (isQ i (omega arith)))
      (back (weak_until_last P i (still_at f P n isP still i e) Q (still_at g Q n isQ stillQ i e))))
  so_weak (suc d) i e =
      then (so_or (g i) (f i && weak_from f g d (suc i)))
      (then (either (isQ i (omega arith)) (then (so_and (f i) (weak_from f g d (suc i))) (both (isP i (omega arith)) (so_weak d (suc i) (omega arith)))))
      (back (weak_until_step P Q i)))

-- ---- atoms

so_relate : (ρ : Relation) (x y : ℤ) (m n : ℕ) → Stands x m origin → Stands y n origin → So (relate ρ m n) ↔ Relates ρ x y
so_relate ge x y m n h k = le_index y x n m k h
so_relate le x y m n h k = le_index x y m n h k
so_relate gt x y m n h k = lt_index y x n m k h
so_relate lt x y m n h k = lt_index x y m n h k
so_relate eq x y m n h k = let e = eq_index y x n m k h in (λ p. sym (e.0 p), λ p. e.1 (sym p))

stands_field : (f : Field) (x : Reading) → Settled x → Stands (field f x) (coded_field f (code x)) origin
stands_field (of c) x s = s c
stands_field T x s = stands_time x

stands_operand : (o : Operand) (n : ℕ) → Stands (operand o (whole n)) (coded_operand o n) origin
stands_operand v n = stands_whole n
stands_operand (number k) n = stands_whole k

so_atom : (k : Atom) (x : Reading) → Settled x → (n : ℕ) → So (atom_val k (code x) n) ↔ AtomSays k x (whole n)
so_atom (compare f ρ o) x s n =
    so_relate ρ (field f x) (operand o (whole n)) (coded_field f (code x)) (coded_operand o n) (stands_field f x s) (stands_operand o n)
so_atom (A-to-B ρ) x s n = so_relate ρ x.a x.b (code x).a (code x).b (s A) (s B)
so_atom (fall A) x s n = (λ h. h, λ h. h)
so_atom (fall B) x s n = (λ h. h, λ h. h)
so_atom (rise A) x s n = (λ h. h, λ h. h)
so_atom (rise B) x s n = (λ h. h, λ h. h)
so_atom (pigment zero) x s n = (λ h. h, λ h. h)
so_atom (pigment (suc k)) x s n = (λ h. h, λ h. h)

-- ---- readings by index

pub last_code : (r : List Reading) → last_coded (map code r) ≡ last_of r
last_code r = ap (λ (n : ℕ). n - 1) (length-map r code)

pub at_code : (r : List Reading) (i : ℕ) → coded_at (map code r) i ≡ code (reading_at r i)
at_code r i = ap (λ (l : ℕ). get_or (map code r) (min i l) blank) (last_code r) ∙ get_or-map code r (min i (last_of r)) nothing

reading_settled : (r : List Reading) → InRange r → (i : ℕ) → Settled (reading_at r i)
reading_settled [] h i = settled nothing zero_in
  where
    zero_in : (c : Curve) → So (Rattle.recording.specs.Recording.in_range (value c nothing))
    zero_in A = refl
    zero_in B = refl
reading_settled (x ∷ r) h i = settled (reading_at (x ∷ r) i) (h (min i (last_of (x ∷ r))) (omega arith))

-- ---- texts

-- from the last record on nothing changes
module _ (r : List Reading) (z : ℤ) where
  pub still : (p : Text) → Still (Holds r z p) (last_of r)
  unfolding Holds
  still (atom k) i j a b h =
      let e : min i (last_of r) ≡ min j (last_of r) = omega arith in
      subst (λ (m : ℕ). AtomSays k (record_at r m) z) e h
  still (listed q) i j a b h = h
  still (or p q) i j a b h = ⊎_elim (λ x. inl (still p i j a b x)) (λ x. inr (still q i j a b x)) h
  still (and p q) i j a b h = (still p i j a b h.0, still q i j a b h.1)
  still (neg p) i j a b h = λ h'. h (still p j i b a h')
  still (finally p) i j a b h = (j, le_refl j, still p h.0 j (omega (arith, h.1)) b h.2)
  still (globally p) i j a b h = λ k l. still p i k a (omega arith) (h i (le_refl i))
  still (next p) i j a b h = still p (suc i) (suc j) (omega arith) (omega arith) h
  still (until p q) i j a b h = (j, le_refl j, still q h.0 j (omega (arith, h.1)) b h.2, λ k x y. absurd (omega arith))
  still (weak_until p q) i j a b h =
      ⊎_elim (λ h. inl (λ k l. still p i k a (omega arith) (h i (le_refl i))))
      (λ h. inr (j, le_refl j, still q h.0 j (omega (arith, h.1)) b h.2, λ k x y. absurd (omega arith))) h

  -- the last record again is the last
  pub at_next : (p : Text) (i : ℕ) → i ≤ last_of r → Holds r z p (min (suc i) (last_of r)) ↔ Holds r z p (suc i)
  at_next p i l =
      ⊎_elim
      (λ e. (still p (min (suc i) (last_of r)) (suc i) (omega arith) (omega arith), still p (suc i) (min (suc i) (last_of r)) (omega arith) (omega arith)))
      (λ h. let e : min (suc i) (last_of r) ≡ suc i = omega arith in (subst (Holds r z p) e, subst (Holds r z p) (sym e)))
      (eq-or-lt_of_le l)

module _ (r : List Reading) (h : InRange r) (n : ℕ) where
  abbrev L : ℕ
  L = last_coded (map code r)

  still_coded : (p : Text) → Still (Holds r (whole n) p) L
  still_coded p i j a b = still r (whole n) p i j (omega (arith, last_code r)) (omega (arith, last_code r))

  holds-at : (p : Text) (i : ℕ) → i ≤ L → So (val (map code r) n p i) ↔ Holds r (whole n) p i
  unfolding Holds val
  holds-at (atom k) i l =
      let e = at_code r i in
      let s = so_atom k (reading_at r i) (reading_settled r h i) n in
      (λ x. s.0 (sym (ap (λ (y : Coded). atom_val k y n) e) ∙ x), λ x. ap (λ (y : Coded). atom_val k y n) e ∙ s.1 x)
  holds-at (listed q) i l = truth-says r h n q
  holds-at (or p q) i l = then (so_or (val (map code r) n p i) (val (map code r) n q i)) (either (holds-at p i l) (holds-at q i l))
  holds-at (and p q) i l = then (so_and (val (map code r) n p i) (val (map code r) n q i)) (both (holds-at p i l) (holds-at q i l))
  holds-at (neg p) i l = then (so_not (val (map code r) n p i)) (λ f x. f ((holds-at p i l).1 x), λ f x. f ((holds-at p i l).0 x))
  holds-at (finally p) i l = so_finally (val (map code r) n p) (Holds r (whole n) p) L (holds-at p) (still_coded p) (L - i) i (omega arith)
  holds-at (globally p) i l = so_globally (val (map code r) n p) (Holds r (whole n) p) L (holds-at p) (still_coded p) (L - i) i (omega arith)
  holds-at (next p) i l =
      let e = last_code r in
      then (holds-at p (min (suc i) L) (omega arith))
      (then (subst (λ (m : ℕ). Holds r (whole n) p (min (suc i) L) ↔ Holds r (whole n) p (min (suc i) m)) e (λ x. x, λ x. x)) (at_next r (whole n) p i (omega arith)))
  holds-at (until p q) i l =
      so_until (val (map code r) n p) (Holds r (whole n) p) L (holds-at p) (still_coded p)
      (val (map code r) n q) (Holds r (whole n) q) (holds-at q) (still_coded q) (L - i) i (omega arith)
  holds-at (weak_until p q) i l =
      so_weak (val (map code r) n p) (Holds r (whole n) p) L (holds-at p) (still_coded p)
      (val (map code r) n q) (Holds r (whole n) q) (holds-at q) (still_coded q) (L - i) i (omega arith)

-- THE BOOL IS TRUE EXACTLY WHERE THE MEANING HOLDS
pub val_holds : (r : List Reading) → InRange r → (n : ℕ) (p : Text) (i : ℕ) → i ≤ last_of r → So (val (map code r) n p i) ↔ Holds r (whole n) p i
val_holds r h n p i l = holds-at r h n p i (omega (arith, last_code r))
