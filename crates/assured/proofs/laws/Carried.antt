-- THE STEADY TEXTS mean the same of a selection that includes the kept readings, at each of its readings; and where they are steady, at a reading that is left out what they mean at the next.
use Rattle.std.specs.Prelude.{ℕ, zero, suc, ◌<◌, min, ◌≡◌, Bool, ◌&&◌, ◌||◌, not, ◌⊎◌, ◌↔◌, List, [], ◌∷◌, ℤ, pos}
use Rattle.std.proofs.Common.{arith, sym, ap, ◌∙◌, eqb-true, lt-ltb}
use Rattle.std.proofs.Math.Nat.{le_refl}
use Rattle.std.proofs.Math.Path.{refl, subst}
use Rattle.std.proofs.Math.Bool.{true, false, So}
use Rattle.std.proofs.lemmas.Bool.{false≢true, not-false, not-true}
use Rattle.std.proofs.Math.Logic.{inl, inr, ⊎_elim}
use Rattle.recording.proofs.laws.Value.{lt_z_trans}
use Rattle.number.proofs.laws.Words.{le_z_not_lt_z}
use Rattle.meaning.proofs.laws.Whole.{le_test, lt_test}
use Rattle.meaning.proofs.laws.Step.{until_step, weak_until_step}
use Rattle.std.specs.Int.Signed.{le_z, lt_z}
use Rattle.number.proofs.laws.Boolean.{off, or_cases, or_none, and_left, and_right, then, back, either, both}
use Rattle.recording.specs.Condition.{some_of}
use Rattle.recording.specs.Reading.{Reading, Curve, falls, rises, crossed, adds}
use Rattle.grammar.specs.Size.{has_listed}
use Rattle.grammar.specs.Syntax.{of, T, Relation, ge, le, gt, lt, eq, Operand, Atom, compare, A-to-B, fall, rise, pigment, Text, atom, listed, or, and, neg, finally, globally, next, until, weak_until}
use Rattle.meaning.specs.Listed.{record_at, time_of}
use Rattle.meaning.specs.Meaning.{last_of, reading_at, operand, AtomSays, Holds}
use Rattle.kept.specs.Selection.{select}
use Rattle.assured.specs.Assured.{is_pigment, of_side, of_time, is_slope, of_atom, of_not, fixed, drifts, steady}
use Rattle.assured.proofs.laws.Suffix.{At, Some, step_finally, step_globally, step_until, step_weak, step_next}

-- ---- a selection, from some reading on

-- what is known of a reading x that is left out, before the readings l
pub record Quiet (x : Reading) (y : Reading) (l : List Reading) : Type 0 where
  pub bare : x.pigment ≡ 0
  pub sooner : x.time < y.time
  pub side : crossed x ≡ crossed y
  pub fall_later : (c : Curve) → falls c x ≡ true → some_of (falls c) (y ∷ l) ≡ true
  pub rise_later : (c : Curve) → rises c x ≡ true → some_of (rises c) (y ∷ l) ≡ true

-- the mask leaves out quiet readings only; the last is selected
abbrev pub Thinned : List Bool → List Reading → Type 0
Thinned [] [] = ⊥
Thinned (m ∷ mask) [] = ⊥
Thinned [] (x ∷ l) = ⊥
Thinned (true ∷ mask) (x ∷ []) = Unit {0}
Thinned (false ∷ mask) (x ∷ []) = ⊥
Thinned (true ∷ mask) (x ∷ (y ∷ l)) = Thinned mask (y ∷ l)
Thinned (false ∷ mask) (x ∷ (y ∷ l)) = Quiet x y l × Thinned mask (y ∷ l)

pub thinned_some : (mask : List Bool) (l : List Reading) → Thinned mask l → Some (select mask l)
thinned_some [] [] t = absurd t
thinned_some (m ∷ mask) [] t = absurd t
thinned_some [] (x ∷ l) t = absurd t
thinned_some (true ∷ mask) (x ∷ l) t = tt
thinned_some (false ∷ mask) (x ∷ []) t = absurd t
thinned_some (false ∷ mask) (x ∷ (y ∷ l)) t = thinned_some mask (y ∷ l) t.1

-- the same of the selection: from every reading on; from every selected reading on
abbrev pub Everywhere : (List Reading → Type 0) → Type 0
Everywhere O = (mask : List Bool) (l : List Reading) → Thinned mask l → O l ↔ O (select mask l)

abbrev pub AtKept : (List Reading → Type 0) → Type 0
AtKept O = (mask : List Bool) (x : Reading) (l : List Reading) → Thinned (true ∷ mask) (x ∷ l) → O (x ∷ l) ↔ O (x ∷ select mask l)

everywhere_kept : (O : List Reading → Type 0) → Everywhere O → AtKept O
everywhere_kept O e mask x l t = e (true ∷ mask) (x ∷ l) t

-- at a reading that is left out as at the next
everywhere_next : (O : List Reading → Type 0) → Everywhere O → (x y : Reading) (l : List Reading) (mask : List Bool) → Quiet x y l → Thinned mask (y ∷ l) → O (x ∷ (y ∷ l)) ↔ O (y ∷ l)
everywhere_next O e x y l mask q t = then (e (false ∷ mask) (x ∷ (y ∷ l)) (q, t)) (back (e mask (y ∷ l) t))

-- ---- F, G, U and W at once: O at a reading is Q there, or P there and O at the next
module _ (O P Q : List Reading → Type 0)
    (step : (x : Reading) (s : List Reading) → Some s → O (x ∷ s) ↔ (Q (x ∷ s) ⊎ (P (x ∷ s) × O s)))
    (kept_p : AtKept P) (keptQ : AtKept Q)
    (down : (x y : Reading) (l : List Reading) (mask : List Bool) → Quiet x y l → Thinned mask (y ∷ l) → Q (x ∷ (y ∷ l)) → O (y ∷ l))
    (up : (x y : Reading) (l : List Reading) (mask : List Bool) → Quiet x y l → Thinned mask (y ∷ l) → O (y ∷ l) → Q (x ∷ (y ∷ l)) ⊎ P (x ∷ (y ∷ l))) where
  carried : Everywhere O
  carried [] [] t = absurd t
  carried (m ∷ mask) [] t = absurd t
  carried [] (x ∷ l) t = absurd t
  carried (true ∷ mask) (x ∷ []) t = (λ o. o, λ o. o)
  carried (true ∷ mask) (x ∷ (y ∷ l)) t =
      then (step x (y ∷ l) tt) (then (either (keptQ mask x (y ∷ l) t) (both (kept_p mask x (y ∷ l) t) (carried mask (y ∷ l) t)))
      (back (step x (select mask (y ∷ l)) (thinned_some mask (y ∷ l) t))))
  carried (false ∷ mask) (x ∷ []) t = absurd t
  carried (false ∷ mask) (x ∷ (y ∷ l)) t =
      then (step x (y ∷ l) tt) (then (
        ⊎_elim (λ q. down x y l mask t.0 t.1 q) (λ h. h.1),
        λ o. ⊎_elim (λ q. inl q) (λ p. inr (p, o)) (up x y l mask t.0 t.1 o),
      ) (carried mask (y ∷ l) t.1))

-- ---- at the first reading

reading_0 : (x : Reading) (l : List Reading) → reading_at (x ∷ l) 0 ≡ x
reading_0 x l = let e : min 0 (last_of (x ∷ l)) ≡ 0 = omega arith in ap (record_at (x ∷ l)) e

pub at_atom : (z : ℤ) (a : Atom) (x : Reading) (l : List Reading) → At z (atom a) (x ∷ l) ↔ AtomSays a x z
unfolding Holds
at_atom z a x l = (subst (λ (w : Reading). AtomSays a w z) (reading_0 x l), subst (λ (w : Reading). AtomSays a w z) (sym (reading_0 x l)))

-- ---- at a reading without a pigment

abbrev pub Stays : Bool → Type 0 → Type 0
Stays true P = P
Stays false P = ¬ P

never_added : (k : ℕ) (x : Reading) → x.pigment ≡ 0 → So (adds k x) → ⊥
never_added zero x e h = false≢true h
never_added (suc k) x e h = none x.pigment e (eqb-true x.pigment (suc k) h)
  where
    none : (p : ℕ) → p ≡ 0 → p ≡ suc k → ⊥
    none p e f = omega arith

module _ (z : ℤ) (x : Reading) (l : List Reading) (bare : x.pigment ≡ 0) where
  no-pigment : (a : Atom) → is_pigment a ≡ true → ¬ At z (atom a) (x ∷ l)
  no-pigment (compare f ρ o) h t = absurd (false≢true h)
  no-pigment (A-to-B ρ) h t = absurd (false≢true h)
  no-pigment (fall c) h t = absurd (false≢true h)
  no-pigment (rise c) h t = absurd (false≢true h)
  no-pigment (pigment k) h t = never_added k x bare ((at_atom z (pigment k) x l).0 t)

  pub fixed_at : (b : Bool) (p : Text) → fixed b p ≡ true → Stays b (At z p (x ∷ l))
  unfolding Holds
  fixed_at true (atom a) h = absurd (false≢true h)
  fixed_at false (atom a) h = no-pigment a h
  fixed_at true (listed q) h = absurd (false≢true h)
  fixed_at false (listed q) h = absurd (false≢true h)
  fixed_at true (or p q) h = or_cases (fixed true p) (fixed true q) h (λ k. inl (fixed_at true p k)) (λ k. inr (fixed_at true q k))
  fixed_at false (or p q) h = ⊎_elim (fixed_at false p (and_left (fixed false p) (fixed false q) h)) (fixed_at false q (and_right (fixed false p) (fixed false q) h))
  fixed_at true (and p q) h = (fixed_at true p (and_left (fixed true p) (fixed true q) h), fixed_at true q (and_right (fixed true p) (fixed true q) h))
  fixed_at false (and p q) h = or_cases (fixed false p) (fixed false q) h (λ k t. fixed_at false p k t.0) (λ k t. fixed_at false q k t.1)
  fixed_at true (neg p) h = fixed_at false p h
  fixed_at false (neg p) h = λ n. n (fixed_at true p h)
  fixed_at true (finally p) h = absurd (false≢true h)
  fixed_at false (finally p) h = absurd (false≢true h)
  fixed_at true (globally p) h = absurd (false≢true h)
  fixed_at false (globally p) h = absurd (false≢true h)
  fixed_at true (next p) h = absurd (false≢true h)
  fixed_at false (next p) h = absurd (false≢true h)
  fixed_at true (until p q) h = absurd (false≢true h)
  fixed_at false (until p q) h = absurd (false≢true h)
  fixed_at true (weak_until p q) h = absurd (false≢true h)
  fixed_at false (weak_until p q) h = absurd (false≢true h)

-- ---- atoms, and their negations, by their kind

-- p is an atom of the kind P; p is `!` of such an atom
pub of-atom : (P : Atom → Bool) (p : Text) → of_atom P p ≡ true → (a : Atom) × (p ≡ atom a) × (P a ≡ true)
of-atom P (atom a) h = (a, refl, h)
of-atom P (listed q) h = absurd (false≢true h)
of-atom P (or p q) h = absurd (false≢true h)
of-atom P (and p q) h = absurd (false≢true h)
of-atom P (neg p) h = absurd (false≢true h)
of-atom P (finally p) h = absurd (false≢true h)
of-atom P (globally p) h = absurd (false≢true h)
of-atom P (next p) h = absurd (false≢true h)
of-atom P (until p q) h = absurd (false≢true h)
of-atom P (weak_until p q) h = absurd (false≢true h)

pub of-not : (P : Atom → Bool) (p : Text) → of_not P p ≡ true → (a : Atom) × (p ≡ neg (atom a)) × (P a ≡ true)
of-not P (atom a) h = absurd (false≢true h)
of-not P (listed q) h = absurd (false≢true h)
of-not P (or p q) h = absurd (false≢true h)
of-not P (and p q) h = absurd (false≢true h)
of-not P (neg p) h = let s = of-atom P p h in (s.0, ap neg s.1, s.2)
of-not P (finally p) h = absurd (false≢true h)
of-not P (globally p) h = absurd (false≢true h)
of-not P (next p) h = absurd (false≢true h)
of-not P (until p q) h = absurd (false≢true h)
of-not P (weak_until p q) h = absurd (false≢true h)

-- what a steady text does not write
pub unlisted : (p : Text) → steady p ≡ true → has_listed p ≡ false
unlisted (atom a) h = refl
unlisted (listed q) h = absurd (false≢true h)
unlisted (or p q) h = or_none (unlisted p (and_left (steady p) (steady q) h)) (unlisted q (and_right (steady p) (steady q) h))
unlisted (and p q) h = or_none (unlisted p (and_left (steady p) (steady q) h)) (unlisted q (and_right (steady p) (steady q) h))
unlisted (neg p) h = unlisted p h
unlisted (finally p) h = or_cases (steady p && drifts true p) (of_atom is_slope p) h (λ g. unlisted p (and_left (steady p) (drifts true p) g)) (λ s. ap has_listed (of-atom is_slope p s).1)
unlisted (globally p) h = or_cases (steady p && drifts false p) (of_not is_slope p) h (λ g. unlisted p (and_left (steady p) (drifts false p) g)) (λ s. ap has_listed (of-not is_slope p s).1)
unlisted (next p) h = unlisted p (and_left (steady p) _ h)
unlisted (until p q) h = let k = and_left (steady p && steady q) _ h in or_none (unlisted p (and_left (steady p) (steady q) k)) (unlisted q (and_right (steady p) (steady q) k))
unlisted (weak_until p q) h = let k = and_left (steady p && steady q) _ h in or_none (unlisted p (and_left (steady p) (steady q) k)) (unlisted q (and_right (steady p) (steady q) k))

-- ---- sides and slopes at a reading that is left out

-- A ≤ B, and A > B, by the test
side-says : (z : ℤ) (ρ : Relation) → of_side ρ ≡ true → (x y : Reading) → crossed x ≡ crossed y → AtomSays (A-to-B ρ) x z → AtomSays (A-to-B ρ) y z
side-says z ge h x y e t = absurd (false≢true h)
side-says z le h x y e t = (le_test y.a y.b).0 (sym e ∙ (le_test x.a x.b).1 t)
side-says z gt h x y e t =
    (lt_test y.b y.a).0 (not-false (lt_z y.b y.a) (sym (le_z_not_lt_z y.a y.b) ∙ sym e ∙ le_z_not_lt_z x.a x.b ∙ ap not ((lt_test x.b x.a).1 t)))
side-says z lt h x y e t = absurd (false≢true h)
side-says z eq h x y e t = absurd (false≢true h)

-- ---- what is so at a reading that is left out, and at the next

-- from the one to the other (true), or back (false)
abbrev pub Drift : Bool → Type 0 → Type 0 → Type 0
Drift true P Q = P → Q
Drift false P Q = Q → P

drift_both : (b : Bool) {P Q : Type 0} → P ↔ Q → Drift b P Q
drift_both true e = e.0
drift_both false e = e.1

drift_fixed : (b : Bool) (P Q : Type 0) → Stays (not b) P → Drift b P Q
drift_fixed true P Q s = λ p. absurd (s p)
drift_fixed false P Q s = λ q. s

drift_or : (b : Bool) (P Q R S : Type 0) → Drift b P Q → Drift b R S → Drift b (P ⊎ R) (Q ⊎ S)
drift_or true P Q R S f g = ⊎_elim (λ p. inl (f p)) (λ r. inr (g r))
drift_or false P Q R S f g = ⊎_elim (λ p. inl (f p)) (λ r. inr (g r))

drift_and : (b : Bool) (P Q R S : Type 0) → Drift b P Q → Drift b R S → Drift b (P × R) (Q × S)
drift_and true P Q R S f g = λ h. (f h.0, g h.1)
drift_and false P Q R S f g = λ h. (f h.0, g h.1)

drift_not : (b : Bool) (P Q : Type 0) → Drift (not b) P Q → Drift b (¬ P) (¬ Q)
drift_not true P Q f = λ n q. n (f q)
drift_not false P Q f = λ n p. n (f p)

drift_through : (b : Bool) {P Q R S : Type 0} → P ↔ R → Q ↔ S → Drift b R S → Drift b P Q
drift_through true e f d = λ p. f.1 (d (e.0 p))
drift_through false e f d = λ q. e.1 (d (f.0 q))

-- times, by the tests
pos_lt : (m n : ℕ) → m < n → lt_z (pos m) (pos n) ≡ true
pos_lt m n h = lt-ltb m n h

le_lt : (o : ℤ) (m n : ℕ) → m < n → le_z o (pos m) ≡ true → le_z o (pos n) ≡ true
le_lt o m n l h = le_z_not_lt_z o (pos n) ∙ ap not (off {e = lt_z (pos n) o} {k = lt_z (pos m) o} (λ k. lt_z_trans (pos m) (pos n) o (pos_lt m n l) k) (not-true (lt_z (pos m) o) (sym (le_z_not_lt_z o (pos m)) ∙ h)))

lt_le : (o : ℤ) (m n : ℕ) → m < n → le_z (pos n) o ≡ true → le_z (pos m) o ≡ true
lt_le o m n l h = le_z_not_lt_z (pos m) o ∙ ap not (off {e = lt_z o (pos m)} {k = lt_z o (pos n)} (λ k. lt_z_trans o (pos m) (pos n) k (pos_lt m n l)) (not-true (lt_z o (pos n)) (sym (le_z_not_lt_z (pos n) o) ∙ h)))

time-drifts : (z : ℤ) (b : Bool) (ρ : Relation) → of_time ρ b ≡ true → (o : Operand) (x y : Reading) → x.time < y.time → Drift b (AtomSays (compare T ρ o) x z) (AtomSays (compare T ρ o) y z)
time-drifts z true ge h o x y l = λ t. (le_test (operand o z) (time_of y)).0 (le_lt (operand o z) x.time y.time l ((le_test (operand o z) (time_of x)).1 t))
time-drifts z false ge h o x y l = absurd (false≢true h)
time-drifts z true le h o x y l = absurd (false≢true h)
time-drifts z false le h o x y l = λ t. (le_test (time_of x) (operand o z)).0 (lt_le (operand o z) x.time y.time l ((le_test (time_of y) (operand o z)).1 t))
time-drifts z true gt h o x y l = λ t. (lt_test (operand o z) (time_of y)).0 (lt_z_trans (operand o z) (time_of x) (time_of y) ((lt_test (operand o z) (time_of x)).1 t) (pos_lt x.time y.time l))
time-drifts z false gt h o x y l = absurd (false≢true h)
time-drifts z true lt h o x y l = absurd (false≢true h)
time-drifts z false lt h o x y l = λ t. (lt_test (time_of x) (operand o z)).0 (lt_z_trans (time_of x) (time_of y) (operand o z) (pos_lt x.time y.time l) ((lt_test (time_of y) (operand o z)).1 t))
time-drifts z true eq h o x y l = absurd (false≢true h)
time-drifts z false eq h o x y l = absurd (false≢true h)

-- a reading of which an atom says so makes F of it true
finally_found : (z : ℤ) (a : Atom) (P : Reading → Bool) → ((x : Reading) → P x ≡ true → AtomSays a x z) → (l : List Reading) → some_of P l ≡ true → At z (finally (atom a)) l
unfolding Holds
finally_found z a P says [] h = absurd (false≢true h)
finally_found z a P says (x ∷ []) h = or_cases (P x) false h (λ k. (0, le_refl 0, (at_atom z a x []).1 (says x k))) (λ k. absurd (false≢true k))
finally_found z a P says (x ∷ (y ∷ l)) h = (step_finally z (atom a) refl x (y ∷ l) tt).1 (or_cases (P x) (some_of P (y ∷ l)) h
    (λ k. inl ((at_atom z a x (y ∷ l)).1 (says x k))) (λ k. inr (tt, finally_found z a P says (y ∷ l) k)))

slope-later : (z : ℤ) (a : Atom) → is_slope a ≡ true → (x y : Reading) (l : List Reading) → Quiet x y l → At z (atom a) (x ∷ (y ∷ l)) → At z (finally (atom a)) (y ∷ l)
slope-later z (compare f ρ o) h x y l q t = absurd (false≢true h)
slope-later z (A-to-B ρ) h x y l q t = absurd (false≢true h)
slope-later z (fall c) h x y l q t = finally_found z (fall c) (falls c) (λ w k. k) (y ∷ l) (q.fall_later c ((at_atom z (fall c) x (y ∷ l)).0 t))
slope-later z (rise c) h x y l q t = finally_found z (rise c) (rises c) (λ w k. k) (y ∷ l) (q.rise_later c ((at_atom z (rise c) x (y ∷ l)).0 t))
slope-later z (pigment k) h x y l q t = absurd (false≢true h)

-- ---- THE STEADY TEXTS

-- at a reading that is left out, and at the next
abbrev pub Drifts : Bool → (List Reading → Type 0) → Type 0
Drifts b O = (x y : Reading) (l : List Reading) (mask : List Bool) → Quiet x y l → Thinned mask (y ∷ l) → Drift b (O (x ∷ (y ∷ l))) (O (y ∷ l))

-- the same at the selected readings, and both ways from a reading that is left out to the next: the same everywhere
pub both_everywhere : (O : List Reading → Type 0) → AtKept O → Drifts true O → Drifts false O → Everywhere O
both_everywhere O k f g [] [] t = absurd t
both_everywhere O k f g (m ∷ mask) [] t = absurd t
both_everywhere O k f g [] (x ∷ l) t = absurd t
both_everywhere O k f g (true ∷ mask) (x ∷ l) t = k mask x l t
both_everywhere O k f g (false ∷ mask) (x ∷ []) t = absurd t
both_everywhere O k f g (false ∷ mask) (x ∷ (y ∷ l)) t =
    then (f x y l mask t.0 t.1, g x y l mask t.0 t.1) (both_everywhere O k f g mask (y ∷ l) t.1)

module _ (z : ℤ) where
  -- what is proved of a steady text
  abbrev Meant : Text → Type 0
  Meant p = AtKept (At z p) × ((b : Bool) → drifts b p ≡ true → Drifts b (At z p))

  meant_everywhere : (p : Text) → Everywhere (At z p) → Meant p
  meant_everywhere p e = (everywhere_kept (At z p) e, λ b h x y l mask w t. drift_both b (everywhere_next (At z p) e x y l mask w t))

  atom_kept : (a : Atom) → AtKept (At z (atom a))
  atom_kept a mask x l t = then (at_atom z a x l) (back (at_atom z a x (select mask l)))

  atom_drifts : (b : Bool) (a : Atom) → drifts b (atom a) ≡ true → (x y : Reading) (l : List Reading) → Quiet x y l → Drift b (AtomSays a x z) (AtomSays a y z)
  atom_drifts true (compare (of c) ρ o) h x y l w = absurd (false≢true h)
  atom_drifts false (compare (of c) ρ o) h x y l w = absurd (false≢true h)
  atom_drifts true (compare T ρ o) h x y l w = time-drifts z true ρ h o x y w.sooner
  atom_drifts false (compare T ρ o) h x y l w = time-drifts z false ρ h o x y w.sooner
  atom_drifts true (A-to-B ρ) h x y l w = side-says z ρ (or_cases (of_side ρ) false h (λ k. k) (λ k. absurd (false≢true k))) x y w.side
  atom_drifts false (A-to-B ρ) h x y l w = side-says z ρ (or_cases (of_side ρ) false h (λ k. k) (λ k. absurd (false≢true k))) y x (sym w.side)
  atom_drifts true (fall c) h x y l w = absurd (false≢true h)
  atom_drifts false (fall c) h x y l w = absurd (false≢true h)
  atom_drifts true (rise c) h x y l w = absurd (false≢true h)
  atom_drifts false (rise c) h x y l w = absurd (false≢true h)
  atom_drifts true (pigment k) h x y l w = λ t. absurd (never_added k x w.bare t)
  atom_drifts false (pigment k) h x y l w = absurd (false≢true h)

  fixed-drifts : (b : Bool) (p : Text) → fixed (not b) p ≡ true → Drifts b (At z p)
  fixed-drifts b p h x y l mask w t = drift_fixed b (At z p (x ∷ (y ∷ l))) (At z p (y ∷ l)) (fixed_at z x (y ∷ l) w.bare (not b) p h)

  or_meant : (p q : Text) → Meant p → Meant q → Meant (or p q)
  unfolding Holds
  or_meant p q f g = (
    λ mask x l t. either (f.0 mask x l t) (g.0 mask x l t),
    λ b h. or_cases (drifts b p && drifts b q) (fixed (not b) (or p q)) h
        (λ k x y l mask w t. drift_or b (At z p (x ∷ (y ∷ l))) (At z p (y ∷ l)) (At z q (x ∷ (y ∷ l))) (At z q (y ∷ l)) (f.1 b (and_left (drifts b p) (drifts b q) k) x y l mask w t) (g.1 b (and_right (drifts b p) (drifts b q) k) x y l mask w t))
        (λ k. fixed-drifts b (or p q) k),
  )

  and_meant : (p q : Text) → Meant p → Meant q → Meant (and p q)
  unfolding Holds
  and_meant p q f g = (
    λ mask x l t. both (f.0 mask x l t) (g.0 mask x l t),
    λ b h. or_cases (drifts b p && drifts b q) (fixed (not b) (and p q)) h
        (λ k x y l mask w t. drift_and b (At z p (x ∷ (y ∷ l))) (At z p (y ∷ l)) (At z q (x ∷ (y ∷ l))) (At z q (y ∷ l)) (f.1 b (and_left (drifts b p) (drifts b q) k) x y l mask w t) (g.1 b (and_right (drifts b p) (drifts b q) k) x y l mask w t))
        (λ k. fixed-drifts b (and p q) k),
  )

  neg_meant : (p : Text) → Meant p → Meant (neg p)
  unfolding Holds
  neg_meant p f = (
    λ mask x l t. let a = f.0 mask x l t in (λ n k. n (a.1 k), λ n k. n (a.0 k)),
    λ b h x y l mask w t. drift_not b (At z p (x ∷ (y ∷ l))) (At z p (y ∷ l)) (f.1 (not b) h x y l mask w t),
  )

  unit_kept : AtKept (λ l. Unit {0})
  unit_kept mask x l t = (λ u. u, λ u. u)

  none_kept : AtKept (λ l. ⊥)
  none_kept mask x l t = (λ u. u, λ u. u)

  -- F(p): p at a reading that is left out makes F(p) true at the next
  finally_means : (p : Text) → has_listed p ≡ false → AtKept (At z p)
      → ((x y : Reading) (l : List Reading) (mask : List Bool) → Quiet x y l → Thinned mask (y ∷ l) → At z p (x ∷ (y ∷ l)) → At z (finally p) (y ∷ l)) → Everywhere (At z (finally p))
  finally_means p h k down = carried (At z (finally p)) (λ l. Unit {0}) (At z p) (step_finally z p h) unit_kept k down (λ x y l mask q t o. inr tt)

  -- G(p): G(p) at the next makes p true at a reading that is left out
  globally_means : (p : Text) → has_listed p ≡ false → AtKept (At z p)
      → ((x y : Reading) (l : List Reading) (mask : List Bool) → Quiet x y l → Thinned mask (y ∷ l) → At z (globally p) (y ∷ l) → At z p (x ∷ (y ∷ l))) → Everywhere (At z (globally p))
  globally_means p h k up = carried (At z (globally p)) (At z p) (λ l. ⊥) (step_globally z p h) k none_kept (λ x y l mask q t o. absurd o) (λ x y l mask q t o. inr (up x y l mask q t o))

  -- p now makes F(p) true; G(p) makes p true now; q now makes U(p,q) and W(p,q) true
  finally_now : (p : Text) (l : List Reading) → At z p l → At z (finally p) l
  unfolding Holds
  finally_now p l t = (0, le_refl 0, t)

  globally_now : (p : Text) (l : List Reading) → At z (globally p) l → At z p l
  unfolding Holds
  globally_now p l t = t 0 (le_refl 0)

  until_now : (p q : Text) (l : List Reading) → At z q l → At z (until p q) l
  unfolding Holds
  until_now p q l t = (until_step (Holds l z p) (Holds l z q) 0).1 (inl t)

  until_then : (p q : Text) (l : List Reading) → At z (until p q) l → At z q l ⊎ At z p l
  unfolding Holds
  until_then p q l t = ⊎_elim (λ a. inl a) (λ a. inr a.0) ((until_step (Holds l z p) (Holds l z q) 0).0 t)

  weak_now : (p q : Text) (l : List Reading) → At z q l → At z (weak_until p q) l
  unfolding Holds
  weak_now p q l t = (weak_until_step (Holds l z p) (Holds l z q) 0).1 (inl t)

  weak_then : (p q : Text) (l : List Reading) → At z (weak_until p q) l → At z q l ⊎ At z p l
  unfolding Holds
  weak_then p q l t = ⊎_elim (λ a. inl a) (λ a. inr a.0) ((weak_until_step (Holds l z p) (Holds l z q) 0).0 t)

  -- O is U(p,q) or W(p,q)
  module _ (O p q : Text)
      (step : (x : Reading) (s : List Reading) → Some s → At z O (x ∷ s) ↔ (At z q (x ∷ s) ⊎ (At z p (x ∷ s) × At z O s)))
      (now : (l : List Reading) → At z q l → At z O l) (later : (l : List Reading) → At z O l → At z q l ⊎ At z p l)
      (f : Meant p) (g : Meant q) where
    until_means : (drifts true q && (fixed true p || drifts false p && drifts false q)) ≡ true → Everywhere (At z O)
    until_means h = carried (At z O) (At z p) (At z q) step f.0 g.0
        (λ x y l mask w t o. now (y ∷ l) (g.1 true (and_left (drifts true q) _ h) x y l mask w t o))
        (λ x y l mask w t o. or_cases (fixed true p) (drifts false p && drifts false q) (and_right (drifts true q) _ h)
        (λ k. inr (fixed_at z x (y ∷ l) w.bare true p k))
        (λ k. ⊎_elim (λ a. inl (g.1 false (and_right (drifts false p) (drifts false q) k) x y l mask w t a))
        (λ a. inr (f.1 false (and_left (drifts false p) (drifts false q) k) x y l mask w t a)) (later (y ∷ l) o)))

  next_means : (p : Text) → has_listed p ≡ false → Everywhere (At z p) → AtKept (At z (next p))
  next_means p h e mask x [] t = (λ o. o, λ o. o)
  next_means p h e mask x (y ∷ l) t =
      then (step_next z p h x (y ∷ l) tt) (then (e mask (y ∷ l) t) (back (step_next z p h x (select mask (y ∷ l)) (thinned_some mask (y ∷ l) t))))

  not_slope : (a : Atom) → is_slope a ≡ true → (x y : Reading) (l : List Reading) → Quiet x y l → At z (globally (neg (atom a))) (y ∷ l) → At z (neg (atom a)) (x ∷ (y ∷ l))
  unfolding Holds
  not_slope a s x y l w g = λ t. let f = slope-later z a s x y l w t in g f.0 f.1 f.2

  finally_meant : (p : Text) → (steady p && drifts true p || of_atom is_slope p) ≡ true → (steady p ≡ true → Meant p) → Everywhere (At z (finally p))
  finally_meant p h m = or_cases (steady p && drifts true p) (of_atom is_slope p) h
      (λ g. let k = and_left (steady p) (drifts true p) g in finally_means p (unlisted p k) (m k).0
      (λ x y l mask w t o. finally_now p (y ∷ l) ((m k).1 true (and_right (steady p) (drifts true p) g) x y l mask w t o)))
      (λ s. let a = of-atom is_slope p s in subst (λ (p : Text). Everywhere (At z (finally p))) (sym a.1)
      (finally_means (atom a.0) refl (atom_kept a.0) (λ x y l mask w t o. slope-later z a.0 a.2 x y l w o)))

  globally_meant : (p : Text) → (steady p && drifts false p || of_not is_slope p) ≡ true → (steady p ≡ true → Meant p) → Everywhere (At z (globally p))
  unfolding Holds
  globally_meant p h m = or_cases (steady p && drifts false p) (of_not is_slope p) h
      (λ g. let k = and_left (steady p) (drifts false p) g in globally_means p (unlisted p k) (m k).0
      (λ x y l mask w t o. (m k).1 false (and_right (steady p) (drifts false p) g) x y l mask w t (globally_now p (y ∷ l) o)))
      (λ s. let a = of-not is_slope p s in subst (λ (p : Text). Everywhere (At z (globally p))) (sym a.1)
      (globally_means (neg (atom a.0)) refl (λ mask x l t. let e = atom_kept a.0 mask x l t in (λ n k. n (e.1 k), λ n k. n (e.0 k)))
      (λ x y l mask w t o. not_slope a.0 a.2 x y l w o)))

  -- A STEADY TEXT MEANS THE SAME at each selected reading; and drifts as its form says
  pub steady_meant : (p : Text) → steady p ≡ true → Meant p
  steady_meant (atom a) h = (
    atom_kept a,
    λ b k x y l mask w t. drift_through b (at_atom z a x (y ∷ l)) (at_atom z a y l) (atom_drifts b a k x y l w),
  )
  steady_meant (listed q) h = absurd (false≢true h)
  steady_meant (or p q) h = or_meant p q (steady_meant p (and_left (steady p) (steady q) h)) (steady_meant q (and_right (steady p) (steady q) h))
  steady_meant (and p q) h = and_meant p q (steady_meant p (and_left (steady p) (steady q) h)) (steady_meant q (and_right (steady p) (steady q) h))
  steady_meant (neg p) h = neg_meant p (steady_meant p h)
  steady_meant (finally p) h = meant_everywhere (finally p) (finally_meant p h (λ k. steady_meant p k))
  steady_meant (globally p) h = meant_everywhere (globally p) (globally_meant p h (λ k. steady_meant p k))
  steady_meant (next p) h =
      let k = and_left (steady p) _ h in let d = and_right (steady p) _ h in let m = steady_meant p k in (
        next_means p (unlisted p k) (both_everywhere (At z p) m.0 (m.1 true (and_left (drifts true p) (drifts false p) d)) (m.1 false (and_right (drifts true p) (drifts false p) d))),
        λ b k. absurd (false≢true k),
      )
  steady_meant (until p q) h =
      let k = and_left (steady p && steady q) _ h in
      meant_everywhere (until p q) (until_means (until p q) p q (step_until z p q (unlisted (until p q) h)) (until_now p q) (until_then p q)
      (steady_meant p (and_left (steady p) (steady q) k)) (steady_meant q (and_right (steady p) (steady q) k)) (and_right (steady p && steady q) _ h))
  steady_meant (weak_until p q) h =
      let k = and_left (steady p && steady q) _ h in
      meant_everywhere (weak_until p q) (until_means (weak_until p q) p q (step_weak z p q (unlisted (weak_until p q) h)) (weak_now p q) (weak_then p q)
      (steady_meant p (and_left (steady p) (steady q) k)) (steady_meant q (and_right (steady p) (steady q) k)) (and_right (steady p && steady q) _ h))

  pub steady_kept : (p : Text) → steady p ≡ true → AtKept (At z p)
  steady_kept p h = (steady_meant p h).0

  pub steady_everywhere : (p : Text) → steady p ≡ true → drifts true p ≡ true → drifts false p ≡ true → Everywhere (At z p)
  steady_everywhere p h f g = let m = steady_meant p h in both_everywhere (At z p) m.0 (m.1 true f) (m.1 false g)
