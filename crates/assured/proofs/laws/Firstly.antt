-- THE TEXTS OF FEW RUNS mean the same at the first reading, for extremes are kept; and 8 never refuses them.
use Rattle.std.specs.Prelude.{ℕ, ◌-◌, ◌≡◌, Bool, ◌&&◌, ◌||◌, ◌⊎◌, ◌↔◌, ℤ, eqb}
use Rattle.std.proofs.Math.Nat.{le_refl}
use Rattle.std.proofs.Math.Path.{refl, sym, ap, subst, fun_ext}
use Rattle.std.proofs.Common.{◌∙◌, true≢false, eqb-true}
use Rattle.std.proofs.Math.Bool.{true, false, not, So}
use Rattle.std.proofs.lemmas.Bool.{false≢true, not-true, not-false}
use Rattle.std.proofs.Math.Logic.{inl, inr, ⊎_elim}
use mathlib.Core.List.{List, [], ◌∷◌, Memᴰ}
use Rattle.std.proofs.Math.Dec.{ltb}
use Rattle.std.specs.Int.Signed.{le_z, lt_z}
use Rattle.number.proofs.laws.Boolean.{or_left, or_right, or_cases, and_left, and_right, then, back, either, both, so_and, so_or, so_not}
use Rattle.number.proofs.laws.Words.{le_z_not_lt_z}
use Rattle.recording.specs.Condition.{some_of}
use Rattle.recording.specs.Reading.{Reading, Curve, value}
use Rattle.recording.proofs.laws.Value.{lt_z_asym, lt_le_trans, lt_z_between}
use Rattle.grammar.specs.Size.{has_listed}
use Rattle.grammar.specs.Syntax.{of, T, Relation, ge, le, gt, lt, eq, Operand, v, number, Atom, compare, A-to-B, fall, rise, pigment, Text, atom, listed, or, and, neg, finally, globally, next, until, weak_until}
use Rattle.meaning.specs.Meaning.{operand, Relates, Holds}
use Rattle.meaning.specs.Alike.{mark_index}
use Rattle.meaning.proofs.laws.Alike.{after_mark}
use Rattle.meaning.proofs.laws.Whole.{le_test, lt_test}
use Rattle.meaning.proofs.laws.Truth.{still}
use Rattle.kept.specs.Kept.{less, more, extremes, any_time, later_than, kept_for}
use Rattle.kept.specs.Selection.{flags, select, Includes}
use Rattle.kept.proofs.laws.Stability.{◌⊑◌}
use Rattle.kept.proofs.laws.Kept.{extremes-kept, extremes-after-kept}
use Rattle.kept.proofs.laws.Seen.{greatest, least, seen}
use Rattle.marks.specs.Marks.{is_mark_index}
use Rattle.assured.specs.Assured.{is_eq, is_bound, is_after, of_atom, of_not, steady, nameless, somewhere, throughout, firstly}
use Rattle.assured.proofs.laws.Suffix.{At, Some, step_finally, step_globally}
use Rattle.assured.proofs.laws.Carried.{Thinned, thinned_some, Everywhere, at_atom, of-atom, of-not, steady_kept}

-- ---- bounds as tests

le_above : (x y : ℤ) → le_z x y ≡ true → lt_z y x ≡ false
le_above x y h = not-true (lt_z y x) (sym (le_z_not_lt_z x y) ∙ h)

not_le : (x y : ℤ) → le_z x y ≡ false → lt_z y x ≡ true
not_le x y h = not-false (lt_z y x) (sym (le_z_not_lt_z x y) ∙ h)

and_off : (e f : Bool) → (e && f) ≡ false → e ≡ true → f ≡ false
and_off true f h k = h
and_off false f h k = absurd (false≢true k)

abbrev tests : Relation → ℤ → ℤ → Bool
tests ge x y = le_z y x
tests le x y = le_z x y
tests gt x y = lt_z y x
tests lt x y = lt_z x y
tests eq x y = false

tests_relates : (ρ : Relation) → is_eq ρ ≡ false → (x y : ℤ) → So (tests ρ x y) ↔ Relates ρ x y
tests_relates ge h x y = le_test y x
tests_relates le h x y = le_test x y
tests_relates gt h x y = lt_test y x
tests_relates lt h x y = lt_test x y
tests_relates eq h x y = absurd (true≢false h)

-- the relation that holds where this one does not
abbrev dual : Relation → Relation
dual ge = lt
dual le = gt
dual gt = le
dual lt = ge
dual eq = eq

dual_eq : (ρ : Relation) → is_eq ρ ≡ false → is_eq (dual ρ) ≡ false
dual_eq ge h = refl
dual_eq le h = refl
dual_eq gt h = refl
dual_eq lt h = refl
dual_eq eq h = absurd (true≢false h)

not_tests : (ρ : Relation) → is_eq ρ ≡ false → (x y : ℤ) → not (tests ρ x y) ≡ tests (dual ρ) x y
not_tests ge h x y = ap not (le_z_not_lt_z y x) ∙ twice (lt_z x y)
  where
    twice : (e : Bool) → not (not e) ≡ e
    twice true = refl
    twice false = refl
not_tests le h x y = ap not (le_z_not_lt_z x y) ∙ twice (lt_z y x)
  where
    twice : (e : Bool) → not (not e) ≡ e
    twice true = refl
    twice false = refl
not_tests gt h x y = sym (le_z_not_lt_z x y)
not_tests lt h x y = sym (le_z_not_lt_z y x)
not_tests eq h x y = absurd (true≢false h)

-- ---- a bound is passed by some record of the selection if by one of the recording

module _ (marks : List ℕ) (r : List Reading) (mask : List Bool) (w : Includes mask (flags (kept_for marks) r)) where
  module _ (q : Reading → Bool) (ext : extremes q ⊑ kept_for marks) (c : Curve) (o : ℤ) where
    bound_seen : (ρ : Relation) → is_eq ρ ≡ false → some_of (λ x. q x && tests ρ (value c x) o) (select mask r) ≡ some_of (λ x. q x && tests ρ (value c x) o) r
    bound_seen ge h = seen marks r mask w q (less c) (λ b x a k. ext b x a (greatest q c b x a k)) (λ x. q x && le_z o (value c x))
        (λ x k. and_left (q x) _ k)
        (λ x y i k j. lt_le_trans (value c y) o (value c x) (not_le o (value c y) (and_off (q y) _ k j)) (le_above o (value c x) (and_right (q x) _ i)))
        (λ x y k. lt_z_asym (value c x) (value c y) k)
    bound_seen le h = seen marks r mask w q (more c) (λ b x a k. ext b x a (least q c b x a k)) (λ x. q x && le_z (value c x) o)
        (λ x k. and_left (q x) _ k)
        (λ x y i k j. lt_z_between o (value c x) (value c y) (not_le (value c y) o (and_off (q y) _ k j)) (le_above (value c x) o (and_right (q x) _ i)))
        (λ x y k. lt_z_asym (value c y) (value c x) k)
    bound_seen gt h = seen marks r mask w q (less c) (λ b x a k. ext b x a (greatest q c b x a k)) (λ x. q x && lt_z o (value c x))
        (λ x k. and_left (q x) _ k)
        (λ x y i k j. lt_z_between o (value c y) (value c x) (and_right (q x) _ i) (and_off (q y) _ k j))
        (λ x y k. lt_z_asym (value c x) (value c y) k)
    bound_seen lt h = seen marks r mask w q (more c) (λ b x a k. ext b x a (least q c b x a k)) (λ x. q x && lt_z (value c x) o)
        (λ x k. and_left (q x) _ k)
        (λ x y i k j. lt_le_trans (value c x) o (value c y) (and_right (q x) _ i) (and_off (q y) _ k j))
        (λ x y k. lt_z_asym (value c y) (value c x) k)
    bound_seen eq h = absurd (true≢false h)

-- ---- F and G of what one reading decides

module _ (z : ℤ) (p : Text) (u : has_listed p ≡ false) (P : Reading → Bool) (is : (x : Reading) (l : List Reading) → So (P x) ↔ At z p (x ∷ l)) where
  finally_tested : (l : List Reading) → Some l → At z (finally p) l ↔ So (some_of P l)
  unfolding Holds
  finally_tested [] s = absurd s
  finally_tested (x ∷ []) s = (
    λ t. or_left (P x) false ((is x []).1 (still (x ∷ []) z p t.0 0 t.1 (le_refl 0) t.2)),
    λ k. or_cases (P x) false k (λ e. (0, le_refl 0, (is x []).0 e)) (λ e. absurd (false≢true e)),
  )
  finally_tested (x ∷ (y ∷ l)) s =
      let i = finally_tested (y ∷ l) tt in
      then (step_finally z p u x (y ∷ l) tt) (
        ⊎_elim (λ t. or_left (P x) _ ((is x (y ∷ l)).1 t)) (λ t. or_right (P x) _ (i.0 t.1)),
        λ k. or_cases (P x) _ k (λ e. inl ((is x (y ∷ l)).0 e)) (λ e. inr (tt, i.1 e)),
      )

  globally_tested : (l : List Reading) → Some l → At z (globally p) l ↔ So (not (some_of (λ x. not (P x)) l))
  unfolding Holds
  globally_tested [] s = absurd s
  globally_tested (x ∷ []) s = (
    λ t. ap (λ (e : Bool). not (not e || false)) ((is x []).1 (t 0 (le_refl 0))),
    λ k j l. still (x ∷ []) z p 0 j (le_refl 0) l ((is x []).0 (now (P x) k)),
  )
    where
      now : (e : Bool) → not (not e || false) ≡ true → e ≡ true
      now true k = refl
      now false k = absurd (false≢true k)
  globally_tested (x ∷ (y ∷ l)) s =
      let i = globally_tested (y ∷ l) tt in
      then (step_globally z p u x (y ∷ l) tt) (
        ⊎_elim (λ t. absurd t) (λ t. join (P x) (some_of (λ x. not (P x)) (y ∷ l)) ((is x (y ∷ l)).1 t.0) (i.0 t.1)),
        λ k. inr ((is x (y ∷ l)).0 (front (P x) _ k), i.1 (rest (P x) _ k)),
      )
    where
      join : (e f : Bool) → e ≡ true → not f ≡ true → not (not e || f) ≡ true
      join true f h k = k
      join false f h k = absurd (false≢true h)

      front : (e f : Bool) → not (not e || f) ≡ true → e ≡ true
      front true f h = refl
      front false f h = absurd (false≢true h)

      rest : (e f : Bool) → not (not e || f) ≡ true → not f ≡ true
      rest true f h = h
      rest false f h = absurd (false≢true h)

-- ---- F(G(p)) speaks of the last reading

module _ (z : ℤ) (p : Text) (u : has_listed p ≡ false) where
  lasting_step : (x : Reading) (s : List Reading) → Some s → At z (finally (globally p)) (x ∷ s) ↔ At z (finally (globally p)) s
  unfolding Holds
  lasting_step x s n = (
    λ t. ⊎_elim (λ g. ⊎_elim (λ e. absurd e) (λ h. (0, le_refl 0, h.1)) ((step_globally z p u x s n).0 g)) (λ h. h.1) ((step_finally z (globally p) u x s n).0 t),
    λ t. (step_finally z (globally p) u x s n).1 (inr (tt, t)),
  )

  lasting : Everywhere (At z (finally (globally p)))
  lasting [] [] t = absurd t
  lasting (m ∷ mask) [] t = absurd t
  lasting [] (x ∷ l) t = absurd t
  lasting (true ∷ mask) (x ∷ []) t = (λ o. o, λ o. o)
  lasting (true ∷ mask) (x ∷ (y ∷ l)) t =
      then (lasting_step x (y ∷ l) tt) (then (lasting mask (y ∷ l) t) (back (lasting_step x (select mask (y ∷ l)) (thinned_some mask (y ∷ l) t))))
  lasting (false ∷ mask) (x ∷ []) t = absurd t
  lasting (false ∷ mask) (x ∷ (y ∷ l)) t = then (lasting_step x (y ∷ l) tt) (lasting mask (y ∷ l) t.1)

-- ---- what the shapes are

bound_of : (a : Atom) → is_bound a ≡ true → (c : Curve) × (ρ : Relation) × (o : Operand) × (a ≡ compare (of c) ρ o) × (is_eq ρ ≡ false)
bound_of (compare (of c) ρ o) h = (c, ρ, o, refl, not-true (is_eq ρ) h)
bound_of (compare T ρ o) h = absurd (false≢true h)
bound_of (A-to-B ρ) h = absurd (false≢true h)
bound_of (fall c) h = absurd (false≢true h)
bound_of (rise c) h = absurd (false≢true h)
bound_of (pigment k) h = absurd (false≢true h)

mark_of : (k : ℕ) (marks : List ℕ) → is_mark_index marks k ≡ true → (m : ℕ) × (k ≡ mark_index m) × Memᴰ m marks
mark_of k [] h = absurd (false≢true h)
mark_of k (m ∷ marks) h = or_cases (eqb k (mark_index m)) (is_mark_index marks k) h
    (λ e. (m, eqb-true k (mark_index m) e, Memᴰ.head refl)) (λ e. let s = mark_of k marks e in (s.0, s.1, Memᴰ.tail s.2))

after_of : (marks : List ℕ) (a : Atom) → is_after marks a ≡ true → (m : ℕ) × (a ≡ compare T gt (number (mark_index m))) × Memᴰ m marks
after_of marks (compare f ρ v) h = absurd (false≢true h)
after_of marks (compare (of c) ρ (number k)) h = absurd (false≢true h)
after_of marks (compare T ge (number k)) h = absurd (false≢true h)
after_of marks (compare T le (number k)) h = absurd (false≢true h)
after_of marks (compare T gt (number k)) h = let s = mark_of k marks h in (s.0, ap (λ (k : ℕ). compare T gt (number k)) s.1, s.2)
after_of marks (compare T lt (number k)) h = absurd (false≢true h)
after_of marks (compare T eq (number k)) h = absurd (false≢true h)
after_of marks (A-to-B ρ) h = absurd (false≢true h)
after_of marks (fall c) h = absurd (false≢true h)
after_of marks (rise c) h = absurd (false≢true h)
after_of marks (pigment k) h = absurd (false≢true h)

-- ---- AT THE FIRST READING

module _ (marks : List ℕ) (x : Reading) (l : List Reading) (mask : List Bool) (w : Includes (true ∷ mask) (flags (kept_for marks) (x ∷ l))) (thin : Thinned (true ∷ mask) (x ∷ l)) (z : ℤ) where
  abbrev r : List Reading
  r = x ∷ l

  abbrev s : List Reading
  s = select (true ∷ mask) (x ∷ l)

  finally_same : (p : Text) → has_listed p ≡ false → (P : Reading → Bool) → ((x : Reading) (l : List Reading) → So (P x) ↔ At z p (x ∷ l)) → some_of P s ≡ some_of P r
      → At z (finally p) r ↔ At z (finally p) s
  finally_same p u P is e = then (finally_tested z p u P is r tt) (then (λ k. e ∙ k, λ k. sym e ∙ k) (back (finally_tested z p u P is s tt)))

  globally_same : (p : Text) → has_listed p ≡ false → (P : Reading → Bool) → ((x : Reading) (l : List Reading) → So (P x) ↔ At z p (x ∷ l))
      → some_of (λ x. not (P x)) s ≡ some_of (λ x. not (P x)) r → At z (globally p) r ↔ At z (globally p) s
  globally_same p u P is e =
      then (globally_tested z p u P is r tt) (then (λ k. ap not e ∙ k, λ k. ap not (sym e) ∙ k) (back (globally_tested z p u P is s tt)))

  -- a bound alone
  module _ (c : Curve) (ρ : Relation) (o : Operand) (h : is_eq ρ ≡ false) where
    is-bound : (x : Reading) (l : List Reading) → So (tests ρ (value c x) (operand o z)) ↔ At z (atom (compare (of c) ρ o)) (x ∷ l)
    is-bound x l = then (tests_relates ρ h (value c x) (operand o z)) (back (at_atom z (compare (of c) ρ o) x l))

    not_bound : ◌≡◌ {A = Reading → Bool} (λ x. not (tests ρ (value c x) (operand o z))) (λ x. tests (dual ρ) (value c x) (operand o z))
    not_bound = fun_ext (λ x. not_tests ρ h (value c x) (operand o z))

    finally_bound : At z (finally (atom (compare (of c) ρ o))) r ↔ At z (finally (atom (compare (of c) ρ o))) s
    finally_bound = finally_same (atom (compare (of c) ρ o)) refl (λ x. tests ρ (value c x) (operand o z)) is-bound
        (bound_seen marks r (true ∷ mask) w any_time (extremes-kept marks) c (operand o z) ρ h)

    globally_bound : At z (globally (atom (compare (of c) ρ o))) r ↔ At z (globally (atom (compare (of c) ρ o))) s
    globally_bound = globally_same (atom (compare (of c) ρ o)) refl (λ x. tests ρ (value c x) (operand o z)) is-bound
        (ap (λ (P : Reading → Bool). some_of P s) not_bound ∙ bound_seen marks r (true ∷ mask) w any_time (extremes-kept marks) c (operand o z) (dual ρ) (dual_eq ρ h)
        ∙ sym (ap (λ (P : Reading → Bool). some_of P r) not_bound))

    -- behind a mark
    module _ (m : ℕ) (e : Memᴰ m marks) where
      abbrev later : Text
      later = atom (compare T gt (number (mark_index m)))

      is_later : (x : Reading) (l : List Reading) → So (ltb m x.time) ↔ At z later (x ∷ l)
      is_later x l = then (after_mark m x) (back (at_atom z (compare T gt (number (mark_index m))) x l))

      finally_after : At z (finally (and later (atom (compare (of c) ρ o)))) r ↔ At z (finally (and later (atom (compare (of c) ρ o)))) s
      unfolding Holds
      finally_after = finally_same (and later (atom (compare (of c) ρ o))) refl (λ x. ltb m x.time && tests ρ (value c x) (operand o z))
          (λ x l. then (so_and (ltb m x.time) (tests ρ (value c x) (operand o z))) (both (is_later x l) (is-bound x l)))
          (bound_seen marks r (true ∷ mask) w (later_than m) (extremes-after-kept marks m e) c (operand o z) ρ h)

      not_after : ◌≡◌ {A = Reading → Bool} (λ x. not (not (ltb m x.time) || tests ρ (value c x) (operand o z))) (λ x. ltb m x.time && tests (dual ρ) (value c x) (operand o z))
      not_after = fun_ext (λ x. neither (ltb m x.time) (tests ρ (value c x) (operand o z)) ∙ ap (λ (t : Bool). ltb m x.time && t) (not_tests ρ h (value c x) (operand o z)))
        where
          neither : (a b : Bool) → not (not a || b) ≡ (a && not b)
          neither true b = refl
          neither false b = refl

      globally_after : At z (globally (or (neg later) (atom (compare (of c) ρ o)))) r ↔ At z (globally (or (neg later) (atom (compare (of c) ρ o)))) s
      unfolding Holds
      globally_after = globally_same (or (neg later) (atom (compare (of c) ρ o))) refl (λ x. not (ltb m x.time) || tests ρ (value c x) (operand o z))
          (λ x l. then (so_or (not (ltb m x.time)) (tests ρ (value c x) (operand o z)))
          (either (then (so_not (ltb m x.time)) (let a = is_later x l in (λ n k. n (a.1 k), λ n k. n (a.0 k)))) (is-bound x l)))
          (ap (λ (P : Reading → Bool). some_of P s) not_after ∙ bound_seen marks r (true ∷ mask) w (later_than m) (extremes-after-kept marks m e) c (operand o z) (dual ρ) (dual_eq ρ h)
          ∙ sym (ap (λ (P : Reading → Bool). some_of P r) not_after))

  Kept : Text → Type 0
  Kept p = At z p r ↔ At z p s

  somewhere_same : (p : Text) → somewhere marks p ≡ true → Kept (finally p)
  unfolding Kept
  somewhere_same (atom a) h =
      let b = bound_of a h in
      subst (λ (a : Atom). Kept (finally (atom a))) (sym b.3) (finally_bound b.0 b.1 b.2 b.4)
  somewhere_same (listed q) h = absurd (false≢true h)
  somewhere_same (or p q) h = absurd (false≢true h)
  somewhere_same (and p q) h =
      let f = of-atom (is_after marks) p (and_left (of_atom (is_after marks) p) (of_atom is_bound q) h) in
      let g = of-atom is_bound q (and_right (of_atom (is_after marks) p) (of_atom is_bound q) h) in
      let a = after_of marks f.0 f.2 in
      let b = bound_of g.0 g.2 in
      subst (λ (p : Text). Kept (finally (and p q))) (sym (f.1 ∙ ap atom a.1))
      (subst (λ (q : Text). Kept (finally (and (atom (compare T gt (number (mark_index a.0)))) q))) (sym (g.1 ∙ ap atom b.3))
      (finally_after b.0 b.1 b.2 b.4 a.0 a.2))
  somewhere_same (neg p) h = absurd (false≢true h)
  somewhere_same (finally p) h = absurd (false≢true h)
  somewhere_same (globally p) h =
      let f = of-atom (λ a. true) p h in
      subst (λ (p : Text). Kept (finally (globally p))) (sym f.1) (lasting z (atom f.0) refl (true ∷ mask) (x ∷ l) thin)
  somewhere_same (next p) h = absurd (false≢true h)
  somewhere_same (until p q) h = absurd (false≢true h)
  somewhere_same (weak_until p q) h = absurd (false≢true h)

  throughout_same : (p : Text) → throughout marks p ≡ true → Kept (globally p)
  unfolding Kept
  throughout_same (atom a) h =
      let b = bound_of a h in
      subst (λ (a : Atom). Kept (globally (atom a))) (sym b.3) (globally_bound b.0 b.1 b.2 b.4)
  throughout_same (listed q) h = absurd (false≢true h)
  throughout_same (or p q) h =
      let f = of-not (is_after marks) p (and_left (of_not (is_after marks) p) (of_atom is_bound q) h) in
      let g = of-atom is_bound q (and_right (of_not (is_after marks) p) (of_atom is_bound q) h) in
      let a = after_of marks f.0 f.2 in
      let b = bound_of g.0 g.2 in
      subst (λ (p : Text). Kept (globally (or p q))) (sym (f.1 ∙ ap (λ (a : Atom). neg (atom a)) a.1))
      (subst (λ (q : Text). Kept (globally (or (neg (atom (compare T gt (number (mark_index a.0))))) q))) (sym (g.1 ∙ ap atom b.3))
      (globally_after b.0 b.1 b.2 b.4 a.0 a.2))
  throughout_same (and p q) h = absurd (false≢true h)
  throughout_same (neg p) h = absurd (false≢true h)
  throughout_same (finally p) h = absurd (false≢true h)
  throughout_same (globally p) h = absurd (false≢true h)
  throughout_same (next p) h = absurd (false≢true h)
  throughout_same (until p q) h = absurd (false≢true h)
  throughout_same (weak_until p q) h = absurd (false≢true h)

  by_steady : (p : Text) → steady p ≡ true → Kept p
  unfolding Kept
  by_steady p h = steady_kept z p h mask x l thin

  -- THE SAME AT THE FIRST READING
  firstly-kept : (p : Text) → firstly marks p ≡ true → Kept p
  unfolding Kept Holds
  firstly-kept (atom a) h = by_steady (atom a) refl
  firstly-kept (listed q) h = absurd (false≢true h)
  firstly-kept (or p q) h = either (firstly-kept p (and_left (firstly marks p) (firstly marks q) h)) (firstly-kept q (and_right (firstly marks p) (firstly marks q) h))
  firstly-kept (and p q) h = both (firstly-kept p (and_left (firstly marks p) (firstly marks q) h)) (firstly-kept q (and_right (firstly marks p) (firstly marks q) h))
  firstly-kept (neg p) h = let a = firstly-kept p h in (λ n k. n (a.1 k), λ n k. n (a.0 k))
  firstly-kept (finally p) h = or_cases (somewhere marks p) (steady (finally p) && nameless p) h (somewhere_same p) (λ k. by_steady (finally p) (and_left (steady (finally p)) (nameless p) k))
  firstly-kept (globally p) h = or_cases (throughout marks p) (steady (globally p) && nameless p) h (throughout_same p) (λ k. by_steady (globally p) (and_left (steady (globally p)) (nameless p) k))
  firstly-kept (next p) h = by_steady (next p) (and_left (steady (next p)) (nameless p) h)
  firstly-kept (until p q) h = by_steady (until p q) (and_left (steady (until p q)) (nameless (until p q)) h)
  firstly-kept (weak_until p q) h = by_steady (weak_until p q) (and_left (steady (weak_until p q)) (nameless (weak_until p q)) h)

  pub firstly_same : (p : Text) → firstly marks p ≡ true → At z p (x ∷ l) ↔ At z p (x ∷ select mask l)
  unfolding Kept
  firstly_same p h = firstly-kept p h
