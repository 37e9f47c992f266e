-- How far the records of a recording go: record by record, and what the listed questions make of it.
use Rattle.std.specs.Prelude.{◌≡◌, ℕ, zero, suc, ◌+◌, ◌-◌, ◌<◌, ◌≤◌, min, max, Bool, true, false, cond, not, ◌&&◌, ◌||◌, ltb, leb, ◌⊎◌, List, [], ◌∷◌, map, length, take, nat_le, nat_lt, slice_index_or, refl}
use Rattle.std.proofs.Common.{arith, add-one, ap₂, ◌∙◌, subst, inl, inr, ⊎_elim, take-suc}
use Rattle.std.proofs.Math.Path.{sym, ap}
use Rattle.std.proofs.Math.Bool.{or-false}
use Rattle.std.proofs.lemmas.Bool.{false≢true}
use Rattle.std.proofs.lemmas.List.{length-map}
use Rattle.std.proofs.Math.Seq.{take-length}
use borrow.Author.Tests.{le-leb, lt-leb, leb-true, lt-ltb, le-ltb, ltb-true}
use Rattle.number.specs.Axis.{axis, origin}
use Rattle.number.proofs.laws.Order.{less_or_not, leb_not_ltb}
use Rattle.recording.specs.Reading.{Reading, Curve}
use Rattle.grammar.specs.Syntax.{high, low, lowafter, capafter, ampl}
use Rattle.meaning.specs.inner.Coded.{Coded, code, blank, coded_value, coded_after}
use Rattle.meaning.specs.inner.Truth.{all_of, truth, coded_at}
use Rattle.meaning.proofs.laws.Pick.{some_at, some_find}
use Rattle.number.proofs.laws.Boolean.{same, or_left, or_right, or_cases}
use Rattle.leaves.specs.inner.Extreme.{beyond, farther, Extreme, Passes}
use Rattle.leaves.proofs.laws.Coding.{at_index, ValueIndex}
use Rattle.recording.specs.Condition.{some_of}
use Rattle.recording.proofs.laws.Condition.{some_snoc}

-- ---- the farther of two

pub farther-tests : (up : Bool) (n m x : ℕ) → beyond up n (farther up m x) ≡ (beyond up n m || beyond up n x)
farther-tests true n m x = same _ _
    (λ e. let h = ltb-true n (max m x) e in
    ⊎_elim (λ g. or_left (nat_lt n m) (nat_lt n x) (lt-ltb n m g)) (λ g. or_right (nat_lt n m) (nat_lt n x) (lt-ltb n x (omega arith))) (less_or_not n m))
    (λ e. or_cases (nat_lt n m) (nat_lt n x) e (λ h. lt-ltb n (max m x) (omega (arith, ltb-true n m h))) (λ h. lt-ltb n (max m x) (omega (arith, ltb-true n x h))))
farther-tests false n m x = same _ _
    (λ e. let h = leb-true (min m x) n e in
    ⊎_elim (λ g. or_right (nat_le m n) (nat_le x n) (le-leb x n (omega arith))) (λ g. or_left (nat_le m n) (nat_le x n) (le-leb m n g)) (less_or_not n m))
    (λ e. or_cases (nat_le m n) (nat_le x n) e (λ h. le-leb (min m x) n (omega (arith, leb-true m n h))) (λ h. le-leb (min m x) n (omega (arith, leb-true x n h))))

farther-one : (up : Bool) (m x : ℕ) → x < axis → (farther up m x ≡ m) ⊎ (farther up m x < axis)
farther-one true m x h = ⊎_elim (λ g. inr (omega arith)) (λ g. inl (omega arith)) (less_or_not m x)
farther-one false m x h = inr (omega arith)

-- ---- record by record

module _ (up : Bool) (c : Curve) (k : ℕ) where
  -- a record that is not after k
  pub pass_over : (x : Coded) (m : ℕ) → x.time ≤ k → Passes up c k x m m
  pass_over x m h = record {
    one = inl refl;
    tests = λ n. sym (or-false (beyond up n m)) ∙ ap (λ (b : Bool). beyond up n m || (b && beyond up n (coded_value c x))) (sym (le-ltb k x.time h));
  }

  -- a record after k
  pub pass_by : (x : Coded) (m m' : ℕ) → k < x.time → coded_value c x < axis → m' ≡ farther up m (coded_value c x) → Passes up c k x m m'
  pass_by x m m' h small e = record {
    one = subst (λ (y : ℕ). (y ≡ m) ⊎ (y < axis)) (sym e) (farther-one up m (coded_value c x) small);
    tests = λ n. ap (beyond up n) e ∙ farther-tests up n m (coded_value c x)
        ∙ ap (λ (b : Bool). beyond up n m || (b && beyond up n (coded_value c x))) (sym (lt-ltb k x.time h));
  }

pub extreme_start : (up : Bool) (c : Curve) (k : ℕ) (r : List Coded) → Extreme up c k (take 0 r) (cond up 0 axis)
extreme_start true c k r = record { most = omega arith; inside = λ e. omega arith; tests = λ n h. sym (le-ltb n 0 (omega arith)) }
extreme_start false c k r = record { most = omega arith; inside = λ e. absurd (false≢true e); tests = λ n h. sym (lt-leb axis n h) }

pub extreme_turn : (up : Bool) (c : Curve) (k : ℕ) (r : List Coded) (i m m' : ℕ) → i < length r → Extreme up c k (take i r) m
    → Passes up c k (coded_at r i) m m' → Extreme up c k (take (i + 1) r) m'
extreme_turn up c k r i m m' h e p =
    subst (λ (l : List Coded). Extreme up c k l m') (sym (ap (λ (j : ℕ). take j r) (add-one i) ∙ take-suc r i blank h)) (record {
      most = ⊎_elim (λ q. omega (arith, e.most)) (λ q. omega arith) p.one;
      inside = λ u. ⊎_elim (λ q. omega (arith, e.inside u)) (λ q. q) p.one;
      tests = λ n g. some_snoc (λ x. coded_after k x && beyond up n (coded_value c x)) (take i r) (slice_index_or r i blank)
          ∙ ap₂ (λ (a b : Bool). a || b) (e.tests n g)
          (ap (λ (x : Coded). coded_after k x && beyond up n (coded_value c x)) (sym (at_index r i h)))
          ∙ sym (p.tests n);
    })

pub extreme_end : (up : Bool) (c : Curve) (k : ℕ) (r : List Coded) (i m : ℕ) → i ≡ length r → Extreme up c k (take i r) m → Extreme up c k r m
extreme_end up c k r i m h e =
    subst (λ (l : List Coded). Extreme up c k l m) (ap (λ (j : ℕ). take j r) h ∙ take-length r) e

-- ---- the listed questions

some_ext : (P Q : Coded → Bool) (r : List Reading) → ((x : Reading) → P (code x) ≡ Q (code x)) → some_of P (map code r) ≡ some_of Q (map code r)
some_ext P Q [] e = refl
some_ext P Q (x ∷ r) e = ap₂ (λ (a b : Bool). a || b) (e x) (some_ext P Q r e)

-- every time is after the low end of the axis
pub from_start : (P : Coded → Bool) (r : List Reading) → some_of (λ x. coded_after 0 x && P x) (map code r) ≡ some_of P (map code r)
from_start P r = some_ext (λ x. coded_after 0 x && P x) P r (λ x. ap (λ (b : Bool). b && P (code x)) (lt-ltb 0 (x.time + origin) (omega arith)))

-- all are not, if and only if none is
all_none : (q : Coded → Bool) (f : Coded → ℕ) (n : ℕ) (r : List Coded)
    → all_of (λ x. not (q x) || nat_le (f x) n) r ≡ not (some_of (λ x. q x && nat_lt n (f x)) r)
all_none q f n [] = refl
all_none q f n (x ∷ r) = ap₂ (λ (a b : Bool). (not (q x) || a) && b) (leb_not_ltb (f x) n) (all_none q f n r) ∙ moved (q x) (nat_lt n (f x)) (some_of (λ x. q x && nat_lt n (f x)) r)
  where
    moved : (a b e : Bool) → ((not a || not b) && not e) ≡ not ((a && b) || e)
    moved true true e = refl
    moved true false e = refl
    moved false b e = refl

module _ (c : Curve) (k : ℕ) (r : List Coded) (m : ℕ) (v : ℕ) (h : v < axis) where
  pub lowafter_from : Extreme false c k r m → nat_le m v ≡ truth (lowafter c k) r v
  unfolding truth
  lowafter_from e = sym (e.tests v h)

  pub capafter_from : Extreme true c k r m → nat_le m v ≡ truth (capafter c k) r v
  unfolding truth
  capafter_from e = leb_not_ltb m v ∙ ap not (sym (e.tests v h)) ∙ sym (all_none (coded_after k) (coded_value c) v r)

module _ (c : Curve) (l : List Reading) where
  -- not below n: above n − 1, or some record at all
  at_least : (n m : ℕ) → n < axis → 0 < length l → Extreme true c 0 (map code l) m → some_of (λ x. leb n (coded_value c x)) (map code l) ≡ nat_le n m
  at_least zero m h p e = some_record l p
    where
      some_record : (l : List Reading) → 0 < length l → some_of (λ x. leb 0 (coded_value c x)) (map code l) ≡ nat_le 0 m
      some_record [] p = absurd (omega arith)
      some_record (x ∷ l) p = ap (λ (b : Bool). b || some_of (λ x. leb 0 (coded_value c x)) (map code l)) (le-leb 0 (coded_value c (code x)) (omega arith)) ∙ sym (le-leb 0 m (omega arith))
  at_least (suc n) m h p e =
      some_ext (λ x. leb (suc n) (coded_value c x)) (λ x. ltb n (coded_value c x)) l (λ x. less n (coded_value c (code x)))
      ∙ sym (from_start (λ x. ltb n (coded_value c x)) l) ∙ e.tests n (omega arith) ∙ sym (less n m)
    where
      less : (n x : ℕ) → nat_le (suc n) x ≡ nat_lt n x
      less n x = same _ _ (λ e. lt-ltb n x (omega (arith, leb-true (suc n) x e))) (λ e. le-leb (suc n) x (omega (arith, ltb-true n x e)))

  at_most : (n m : ℕ) → n < axis → Extreme false c 0 (map code l) m → some_of (λ x. leb (coded_value c x) n) (map code l) ≡ nat_le m n
  at_most n m h e = sym (from_start (λ x. leb (coded_value c x) n) l) ∙ e.tests n h

  module _ (p : 0 < length l) where
    pub high-upto : (m : ℕ) → Extreme true c 0 (map code l) m → (v : ℕ) → v < axis → nat_le v m ≡ truth (high c) (map code l) v
    unfolding truth
    high-upto m e v h = sym (at_least v m h p e)

    pub low-from : (m : ℕ) → Extreme false c 0 (map code l) m → (v : ℕ) → v < axis → nat_le m v ≡ truth (low c) (map code l) v
    unfolding truth
    low-from m e v h = sym (at_most v m h e)

    -- how far apart the greatest and the least are
    module _ (range : (i : ℕ) → i < length (map code l) → ValueIndex (coded_value c (slice_index_or (map code l) i blank))) (bottom top : ℕ) (a : Extreme false c 0 (map code l) bottom)
        (b : Extreme true c 0 (map code l) top) where
      abbrev f : ℕ → ℕ
      f i = coded_value c (slice_index_or (map code l) i blank)

      not_under : (i : ℕ) → i < length (map code l) → bottom ≤ f i
      not_under i h =
          leb-true bottom (f i) (sym (at_most (f i) bottom (omega (arith, (range i h).1)) a)
          ∙ some_at blank (λ x. leb (coded_value c x) (f i)) (map code l) i h (le-leb (f i) (f i) (omega arith)))

      not_over : (i : ℕ) → i < length (map code l) → f i ≤ top
      not_over i h =
          leb-true (f i) top (sym (at_least (f i) top (omega (arith, (range i h).1)) p b)
          ∙ some_at blank (λ x. leb (f i) (coded_value c x)) (map code l) i h (le-leb (f i) (f i) (omega arith)))

      some_first : 0 < length (map code l)
      some_first = omega (arith, length-map l code)

      least-at : (i : ℕ) × (i < length (map code l)) × (nat_le (f i) bottom ≡ true)
      least-at = some_find blank (λ x. leb (coded_value c x) bottom) (map code l)
          (at_most bottom bottom (omega (arith, not_under 0 some_first, (range 0 some_first).1)) a ∙ le-leb bottom bottom (omega arith))

      greatest-at : (i : ℕ) × (i < length (map code l)) × (nat_le top (f i) ≡ true)
      greatest-at = some_find blank (λ x. leb top (coded_value c x)) (map code l)
          (at_least top top (b.inside refl) p b ∙ le-leb top top (omega arith))

      pub spread_order : bottom ≤ top
      spread_order = omega (arith, not_under 0 some_first, not_over 0 some_first)

      pub spread_small : top ≤ bottom + origin
      spread_small =
          let x = least-at in let y = greatest-at in
          omega (arith, leb-true (f x.0) bottom x.2, leb-true top (f y.0) y.2, (range x.0 x.1).0, (range y.0 y.1).1)

      pub ampl_upto : (v : ℕ) → nat_le v ((top - bottom) + origin) ≡ truth (ampl c) (map code l) v
      unfolding truth
      ampl_upto v = same _ _ (to v) (from v)
        where
          to : (v : ℕ) → nat_le v ((top - bottom) + origin) ≡ true
              → some_of (λ x. some_of (λ y. leb (coded_value c x + v) (coded_value c y + origin)) (map code l)) (map code l) ≡ true
          to v e =
              let x = least-at in let y = greatest-at in
              let o = spread_order in
              let t : f x.0 + v ≤ f y.0 + origin =
              omega (arith, leb-true (f x.0) bottom x.2, leb-true top (f y.0) y.2, leb-true v ((top - bottom) + origin) e) in
              some_at blank (λ x. some_of (λ y. leb (coded_value c x + v) (coded_value c y + origin)) (map code l)) (map code l) x.0 x.1
              (some_at blank (λ z. leb (f x.0 + v) (coded_value c z + origin)) (map code l) y.0 y.1 (le-leb (f x.0 + v) (f y.0 + origin) t))

          from : (v : ℕ) → some_of (λ x. some_of (λ y. leb (coded_value c x + v) (coded_value c y + origin)) (map code l)) (map code l) ≡ true
              → nat_le v ((top - bottom) + origin) ≡ true
          from v e =
              let x = some_find blank (λ x. some_of (λ y. leb (coded_value c x + v) (coded_value c y + origin)) (map code l)) (map code l) e in
              let y = some_find blank (λ y. leb (f x.0 + v) (coded_value c y + origin)) (map code l) x.2 in
              let o = spread_order in
              le-leb v ((top - bottom) + origin)
              (omega (arith, leb-true (f x.0 + v) (f y.0 + origin) y.2, not_under x.0 x.1, not_over y.0 y.1))
