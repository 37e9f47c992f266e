-- The walk along two arrays, turn by turn. A pair of places is weighed if its row or its column is passed.
use Prim.Native.Nat.{ℕ, suc, ◌+◌, ◌≤◌, ◌<◌, min}
use native.Mathlib.Omega.{arith}
use native.Mathlib.Decide.{dec_lt, dec_le}
use mathlib.Core.Path.{◌≡◌, refl, sym, ap, ◌∙◌, subst}
use mathlib.Core.Bool.{Bool, true, false}
use mathlib.Core.Logic.{◌⊎◌, inl, inr}
use mathlib.Core.List.{List}
use lib.ListN.{length, get_or}
use borrow.Author.Tests.{eqb-true, eq-eqb}
use Rattle.number.specs.Axis.{origin, axis}
use Rattle.meaning.specs.inner.Truth.{apart}
use Rattle.meaning.proofs.laws.Pick.{some_at, some_find}
use Rattle.differences.specs.inner.Times.{Times, lags_of}
use Rattle.differences.specs.inner.Sweep.{Least}
use Rattle.recording.specs.Condition.{some_of}
use Rattle.differences.proofs.TimeLaws.{times_up}

-- ---- membership by index

-- w is the difference of place j of b and place i of a
abbrev pub At : List ℕ → List ℕ → ℕ → ℕ → ℕ → Type 0
At a b i j w = get_or a i 0 + w ≡ get_or b j 0 + origin

pub record Diff (a b : List ℕ) (w : ℕ) : Type 0 where
  pub i : ℕ
  pub j : ℕ
  pub in_a : i < length a
  pub in_b : j < length b
  pub at : At a b i j w

-- all pairs in a row before i or a column before j are weighed
pub record Passed (a b : List ℕ) (x i j best : ℕ) : Type 0 where
  pub low : x ≤ best
  pub end : best ≤ axis
  pub here : best < axis → Diff a b best
  pub least : (k l : ℕ) → k < length a → l < length b → (k < i) ⊎ (l < j) → (w : ℕ) → At a b k l w → x ≤ w → best ≤ w

lags_diff : (a b : List ℕ) (w : ℕ) → lags_of a b w ≡ true → Diff a b w
lags_diff a b w e =
    let f = some_find 0 (λ s. some_of (apart w s) b) a e in
    let g = some_find 0 (apart w (get_or a f.0 0)) b f.2 in
    record { i = f.0; j = g.0; in_a = f.1; in_b = g.1; at = eqb-true (get_or a f.0 0 + w) (get_or b g.0 0 + origin) g.2 }

diff_lags : (a b : List ℕ) (w : ℕ) → Diff a b w → lags_of a b w ≡ true
diff_lags a b w d =
    some_at 0 (λ s. some_of (apart w s) b) a d.i d.in_a
    (some_at 0 (apart w (get_or a d.i 0)) b d.j d.in_b (eq-eqb _ _ d.at))

-- ---- the turns

pub passed_start : (a b : List ℕ) (x : ℕ) → x ≤ axis → Passed a b x 0 0 axis
passed_start a b x h = record {
  low = h;
  end = omega arith;
  here = λ k. absurd (omega arith);
  least = λ k l m n c w e z. absurd (none k l c);
}
  where
    none : (k l : ℕ) → (k < 0) ⊎ (l < 0) → ⊥
    none k l (inl h) = omega arith
    none k l (inr h) = omega arith

-- the difference at i, j is under x: so is all of column j from row i on
pub passed_column : (a b : List ℕ) → Times a → (x i j best d : ℕ) → Passed a b x i j best → i < length a → At a b i j d → d < x → Passed a b x i (suc j) best
passed_column a b ta x i j best d p hi e h = record {
  low = p.low;
  end = p.end;
  here = p.here;
  least = λ k l m n c w q z. by k l m n w q z c (dec_lt k i) (dec_lt l j);
}
  where
    by : (k l : ℕ) → k < length a → l < length b → (w : ℕ) → At a b k l w → x ≤ w → (k < i) ⊎ (l < suc j) → Dec (k < i) → Dec (l < j) → best ≤ w
    by k l m n w q z c (yes u) s = p.least k l m n (inl u) w q z
    by k l m n w q z c (no u) (yes s) = p.least k l m n (inr s) w q z
    by k l m n w q z (inl c) (no u) (no s) = absurd (u c)
    by k l m n w q z (inr c) (no u) (no s) =
        let t : l ≡ j = omega arith in
        let g : get_or a k 0 + w ≡ get_or b j 0 + origin = q ∙ ap (λ (t : ℕ). get_or b t 0 + origin) t in
        absurd (omega (arith, g, e, times_up a ta i k (omega arith) m))

-- it is not: it is the least of row i from column j on
pub passed_row : (a b : List ℕ) → Times a → Times b → (x i j best d : ℕ) → Passed a b x i j best → i < length a → j < length b → At a b i j d → x ≤ d
    → Passed a b x (suc i) j (min best d)
passed_row a b ta tb x i j best d p hi hj e h = record {
  low = omega (arith, p.low);
  end = omega (arith, p.end);
  here = λ u. here u (dec_le best d);
  least = λ k l m n c w q z. by k l m n w q z c (dec_lt k i) (dec_lt l j);
}
  where
    here : min best d < axis → Dec (best ≤ d) → Diff a b (min best d)
    here u (yes g) = let t : min best d ≡ best = omega arith in subst (Diff a b) (sym t) (p.here (omega arith))
    here u (no g) = let t : min best d ≡ d = omega arith in subst (Diff a b) (sym t) (record { i = i; j = j; in_a = hi; in_b = hj; at = e })

    by : (k l : ℕ) → k < length a → l < length b → (w : ℕ) → At a b k l w → x ≤ w → (k < suc i) ⊎ (l < j) → Dec (k < i) → Dec (l < j) → min best d ≤ w
    by k l m n w q z c (yes u) s = omega (arith, p.least k l m n (inl u) w q z)
    by k l m n w q z c (no u) (yes s) = omega (arith, p.least k l m n (inr s) w q z)
    by k l m n w q z (inr c) (no u) (no s) = absurd (s c)
    by k l m n w q z (inl c) (no u) (no s) =
        let t : k ≡ i = omega arith in
        let g : get_or a i 0 + w ≡ get_or b l 0 + origin = sym (ap (λ (t : ℕ). get_or a t 0 + w) t) ∙ q in
        omega (arith, g, e, times_up b tb j l (omega arith) n)

-- all rows, or all columns, are weighed
pub passed_end : (a b : List ℕ) (x i j best : ℕ) → Passed a b x i j best → (length a ≤ i) ⊎ (length b ≤ j) → Least (lags_of a b) x best
passed_end a b x i j best p s = record {
  low = p.low;
  end = p.end;
  here = λ h. diff_lags a b best (p.here h);
  gap = λ w h k. out w h k (lags_of a b w) refl;
}
  where
    side : (k l : ℕ) → k < length a → l < length b → (length a ≤ i) ⊎ (length b ≤ j) → (k < i) ⊎ (l < j)
    side k l m n (inl h) = inl (omega arith)
    side k l m n (inr h) = inr (omega arith)

    out : (w : ℕ) → x ≤ w → w < best → (e : Bool) → lags_of a b w ≡ e → lags_of a b w ≡ false
    out w h k false e = e
    out w h k true e =
        let d = lags_diff a b w e in
        absurd (omega (arith, p.least d.i d.j d.in_a d.in_b (side d.i d.j d.in_a d.in_b s) w d.at h))
