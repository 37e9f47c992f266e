-- The times of b minus one time s, in ascending order: those under x, those in the window from x on, and those beyond it.
use Prim.Native.Nat.{ℕ, ◌+◌, ◌-◌, ◌≤◌, ◌<◌, min}
use native.Mathlib.Omega.{arith}
use native.Mathlib.Decide.{dec_lt, ℕ_discrete}
use mathlib.Core.Path.{◌≡◌, refl, sym, ap, ◌∙◌}
use mathlib.Core.Bool.{Bool, true, false, ◌||◌}
use mathlib.Core.List.{List}
use lib.ListN.{length, get_or, set, length-set}
use lib.Seq.{get_or-set_same, get_or-set_other}
use borrow.Author.Tests.{eqb-true, eq-eqb}
use Rattle.number.specs.Axis.{origin, axis}
use Rattle.number.proofs.laws.Boolean.{same, or_left, or_right, or_cases}
use Rattle.meaning.specs.inner.Truth.{apart}
use Rattle.meaning.proofs.laws.Pick.{some_at, some_find}
use Rattle.differences.specs.inner.Times.{Times}
use Rattle.differences.specs.inner.Sweep.{window_size, Time, row_of, Under, Parts, Behind, Beyond, Seen, Found}
use Rattle.differences.proofs.TimeLaws.{times_up}

-- ---- where the differences reach x

module _ (b : List ℕ) (tb : Times b) (s x j : ℕ) (u : Under b s x j) where
  pub parts-end : j ≤ length b → length b ≤ j → Parts b s x j
  parts-end h k = record { within = h; under = u; over = λ l m n. absurd (omega arith) }

  module _ (h : j < length b) (d : ℕ) (e : s + d ≡ get_or b j 0 + origin) where
    pub parts_here : x ≤ d → Parts b s x j
    parts_here k = record { within = omega arith; under = u; over = λ l m n. omega (arith, e, times_up b tb j l m n) }

    pub under_more : d < x → Under b s x (j + 1)
    under_more k l m n = by (dec_lt l j)
      where
        by : Dec (l < j) → get_or b l 0 + origin < s + x
        by (yes c) = u l c n
        by (no c) =
            let q : l ≡ j = omega arith in
            let g = ap (λ (l : ℕ). get_or b l 0) q in
            omega (arith, e, g)

-- ---- what is seen

-- the differences before place j are seen
pub record Seeing (b : List ℕ) (s x j : ℕ) (v w : List Bool) : Type 0 where
  pub long : length w ≡ window_size
  pub under : Under b s (x + window_size) j
  pub kept : (t : ℕ) → t < window_size → get_or v t false ≡ true → get_or w t false ≡ true
  pub sound : (t : ℕ) → t < window_size → get_or w t false ≡ true → (get_or v t false || row_of s b (x + t)) ≡ true
  pub done : (l t : ℕ) → l < j → l < length b → t < window_size → s + (x + t) ≡ get_or b l 0 + origin → get_or w t false ≡ true

pub seeing_start : (b : List ℕ) (s x j : ℕ) (v : List Bool) → length v ≡ window_size → Parts b s x j → Seeing b s x j v v
seeing_start b s x j v h p = record {
  long = h;
  under = λ l m n. omega (arith, p.under l m n);
  kept = λ t m q. q;
  sound = λ t m q. or_left (get_or v t false) _ q;
  done = λ l t m n k q. absurd (omega (arith, q, p.under l m n));
}

module _ (b : List ℕ) (s x j : ℕ) (v w : List Bool) (m : Seeing b s x j v w) where
  -- the difference at place j is in the window
  module _ (h : j < length b) (d : ℕ) (e : s + d ≡ get_or b j 0 + origin) (low : x ≤ d) (high : d - x < window_size) where
    fits : d - x < length w
    fits = omega (arith, m.long)

    stays : (t : ℕ) → get_or w t false ≡ true → Dec (t ≡ d - x) → get_or (set w (d - x) true) t false ≡ true
    stays t q (yes z) = ap (λ (t : ℕ). get_or (set w (d - x) true) t false) z ∙ get_or-set_same w (d - x) true false fits
    stays t q (no z) = get_or-set_other w (d - x) t true false z ∙ q

    sound : (t : ℕ) → t < window_size → get_or (set w (d - x) true) t false ≡ true → Dec (t ≡ d - x) → (get_or v t false || row_of s b (x + t)) ≡ true
    sound t k q (yes z) = or_right (get_or v t false) _ (some_at 0 (apart (x + t) s) b j h (eq-eqb (s + (x + t)) (get_or b j 0 + origin) (omega (arith, e))))
    sound t k q (no z) = m.sound t k (sym (get_or-set_other w (d - x) t true false z) ∙ q)

    done : (l t : ℕ) → l < j + 1 → l < length b → t < window_size → s + (x + t) ≡ get_or b l 0 + origin → Dec (l < j) → get_or (set w (d - x) true) t false ≡ true
    done l t k n u q (yes c) = stays t (m.done l t c n u q) (ℕ_discrete t (d - x))
    done l t k n u q (no c) =
        let g : l ≡ j = omega arith in
        let a = ap (λ (l : ℕ). get_or b l 0) g in
        let z : t ≡ d - x = omega (arith, q, e, a) in
        ap (λ (t : ℕ). get_or (set w (d - x) true) t false) z ∙ get_or-set_same w (d - x) true false fits

    pub seeing_more : Times b → Seeing b s x (j + 1) v (set w (d - x) true)
    seeing_more tb = record {
      long = length-set w (d - x) true ∙ m.long;
      under = under_more b tb s (x + window_size) j m.under h d e (omega arith);
      kept = λ t k q. stays t (m.kept t k q) (ℕ_discrete t (d - x));
      sound = λ t k q. sound t k q (ℕ_discrete t (d - x));
      done = λ l t k n u q. done l t k n u q (dec_lt l j);
    }

  -- from place j on they lie beyond the window
  pub seeing_end : Parts b s (x + window_size) j → Seen (row_of s b) x v w
  seeing_end p = record {
    long = m.long;
    is = λ t k. same _ _ (m.sound t k) (λ e. or_cases (get_or v t false) (row_of s b (x + t)) e (m.kept t k) (at t k));
  }
    where
      at : (t : ℕ) → t < window_size → row_of s b (x + t) ≡ true → get_or w t false ≡ true
      at t k e = let f = some_find 0 (apart (x + t) s) b e in by f.0 f.1 (eqb-true (s + (x + t)) (get_or b f.0 0 + origin) f.2) (dec_lt f.0 j)
        where
          by : (l : ℕ) → l < length b → s + (x + t) ≡ get_or b l 0 + origin → Dec (l < j) → get_or w t false ≡ true
          by l n q (yes c) = m.done l t c n k q
          by l n q (no c) = absurd (omega (arith, q, p.over l (omega arith) n))

-- ---- what lies behind them

module _ (b : List ℕ) (tb : Times b) (s x i j : ℕ) (time : Time s) (p : Parts b s x i) (q : Parts b s (x + window_size) j) (h : x < axis) where
  pub behind_none : j ≤ i → Behind b s x j x
  behind_none k = record { low = omega arith; few = omega arith; on-axis = omega arith; under = λ l m n. p.under l (omega arith) n }

  pub behind_last : i < j → (d : ℕ) → s + d ≡ get_or b (j - 1) 0 + origin → Behind b s x j (d + 1)
  behind_last k d e = record {
    low = omega (arith, e, p.over (j - 1) (omega arith) last);
    few = omega (arith, e, q.under (j - 1) (omega arith) last);
    on-axis = omega (arith, e, time.0, tb.most (j - 1) last);
    under = λ l m n. omega (arith, e, times_up b tb l (j - 1) (omega arith) last);
  }
    where
      last : j - 1 < length b
      last = omega (arith, q.within)

pub row-found : (b : List ℕ) → Times b → (s x j e n : ℕ) → Time s → x < axis → Parts b s (x + window_size) j → Behind b s x j e → Beyond b s j n → Found (row_of s b) x e n
row-found b tb s x j e n time h p be ne = record {
  low = be.low;
  few = be.few;
  on-axis = be.on-axis;
  on = on (dec_lt j (length b));
  stop = stop (dec_lt j (length b));
  here = λ k. here k (dec_lt j (length b));
  gap = λ v a c. none v a c (row_of s b v) refl;
}
  where
    on : Dec (j < length b) → min (x + window_size) axis ≤ n
    on (yes c) = omega (arith, ne.there c, p.over j (omega arith) c)
    on (no c) = omega (arith, ne.none (omega arith))

    stop : Dec (j < length b) → n ≤ axis
    stop (yes c) = omega (arith, ne.there c, time.0, tb.most j c)
    stop (no c) = omega (arith, ne.none (omega arith))

    here : n < axis → Dec (j < length b) → row_of s b n ≡ true
    here k (yes c) = some_at 0 (apart n s) b j c (eq-eqb (s + n) (get_or b j 0 + origin) (ne.there c))
    here k (no c) = absurd (omega (arith, ne.none (omega arith)))

    none : (v : ℕ) → e ≤ v → v < n → (k : Bool) → row_of s b v ≡ k → k ≡ false
    none v a c false q = refl
    none v a c true q = let f = some_find 0 (apart v s) b q in absurd (by f.0 f.1 (eqb-true (s + v) (get_or b f.0 0 + origin) f.2) (dec_lt f.0 j))
      where
        by : (l : ℕ) → l < length b → s + v ≡ get_or b l 0 + origin → Dec (l < j) → ⊥
        by l m z (yes c) = omega (arith, z, be.under l c m)
        by l m z (no k) = omega (arith, z, ne.there (omega arith), times_up b tb j l (omega arith) m)
