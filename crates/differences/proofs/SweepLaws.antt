-- Window and findings of one row after another, and of one pair of neighbours after another.
use Prim.Native.Nat.{ℕ, zero, suc, ◌+◌, ◌-◌, ◌≤◌, ◌<◌, min, max}
use native.Mathlib.Omega.{arith}
use native.Mathlib.Nat.{le_of_suc-le-suc, not-suc-le-zero}
use native.Mathlib.Decide.{dec_le}
use mathlib.Core.Path.{◌≡◌, refl, sym, ap, ◌∙◌, subst}
use mathlib.Core.Bool.{Bool, true, false, ◌||◌}
use mathlib.Core.List.{List, [], ◌∷◌}
use lib.ListN.{length, get_or, take, drop}
use lib.Seq.{take_all, drop-cons}
use Rattle.number.specs.Axis.{origin, axis}
use Rattle.number.proofs.laws.Boolean.{or_none, or_left, or_right}
use Rattle.meaning.specs.inner.Truth.{apart}
use Rattle.recording.specs.Condition.{some_of}
use Rattle.differences.specs.inner.Times.{Times, lags_of, steps_of}
use Rattle.differences.specs.inner.Sweep.{window_size, row_of, Under, Parts, Seen, Found}
use Rattle.differences.proofs.GatherLaws.{or_false}
use Rattle.differences.proofs.TimeLaws.{times_up}

or_assoc : (e f g : Bool) → (e || (f || g)) ≡ ((e || f) || g)
or_assoc true f g = refl
or_assoc false f g = refl

-- ---- two findings

-- of no number
module _ (f : ℕ → Bool) (none : (v : ℕ) → f v ≡ false) (x : ℕ) where
  found_none : x < axis → Found f x x axis
  found_none h = record { low = omega arith; few = omega arith; on-axis = omega arith; on = omega arith; stop = omega arith; here = λ k. absurd (omega arith); gap = λ v a b. none v }

  seen_none : (w : List Bool) → length w ≡ window_size → Seen f x w w
  seen_none w h = record { long = h; is = λ t k. sym (ap (λ (e : Bool). get_or w t false || e) (none (x + t)) ∙ or_false (get_or w t false)) }

module _ (f g h : ℕ → Bool) (x : ℕ) (both : (v : ℕ) → h v ≡ (f v || g v)) where
  found_both : {e n e' n' : ℕ} → Found f x e n → Found g x e' n' → Found h x (max e e') (min n n')
  found_both {e} {n} {e'} {n'} p q = record {
    low = omega (arith, p.low);
    few = omega (arith, p.few, q.few);
    on-axis = omega (arith, p.on-axis, q.on-axis);
    on = omega (arith, p.on, q.on);
    stop = omega (arith, p.stop);
    here = λ k. here k (dec_le n n');
    gap = λ v a b. both v ∙ or_none (p.gap v (omega arith) (omega arith)) (q.gap v (omega arith) (omega arith));
  }
    where
      here : min n n' < axis → Dec (n ≤ n') → h (min n n') ≡ true
      here k (yes c) = let t : min n n' ≡ n = omega arith in ap h t ∙ both n ∙ or_left (f n) (g n) (p.here (omega arith))
      here k (no c) = let t : min n n' ≡ n' = omega arith in ap h t ∙ both n' ∙ or_right (f n') (g n') (q.here (omega arith))

  seen_both : {u v w : List Bool} → Seen f x u v → Seen g x v w → Seen h x u w
  seen_both {u} {v} {w} p q = record {
    long = q.long;
    is = λ t k. q.is t k ∙ ap (λ (e : Bool). e || g (x + t)) (p.is t k) ∙ sym (or_assoc (get_or u t false) (f (x + t)) (g (x + t))) ∙ ap (λ (e : Bool). get_or u t false || e) (sym (both (x + t)));
  }

-- ---- rows

some_more : (P : ℕ → Bool) (l : List ℕ) (i : ℕ) → i < length l → some_of P (take (suc i) l) ≡ (some_of P (take i l) || P (get_or l i 0))
some_more P [] i h = absurd (not-suc-le-zero h)
some_more P (x ∷ l) zero h = or_false (P x)
some_more P (x ∷ l) (suc i) h = ap (λ (e : Bool). P x || e) (some_more P l i (le_of_suc-le-suc h)) ∙ or_assoc (P x) (some_of P (take i l)) (P (get_or l i 0))

-- the times of a before place i, each with those of b; those of b before `start` are under x from there on
pub record Rows (a b : List ℕ) (x i start end next : ℕ) (v w : List Bool) : Type 0 where
  pub placed : start ≤ length b
  pub under : (k : ℕ) → i ≤ k → k < length a → Under b (get_or a k 0) x start
  pub found : Found (lags_of (take i a) b) x end next
  pub seen : Seen (lags_of (take i a) b) x v w

pub rows_start : (a b : List ℕ) (x : ℕ) (w : List Bool) → x < axis → length w ≡ window_size → Rows a b x 0 0 x axis w w
rows_start a b x w h k = record { placed = omega arith; under = λ k m n l z. absurd (omega arith); found = found_none (lags_of [] b) (λ v. refl) x h; seen = seen_none (lags_of [] b) (λ v. refl) x w k }

pub rows_more : (a b : List ℕ) → Times a → (x i start end next : ℕ) (u v w : List Bool) → Rows a b x i start end next u v → i < length a
    → (start' end' next' : ℕ) → Parts b (get_or a i 0) x start' → Found (row_of (get_or a i 0) b) x end' next' → Seen (row_of (get_or a i 0) b) x v w
    → Rows a b x (suc i) start' (max end end') (min next next') u w
rows_more a b ta x i start end next u v w r h start' end' next' p f m = record {
  placed = p.within;
  under = λ k c n l z y. omega (arith, p.under l z y, times_up a ta i k (omega arith) n);
  found = found_both (lags_of (take i a) b) (row_of (get_or a i 0) b) (lags_of (take (suc i) a) b) x more r.found f;
  seen = seen_both (lags_of (take i a) b) (row_of (get_or a i 0) b) (lags_of (take (suc i) a) b) x more r.seen m;
}
  where
    more : (n : ℕ) → lags_of (take (suc i) a) b n ≡ (lags_of (take i a) b n || row_of (get_or a i 0) b n)
    more n = some_more (λ s. row_of s b n) a i h

pub rows_end : (a b : List ℕ) (x i start end next : ℕ) (v w : List Bool) → Rows a b x i start end next v w → length a ≤ i
    → Found (lags_of a b) x end next × Seen (lags_of a b) x v w
rows_end a b x i start end next v w r h =
    (subst (λ (a : List ℕ). Found (lags_of a b) x end next) (take_all i a h) r.found, subst (λ (a : List ℕ). Seen (lags_of a b) x v w) (take_all i a h) r.seen)

-- ---- neighbours

step_more : (n : ℕ) (l : List ℕ) (i : ℕ) → suc i < length l
    → steps_of (take (suc (suc i)) l) n ≡ (steps_of (take (suc i) l) n || apart n (get_or l i 0) (get_or l (suc i) 0))
step_more n [] i h = absurd (not-suc-le-zero h)
step_more n (s ∷ []) i h = absurd (omega arith)
step_more n (s ∷ (t ∷ l)) zero h = or_false (apart n s t)
step_more n (s ∷ (t ∷ l)) (suc i) h =
    ap (λ (e : Bool). apart n s t || e) (step_more n (t ∷ l) i (le_of_suc-le-suc h))
    ∙ or_assoc (apart n s t) (steps_of (take (suc i) (t ∷ l)) n) (apart n (get_or (t ∷ l) i 0) (get_or (t ∷ l) (suc i) 0))

-- the neighbours before place i
pub record Steps (l : List ℕ) (x i end next : ℕ) (v w : List Bool) : Type 0 where
  pub found : Found (steps_of (take i l)) x end next
  pub seen : Seen (steps_of (take i l)) x v w

one_time : (l : List ℕ) (n : ℕ) → steps_of (take 1 l) n ≡ false
one_time [] n = refl
one_time (s ∷ l) n = refl

pub steps-start : (l : List ℕ) (x : ℕ) (w : List Bool) → x < axis → length w ≡ window_size → Steps l x 1 x axis w w
steps-start l x w h k = record { found = found_none (steps_of (take 1 l)) (one_time l) x h; seen = seen_none (steps_of (take 1 l)) (one_time l) x w k }

module _ (l : List ℕ) (x i end next : ℕ) (u v w : List Bool) (r : Steps l x i end next u v) (h : i < length l) (end' next' : ℕ) (b : List ℕ) (q : b ≡ get_or l i 0 ∷ []) where
  -- neighbours are the row of one time with the next alone
  more : (k : ℕ) → i ≡ suc k → (n : ℕ) → steps_of (take (suc i) l) n ≡ (steps_of (take i l) n || row_of (get_or l k 0) b n)
  more k e n =
      subst (λ (i : ℕ). i < length l → steps_of (take (suc i) l) n ≡ (steps_of (take i l) n || apart n (get_or l k 0) (get_or l i 0))) (sym e) (step_more n l k) h
      ∙ ap (λ (e : Bool). steps_of (take i l) n || e) (sym (ap (λ (b : List ℕ). row_of (get_or l k 0) b n) q ∙ or_false (apart n (get_or l k 0) (get_or l i 0))))

  pub steps-more : 1 ≤ i → Found (row_of (get_or l (i - 1) 0) b) x end' next' → Seen (row_of (get_or l (i - 1) 0) b) x v w
      → Steps l x (suc i) (max end end') (min next next') u w
  steps-more k f m = record {
    found = found_both (steps_of (take i l)) (row_of (get_or l (i - 1) 0) b) (steps_of (take (suc i) l)) x (more (i - 1) (omega arith)) r.found f;
    seen = seen_both (steps_of (take i l)) (row_of (get_or l (i - 1) 0) b) (steps_of (take (suc i) l)) x (more (i - 1) (omega arith)) r.seen m;
  }

pub steps-end : (l : List ℕ) (x i end next : ℕ) (v w : List Bool) → Steps l x i end next v w → length l ≤ i
    → Found (steps_of l) x end next × Seen (steps_of l) x v w
steps-end l x i end next v w r h =
    (subst (λ (l : List ℕ). Found (steps_of l) x end next) (take_all i l h) r.found, subst (λ (l : List ℕ). Seen (steps_of l) x v w) (take_all i l h) r.seen)

-- a part of one time
pub single : (l : List ℕ) (i : ℕ) → i < length l → take ((i + 1) - i) (drop i l) ≡ get_or l i 0 ∷ []
single l i h =
    let one : (i + 1) - i ≡ 1 = omega arith in
    ap (λ (n : ℕ). take n (drop i l)) one ∙ ap (take 1) (drop-cons l i 0 h)

pub single-times : (l : List ℕ) → Times l → (i : ℕ) → i < length l → Times (take ((i + 1) - i) (drop i l))
single-times l t i h = subst Times (sym (single l i h)) (times-one (get_or l i 0) (t.least i h) (t.most i h))
  where
    times-one : (t : ℕ) → origin ≤ t → t ≤ origin + origin → Times (t ∷ [])
    times-one t a b = record { least = λ i h. least i h; most = λ i h. most i h; ascending = λ i j h k. absurd (omega arith) }
      where
        least : (i : ℕ) → i < length (t ∷ []) → origin ≤ get_or (t ∷ []) i 0
        least zero h = a
        least (suc i) h = absurd (omega arith)

        most : (i : ℕ) → i < length (t ∷ []) → get_or (t ∷ []) i 0 ≤ origin + origin
        most zero h = b
        most (suc i) h = absurd (omega arith)
