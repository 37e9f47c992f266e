-- Every set has its maximal runs, and no others; they are those that are written.
use Rattle.std.specs.Prelude.{ℕ, suc, ◌+◌, ◌-◌, ◌≤◌, ◌<◌, ◌≡◌, refl, Bool, true, ◌||◌, ◌&&◌, ◌⊎◌, ◌↔◌, List, [], ◌∷◌, ◌++◌, leb, ℤ, ◌≤ℤ◌}
use Rattle.std.proofs.Common.{arith, ap₂, ◌∙◌, true≢false, inl, inr, ⊎_elim, le-leb, leb-true}
use Rattle.std.proofs.Math.Path.{sym, ap}
use Rattle.std.proofs.Math.Bool.{false}
use Rattle.std.proofs.lemmas.Bool.{false≢true}
use Rattle.std.proofs.Math.ListN.{length}
use Rattle.number.specs.Axis.{axis, whole}
use Rattle.meaning.proofs.laws.Whole.{stands_whole, le_index}
use Rattle.number.specs.Words.{bits, word_bytes}
use Rattle.number.proofs.laws.Boolean.{then}
use Rattle.number.proofs.laws.Order.{less_or_not}
use Rattle.runs.specs.Runs.{run_count, run_bytes, set_bytes}
use Rattle.runs.specs.Set.{Ascending, inside}
use Rattle.runs.proofs.laws.Cuts.{before-run, in_run, behind_run, rest_outside, rest_ended, lone, none, low_cuts, high_cuts}
use Rattle.runs.proofs.laws.Runs.{lows_are, cuts-bytes, cuts_from, has_cuts, has_cuts_inside}
use Rattle.promises.specs.MaximalRuns.{Interval, Separate, Covered, MaximalRuns, runs_bytes}

-- the order of the axis is that of indices
pub index_le : (m n : ℕ) → (m ≤ n) ↔ (whole m ≤ℤ whole n)
index_le m n =
    let a = le_index (whole m) (whole n) m n (stands_whole m) (stands_whole n) in
    (λ h. a.0 (le-leb m n h), λ h. leb-true m n (a.1 h))

-- ---- one list at most

apart_more : (k m : ℕ) (rs : List Interval) → k ≤ m → Separate m rs → Separate k rs
apart_more k m [] h a = tt
apart_more k m (r ∷ rs) h a = let l = a.0 in (omega arith, a.1, a.2, a.3)

-- nothing of the list lies below k
not_below : (k : ℕ) (rs : List Interval) → Separate k rs → (n : ℕ) → Covered rs n → k ≤ n
not_below k [] a n i = absurd i
not_below k (r ∷ rs) a n (inl i) = let l = a.0 in let m = i.0 in omega arith
not_below k (r ∷ rs) a n (inr i) = let l = a.0 in let m = a.1 in let q = not_below (r.high + 2) rs a.3 n i in omega arith

on-axis : (k : ℕ) (rs : List Interval) → Separate k rs → (n : ℕ) → Covered rs n → n < axis
on-axis k [] a n i = absurd i
on-axis k (r ∷ rs) a n (inl i) = let l = a.2 in let m = i.1 in omega arith
on-axis k (r ∷ rs) a n (inr i) = on-axis (r.high + 2) rs a.3 n i

-- the first run reaches no farther than another list with its members
reaches : (k m : ℕ) (r s : Interval) (rs ss : List Interval) → Separate k (r ∷ rs) → Separate m (s ∷ ss) → r.low ≡ s.low → ((n : ℕ) → Covered (s ∷ ss) n → Covered (r ∷ rs) n) → s.high ≤ r.high
reaches k m r s rs ss a b e f = ⊎_elim (λ h. absurd (by h (f (r.high + 1) (inl ((let x = a.1 in omega arith), omega arith))))) (λ h. h) (less_or_not r.high s.high)
  where
    by : r.high < s.high → Covered (r ∷ rs) (r.high + 1) → ⊥
    by h (inl i) = let x = i.1 in omega arith
    by h (inr i) = let x = not_below (r.high + 2) rs a.3 (r.high + 1) i in omega arith

same_runs : (k m : ℕ) (rs ss : List Interval) → Separate k rs → Separate m ss → ((n : ℕ) → Covered rs n → Covered ss n) → ((n : ℕ) → Covered ss n → Covered rs n) → rs ≡ ss
same_runs k m [] [] a b f g = refl
same_runs k m [] (s ∷ ss) a b f g = absurd (g s.low (inl (omega arith, b.1)))
same_runs k m (r ∷ rs) [] a b f g = absurd (f r.low (inl (omega arith, a.1)))
same_runs k m (r ∷ rs) (s ∷ ss) a b f g =
    ap₂ (λ (x : Interval) (xs : List Interval). x ∷ xs) (λ i. record { low = lows_same i; high = highs_same i })
    (same_runs (r.high + 2) (s.high + 2) rs ss a.3 b.3
    (λ n i. ⊎_elim (λ j. let q = not_below (r.high + 2) rs a.3 n i in let h : r.high ≡ s.high = highs_same in let x = j.1 in absurd (omega arith)) (λ j. j) (f n (inr i)))
    (λ n i. ⊎_elim (λ j. let q = not_below (s.high + 2) ss b.3 n i in let h : r.high ≡ s.high = highs_same in let x = j.1 in absurd (omega arith)) (λ j. j) (g n (inr i))))
  where
    lows_same : r.low ≡ s.low
    lows_same =
        let x = not_below s.low (s ∷ ss) (omega arith, b.1, b.2, b.3) r.low (f r.low (inl (omega arith, a.1))) in
        let y = not_below r.low (r ∷ rs) (omega arith, a.1, a.2, a.3) s.low (g s.low (inl (omega arith, b.1))) in
        omega arith

    highs_same : r.high ≡ s.high
    highs_same = let x = reaches k m r s rs ss a b lows_same g in let y = reaches m k s r ss rs b a (sym lows_same) f in omega arith

pub one_runs : {P : ℤ → Type 0} {rs ss : List Interval} → MaximalRuns P rs → MaximalRuns P ss → rs ≡ ss
one_runs {rs = rs} {ss = ss} a b =
    same_runs 0 0 rs ss a.apart b.apart (λ n i. let l = on-axis 0 rs a.apart n i in (b.members n l).1 ((a.members n l).0 i)) (λ n i. let l = on-axis 0 ss b.apart n i in (a.members n l).1 ((b.members n l).0 i))

pub runs_for : {P Q : ℤ → Type 0} {rs : List Interval} → ((n : ℕ) → n < axis → P (whole n) ↔ Q (whole n)) → MaximalRuns P rs → MaximalRuns Q rs
runs_for e a = record { apart = a.apart; members = λ n l. then (a.members n l) (e n l) }

-- ---- one list at least

abbrev runs_of : List ℕ → List Interval
runs_of [] = []
runs_of (c ∷ []) = []
runs_of (c ∷ d ∷ r) = record { low = c; high = d - 1 } ∷ runs_of r

cuts-apart : (lo : ℕ) (l : List ℕ) → Ascending lo axis l → inside l axis ≡ false → Separate lo (runs_of l)
cuts-apart lo [] a e = tt
cuts-apart lo (c ∷ []) a e = lone lo axis c a e
cuts-apart lo (c ∷ d ∷ r) a e =
    let h = a.0 in let k = a.2.0 in let m = a.2.1 in
    (h, omega arith, omega arith, apart_more (d - 1 + 2) (d + 1) (runs_of r) (omega arith) (cuts-apart (d + 1) r a.2.2 (rest_ended lo axis c d r a e)))

cuts_in : (lo : ℕ) (l : List ℕ) → Ascending lo axis l → inside l axis ≡ false → (n : ℕ) → Covered (runs_of l) n ↔ (inside l n ≡ true)
cuts_in lo [] a e n = (λ i. absurd i, λ i. absurd (false≢true (sym (none n) ∙ i)))
cuts_in lo (c ∷ []) a e n = lone lo axis c a e
cuts_in lo (c ∷ d ∷ r) a e n = by (cuts_in (d + 1) r a.2.2 (rest_ended lo axis c d r a e) n)
  where
    by : Covered (runs_of r) n ↔ (inside r n ≡ true) → Covered (runs_of (c ∷ d ∷ r)) n ↔ (inside (c ∷ d ∷ r) n ≡ true)
    by rest = (to, from)
      where
        k : c + 1 ≤ d
        k = a.2.0

        to : Covered (runs_of (c ∷ d ∷ r)) n → inside (c ∷ d ∷ r) n ≡ true
        to (inl i) = let x = i.0 in let y = i.1 in let z : c + 1 ≤ d = k in in_run lo axis c d r a n x (omega arith)
        to (inr i) =
            let q = rest.0 i in
            ⊎_elim (λ h. absurd (true≢false (sym q ∙ rest_outside lo axis c d r a n (omega arith)))) (λ h. behind_run lo axis c d r a n h ∙ q) (less_or_not n d)

        from : inside (c ∷ d ∷ r) n ≡ true → Covered (runs_of (c ∷ d ∷ r)) n
        from i =
            ⊎_elim (λ h. absurd (true≢false (sym i ∙ before-run lo axis c d r a n h)))
            (λ h. ⊎_elim (λ g. inl (h, omega arith)) (λ g. inr (rest.1 (sym (behind_run lo axis c d r a n g) ∙ i))) (less_or_not n d)) (less_or_not n c)

cuts-written : (l : List ℕ) → runs_bytes (runs_of l) ≡ run_bytes (low_cuts l) (high_cuts l)
unfolding low_cuts high_cuts
cuts-written [] = refl
cuts-written (c ∷ []) = refl
cuts-written (c ∷ d ∷ r) = ap (λ (b : List ℕ). (word_bytes (bits (whole c)) ++ word_bytes (bits (whole (d - 1)))) ++ b) (cuts-written r)

cuts-many : (l : List ℕ) → length (runs_of l) ≡ length (low_cuts l)
unfolding low_cuts
cuts-many [] = refl
cuts-many (c ∷ []) = refl
cuts-many (c ∷ d ∷ r) = ap suc (cuts-many r)

module _ (f : ℕ → Bool) where
  cuts : List ℕ
  cuts = cuts_from f false 0 axis

  pub runs : List Interval
  runs = runs_of (cuts_from f false 0 axis)

  pub runs_maximal : (P : ℤ → Type 0) → ((n : ℕ) → n < axis → (f n ≡ true) ↔ P (whole n)) → MaximalRuns P runs
  unfolding runs
  runs_maximal P e = record {
    apart = cuts-apart 0 (cuts_from f false 0 axis) (has_cuts f).ascending (has_cuts f).ended;
    members = λ n l.
        let q = has_cuts_inside f n l in
        then (cuts_in 0 (cuts_from f false 0 axis) (has_cuts f).ascending (has_cuts f).ended n) (then (λ i. sym q ∙ i, λ i. q ∙ i) (e n l));
  }

  pub runs_written : runs_bytes runs ≡ set_bytes f
  unfolding runs
  runs_written = cuts-written (cuts_from f false 0 axis) ∙ sym (cuts-bytes f (cuts_from f false 0 axis) (has_cuts f) (has_cuts_inside f))

  pub runs_many : length runs ≡ run_count f
  unfolding runs
  runs_many = cuts-many (cuts_from f false 0 axis) ∙ ap length (sym (lows_are f (cuts_from f false 0 axis) (has_cuts f) (has_cuts_inside f)))

-- ---- back to a test

abbrev pub in_runs : List Interval → ℕ → Bool
in_runs [] n = false
in_runs (r ∷ rs) n = (leb r.low n && leb n r.high) || in_runs rs n

both : (a b : Bool) → (a && b) ≡ true → (a ≡ true) × (b ≡ true)
both true b e = (refl, e)
both false b e = absurd (false≢true e)

in-runs : (rs : List Interval) (n : ℕ) → (in_runs rs n ≡ true) ↔ Covered rs n
in-runs [] n = (λ e. absurd (false≢true e), λ i. absurd i)
in-runs (r ∷ rs) n = by (leb r.low n && leb n r.high) refl (in-runs rs n)
  where
    by : (b : Bool) → (leb r.low n && leb n r.high) ≡ b → (in_runs rs n ≡ true) ↔ Covered rs n → ((b || in_runs rs n) ≡ true) ↔ (((r.low ≤ n) × (n ≤ r.high)) ⊎ Covered rs n)
    by true e k = (λ h. inl (let q = both (leb r.low n) (leb n r.high) e in (leb-true r.low n q.0, leb-true n r.high q.1)), λ h. refl)
    by false e k = (λ h. inr (k.0 h), λ h. ⊎_elim (λ i. absurd (true≢false (sym (ap₂ ◌&&◌ (le-leb r.low n i.0) (le-leb n r.high i.1)) ∙ e))) (λ i. k.1 i) h)

pub test_of : {P : ℤ → Type 0} {rs : List Interval} → MaximalRuns P rs → (n : ℕ) → n < axis → (in_runs rs n ≡ true) ↔ P (whole n)
test_of {rs = rs} a n l = then (in-runs rs n) (a.members n l)

pub test_many : {P : ℤ → Type 0} {rs : List Interval} → MaximalRuns P rs → run_count (in_runs rs) ≡ length rs
test_many {P} {rs} a = sym (runs_many (in_runs rs)) ∙ ap length (one_runs (runs_maximal (in_runs rs) P (test_of a)) a)
