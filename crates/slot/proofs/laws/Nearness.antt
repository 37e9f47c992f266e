-- The nearest member, run by run from the last to the first.
use Rattle.std.specs.Prelude.{ℕ, zero, suc, ◌+◌, ◌-◌, ◌≤◌, ◌<◌, min, ◌≡◌, refl, Bool, true, cond, List, [], ◌∷◌, ◌⊎◌, ltb, length, take, drop, get_or, Option, Some, None}
use Rattle.std.proofs.Common.{sym, ap, subst, ◌∙◌, inl, inr, ⊎_elim, arith, lt-ltb}
use Rattle.std.proofs.lemmas.Bool.{false≢true}
use Rattle.number.specs.Axis.{axis}
use Rattle.number.proofs.laws.Order.{less_or_not}
use Rattle.runs.specs.Set.{inside, Ascending, Canonical, nearest_of}
use Rattle.runs.specs.Distance.{distance}
use Rattle.slot.specs.inner.Gap.{gap_to, nearer_of}
use Rattle.runs.proofs.laws.Cuts.{none, outside, weaken, before-run, in_run, behind_run, front, all_passed}
use Rattle.runs.proofs.laws.Distance.{between, distance_is, distance_none}

-- d is the least distance from v to what is inside l
pub record Least (l : List ℕ) (v d : ℕ) : Type 0 where
  pub some : (w : ℕ) × (w < axis) × (inside l w ≡ true) × (between v w ≡ d)
  pub least : (w : ℕ) → inside l w ≡ true → d ≤ between v w

-- the least distance from v to what is inside l, if anything is
abbrev pub Reaches : List ℕ → ℕ → Option ℕ → Type 0
Reaches l v (Some d) = Least l v d
Reaches l v None = l ≡ []

-- a run c .. d - 1 before the others
module _ (c d : ℕ) (r : List ℕ) (a : Ascending 0 axis (c ∷ d ∷ r)) where
  from_end : (w : ℕ) → inside r w ≡ true → d ≤ w
  from_end w e = ⊎_elim (λ h. absurd (false≢true (sym (outside (d + 1) axis r w a.2.2 (omega arith)) ∙ e))) (λ h. h) (less_or_not w d)

  where_is : (w : ℕ) → inside (c ∷ d ∷ r) w ≡ true → ((c ≤ w) × (w < d)) ⊎ (inside r w ≡ true)
  where_is w e =
      ⊎_elim (λ h. absurd (false≢true (sym (before-run 0 axis c d r a w h) ∙ e)))
      (λ g. ⊎_elim (λ h. inl (g, h)) (λ h. inr (sym (behind_run 0 axis c d r a w h) ∙ e)) (less_or_not w d))
      (less_or_not w c)

  run_point : (v : ℕ) → v < axis → (w : ℕ) × (w < axis) × (inside (c ∷ d ∷ r) w ≡ true) × (between v w ≡ gap_to c d v)
  run_point v h =
      ⊎_elim (λ g. (c, omega arith, in_run 0 axis c d r a c (omega arith) (omega arith), omega arith))
      (λ g.
      ⊎_elim (λ k. (v, h, in_run 0 axis c d r a v g k, omega arith))
      (λ k. (d - 1, omega arith, in_run 0 axis c d r a (d - 1) (omega arith) (omega arith), omega arith))
      (less_or_not v d))
      (less_or_not v c)

  reaches_more : (v : ℕ) → v < axis → (e : Option ℕ) → Reaches r v e → Reaches (c ∷ d ∷ r) v (Some (nearer_of e (gap_to c d v)))
  reaches_more v h (Some e) n =
      record {
        some =
            ⊎_elim
            (λ g. let p = n.some in (p.0, p.1, behind_run 0 axis c d r a p.0 (from_end p.0 p.2) ∙ p.2, omega (arith, p.3)))
            (λ g. let p = run_point v h in (p.0, p.1, p.2, omega (arith, p.3)))
            (less_or_not e (gap_to c d v));
        least = λ w m. ⊎_elim (λ g. omega arith) (λ g. omega (arith, n.least w g)) (where_is w m);
      }
  reaches_more v h None n =
      record {
        some = run_point v h;
        least = λ w m. ⊎_elim (λ g. omega arith) (λ g. absurd (false≢true (sym (none w) ∙ ap (λ (l : List ℕ). inside l w) (sym n) ∙ g))) (where_is w m);
      }

asc_drop : (i lo hi : ℕ) (l : List ℕ) → Ascending lo hi l → Ascending lo hi (drop i l)
asc_drop zero lo hi l a = a
asc_drop (suc i) lo hi [] a = tt
asc_drop (suc i) lo hi (c ∷ r) a = asc_drop i lo hi r (weaken lo (c + 1) hi r (omega arith) a.2)

-- the run at place k of the first n cuts
module _ (a : List ℕ) (n k : ℕ) (la : n ≤ length a) (hk : k + 2 ≤ n) where
  two : drop k (take n a) ≡ get_or a k 0 ∷ get_or a (k + 1) 0 ∷ drop (k + 2) (take n a)
  two =
      let e : k + 1 + 1 ≡ k + 2 = omega arith in
      front a n k la (omega arith)
      ∙ ap (λ (l : List ℕ). get_or a k 0 ∷ l) (front a n (k + 1) la (omega arith) ∙ ap (λ (j : ℕ). get_or a (k + 1) 0 ∷ drop j (take n a)) e)

  pub two_ascend : Canonical (take n a) → Ascending 0 axis (get_or a k 0 ∷ get_or a (k + 1) 0 ∷ drop (k + 2) (take n a))
  two_ascend c = subst (Ascending 0 axis) two (asc_drop k 0 axis (take n a) c.ascending)

  pub next_reach : Canonical (take n a) → (v : ℕ) → v < axis → (d : Option ℕ) → Reaches (drop (k + 2) (take n a)) v d
      → Reaches (drop k (take n a)) v (Some (nearer_of d (gap_to (get_or a k 0) (get_or a (k + 1) 0) v)))
  next_reach c v h d e =
      subst (λ (l : List ℕ). Reaches l v (Some (nearer_of d (gap_to (get_or a k 0) (get_or a (k + 1) 0) v)))) (sym two)
      (reaches_more (get_or a k 0) (get_or a (k + 1) 0) (drop (k + 2) (take n a)) (two_ascend c) v h d e)

pub first_reach : (a : List ℕ) (n v : ℕ) → n ≤ length a → Reaches (drop n (take n a)) v None
first_reach a n v h = all_passed a n n h refl

-- the answer
pub nearest_is : (l : List ℕ) (v : ℕ) (h : v < axis) (d : Option ℕ) → Reaches l v d → d ≡ nearest_of (inside l) v
nearest_is l v h (Some d) r =
    let p = r.some in
    let e : distance (inside l) v ≡ d = distance_is (inside l) v h p.0 p.1 p.2 (λ u k m. omega (arith, p.3, r.least u m)) ∙ p.3 in
    sym (ap (λ (k : ℕ). cond (ltb k axis) (Some k) None) e ∙ ap (λ (b : Bool). cond b (Some d) None) (lt-ltb d axis (omega (arith, p.1, p.3))))
nearest_is l v h None r =
    let e : distance (inside l) v ≡ axis = distance_none (inside l) v h (λ w k. ap (λ (m : List ℕ). inside m w) r ∙ none w) in
    sym (ap (λ (k : ℕ). cond (ltb k axis) (Some k) None) e)

module _ (l : List ℕ) (v d : ℕ) (h : v < axis) where
  pub nearest_at : Reaches l v (Some d) → Some d ≡ nearest_of (inside l) v
  nearest_at r = nearest_is l v h (Some d) r

  pub nearest-nothing : Reaches l v None → None ≡ nearest_of (inside l) v
  nearest-nothing r = nearest_is l v h None r

pub nearer_true : (d g x : ℕ) → x ≡ min d g → x ≡ nearer_of (Some d) g
nearer_true d g x h = h
