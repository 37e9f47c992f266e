-- Two sets of one run each: what they share is one run or none, and what is in one of them is one run where they meet.
use Rattle.std.specs.Prelude.{ℕ, ◌≤◌, ◌<◌, min, max, ◌≡◌, refl, Bool, true, false, ◌&&◌, List, [], ◌∷◌, ◌++◌, length, drop, get_or, set, Option, Some, None}
use Rattle.std.proofs.Common.{sym, ap₂, subst, ◌∙◌, ⊎_elim, arith, lt-ltb, le-ltb}
use Rattle.std.proofs.Math.Path.{ap}
use Rattle.std.proofs.Math.Bool.{cond}
use Rattle.number.proofs.laws.Order.{less_or_not}
use Rattle.runs.specs.Set.{xor, inside, Ascending, Canonical}
use Rattle.merge.specs.inner.Merge.{merge_cuts, Merged}
use Rattle.merge.specs.inner.OneRun.{run_cuts, OneRun}
use Rattle.merge.specs.declared.run.Run.{Run}
use Rattle.runs.proofs.laws.Cuts.{unique, none, before-run, in_run, behind_run}
use Rattle.merge.proofs.laws.Merge.{merge_asc, merge_inside}

-- one run: its cuts, and the numbers in it, under it and past it
module _ (low end : ℕ) where
  pub some_run : low < end → run_cuts low end ≡ low ∷ end ∷ []
  unfolding run_cuts
  some_run h = ap (λ (b : Bool). cond b (low ∷ end ∷ []) []) (lt-ltb low end h)

  pub no_run : end ≤ low → run_cuts low end ≡ []
  unfolding run_cuts
  no_run h = ap (λ (b : Bool). cond b (low ∷ end ∷ []) []) (le-ltb low end h)

  two : (hi : ℕ) → low < end → end ≤ hi → Ascending 0 hi (low ∷ end ∷ [])
  two hi h g = (omega arith, omega arith, (omega arith, omega arith, tt))

  pub run_ascending : (hi : ℕ) → end ≤ hi → Ascending 0 hi (run_cuts low end)
  run_ascending hi g = ⊎_elim (λ h. rw (some_run h) (two hi h g)) (λ h. rw (no_run h) tt) (less_or_not low end)

  module _ (v : ℕ) where
    pub within : low ≤ v → v < end → inside (run_cuts low end) v ≡ true
    within h g =
        let k : low < end = omega arith in
        ap (λ (l : List ℕ). inside l v) (some_run k) ∙ in_run 0 end low end [] (two end k (omega arith)) v h g

    pub under : v < low → inside (run_cuts low end) v ≡ false
    under h =
        ⊎_elim (λ k. ap (λ (l : List ℕ). inside l v) (some_run k) ∙ before-run 0 end low end [] (two end k (omega arith)) v h)
        (λ k. ap (λ (l : List ℕ). inside l v) (no_run k) ∙ none v) (less_or_not low end)

    pub past : end ≤ v → inside (run_cuts low end) v ≡ false
    past h =
        ⊎_elim (λ k. ap (λ (l : List ℕ). inside l v) (some_run k) ∙ behind_run 0 end low end [] (two end k (omega arith)) v h ∙ none v)
        (λ k. ap (λ (l : List ℕ). inside l v) (no_run k) ∙ none v) (less_or_not low end)

-- v lies under, in or past a run
by_place : {X : Type 0} (low end v : ℕ) → (v < low → X) → (low ≤ v → v < end → X) → (end ≤ v → X) → X
by_place low end v f g h = ⊎_elim f (λ k. ⊎_elim (g k) h (less_or_not v end)) (less_or_not v low)

-- an operation f on two runs is a run that has its members
module _ (f : Bool → Bool → Bool) (la ea lb eb low end : ℕ) (ka : la < ea) (kb : lb < eb) where
  pub one-run : f false false ≡ false → end ≤ max ea eb → ((v : ℕ) → f (inside (run_cuts la ea) v) (inside (run_cuts lb eb) v) ≡ inside (run_cuts low end) v)
      → merge_cuts f false false (la ∷ ea ∷ []) (lb ∷ eb ∷ []) ≡ run_cuts low end
  one-run quiet g e =
      unique 0 0 (max ea eb) (merge_cuts f false false (la ∷ ea ∷ []) (lb ∷ eb ∷ [])) (run_cuts low end)
      (merge_asc f false false 0 (max ea eb) (la ∷ ea ∷ []) (lb ∷ eb ∷ []) (two la ea (max ea eb) ka (omega arith)) (two lb eb (max ea eb) kb (omega arith)))
      (run_ascending low end (max ea eb) g)
      (λ v h.
      ap (λ (b : Bool). xor b (inside (merge_cuts f false false (la ∷ ea ∷ []) (lb ∷ eb ∷ [])) v)) (sym quiet)
      ∙ merge_inside f false false 0 (max ea eb) (la ∷ ea ∷ []) (lb ∷ eb ∷ []) v (two la ea (max ea eb) ka (omega arith)) (two lb eb (max ea eb) kb (omega arith))
      ∙ ap₂ (λ (a b : List ℕ). f (inside a v) (inside b v)) (sym (some_run la ea ka)) (sym (some_run lb eb kb)) ∙ e v)

module _ (la ea lb eb : ℕ) (ka : la < ea) (kb : lb < eb) where
  pub shared-run : merge_cuts ◌&&◌ false false (la ∷ ea ∷ []) (lb ∷ eb ∷ []) ≡ run_cuts (max la lb) (min ea eb)
  shared-run = one-run ◌&&◌ la ea lb eb (max la lb) (min ea eb) ka kb refl (omega arith) members
    where
      members : (v : ℕ) → (inside (run_cuts la ea) v && inside (run_cuts lb eb) v) ≡ inside (run_cuts (max la lb) (min ea eb)) v
      members v =
          by_place la ea v (λ h. ap (λ (b : Bool). b && inside (run_cuts lb eb) v) (under la ea v h) ∙ sym (under (max la lb) (min ea eb) v (omega arith)))
          (λ h g.
          by_place lb eb v (λ k. ap₂ ◌&&◌ (within la ea v h g) (under lb eb v k) ∙ sym (under (max la lb) (min ea eb) v (omega arith)))
          (λ k l. ap₂ ◌&&◌ (within la ea v h g) (within lb eb v k l) ∙ sym (within (max la lb) (min ea eb) v (omega arith) (omega arith)))
          (λ k. ap₂ ◌&&◌ (within la ea v h g) (past lb eb v k) ∙ sym (past (max la lb) (min ea eb) v (omega arith))))
          (λ h. ap (λ (b : Bool). b && inside (run_cuts lb eb) v) (past la ea v h) ∙ sym (past (max la lb) (min ea eb) v (omega arith)))

-- the cuts of one run
pub two-cuts : (l : List ℕ) → length l ≡ 2 → l ≡ get_or l 0 0 ∷ get_or l 1 0 ∷ []
two-cuts [] h = absurd (omega arith)
two-cuts (x ∷ []) h = absurd (omega arith)
two-cuts (x ∷ y ∷ []) h = refl
two-cuts (x ∷ y ∷ z ∷ l) h = absurd (omega arith)

pub two_ascend : (l : List ℕ) → Canonical l → length l ≡ 2 → get_or l 0 0 < get_or l 1 0
two_ascend [] c h = absurd (omega arith)
two_ascend (x ∷ []) c h = absurd (omega arith)
two_ascend (x ∷ y ∷ l) c h = omega (arith, c.ascending.2.0)

-- one run is written, or none
pub none_put : (low end : ℕ) (before : List ℕ) → end ≤ low → Merged (run_cuts low end) before before (Some 0)
none_put low end before h = rw (no_run low end h) (record { over = sym (le-ltb (length before) 0 (omega arith)); count = refl; filled = λ z. refl })

pub run-put : (low end : ℕ) (before : List ℕ) → low < end → 2 ≤ length before → Merged (run_cuts low end) before (set (set before 0 low) 1 end) (Some 2)
run-put low end before h g =
    rw (some_run low end h) (record { over = sym (le-ltb (length before) 2 (omega arith)); count = refl; filled = λ z. put before g })
  where
    put : (l : List ℕ) → 2 ≤ length l → set (set l 0 low) 1 end ≡ (low ∷ end ∷ []) ++ drop 2 l
    put [] k = absurd (omega arith)
    put (x ∷ []) k = absurd (omega arith)
    put (x ∷ y ∷ l) k = refl

-- where there may be more runs, nothing is said; one run is told by its ends
pub not_known : (f : Bool → Bool → Bool) (a b : List ℕ) (r : Option Run) → r ≡ None → OneRun f a b r
not_known f a b r e = subst (OneRun f a b) (sym e) (record { cuts = tt })

pub known : (f : Bool → Bool → Bool) (a b : List ℕ) (r : Option Run) (low end : ℕ) → merge_cuts f false false a b ≡ run_cuts low end → r ≡ Some (record { low = low; end = end }) → OneRun f a b r
known f a b r low end e h = subst (OneRun f a b) (sym h) (record { cuts = e })

-- lists of two cuts
pub of_cuts : (f : Bool → Bool → Bool) (a b : List ℕ) (r : Option Run) → length a ≡ 2 → length b ≡ 2
    → OneRun f (get_or a 0 0 ∷ get_or a 1 0 ∷ []) (get_or b 0 0 ∷ get_or b 1 0 ∷ []) r → OneRun f a b r
of_cuts f a b None la lb w = record { cuts = tt }
of_cuts f a b (Some r) la lb w = record { cuts = ap₂ (merge_cuts f false false) (two-cuts a la) (two-cuts b lb) ∙ w.cuts }

-- what two lists of two cuts share
pub shared_by_cuts : (a b : List ℕ) (low end : ℕ) → Canonical a → Canonical b → length a ≡ 2 → length b ≡ 2
    → low ≡ max (get_or a 0 0) (get_or b 0 0) → end ≡ min (get_or a 1 0) (get_or b 1 0) → merge_cuts ◌&&◌ false false a b ≡ run_cuts low end
shared_by_cuts a b low end ca cb la lb l e =
    ap₂ (merge_cuts ◌&&◌ false false) (two-cuts a la) (two-cuts b lb)
    ∙ shared-run (get_or a 0 0) (get_or a 1 0) (get_or b 0 0) (get_or b 1 0) (two_ascend a ca la) (two_ascend b cb lb)
    ∙ ap₂ run_cuts (sym l) (sym e)

-- the same cuts, written
pub merged_is : (m l before after : List ℕ) (w : Option ℕ) → m ≡ l → Merged l before after w → Merged m before after w
merged_is m l before after w e r = subst (λ (k : List ℕ). Merged k before after w) (sym e) r
