-- Laws of the cuts of an operation on two sets: they ascend, what lies inside them, and how many they are.
use Rattle.std.specs.Prelude.{ℕ, ◌+◌, ◌≤◌, ◌<◌, ◌≡◌, Bool, true, false, not, List, [], ◌∷◌, length}
use Rattle.std.proofs.Math.Path.{refl}
use Rattle.std.proofs.Common.{sym, ap, ap₂, ◌∙◌, ⊎_elim, arith, lt-ltb, le-ltb}
use Rattle.number.specs.Axis.{axis}
use Rattle.number.proofs.laws.Order.{less_or_not, less-more_equal}
use Rattle.runs.specs.Set.{xor, inside, Ascending, Canonical}
use Rattle.runs.specs.inner.Emit.{emit}
use Rattle.merge.specs.inner.Merge.{merge_cuts}
use Rattle.runs.proofs.laws.Cuts.{xor_false, xor_not, outside, inside_ge, weaken, none, emit_ge, emit_lt, emit_asc, emit_longer}

-- mergeCuts, by the heads
module _ (f : Bool → Bool → Bool) (p q : Bool) where
  pub merge_nil : merge_cuts f p q [] [] ≡ []
  unfolding merge_cuts
  merge_nil = refl

  pub merge_right : (y : ℕ) (ys : List ℕ) → merge_cuts f p q [] (y ∷ ys) ≡ emit (f p q) (f p (not q)) y (merge_cuts f p (not q) [] ys)
  unfolding merge_cuts
  merge_right y ys = refl

  pub merge_left : (x : ℕ) (xs : List ℕ) → merge_cuts f p q (x ∷ xs) [] ≡ emit (f p q) (f (not p) q) x (merge_cuts f (not p) q xs [])
  unfolding merge_cuts
  merge_left x xs = refl

  module _ (x : ℕ) (xs : List ℕ) (y : ℕ) (ys : List ℕ) where
    pub merge_lt : x < y → merge_cuts f p q (x ∷ xs) (y ∷ ys) ≡ emit (f p q) (f (not p) q) x (merge_cuts f (not p) q xs (y ∷ ys))
    unfolding merge_cuts
    merge_lt h = rw (lt-ltb x y h, merge_cuts)

    pub merge_gt : y < x → merge_cuts f p q (x ∷ xs) (y ∷ ys) ≡ emit (f p q) (f p (not q)) y (merge_cuts f p (not q) (x ∷ xs) ys)
    unfolding merge_cuts
    merge_gt h = rw (le-ltb x y (omega arith), merge_cuts) (rw (lt-ltb y x h, merge_cuts))

    pub merge_eq : x ≡ y → merge_cuts f p q (x ∷ xs) (y ∷ ys) ≡ emit (f p q) (f (not p) (not q)) x (merge_cuts f (not p) (not q) xs ys)
    unfolding merge_cuts
    merge_eq h = rw (le-ltb x y (omega arith), merge_cuts) (rw (le-ltb y x (omega arith), merge_cuts))

-- one cut x: what f says of the members before it and from it on
module _ (f : Bool → Bool → Bool) (hi : ℕ) (p q p' q' : Bool) (x : ℕ) (xs ys xs' ys' r : List ℕ) (v : ℕ) where
  pub cut : (x ≤ v → xor p (inside xs v) ≡ xor p' (inside xs' v)) → (x ≤ v → xor q (inside ys v) ≡ xor q' (inside ys' v))
      → Ascending x hi xs → Ascending x hi ys → Ascending (x + 1) hi xs' → Ascending (x + 1) hi ys'
      → xor (f p' q') (inside r v) ≡ f (xor p' (inside xs' v)) (xor q' (inside ys' v))
      → xor (f p q) (inside (emit (f p q) (f p' q') x r) v) ≡ f (xor p (inside xs v)) (xor q (inside ys v))
  cut ep eq ax ay ax' ay' ih =
      ⊎_elim
      (λ h.
      let z : inside r v ≡ false = still (f p' q') (inside r v) (ih ∙ quiet p' q' xs' ys' (outside (x + 1) hi xs' v ax' (omega arith)) (outside (x + 1) hi ys' v ay' (omega arith))) in
      ap (xor (f p q)) (emit_lt (f p q) (f p' q') x r v h ∙ z) ∙ xor_false (f p q) ∙ sym (quiet p q xs ys (outside x hi xs v ax h) (outside x hi ys v ay h)))
      (λ h. emit_ge (f p q) (f p' q') x r v h ∙ ih ∙ sym (ap₂ f (ep h) (eq h)))
      (less_or_not v x)
    where
      still : (b m : Bool) → xor b m ≡ b → m ≡ false
      still true true e = sym e
      still true false e = refl
      still false m e = e

      quiet : (a b : Bool) (k l : List ℕ) → inside k v ≡ false → inside l v ≡ false → f (xor a (inside k v)) (xor b (inside l v)) ≡ f a b
      quiet a b k l g h = ap₂ f (ap (xor a) g ∙ xor_false a) (ap (xor b) h ∙ xor_false b)

beyond : (p : Bool) (c : ℕ) (r : List ℕ) (v : ℕ) → c ≤ v → xor p (inside (c ∷ r) v) ≡ xor (not p) (inside r v)
beyond p c r v h = ap (xor p) (inside_ge c r v h) ∙ xor_not p (inside r v)

-- the mergeCuts is ascending
pub merge_asc : (f : Bool → Bool → Bool) (p q : Bool) (lo hi : ℕ) (xs ys : List ℕ) → Ascending lo hi xs → Ascending lo hi ys → Ascending lo hi (merge_cuts f p q xs ys)
merge_asc f p q lo hi [] [] a b = rw merge_nil tt
merge_asc f p q lo hi [] (y ∷ ys) a b =
    rw merge_right (emit_asc _ _ lo hi y _ b.0 b.1 (merge_asc f p (not q) (y + 1) hi [] ys tt b.2))
merge_asc f p q lo hi (x ∷ xs) [] a b =
    rw merge_left (emit_asc _ _ lo hi x _ a.0 a.1 (merge_asc f (not p) q (x + 1) hi xs [] a.2 tt))
merge_asc f p q lo hi (x ∷ xs) (y ∷ ys) a b =
    ⊎_elim
    (λ h. rw (merge_lt f p q x xs y ys h) (emit_asc _ _ lo hi x _ a.0 a.1 (merge_asc f (not p) q (x + 1) hi xs (y ∷ ys) a.2 (omega arith, b.1, b.2))))
    (⊎_elim
    (λ h. rw (merge_gt f p q x xs y ys h) (emit_asc _ _ lo hi y _ b.0 b.1 (merge_asc f p (not q) (y + 1) hi (x ∷ xs) ys (omega arith, a.1, a.2) b.2)))
    (λ h. rw (merge_eq f p q x xs y ys h) (emit_asc _ _ lo hi x _ a.0 a.1 (merge_asc f (not p) (not q) (x + 1) hi xs ys a.2 (rw h b.2)))))
    (less-more_equal x y)

-- the members of the mergeCuts
pub merge_inside : (f : Bool → Bool → Bool) (p q : Bool) (lo hi : ℕ) (xs ys : List ℕ) (v : ℕ) → Ascending lo hi xs → Ascending lo hi ys
    → xor (f p q) (inside (merge_cuts f p q xs ys) v) ≡ f (xor p (inside xs v)) (xor q (inside ys v))
merge_inside f p q lo hi [] [] v a b = rw (merge_nil, none, xor_false, xor_false, xor_false)
merge_inside f p q lo hi [] (y ∷ ys) v a b =
    rw merge_right
    (cut f hi p q p (not q) y [] (y ∷ ys) [] ys _ v (λ h. refl) (beyond q y ys v) tt (omega arith, b.1, b.2) tt b.2
    (merge_inside f p (not q) (y + 1) hi [] ys v tt b.2))
merge_inside f p q lo hi (x ∷ xs) [] v a b =
    rw merge_left
    (cut f hi p q (not p) q x (x ∷ xs) [] xs [] _ v (beyond p x xs v) (λ h. refl) (omega arith, a.1, a.2) tt a.2 tt
    (merge_inside f (not p) q (x + 1) hi xs [] v a.2 tt))
merge_inside f p q lo hi (x ∷ xs) (y ∷ ys) v a b =
    ⊎_elim
    (λ h.
    rw (merge_lt f p q x xs y ys h)
    (cut f hi p q (not p) q x (x ∷ xs) (y ∷ ys) xs (y ∷ ys) _ v (beyond p x xs v) (λ h. refl) (omega arith, a.1, a.2) (omega arith, b.1, b.2) a.2 (omega arith, b.1, b.2)
    (merge_inside f (not p) q (x + 1) hi xs (y ∷ ys) v a.2 (omega arith, b.1, b.2))))
    (⊎_elim
    (λ h.
    rw (merge_gt f p q x xs y ys h)
    (cut f hi p q p (not q) y (x ∷ xs) (y ∷ ys) (x ∷ xs) ys _ v (λ h. refl) (beyond q y ys v) (omega arith, a.1, a.2) (omega arith, b.1, b.2) (omega arith, a.1, a.2) b.2
    (merge_inside f p (not q) (y + 1) hi (x ∷ xs) ys v (omega arith, a.1, a.2) b.2)))
    (λ h.
    rw (merge_eq f p q x xs y ys h)
    (cut f hi p q (not p) (not q) x (x ∷ xs) (y ∷ ys) xs ys _ v (beyond p x xs v) (λ g. beyond q y ys v (omega arith)) (omega arith, a.1, a.2) (omega arith, b.1, b.2) a.2 (weaken (x + 1) (y + 1) hi ys (omega arith) b.2)
    (merge_inside f (not p) (not q) (x + 1) hi xs ys v a.2 (weaken (x + 1) (y + 1) hi ys (omega arith) b.2)))))
    (less-more_equal x y)

-- no more cuts than both lists have
pub merge_length : (f : Bool → Bool → Bool) (p q : Bool) (xs ys : List ℕ) → length (merge_cuts f p q xs ys) ≤ length xs + length ys
merge_length f p q [] [] = rw merge_nil (omega arith)
merge_length f p q [] (y ∷ ys) = rw merge_right (omega (arith, emit_longer (f p q) (f p (not q)) y (merge_cuts f p (not q) [] ys), merge_length f p (not q) [] ys))
merge_length f p q (x ∷ xs) [] = rw merge_left (omega (arith, emit_longer (f p q) (f (not p) q) x (merge_cuts f (not p) q xs []), merge_length f (not p) q xs []))
merge_length f p q (x ∷ xs) (y ∷ ys) =
    ⊎_elim
    (λ h. rw (merge_lt f p q x xs y ys h) (omega (arith, emit_longer (f p q) (f (not p) q) x (merge_cuts f (not p) q xs (y ∷ ys)), merge_length f (not p) q xs (y ∷ ys))))
    (⊎_elim
    (λ h. rw (merge_gt f p q x xs y ys h) (omega (arith, emit_longer (f p q) (f p (not q)) y (merge_cuts f p (not q) (x ∷ xs) ys), merge_length f p (not q) (x ∷ xs) ys)))
    (λ h. rw (merge_eq f p q x xs y ys h) (omega (arith, emit_longer (f p q) (f (not p) (not q)) x (merge_cuts f (not p) (not q) xs ys), merge_length f (not p) (not q) xs ys))))
    (less-more_equal x y)

-- THE CUTS ARE THOSE OF THE OPERATION: of two sets with an end, and of an f that leaves out what is in neither
module _ (f : Bool → Bool → Bool) (quiet : f false false ≡ false) (a b : List ℕ) (ca : Canonical a) (cb : Canonical b) where
  pub merged_inside : (v : ℕ) → inside (merge_cuts f false false a b) v ≡ f (inside a v) (inside b v)
  merged_inside v = ap (λ (k : Bool). xor k (inside (merge_cuts f false false a b) v)) (sym quiet) ∙ merge_inside f false false 0 axis a b v ca.ascending cb.ascending

  pub merged_canonical : Canonical (merge_cuts f false false a b)
  merged_canonical =
      record {
        ascending = merge_asc f false false 0 axis a b ca.ascending cb.ascending;
        ended = merged_inside axis ∙ ap₂ f ca.ended cb.ended ∙ quiet;
      }
