-- What two sets share, run by run: of two runs the one that ends first is passed, and before that what both hold of it comes first.
use Rattle.std.specs.Prelude.{ℕ, ◌+◌, ◌≤◌, ◌<◌, min, max, ◌≡◌, Bool, false, ◌&&◌, List, [], ◌∷◌}
use Rattle.std.proofs.Common.{sym, ap, ap₂, ◌∙◌, true≢false, ⊎_elim, arith}
use Rattle.std.proofs.Math.Bool.{and-false, and_comm}
use Rattle.number.specs.Axis.{axis}
use Rattle.number.proofs.laws.Order.{less_or_not}
use Rattle.runs.specs.Set.{inside, Ascending}
use Rattle.runs.proofs.laws.Cuts.{unique, none, at_head, weaken, before-run, in_run, behind_run, rest_outside}
use Rattle.merge.specs.inner.Merge.{merge_cuts}
use Rattle.merge.proofs.laws.Merge.{merge_asc, merge_inside}

-- ---- two lists of cuts

-- the cuts of what both hold
abbrev pub shared : List ℕ → List ℕ → List ℕ
shared a b = merge_cuts ◌&&◌ false false a b

-- cuts of which none below x is a member begin at x or above
above : (x lo hi : ℕ) (l : List ℕ) → Ascending lo hi l → ((v : ℕ) → v < x → inside l v ≡ false) → Ascending x hi l
above x lo hi [] a e = tt
above x lo hi (c ∷ r) a e = (⊎_elim (λ h. absurd (true≢false (sym (at_head hi c r a.2) ∙ e c h))) (λ h. h) (less_or_not c x), a.1, a.2)

module _ (a b : List ℕ) (x : Ascending 0 axis a) (y : Ascending 0 axis b) where
  ascending : Ascending 0 axis (shared a b)
  ascending = merge_asc ◌&&◌ false false 0 axis a b x y

  members : (v : ℕ) → inside (shared a b) v ≡ (inside a v && inside b v)
  members v = merge_inside ◌&&◌ false false 0 axis a b v x y

  pub shared_is : (l : List ℕ) → Ascending 0 axis l → ((v : ℕ) → (inside a v && inside b v) ≡ inside l v) → shared a b ≡ l
  shared_is l z e = unique 0 0 axis (shared a b) l ascending z (λ v h. members v ∙ e v)

swap : (a b : List ℕ) → Ascending 0 axis a → Ascending 0 axis b → shared a b ≡ shared b a
swap a b x y = shared_is a b x y (shared b a) (ascending b a y x) (λ v. and_comm (inside a v) (inside b v) ∙ sym (members b a y x v))

-- none is shared with the empty set
pub none_left : (b : List ℕ) → Ascending 0 axis b → shared [] b ≡ []
none_left b y = shared_is [] b tt y [] tt (λ v. ap (λ (e : Bool). e && inside b v) (none v) ∙ sym (none v))

pub none_right : (a : List ℕ) → Ascending 0 axis a → shared a [] ≡ []
none_right a x = swap a [] x tt ∙ none_left a x

-- the run c..d, and a set of which the first run goes from x on and before y
module _ (c d : ℕ) (r : List ℕ) (x y : ℕ) (s : List ℕ) (w : Ascending 0 axis (c ∷ d ∷ r)) (z : Ascending 0 axis (x ∷ y ∷ s)) where
  rest : Ascending 0 axis r
  rest = weaken 0 (d + 1) axis r (omega arith) w.2.2

  -- apart: it is passed
  pub apart : d ≤ x → shared (c ∷ d ∷ r) (x ∷ y ∷ s) ≡ shared r (x ∷ y ∷ s)
  apart h = shared_is (c ∷ d ∷ r) (x ∷ y ∷ s) w z (shared r (x ∷ y ∷ s)) (ascending r (x ∷ y ∷ s) rest z) (λ v. same v ∙ sym (members r (x ∷ y ∷ s) rest z v))
    where
      same : (v : ℕ) → (inside (c ∷ d ∷ r) v && inside (x ∷ y ∷ s) v) ≡ (inside r v && inside (x ∷ y ∷ s) v)
      same v =
          ⊎_elim
          (λ k.
          let e = before-run 0 axis x y s z v (omega arith) in
          ap (λ (t : Bool). inside (c ∷ d ∷ r) v && t) e ∙ and-false (inside (c ∷ d ∷ r) v) ∙ sym (ap (λ (t : Bool). inside r v && t) e ∙ and-false (inside r v)))
          (λ k. ap (λ (t : Bool). t && inside (x ∷ y ∷ s) v) (behind_run 0 axis c d r w v k))
          (less_or_not v d)

  -- they meet, and it ends first: what both hold comes first
  module _ (h : x < d) (g : d ≤ y) (low end : ℕ) (l : low ≡ max c x) (e : end ≡ min d y) where
    abbrev m : List ℕ
    m = shared r (x ∷ y ∷ s)

    grows : low < end
    grows = omega (arith, w.2.0)

    later : Ascending (end + 1) axis m
    later = above (end + 1) 0 axis m (ascending r (x ∷ y ∷ s) rest z)
        (λ v k. members r (x ∷ y ∷ s) rest z v ∙ ap (λ (t : Bool). t && inside (x ∷ y ∷ s) v) (rest_outside 0 axis c d r w v (omega arith)))

    whole : Ascending 0 axis (low ∷ end ∷ m)
    whole = (omega arith, omega (arith, grows, w.2.1), (omega (arith, grows), omega (arith, w.2.1), later))

    same : (v : ℕ) → (inside (c ∷ d ∷ r) v && inside (x ∷ y ∷ s) v) ≡ inside (low ∷ end ∷ m) v
    same v =
        ⊎_elim
        (λ k.
        ⊎_elim
        (λ j. ap (λ (t : Bool). t && inside (x ∷ y ∷ s) v) (before-run 0 axis c d r w v j))
        (λ j. ap (λ (t : Bool). inside (c ∷ d ∷ r) v && t) (before-run 0 axis x y s z v (omega arith)) ∙ and-false (inside (c ∷ d ∷ r) v))
        (less_or_not v c)
        ∙ sym (before-run 0 axis low end m whole v k))
        (λ k.
        ⊎_elim
        (λ j. ap₂ ◌&&◌ (in_run 0 axis c d r w v (omega arith) (omega arith)) (in_run 0 axis x y s z v (omega arith) (omega arith)) ∙ sym (in_run 0 axis low end m whole v k j))
        (λ j. ap (λ (t : Bool). t && inside (x ∷ y ∷ s) v) (behind_run 0 axis c d r w v (omega arith)) ∙ sym (members r (x ∷ y ∷ s) rest z v) ∙ sym (behind_run 0 axis low end m whole v j))
        (less_or_not v end))
        (less_or_not v low)

    pub meeting : shared (c ∷ d ∷ r) (x ∷ y ∷ s) ≡ low ∷ end ∷ shared r (x ∷ y ∷ s)
    meeting = shared_is (c ∷ d ∷ r) (x ∷ y ∷ s) w z (low ∷ end ∷ m) whole same

-- the same where the other run ends first
module _ (c d : ℕ) (r : List ℕ) (x y : ℕ) (s : List ℕ) (w : Ascending 0 axis (c ∷ d ∷ r)) (z : Ascending 0 axis (x ∷ y ∷ s)) where
  after : Ascending 0 axis s
  after = weaken 0 (y + 1) axis s (omega arith) z.2.2

  pub apart_right : y ≤ c → shared (c ∷ d ∷ r) (x ∷ y ∷ s) ≡ shared (c ∷ d ∷ r) s
  apart_right h = swap (c ∷ d ∷ r) (x ∷ y ∷ s) w z ∙ apart x y s c d r z w h ∙ swap s (c ∷ d ∷ r) after w

  pub meeting_right : c < y → y ≤ d → (low end : ℕ) → low ≡ max c x → end ≡ min d y → shared (c ∷ d ∷ r) (x ∷ y ∷ s) ≡ low ∷ end ∷ shared (c ∷ d ∷ r) s
  meeting_right h g low end l e =
      swap (c ∷ d ∷ r) (x ∷ y ∷ s) w z ∙ meeting x y s c d r z w h g low end (omega arith) (omega arith) ∙ ap (λ (k : List ℕ). low ∷ end ∷ k) (swap s (c ∷ d ∷ r) after w)
