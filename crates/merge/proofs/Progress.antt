-- The walk along two lists, as it fills an array: what is written, with what is still to come, is the whole.
use Prim.Native.Nat.{ℕ, ◌+◌, ◌≤◌, ◌<◌, min, max}
use mathlib.Core.Path.{◌≡◌, refl, sym, ap, ap₂, subst, ◌∙◌}
use mathlib.Core.Bool.{true≢false}
use mathlib.Core.List.{List, [], ◌∷◌, ◌++◌, append_assoc, append-nil}
use mathlib.Core.Logic.{⊎_elim}
use native.Mathlib.Omega.{arith}
use lib.ListN.{length, take, drop, get_or, set, length-append, length-set, take-append-drop}
use lib.Seq.{length-take-le, drop-set-lt, drop-drop, drop-length}
use borrow.Author.Tests.{lt-ltb, le-ltb}
use Rattle.std.specs.Prelude.{Some, None}
use Rattle.number.proofs.laws.Order.{less_or_not}
use Rattle.runs.specs.Set.{Canonical}
use Rattle.runs.proofs.laws.Added.{put_two}
use Rattle.merge.specs.inner.Merge.{Merged}
use Rattle.merge.proofs.laws.Shared.{shared, none_left, none_right, apart, apart_right, meeting, meeting_right}
use Rattle.runs.proofs.laws.Place.{two_left, first_run, run-ascends, behind_first}

-- n cuts of m are written over `before`, and `left` is to come
pub record Progress (m before out : List ℕ) (n : ℕ) (left : List ℕ) : Type 0 where
  pub size : length out ≡ length before
  pub room : n ≤ length before
  pub whole : take n out ++ left ≡ m
  pub behind : drop n out ≡ drop n before

pub begin : (m before : List ℕ) → Progress m before before 0 m
begin m before = record { size = refl; room = omega arith; whole = refl; behind = refl }

-- a run is to come
module _ (m before out : List ℕ) (n low end : ℕ) (left rest : List ℕ) (h : Progress m before out n left) (e : left ≡ low ∷ end ∷ rest) where
  shown : take n out ++ (low ∷ end ∷ rest) ≡ m
  shown = ap (λ (l : List ℕ). take n out ++ l) (sym e) ∙ h.whole

  pub write : n + 2 ≤ length before → Progress m before (set (set out n low) (n + 1) end) (n + 2) rest
  write k =
      record {
        size = length-set (set out n low) (n + 1) end ∙ length-set out n low ∙ h.size;
        room = k;
        whole = ap (λ (l : List ℕ). l ++ rest) (put_two out n low end (omega (arith, h.size))) ∙ append_assoc (take n out) (low ∷ end ∷ []) rest ∙ shown;
        behind = drop-set-lt (n + 2) (set out n low) (n + 1) end (omega arith) ∙ drop-set-lt (n + 2) out n low (omega arith)
            ∙ sym (drop-drop 2 n out) ∙ ap (drop 2) h.behind ∙ drop-drop 2 n before;
      }

  pub full : length before < n + 2 → Merged m before out None
  full q =
      record {
        over = sym (lt-ltb (length before) (length m) (omega (arith, h.size, h.room, simp (length-append, length-take-le n out (omega (arith, h.size, h.room))) at (ap length shown))));
        count = tt;
        filled = λ z. absurd (true≢false z);
      }

done : (m before out : List ℕ) (n : ℕ) (left : List ℕ) → Progress m before out n left → left ≡ [] → Merged m before out (Some n)
done m before out n left h e =
    let w : take n out ≡ m = sym (append-nil (take n out)) ∙ ap (λ (l : List ℕ). take n out ++ l) (sym e) ∙ h.whole in
    let k : n ≡ length m = sym (length-take-le n out (omega (arith, h.room, h.size))) ∙ ap length w in
    record {
      over = sym (le-ltb (length before) (length m) (omega (arith, h.room)));
      count = k;
      filled = λ z. sym (take-append-drop n out) ∙ ap₂ ◌++◌ w (h.behind ∙ ap (λ (j : ℕ). drop j before) k);
    }

-- the walk at places i and j: whole runs are left from there on
pub record Walking (a b before out : List ℕ) (n i j : ℕ) : Type 0 where
  pub left_in : i ≤ length a
  pub right_in : j ≤ length b
  pub left : Canonical (drop i a)
  pub right : Canonical (drop j b)
  pub progress : Progress (shared a b) before out n (shared (drop i a) (drop j b))

pub walking_start : (a b before : List ℕ) → Canonical a → Canonical b → Walking a b before before 0 0 0
walking_start a b before ca cb = record { left_in = omega arith; right_in = omega arith; left = ca; right = cb; progress = begin (shared a b) before }

module _ (a b before out : List ℕ) (n i j : ℕ) (w : Walking a b before out n i j) where
  -- one list is at its end
  pub walked_left : length a ≤ i → Merged (shared a b) before out (Some n)
  walked_left h =
      let e : i ≡ length a = omega (arith, w.left_in) in
      done _ before out n _ w.progress (ap (λ (l : List ℕ). shared l (drop j b)) (ap (λ (k : ℕ). drop k a) e ∙ drop-length a) ∙ none_left (drop j b) w.right.ascending)

  pub walked_right : j ≡ length b → Merged (shared a b) before out (Some n)
  walked_right e =
      done _ before out n _ w.progress (ap (λ (l : List ℕ). shared (drop i a) l) (ap (λ (k : ℕ). drop k b) e ∙ drop-length b) ∙ none_right (drop i a) w.left.ascending)

  -- none is
  module _ (ha : i < length a) (hb : j < length b) where
    abbrev runs_left : List ℕ
    runs_left = get_or a i 0 ∷ get_or a (i + 1) 0 ∷ drop (i + 2) a

    abbrev runs_right : List ℕ
    runs_right = get_or b j 0 ∷ get_or b (j + 1) 0 ∷ drop (j + 2) b

    two : shared (drop i a) (drop j b) ≡ shared runs_left runs_right
    two = ap₂ shared (first_run a i w.left ha) (first_run b j w.right hb)

    on_left : (o : List ℕ) (k : ℕ) → Progress (shared a b) before o k (shared (drop (i + 2) a) runs_right) → Walking a b before o k (i + 2) j
    on_left o k p = record {
      left_in = omega (arith, two_left a i w.left ha);
      right_in = w.right_in;
      left = behind_first a i w.left ha;
      right = w.right;
      progress = subst (λ (l : List ℕ). Progress (shared a b) before o k (shared (drop (i + 2) a) l)) (sym (first_run b j w.right hb)) p;
    }

    on_right : (o : List ℕ) (k : ℕ) → Progress (shared a b) before o k (shared runs_left (drop (j + 2) b)) → Walking a b before o k i (j + 2)
    on_right o k p = record {
      left_in = w.left_in;
      right_in = omega (arith, two_left b j w.right hb);
      left = w.left;
      right = behind_first b j w.right hb;
      progress = subst (λ (l : List ℕ). Progress (shared a b) before o k (shared l (drop (j + 2) b))) (sym (first_run a i w.left ha)) p;
    }

    -- the runs lie apart: one is passed
    pub pass_left : get_or a (i + 1) 0 ≤ get_or b j 0 → Walking a b before out n (i + 2) j
    pass_left h = on_left out n (subst (Progress (shared a b) before out n)
        (two ∙ apart _ _ _ _ _ _ (run-ascends a i w.left ha) (run-ascends b j w.right hb) h) w.progress)

    pub pass_right : get_or b (j + 1) 0 ≤ get_or a i 0 → Walking a b before out n i (j + 2)
    pass_right h = on_right out n (subst (Progress (shared a b) before out n)
        (two ∙ apart_right _ _ _ _ _ _ (run-ascends a i w.left ha) (run-ascends b j w.right hb) h) w.progress)

    -- they meet: what both hold is written, and the one that ends first is passed
    module _ (low end : ℕ) (l : low ≡ max (get_or a i 0) (get_or b j 0)) (e : end ≡ min (get_or a (i + 1) 0) (get_or b (j + 1) 0)) where
      comes_left : get_or b j 0 < get_or a (i + 1) 0 → get_or a (i + 1) 0 ≤ get_or b (j + 1) 0 → shared (drop i a) (drop j b) ≡ low ∷ end ∷ shared (drop (i + 2) a) runs_right
      comes_left h g = two ∙ meeting _ _ _ _ _ _ (run-ascends a i w.left ha) (run-ascends b j w.right hb) h g low end l e

      comes_right : get_or a i 0 < get_or b (j + 1) 0 → get_or b (j + 1) 0 ≤ get_or a (i + 1) 0 → shared (drop i a) (drop j b) ≡ low ∷ end ∷ shared runs_left (drop (j + 2) b)
      comes_right h g = two ∙ meeting_right _ _ _ _ _ _ (run-ascends a i w.left ha) (run-ascends b j w.right hb) h g low end l e

      pub write_left : get_or b j 0 < get_or a (i + 1) 0 → get_or a (i + 1) 0 ≤ get_or b (j + 1) 0 → n + 2 ≤ length before → Walking a b before (set (set out n low) (n + 1) end) (n + 2) (i + 2) j
      write_left h g k = on_left _ (n + 2) (write (shared a b) before out n low end _ _ w.progress (comes_left h g) k)

      pub write_right : get_or a i 0 < get_or b (j + 1) 0 → get_or b (j + 1) 0 ≤ get_or a (i + 1) 0 → n + 2 ≤ length before → Walking a b before (set (set out n low) (n + 1) end) (n + 2) i (j + 2)
      write_right h g k = on_right _ (n + 2) (write (shared a b) before out n low end _ _ w.progress (comes_right h g) k)

    -- or there is no room for it
    pub no_room : get_or b j 0 < get_or a (i + 1) 0 → get_or a i 0 < get_or b (j + 1) 0 → length before < n + 2 → Merged (shared a b) before out None
    no_room h g q =
        ⊎_elim
        (λ s. full (shared a b) before out n _ _ _ _ w.progress (comes_left _ _ refl refl h (omega arith)) q)
        (λ s. full (shared a b) before out n _ _ _ _ w.progress (comes_right _ _ refl refl g s) q)
        (less_or_not (get_or a (i + 1) 0) (get_or b (j + 1) 0))
