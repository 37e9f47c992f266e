-- Counting brackets byte by byte.
use mathlib.Core.Path.{◌≡◌, refl, sym, ap, subst, ◌∙◌}
use mathlib.Core.Bool.{Bool, true, false, cond}
use mathlib.Core.List.{List, [], ◌∷◌, ◌++◌}
use Prim.Native.Nat.{ℕ, zero, suc, ◌+◌, ◌-◌, ◌≤◌, ◌<◌}
use native.Mathlib.Omega.{arith}
use mir.Val.{bool_byte}
use native.Mathlib.Numerals.{add-one}
use lib.Dec.{eqb, ltb}
use lib.ListN.{length, get_or, take}
use lib.Seq.{take-suc}
use borrow.Author.Tests.{lt-ltb, le-ltb, ltb-true, ltb-false}
use Rattle.number.specs.Least.{least}
use Rattle.number.proofs.laws.Least.{least_none}
use Rattle.number.proofs.laws.Order.{one_at_most}
use Rattle.grammar.specs.Size.{count, open_at, too_deep}

count-parts : (b : ℕ) (x y : List ℕ) → count b (x ++ y) ≡ count b x + count b y
count-parts b [] y = omega arith
count-parts b (z ∷ x) y = let h = count-parts b x y in omega arith

count_step : (b : ℕ) (s : List ℕ) (i : ℕ) → i < length s → count b (take (suc i) s) ≡ count b (take i s) + cond (eqb (get_or s i 0) b) 1 0
count_step b s i h = ap (count b) (take-suc s i 0 h) ∙ count-parts b (take i s) (get_or s i 0 ∷ []) ∙ (omega arith)

-- what a test counts as
pub one_if : (b : Bool) → bool_byte b ≡ cond b 1 0
one_if true = refl
one_if false = refl

-- the least number of which a condition holds
least-below : (P : ℕ → Bool) (n i : ℕ) → i < n → P i ≡ true → least P n < n
unfolding least
least-below P zero i h e = absurd (omega arith)
least-below P (suc n) zero h e = rw e (omega arith)
least-below P (suc n) (suc i) h e = go (P zero) (least-below (λ k. P (suc k)) n i (omega arith) e)
  where
    go : (b : Bool) → least (λ k. P (suc k)) n < n → cond b zero (suc (least (λ k. P (suc k)) n)) < suc n
    go true l = omega arith
    go false l = omega arith

-- the bytes before i are counted, and at none of them too many brackets are open
pub record Counted (s : List ℕ) (opened closed i : ℕ) : Type 0 where
  pub inside : i ≤ length s
  pub opens : opened ≡ count 40 (take i s)
  pub closes : closed ≡ count 41 (take i s)
  pub few : (opened ≤ i) × (closed ≤ i)
  pub shallow : (k : ℕ) → k < i → ltb 16 (open_at s k) ≡ false

module _ (s : List ℕ) (opened closed i x y : ℕ) (h : Counted s opened closed i) (l : i < length s) (p : x ≡ cond (eqb (get_or s i 0) 40) 1 0) (q : y ≡ cond (eqb (get_or s i 0) 41) 1 0) where
  pub small : (x ≤ 1) × (y ≤ 1)
  small = let a = one_at_most (eqb (get_or s i 0) 40) in let b = one_at_most (eqb (get_or s i 0) 41) in (omega arith, omega arith)

  open_now : open_at s i ≡ opened + x - (closed + y)
  open_now = let a = count_step 40 s i l in let b = count_step 41 s i l in let c = h.opens in let d = h.closes in omega arith

  pub deep : closed + y + 16 < opened + x → true ≡ too_deep s
  unfolding too_deep
  deep g =
      let o = open_now in
      sym (lt-ltb (least (λ k. ltb 16 (open_at s k)) (length s)) (length s) (least-below (λ k. ltb 16 (open_at s k)) (length s) i l (lt-ltb 16 (open_at s i) (omega arith))))

  pub not_deep : opened + x ≤ closed + y + 16 → Counted s (opened + x) (closed + y) (i + 1)
  not_deep g =
      let a = count_step 40 s i l in
      let b = count_step 41 s i l in
      let c = h.opens in
      let d = h.closes in
      let f = h.few in
      let m = small in
      record {
        inside = omega arith;
        opens = rw (add-one i) (omega arith);
        closes = rw (add-one i) (omega arith);
        few = (omega arith, omega arith);
        shallow = λ k e. go k (ltb k i) refl e;
      }
    where
      go : (k : ℕ) (t : Bool) → ltb k i ≡ t → k < i + 1 → ltb 16 (open_at s k) ≡ false
      go k true u e = h.shallow k (ltb-true k i u)
      go k false u e =
          let w = ltb-false k i u in
          let z : i ≡ k = omega arith in
          let o = open_now in
          subst (λ (j : ℕ). ltb 16 (open_at s j) ≡ false) z (le-ltb 16 (open_at s i) (omega arith))

pub never_deep : (s : List ℕ) (opened closed i : ℕ) → Counted s opened closed i → length s ≤ i → false ≡ too_deep s
unfolding too_deep
never_deep s opened closed i h l =
    let z = least_none (λ k. ltb 16 (open_at s k)) (length s) (λ k e. h.shallow k (omega arith)) in
    sym (le-ltb (least (λ k. ltb 16 (open_at s k)) (length s)) (length s) (omega arith))
