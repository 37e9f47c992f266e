-- The class of each byte of an interval, by a test that is computed once over the interval.
use mathlib.Core.Path.{◌≡◌, refl, sym, ap, subst, ◌∙◌}
use mathlib.Core.Bool.{Bool, true, false, ◌&&◌, ◌||◌}
use mathlib.Core.Logic.{◌⊎◌, inl, inr}
use Prim.Native.Nat.{ℕ, zero, suc, ◌+◌, ◌≤◌, ◌<◌}
use native.Mathlib.Omega.{arith}
use lib.Dec.{eqb}
use borrow.Author.Tests.{eqb-true, eqb-false, ne_eqb}
use Rattle.number.proofs.laws.Boolean.{and_left, and_right}
use Rattle.grammar.specs.declared.Class.{Class}
use Rattle.grammar.specs.declared.Class.TheVariants.{Sign}
use Rattle.grammar.specs.Classes.{class_of}
use Rattle.grammar.proofs.laws.Class.{number, same_number}

or_right : (x y : Bool) → (x || y) ≡ true → x ≡ false → y ≡ true
or_right true y e f = cc
or_right false y e f = e

-- the bytes that stand alone in the match: `!` `&` `|`
unfoldable pub single : ℕ → Bool
single x = eqb x 33 || (eqb x 38 || eqb x 124)

abbrev pub Single : ℕ → Type 0
Single b = (b ≡ 33) ⊎ ((b ≡ 38) ⊎ (b ≡ 124))

pub not_single : (b : ℕ) → ¬ (Single b) → single b ≡ false
unfolding single
not_single b f = rw (ne_eqb b 33 (λ e. f (inl e)), ne_eqb b 38 (λ e. f (inr (inl e))), ne_eqb b 124 (λ e. f (inr (inr e))))

pub sign_alone : (b : ℕ) → Single b → Sign ≡ class_of b
unfolding class_of
sign_alone b (inl e) = subst (λ (x : ℕ). Sign ≡ class_of x) (sym e) refl
sign_alone b (inr (inl e)) = subst (λ (x : ℕ). Sign ≡ class_of x) (sym e) refl
sign_alone b (inr (inr e)) = subst (λ (x : ℕ). Sign ≡ class_of x) (sym e) refl

-- c is the class of each byte from `low` on, n of them, but for those that stand alone
unfoldable pub classed : ℕ → ℕ → Class → Bool
classed low zero c = true
classed low (suc n) c = (single low || eqb (number c) (number (class_of low))) && classed (suc low) n c

pub class_in : (low n b : ℕ) (c : Class) → classed low n c ≡ true → ¬ (Single b) → low ≤ b → b < low + n → c ≡ class_of b
unfolding classed
class_in low zero b c t f h g = absurd (omega arith)
class_in low (suc n) b c t f h g =
    go (eqb low b) refl (class_in (suc low) n b c (and_right (single low || eqb (number c) (number (class_of low))) (classed (suc low) n c) t) f)
  where
    go : (e : Bool) → eqb low b ≡ e → (suc low ≤ b → b < suc low + n → c ≡ class_of b) → c ≡ class_of b
    go true e k =
        let q : low ≡ b = eqb-true low b e in
        let t1 = and_left (single low || eqb (number c) (number (class_of low))) (classed (suc low) n c) t in
        let t2 = or_right (single low) (eqb (number c) (number (class_of low))) t1 (ap single q ∙ not_single b f) in
        same_number c (class_of low) (eqb-true (number c) (number (class_of low)) t2) ∙ ap class_of q
    go false e k = let q : low ≡ b → ⊥ = eqb-false low b e in k (omega arith) (omega arith)
