-- `targets::on_axis` meets its contract. A target between the ends lies some k above the lowest number, and k is its index. Assumes nothing.
use mathlib.Core.Path.{◌≡◌, refl, sym, ap, ◌∙◌, subst}
use mathlib.Core.Bool.{Bool, true, false, ◌||◌}
use Prim.Native.Nat.{ℕ, suc, ◌+◌, ◌-◌, ◌<◌, ◌≤◌}
use native.Mathlib.Omega.{arith}
use borrow.Author.Tests.{ltb-false}
use lib.Dec.{T}
use lib.IntN.{ℤ, pos, negsuc, ◌-ℤ◌, nat_abs}
use lib.Signed.{lt_z, non_neg}
use mir.Syntax.{w32, w64}
use mir.Val.{Fits, SFits, to_z, of_z}
use mir.ValLaws.{to_z-of_z}
use Rattle.number.specs.Axis.{axis, whole, origin}
use Rattle.targets.specs.Target.{off_axis}
use Rattle.number.specs.Axis.{lowest, highest}
use Rattle.number.proofs.laws.Boolean.{or_right}
use Rattle.targets.proofs.laws.Target.{sub_above, sub_below}
use Rattle.targets.proofs.on_axis.Goals as goal

record At (z : ℤ) (k : ℕ) : Type 0 where
  above : z -ℤ lowest ≡ pos k
  inside : k < axis
  is : whole k ≡ z

place : (z : ℤ) → lt_z z lowest ≡ false → lt_z highest z ≡ false → (k : ℕ) × At z k
place (pos n) lo hi =
    let h : n ≤ origin = ltb-false origin n hi in
    let e : n + origin - origin ≡ n = omega arith in
    (n + origin, record { above = refl; inside = omega arith; is = sub_above (n + origin) origin (omega arith) ∙ ap pos e })
place (negsuc n) lo hi =
    let h : n ≤ 1999999999 = ltb-false 1999999999 n lo in
    let e : origin - suc (origin - suc n) ≡ n = omega arith in
    (origin - suc n, record { above = sub_above origin (suc n) (omega arith); inside = omega arith; is = sub_below (origin - suc n) origin (omega arith) ∙ ap negsuc e })

module _ (z : ℤ) (h : SFits w64 z) where
  same : to_z w64 (of_z w64 z) ≡ z
  same = to_z-of_z w64 z h

  under : lt_z (to_z w64 (of_z w64 z)) lowest ≡ true → off_axis z ≡ true
  under t = ap (λ (b : Bool). b || lt_z highest z) (ap (λ (y : ℤ). lt_z y lowest) (sym same) ∙ t)

  past : lt_z highest (to_z w64 (of_z w64 z)) ≡ true → off_axis z ≡ true
  past t = ap (λ (b : Bool). lt_z z lowest || b) (ap (λ (y : ℤ). lt_z highest y) (sym same) ∙ t) ∙ or_right (lt_z z lowest) true refl

  module _ (lo : lt_z (to_z w64 (of_z w64 z)) lowest ≡ false) (hi : lt_z highest (to_z w64 (of_z w64 z)) ≡ false) where
    lo' : lt_z z lowest ≡ false
    lo' = ap (λ (y : ℤ). lt_z y lowest) (sym same) ∙ lo

    hi' : lt_z highest z ≡ false
    hi' = ap (λ (y : ℤ). lt_z highest y) (sym same) ∙ hi

    on : off_axis z ≡ false
    on = ap (λ (b : Bool). b || lt_z highest z) lo' ∙ hi'

    k : ℕ
    k = (place z lo' hi').0

    at : At z k
    unfolding k
    at = (place z lo' hi').1

    difference : to_z w64 (of_z w64 z) -ℤ lowest ≡ pos k
    difference = ap (λ (y : ℤ). y -ℤ lowest) same ∙ at.above

    fits : SFits w64 (to_z w64 (of_z w64 z) -ℤ lowest)
    fits = subst (λ (y : ℤ). SFits w64 y) (sym difference) (record { sfits = omega (arith, at.inside) })

    back : to_z w64 (of_z w64 (to_z w64 (of_z w64 z) -ℤ lowest)) ≡ pos k
    back = to_z-of_z w64 _ fits ∙ difference

pub returns-then-target-lt-LOWEST : goal.returns-then-target-lt-LOWEST
returns-then-target-lt-LOWEST c = under c.args.target c.ranges.target c.if-target-lt-LOWEST.true

pub returns-then-target-gt-HIGHEST : goal.returns-then-target-gt-HIGHEST
returns-then-target-gt-HIGHEST c = past c.args.target c.ranges.target c.if-target-gt-HIGHEST.true

pub returns : goal.returns
returns c =
    let z = c.args.target in
    let h = c.ranges.target in
    let b = back z h c.if-target-lt-LOWEST.false c.if-target-gt-HIGHEST.false in
    let a = at z h c.if-target-lt-LOWEST.false c.if-target-gt-HIGHEST.false in
    subst (λ (y : ℤ). (off_axis z ≡ false) × (nat_abs y < axis) × (whole (nat_abs y) ≡ z)) (sym b)
    (on z h c.if-target-lt-LOWEST.false c.if-target-gt-HIGHEST.false, a.inside, a.is)
