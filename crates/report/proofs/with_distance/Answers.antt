-- `report::with_distance` meets its contract. Assumes nothing.
use mathlib.Core.Path.{◌≡◌, refl, ap, ◌∙◌}
use mathlib.Core.Bool.{Bool, true, false, cond}
use Prim.Native.Nat.{ℕ, ◌+◌}
use lib.Dec.{eqb}
use mir.Val.{bool_byte}
use Rattle.report.proofs.laws.Running.{same_report}
use Rattle.report.proofs.with_distance.Goals as goal

-- true as the number 1
one : (b : Bool) → bool_byte b ≡ cond b 1 0
one true = refl
one false = refl

pub returns : goal.returns
returns c =
    let r = c.args.r in
    same_report r.count _ _ _ _ _ _ _ _ _ _ refl (ap (λ (k : ℕ). r.met + k) (c.from.ensures ∙ one (eqb c.args.d 0))) refl
    (ap (λ (k : ℕ). r.distances + k) c.from-2.ensures) c.with-mean.ensures
