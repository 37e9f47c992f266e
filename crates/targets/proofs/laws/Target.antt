-- Laws of targets: differences of natural numbers, and targets handed on.
use Rattle.std.specs.Prelude.{ℕ, suc, ◌-◌, ◌≤◌, ◌<◌, ◌≡◌, Bool, cond, ℤ, pos, negsuc, Option}
use Rattle.std.proofs.Common.{ap, subst, le-ltb, lt-ltb, SFits, to_z, of_z}
use Rattle.std.proofs.Math.IntN.{sub_ℕ}
use Rattle.std.specs.Int.{w64}
use Rattle.std.proofs.lemmas.Int.{to_z-of_z}
use Rattle.targets.specs.Target.{Placed}

pub sub_above : (a b : ℕ) → b ≤ a → sub_ℕ a b ≡ pos (a - b)
sub_above a b h = ap (λ (t : Bool). cond t (negsuc (b - suc a)) (pos (a - b))) (le-ltb a b h)

pub sub_below : (a b : ℕ) → a < b → sub_ℕ a b ≡ negsuc (b - suc a)
sub_below a b h = ap (λ (t : Bool). cond t (negsuc (b - suc a)) (pos (a - b))) (lt-ltb a b h)

-- where a target stands, when it was handed on as a signed number of 64 bits
pub placed-handed : (g : ℤ) → SFits w64 g → (r o : Option ℕ) → r ≡ o → Placed (to_z w64 (of_z w64 g)) r → Placed g o
placed-handed g f r o e h = subst (λ (x : Option ℕ). Placed g x) e (subst (λ (z : ℤ). Placed z r) (to_z-of_z w64 g f) h)
