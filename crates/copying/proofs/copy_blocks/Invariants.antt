-- `copying::copy_blocks` meets its contract. The invariant: i blocks are copied.
use mathlib.Core.Path.{◌≡◌, refl, ap, ◌∙◌}
use mathlib.Core.List.{List, ◌++◌}
use Prim.Native.Nat.{ℕ, ◌+◌, ◌-◌, ◌*◌, ◌≤◌}
use native.Mathlib.Omega.{arith}
use lib.ListN.{length, take, drop, length-drop}
use lib.Seq.{paste, paste-zero, length-paste}
use Rattle.copying.proofs.laws.Put.{paste-put, block_more}
use borrow.Author.Rules.{rules}
use Rattle.copying.proofs.copy_blocks.Given as goal

abbrev pub invariant-loop-i : goal.invariant-loop-i
invariant-loop-i l = (l.i ≤ l.n) × (length l.out ≡ length l.initial.out) × (l.out ≡ paste l.initial.out l.to (drop l.from l.s) (16 * l.i))
