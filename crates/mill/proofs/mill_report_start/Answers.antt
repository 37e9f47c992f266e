-- The target is handed on as a signed number of 64 bits.
use Prim.Native.Nat.{ℕ}
use mathlib.Core.Path.{◌≡◌, subst}
use mathlib.Core.List.{List}
use lib.IntN.{ℤ}
use mir.Syntax.{w64}
use mir.ValLaws.{to_z-of_z}
use Rattle.report.specs.inner.Naming.{naming}
use Rattle.report_state.specs.Call.{Starts}
use borrow.Author.Rules.{rules}
use Rattle.promises.proofs.laws.Carried.{report_start}
use Rattle.mill.proofs.mill_report_start.Goals as goal

-- the promise, of the target itself
asked : (n : ℕ) (text : List ℕ) (g h : ℤ) (old : List ℕ) (r : ℕ) (new : List ℕ) → h ≡ g → Starts (naming n text h) old r new → Starts (naming n text g) old r new
asked n text g h old r new e a = subst (λ (z : ℤ). Starts (naming n text z) old r new) e a

pub returns : goal.returns
returns c =
    report_start (naming c.args.count c.args.text.now c.args.target) c.args.report.now _ _
    (asked c.args.count c.args.text.now c.args.target _ c.args.report.now _ _ (to_z-of_z w64 c.args.target c.ranges.target) c.start.ensures)
