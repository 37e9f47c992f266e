-- `sheet::first_break` meets its contract. The invariant: index and line are right of the first k lines. Assumes nothing.
use mathlib.Core.Path.{◌≡◌, sym, subst}
use mathlib.Core.List.{List}
use Prim.Native.Nat.{ℕ, ◌+◌, ◌<◌}
use native.Mathlib.Omega.{arith}
use Rattle.sheet.specs.inner.Firsts.{Earliest}
use Rattle.sheet.proofs.laws.Firsts.{earliest_here, earliest_past}
use Rattle.sheet.proofs.first_break.Goals as goal
use Rattle.sheet.proofs.first_break.Goals.{then-b-index+then-b-a, then-b-index+else-b-a, else-b-index}

-- of the values that were left
left_at : (table : List ℕ) (n : ℕ) (sheet : List ℕ) (count i j l m : ℕ) → i ≡ j → l ≡ m → Earliest table n sheet count j m → Earliest table n sheet count i l
left_at table n sheet count i j l m p q e = subst (λ (x : ℕ). Earliest table n sheet count x l) (sym p) (subst (Earliest table n sheet count j) (sym q) e)

pub loop-k-preserved : goal.loop-k-preserved
loop-k-preserved c =
    let a : ℕ = c.first_of-a.result in
    let b : ℕ = c.first_of-b.result in
    let past : (b < c.loop-k.index → a < b) → Earliest c.args.first c.args.n c.args.sheet.now (c.loop-k.k + 1) c.loop-k.index c.loop-k.line =
    earliest_past c.args.first c.args.n c.args.sheet.now c.loop-k.k c.loop-k.index c.loop-k.line a b c.first_of-a.ensures c.first_of-b.ensures c.loop-k.invariant in
    elim c.if-b-index.branch [
      | then-b-index+then-b-a w ↦ left_at c.args.first c.args.n c.args.sheet.now (c.loop-k.k + 1) c.if-b-index.index b c.if-b-index.line c.loop-k.k w.index-is w.line-is
          (earliest_here c.args.first c.args.n c.args.sheet.now c.loop-k.k c.loop-k.index c.loop-k.line a b c.first_of-a.ensures c.first_of-b.ensures c.loop-k.invariant w.if-b-index.true w.if-b-a.true)
      | then-b-index+else-b-a w ↦ left_at c.args.first c.args.n c.args.sheet.now (c.loop-k.k + 1) c.if-b-index.index c.loop-k.index c.if-b-index.line c.loop-k.line w.index-is w.line-is
          (past (λ m. w.if-b-a.false))
      | else-b-index w ↦ left_at c.args.first c.args.n c.args.sheet.now (c.loop-k.k + 1) c.if-b-index.index c.loop-k.index c.if-b-index.line c.loop-k.line w.index-is w.line-is
          (past (λ m. let z = w.if-b-index.false in absurd (omega arith)))
    ]
