-- After i entries, k of them reach the level.
use mathlib.Core.Path.{◌≡◌, sym, ap, ◌∙◌}
use mathlib.Core.Bool.{Bool, cond}
use Prim.Native.Nat.{ℕ, ◌+◌}
use native.Mathlib.Omega.{arith}
use Rattle.listing.proofs.laws.Listing.{counting_turn, counting_end, count_few}
use Rattle.listing.proofs.count_entries.Invariants.{says}
use Rattle.listing.proofs.count_entries.Goals as goal
use Rattle.listing.proofs.count_entries.Goals.{then-reaches_level, else-reaches_level}

pub overflow_add-k : goal.overflow_add-k
overflow_add-k c =
    omega (arith, c.loop-i.invariant.count, c.loop-i.invariant.inside, count_few (says c.args.summary.now c.args.curve c.args.index) 0 c.loop-i.i, c.requires.1)

pub loop-i-preserved : goal.loop-i-preserved
loop-i-preserved c =
    let k : ℕ = c.loop-i.k in
    let next : c.if-reaches_level.k ≡ cond c.reaches_level.result (k + 1) k = elim c.if-reaches_level.branch [
      | then-reaches_level w ↦ w.k-is ∙ sym (ap (λ (b : Bool). cond b (k + 1) k) w.if-reaches_level.true)
      | else-reaches_level w ↦ w.k-is ∙ sym (ap (λ (b : Bool). cond b (k + 1) k) w.if-reaches_level.false)
    ] in
    counting_turn (says c.args.summary.now c.args.curve c.args.index) c.args.n c.loop-i.i k c.if-reaches_level.k c.reaches_level.result c.loop-i-test.true c.loop-i.invariant
    c.reaches_level.ensures next

pub returns : goal.returns
returns c =
    counting_end (says c.args.summary.now c.args.curve c.args.index) c.args.n c.loop-i.i c.loop-i.k c.loop-i-test.false c.loop-i.invariant
