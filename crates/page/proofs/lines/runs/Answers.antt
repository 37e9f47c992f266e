-- The invariant: the lines of the first i runs are put.
use Prim.Native.Nat.{ℕ}
use Rattle.number.specs.Words.{signed}
use Rattle.page.specs.Page.{run_line, run_lines}
use Rattle.page.proofs.laws.Page.{runs_none, runs_next, run-within}
use Rattle.page.proofs.laws.Puts.{puts_same}
use borrow.Author.Rules.{rules}
use lib.ListN.{length}
use mathlib.Core.Path.{◌≡◌, ◌∙◌, ap, ap₂}
use native.Mathlib.Omega.{arith}
use Rattle.page.proofs.lines.runs.Goals as goal

pub loop-i-init : goal.loop-i-init
loop-i-init c =
    (search rules, runs_none c.args.set.now c.args.out.now c.args.at)

pub run-end-requires : goal.run-end-requires
run-end-requires c =
    let line = ap₂ (λ (x y : ℕ). length (run_line (signed x) (signed y))) c.word_at-low.ensures c.word_at-high.ensures in
    omega (arith, c.requires.1, c.loop-i.invariant.0, c.loop-i.invariant.1.behind, line, run-within c.args.n c.loop-i.i c.args.set.now c.loop-i-test.true)

pub loop-i-preserved : goal.loop-i-preserved
loop-i-preserved c = (
  c.run-end.auto.out ∙ c.loop-i.invariant.0,
  runs_next c.args.set.now c.args.out.now c.loop-i.out _ c.args.at c.loop-i.end _ c.loop-i.i _ _ c.word_at-low.ensures c.word_at-high.ensures
      (omega (arith, c.requires.1, run-within c.args.n c.loop-i.i c.args.set.now c.loop-i-test.true)) c.loop-i.invariant.1 c.run-end.ensures,
)

pub returns : goal.returns
returns c =
    let e : c.loop-i.i ≡ c.args.n = omega (arith, c.loop-i.auto.i-end, c.loop-i-test.false) in
    puts_same (ap (λ (k : ℕ). run_lines k c.args.set.now) e) c.loop-i.invariant.1
