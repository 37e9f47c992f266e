-- `report_state::put_text` meets its contract. The invariant: the first i bytes are put. Assumes nothing.
use Prim.Native.Nat.{ℕ, ◌+◌, ◌-◌, ◌≤◌}
use mathlib.Core.Path.{◌≡◌, ap, sym, ◌∙◌}
use mathlib.Core.List.{List, ◌++◌}
use native.Mathlib.Numerals.{add-one}
use native.Mathlib.Omega.{arith}
use borrow.Author.Rules.{rules}
use lib.ListN.{length, set, get_or, take, drop}
use lib.Seq.{paste, paste-zero, paste-suc, take_all}
use Rattle.report_state.proofs.put_text.Goals as goal

pub loop-i-init : goal.loop-i-init
loop-i-init c =
    (omega arith, search rules, paste-zero c.args.buffer.now 52 c.args.text.now)

pub loop-i-preserved : goal.loop-i-preserved
loop-i-preserved c = (
  search rules,
  search rules,
  ap (λ (o : List ℕ). set o (52 + c.loop-i.i) (get_or c.args.text.now c.loop-i.i 0)) c.loop-i.invariant.2
      ∙ paste-suc c.args.buffer.now 52 c.args.text.now c.loop-i.i 0 (omega (arith, c.requires)) c.loop-i-test.true
      ∙ ap (λ (k : ℕ). paste c.args.buffer.now 52 c.args.text.now k) (sym (add-one c.loop-i.i)),
)

pub returns : goal.returns
returns c =
    let e : c.loop-i.i ≡ length c.args.text.now = omega (arith, c.loop-i-test.false) in
    c.loop-i.invariant.2 ∙ ap (λ (k : ℕ). paste c.args.buffer.now 52 c.args.text.now k) e
    ∙ ap (λ (s : List ℕ). take 52 c.args.buffer.now ++ s ++ drop (52 + length c.args.text.now) c.args.buffer.now) (take_all (length c.args.text.now) c.args.text.now (omega arith))
