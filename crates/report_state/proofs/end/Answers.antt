-- `report_state::end` meets its contract. Assumes nothing.
use native.Mathlib.Omega.{arith}
use mathlib.Core.Path.{sym, ap, ◌∙◌}
use mathlib.Core.Bool.{Bool, cond}
use Rattle.report_state.specs.State.{closed_bytes}
use Rattle.report_state.proofs.laws.Read.{held_of, some_state}
use borrow.Author.Rules.{rules}
use Rattle.report_state.proofs.end.Goals as goal

pub returns-then-is_none : goal.returns-then-is_none
returns-then-is_none c =
    sym (ap (λ (t : Bool). cond t c.args.buffer.now (closed_bytes c.args.buffer.now)) (sym c.is_none.ensures ∙ c.if-is_none.true))

pub close-requires : goal.close-requires
close-requires c =
    let h = held_of c.args.buffer.now (some_state c.args.buffer.now (sym c.is_none.ensures ∙ c.if-is_none.false)) in
    omega (arith, h.long_enough)

pub returns : goal.returns
returns c =
    c.close.ensures
    ∙ sym (ap (λ (t : Bool). cond t c.args.buffer.now (closed_bytes c.args.buffer.now)) (sym c.is_none.ensures ∙ c.if-is_none.false))
