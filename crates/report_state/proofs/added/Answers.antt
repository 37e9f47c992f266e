-- `report_state::added` meets its contract. Assumes nothing.
use native.Mathlib.Omega.{arith}
use mathlib.Core.Path.{sym, ◌∙◌}
use Rattle.report_state.proofs.laws.Read.{held_of, stateless_none, none_in, some_in}
use borrow.Author.Rules.{rules}
use Rattle.report_state.proofs.added.Goals as goal

pub returns-then-is_stateless : goal.returns-then-is_stateless
returns-then-is_stateless c =
    none_in c.args.buffer.now c.args.rec.now (stateless_none c.args.buffer.now (sym c.is_stateless.ensures ∙ c.if-is_stateless.true))

pub report_in-r-requires : goal.report_in-r-requires
report_in-r-requires c =
    held_of c.args.buffer.now (sym c.is_stateless.ensures ∙ c.if-is_stateless.false)

pub text_in-text-requires : goal.text_in-text-requires
text_in-text-requires c =
    held_of c.args.buffer.now (sym c.is_stateless.ensures ∙ c.if-is_stateless.false)

pub word_at-requires : goal.word_at-requires
word_at-requires c =
    let h = held_of c.args.buffer.now (sym c.is_stateless.ensures ∙ c.if-is_stateless.false) in omega arith

pub returns : goal.returns
returns c =
    some_in c.args.buffer.now c.args.rec.now (sym c.is_stateless.ensures ∙ c.if-is_stateless.false) _ _ _ c.report_in-r.ensures c.text_in-text.ensures c.word_at.ensures _ c.add.ensures
