-- The answer of `live::add`, told: it fits in the low half.
use mathlib.Core.Path.{sym, ap, ◌∙◌, subst}
use borrow.Author.Rules.{rules}
use Rattle.reply.specs.Reply.{packed, InHalf}
use Rattle.live.proofs.laws.InHalf.{add_in_half}
use Rattle.promises.proofs.laws.Carried.{live_add}
use Rattle.mill.proofs.mill_live_add.Goals as goal

pub tell-requires : goal.tell-requires
tell-requires c =
    subst InHalf (sym c.add-answer.ensures.answer) (add_in_half c.args.live.now c.args.reading.now)

pub returns : goal.returns
returns c =
    live_add c.args.live.now c.args.reading.now _ _ (record { returned = c.tell.ensures ∙ ap packed c.add-answer.ensures.answer; state = c.add-answer.ensures.state })
