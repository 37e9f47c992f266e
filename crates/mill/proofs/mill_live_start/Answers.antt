-- The answer of `live::start`, told: it fits in the low half.
use mathlib.Core.Path.{sym, ap, ◌∙◌, subst}
use borrow.Author.Rules.{rules}
use Rattle.reply.specs.Reply.{packed, InHalf}
use Rattle.live.proofs.laws.InHalf.{start_in_half}
use Rattle.promises.proofs.laws.Carried.{live_start}
use Rattle.mill.proofs.mill_live_start.Goals as goal

pub tell-requires : goal.tell-requires
tell-requires c =
    subst InHalf (sym c.start-answer.ensures.answer) (start_in_half c.args.marks.now c.args.live.now)

pub returns : goal.returns
returns c =
    live_start c.args.marks.now c.args.live.now _ _ (record { returned = c.tell.ensures ∙ ap packed c.start-answer.ensures.answer; state = c.start-answer.ensures.state })
