-- The answer of `live::restore`, told: it fits in the low half.
use mathlib.Core.Path.{sym, ap, ◌∙◌, subst}
use borrow.Author.Rules.{rules}
use Rattle.reply.specs.Reply.{packed, InHalf}
use Rattle.live.proofs.laws.InHalf.{restore_in_half}
use Rattle.promises.proofs.laws.Carried.{live_restore}
use Rattle.mill.proofs.mill_live_restore.Goals as goal

pub tell-requires : goal.tell-requires
tell-requires c =
    subst InHalf (sym c.restore-answer.ensures.answer) (restore_in_half c.args.live.now c.args.name)

pub returns : goal.returns
returns c =
    live_restore c.args.live.now c.args.name _ _ (record { returned = c.tell.ensures ∙ ap packed c.restore-answer.ensures.answer; state = c.restore-answer.ensures.state })
