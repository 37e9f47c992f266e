-- The answer of `live::save`, told: it fits in the low half.
use mathlib.Core.Path.{sym, ap, ◌∙◌, subst}
use borrow.Author.Rules.{rules}
use Rattle.reply.specs.Reply.{packed, InHalf}
use Rattle.live.proofs.laws.InHalf.{save_in_half}
use Rattle.promises.proofs.laws.Carried.{live_save}
use Rattle.mill.proofs.mill_live_save.Goals as goal

pub tell-requires : goal.tell-requires
tell-requires c =
    subst InHalf (sym c.save-answer.ensures.answer) (save_in_half c.args.live.now c.args.name)

pub returns : goal.returns
returns c =
    live_save c.args.live.now c.args.name _ _ (record { returned = c.tell.ensures ∙ ap packed c.save-answer.ensures.answer; state = c.save-answer.ensures.state })
