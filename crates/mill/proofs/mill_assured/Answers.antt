-- The verdict of `assured::assured`, told: it fits in the low half.
use mathlib.Core.Path.{refl, sym, ap, ◌∙◌, subst}
use mathlib.Core.List.{[]}
use borrow.Author.Rules.{rules}
use Rattle.reply.specs.Reply.{packed, InHalf}
use Rattle.assured.proofs.laws.Call.{assured_in_half}
use Rattle.promises.specs.Page as call
use Rattle.promises.proofs.laws.Computed.{every_call}
use Rattle.mill.proofs.mill_assured.Goals as goal

pub tell-requires : goal.tell-requires
tell-requires c =
    subst InHalf (sym c.assured-verdict.ensures) (assured_in_half c.args.text.now c.args.marks.now)

pub returns : goal.returns
returns c =
    every_call (call.assured c.args.marks.now) c.args.text.now [] _ [] (refl, c.tell.ensures ∙ ap packed c.assured-verdict.ensures, refl)
