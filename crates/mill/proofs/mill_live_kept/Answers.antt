-- The answer of `live::kept`, packed: it fits in the low half.
use mathlib.Core.Path.{sym, subst}
use lib.ListN.{length}
use borrow.Author.Rules.{rules}
use Rattle.reply.specs.Reply.{InHalf}
use Rattle.live.specs.Call.{held_of}
use Rattle.live.proofs.laws.InHalf.{held_in_half}
use Rattle.boundary.proofs.laws.Boundary.{writes}
use Rattle.promises.proofs.laws.Carried.{live_kept}
use Rattle.mill.proofs.mill_live_kept.Goals as goal

pub written-requires : goal.written-requires
written-requires c =
    subst InHalf (sym c.kept-written.ensures.answer) (held_in_half c.args.live.now (length c.args.out.now))

pub returns : goal.returns
returns c =
    live_kept c.args.live.now c.args.out.now _ _
    (writes (held_of c.args.live.now (length c.args.out.now)) c.args.out.now c.kept-written.result c.kept-written.new.out c.written.result c.kept-written.ensures c.written.ensures)
