-- The answer of `thin::thin`, packed: it fits in the low half.
use mathlib.Core.Path.{sym, subst}
use lib.ListN.{length}
use borrow.Author.Rules.{rules}
use Rattle.thin.specs.Thin.{thin_of}
use Rattle.reply.specs.Reply.{InHalf}
use Rattle.promises.proofs.laws.InHalf.{thin_in_half}
use Rattle.boundary.proofs.laws.Boundary.{writes}
use Rattle.promises.specs.Page as call
use Rattle.promises.proofs.laws.Computed.{every_call}
use Rattle.mill.proofs.mill_thin.Goals as goal

pub written-requires : goal.written-requires
written-requires c =
    subst InHalf (sym c.thin-written.ensures.answer) (thin_in_half c.args.rec.now c.args.marks.now (length c.args.out.now))

pub returns : goal.returns
returns c =
    every_call (call.thin c.args.marks.now) c.args.rec.now c.args.out.now _ _
    (writes (thin_of c.args.rec.now c.args.marks.now (length c.args.out.now)) c.args.out.now c.thin-written.result c.thin-written.new.out c.written.result c.thin-written.ensures c.written.ensures)
