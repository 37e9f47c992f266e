-- The answer of `entry::entry`, packed: it fits in the low half.
use mathlib.Core.Path.{sym, subst}
use lib.ListN.{length}
use borrow.Author.Rules.{rules}
use Rattle.entry.specs.Call.{entry_of}
use Rattle.reply.specs.Reply.{InHalf}
use Rattle.promises.proofs.laws.InHalf.{entry_in_half}
use Rattle.boundary.proofs.laws.Boundary.{writes}
use Rattle.promises.specs.Page as call
use Rattle.promises.proofs.laws.Computed.{every_call}
use Rattle.mill.proofs.mill_entry.Goals as goal

pub written-requires : goal.written-requires
written-requires c =
    subst InHalf (sym c.entry-written.ensures.answer) (entry_in_half c.args.rec.now (length c.args.out.now))

pub returns : goal.returns
returns c =
    every_call (call.entry) c.args.rec.now c.args.out.now _ _
    (writes (entry_of c.args.rec.now (length c.args.out.now)) c.args.out.now c.entry-written.result c.entry-written.new.out c.written.result c.entry-written.ensures c.written.ensures)
