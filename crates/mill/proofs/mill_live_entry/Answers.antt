-- The answer of `live_entry::entry_of_run`, packed: it fits in the low half.
use mathlib.Core.Path.{sym, subst}
use lib.ListN.{length}
use borrow.Author.Rules.{rules}
use Rattle.reply.specs.Reply.{InHalf}
use Rattle.live_entry.specs.Call.{held_entry_of}
use Rattle.live_entry.proofs.laws.InHalf.{run-entry_in_half}
use Rattle.boundary.proofs.laws.Boundary.{writes}
use Rattle.promises.proofs.laws.Carried.{live_entry}
use Rattle.mill.proofs.mill_live_entry.Goals as goal

pub written-requires : goal.written-requires
written-requires c =
    subst InHalf (sym c.entry_of_run-written.ensures.answer) (run-entry_in_half c.args.live.now (length c.args.out.now))

pub returns : goal.returns
returns c =
    live_entry c.args.live.now c.args.out.now _ _
    (writes (held_entry_of c.args.live.now (length c.args.out.now)) c.args.out.now c.entry_of_run-written.result c.entry_of_run-written.new.out c.written.result c.entry_of_run-written.ensures c.written.ensures)
