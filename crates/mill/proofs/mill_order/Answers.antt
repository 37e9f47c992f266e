-- The answer of `sheet::order`, told: its place fits in the low half.
use mathlib.Core.Path.{sym, subst}
use Rattle.refusal.specs.Outcome.{Outcome}
use Rattle.sheet.specs.Finding.{Finding}
use Rattle.reply.specs.Reply.{InHalf}
use Rattle.boundary.specs.Boundary.{finding_told}
use Rattle.boundary.proofs.laws.Boundary.{orders_same}
use Rattle.promises.proofs.laws.InHalf.{order_in_half}
use borrow.Author.Rules.{rules}
use Rattle.promises.specs.Page as call
use Rattle.promises.specs.inner.Made.{two}
use Rattle.promises.proofs.laws.Computed.{every_call}
use Rattle.mill.proofs.mill_order.Goals as goal

pub tell_order-requires : goal.tell_order-requires
tell_order-requires c =
    subst (λ (o : Outcome Finding). InHalf (finding_told o)) (sym c.order-found.ensures) (order_in_half c.args.rec.now c.args.sheet.now)

pub returns : goal.returns
returns c =
    every_call (call.order c.args.sheet.now) c.args.rec.now _ _ _
    (two (orders_same c.order-found.ensures c.tell_order.ensures))
