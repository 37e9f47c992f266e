-- The first cut and the last.
use Rattle.merge.proofs.laws.Complement.{one_if, ended_some}
use Rattle.merge.proofs.complement.ends_of.Goals as goal

pub returns : goal.returns
returns c = let s = c in ended_some s.args.a.now _ _ s.requires c.if-n-eq0.false (one_if _ _ _ c.from.ensures) (one_if _ _ _ c.from-2.ensures)
