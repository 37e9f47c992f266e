-- The last run goes on, or two cuts more, or there is no room for them.
use Rattle.runs.proofs.laws.Added.{joins, full, room, added}
use Rattle.runset.proofs.RunSet.add.Goals as goal

pub returns-then-ends_at : goal.returns-then-ends_at
returns-then-ends_at c =
    let t = c.ends_at.ensures.0 c.if-ends_at.true in
    joins c.args.set.now c.requires.0 c.args.low c.args.high c.requires.2 c.requires.3 c.requires.1 _ c.cuts_in-n.ensures t.0 t.1

pub returns-then-n-eq-CUTS : goal.returns-then-n-eq-CUTS
returns-then-n-eq-CUTS c = let s = c in full s.args.set.now s.requires.0 s.args.low s.args.high s.requires.2 s.requires.3 s.requires.1 _ c.cuts_in-n.ensures (c.ends_at.ensures.1 c.if-ends_at.false) c.if-n-eq-CUTS.true

pub put_run-requires : goal.put_run-requires
put_run-requires c = (
  c.requires.0.size,
  room c.args.set.now c.requires.0 c.args.low c.args.high c.requires.2 c.requires.3 c.requires.1 _ c.cuts_in-n.ensures (c.ends_at.ensures.1 c.if-ends_at.false) c.if-n-eq-CUTS.false,
  c.requires.3,
)

pub returns : goal.returns
returns c =
    added c.args.set.now c.requires.0 c.args.low c.args.high c.requires.2 c.requires.3 c.requires.1 _ c.cuts_in-n.ensures
    (c.ends_at.ensures.1 c.if-ends_at.false) c.if-n-eq-CUTS.false _ c.put_run.ensures
