-- `sweep_row` meets its contract.
use Rattle.differences.proofs.RowLaws.{row-found}
use Rattle.differences.proofs.sweep_row.Goals as goal

pub first-head-requires : goal.first-head-requires
first-head-requires c = let s = c in (s.requires.0, s.requires.1, s.requires.2, s.requires.3)

pub see-stop-requires : goal.see-stop-requires
see-stop-requires c = let s = c in (s.requires.0, s.requires.1, c.first-head.ensures, s.requires.5)

pub behind-requires : goal.behind-requires
behind-requires c = let s = c in (s.requires.0, s.requires.1, c.first-head.ensures, c.see-stop.ensures.0, s.requires.4)

pub beyond-requires : goal.beyond-requires
beyond-requires c = let s = c in (s.requires.0, s.requires.1)

pub returns : goal.returns
returns c =
    let found = row-found c.args.b.now c.requires.1 c.args.s c.args.x c.see-stop.result c.behind.result c.beyond.result c.requires.0 c.requires.4 c.see-stop.ensures.0
    c.behind.ensures c.beyond.ensures in
    (c.first-head.ensures, found, c.see-stop.ensures.1)
