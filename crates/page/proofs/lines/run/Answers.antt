-- The parts in turn.
use Rattle.number.specs.Words.{signed}
use Rattle.page.specs.Page.{run_line}
use Rattle.page.proofs.laws.Page.{run_line-length}
use Rattle.page.proofs.laws.Puts.{puts_four}
use native.Mathlib.Omega.{arith}
use Rattle.page.proofs.lines.run.Goals as goal

pub signed-blank-requires : goal.signed-blank-requires
signed-blank-requires c =
    omega (arith, c.requires, run_line-length (signed c.args.low) (signed c.args.high))

pub byte-second-requires : goal.byte-second-requires
byte-second-requires c =
    omega (arith, c.requires, c.signed-blank.ensures.behind, c.signed-blank.auto.out, run_line-length (signed c.args.low) (signed c.args.high))

pub signed-end-requires : goal.signed-end-requires
signed-end-requires c =
    omega (arith, c.requires, c.signed-blank.ensures.behind, c.signed-blank.auto.out, c.byte-second.ensures.behind, c.byte-second.auto.out, run_line-length (signed c.args.low) (signed c.args.high))

pub byte-requires : goal.byte-requires
byte-requires c =
    omega (arith, c.requires, c.signed-blank.ensures.behind, c.signed-blank.auto.out, c.byte-second.ensures.behind, c.byte-second.auto.out, c.signed-end.ensures.behind, c.signed-end.auto.out, run_line-length (signed c.args.low) (signed c.args.high))

pub returns : goal.returns
unfolding run_line
returns c = puts_four _ _ _ _ _ _ _ _ _ _ _ _ _ _ c.requires c.signed-blank.ensures c.byte-second.ensures c.signed-end.ensures c.byte.ensures
