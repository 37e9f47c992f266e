-- The parts in turn.
use Rattle.page.specs.Page.{page}
use Rattle.page.proofs.laws.Page.{set-length}
use Rattle.page.proofs.laws.Puts.{puts_four}
use native.Mathlib.Omega.{arith}
use Rattle.page.proofs.lines.set_page.Goals as goal

pub bytes-number-requires : goal.bytes-number-requires
bytes-number-requires c =
    omega (arith, c.requires, set-length c.args.set.now)

pub unsigned-end-requires : goal.unsigned-end-requires
unsigned-end-requires c =
    omega (arith, c.requires, set-length c.args.set.now, c.bytes-number.ensures.behind, c.bytes-number.auto.out)

pub byte-first-requires : goal.byte-first-requires
byte-first-requires c =
    omega (arith, c.requires, set-length c.args.set.now, c.bytes-number.ensures.behind, c.bytes-number.auto.out, c.unsigned-end.ensures.behind, c.unsigned-end.auto.out)

pub runs-requires : goal.runs-requires
runs-requires c =
    (omega arith, omega (arith, c.requires, set-length c.args.set.now, c.bytes-number.ensures.behind, c.bytes-number.auto.out, c.unsigned-end.ensures.behind, c.unsigned-end.auto.out, c.byte-first.ensures.behind, c.byte-first.auto.out))

pub returns : goal.returns
unfolding page
returns c =
    puts_four _ _ _ _ c.args.out.now _ _ _ _ 0 _ _ _ _ (omega (arith, c.requires)) c.bytes-number.ensures c.unsigned-end.ensures c.byte-first.ensures c.runs.ensures
