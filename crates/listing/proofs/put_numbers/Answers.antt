-- After i entries, the numbers of those that reach the level are written.
use native.Mathlib.Omega.{arith}
use Rattle.listing.proofs.laws.Listing.{writing-room, writing-turn, writing-end, counting_end, count_few}
use borrow.Author.Rules.{rules}
use Rattle.listing.proofs.put_numbers.Invariants.{says}
use Rattle.listing.proofs.put_numbers.Goals as goal

pub put_number-k-requires : goal.put_number-k-requires
put_number-k-requires c =
    let p = says c.args.summary.now c.args.curve c.args.index in (
      omega (arith, c.loop-i-test.true, c.requires.1),
      omega (arith, c.loop-i.invariant.counting.count, c.loop-i.invariant.counting.inside, count_few p 0 c.loop-i.i, c.requires.1),
      writing-room p c.args.n c.args.out.now c.loop-i.i c.loop-i.k c.loop-i.out c.reaches_level-wanted.result c.loop-i-test.true c.requires.4 c.loop-i.invariant c.reaches_level-wanted.ensures,
    )

pub loop-i-preserved : goal.loop-i-preserved
loop-i-preserved c =
    writing-turn (says c.args.summary.now c.args.curve c.args.index) c.args.n c.args.out.now c.loop-i.i c.loop-i.k c.loop-i.out c.reaches_level-wanted.result c.put_number-k.result c.put_number-k.new.out
    c.loop-i-test.true c.loop-i.invariant c.reaches_level-wanted.ensures c.put_number-k.ensures.0 (search rules) c.put_number-k.ensures.1

pub returns : goal.returns
returns c =
    let p = says c.args.summary.now c.args.curve c.args.index in (
      counting_end p c.args.n c.loop-i.i c.loop-i.k c.loop-i-test.false c.loop-i.invariant.counting,
      writing-end p c.args.n c.args.out.now c.loop-i.i c.loop-i.k c.loop-i.out c.loop-i-test.false c.loop-i.invariant,
    )
