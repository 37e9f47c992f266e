-- The invariant: no kind before i lies there.
use Rattle.grammar.specs.Classes.{within}
use Rattle.text.proofs.TableLaws.{some_here, some_next, some_end}
use Rattle.text.proofs.table.some_kind.Goals as goal

pub returns-then-between : goal.returns-then-between
returns-then-between c = some_here (within c.args.low c.args.high) c.args.table.now c.args.n c.loop-i.i c.kind.result c.between.result c.loop-i-test.true c.kind.ensures c.between.ensures c.if-between.true

pub loop-i-preserved : goal.loop-i-preserved
loop-i-preserved c = some_next (within c.args.low c.args.high) c.args.table.now c.loop-i.i c.kind.result c.between.result c.kind.ensures c.between.ensures c.if-between.false c.loop-i.invariant

pub returns : goal.returns
returns c = some_end (within c.args.low c.args.high) c.args.table.now c.loop-i.i c.args.n c.loop-i.auto.i-end c.loop-i-test.false c.loop-i.invariant
