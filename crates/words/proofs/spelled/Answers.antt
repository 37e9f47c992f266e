-- The invariant: the word stands there just if its rest stands behind the bytes passed.
use mathlib.Core.Path.{refl}
use Rattle.words.proofs.WordLaws.{spelled_start, spelled_step, spelled_stop, spelled_end}
use Rattle.words.proofs.spelled.Goals as goal

pub loop-i-init : goal.loop-i-init
loop-i-init c = spelled_start c.args.text.now c.args.at c.args.word.now

pub returns-then-peek-word : goal.returns-then-peek-word
returns-then-peek-word c = spelled_stop c.args.text.now c.args.at c.args.word.now c.loop-i.i c.loop-i-test.true c.peek.result _ c.peek.ensures refl c.if-peek-word.true c.loop-i.invariant

pub loop-i-preserved : goal.loop-i-preserved
loop-i-preserved c = spelled_step c.args.text.now c.args.at c.args.word.now c.loop-i.i c.loop-i-test.true c.peek.result _ c.peek.ensures refl c.if-peek-word.false c.loop-i.invariant

pub returns : goal.returns
returns c = spelled_end c.args.text.now c.args.at c.args.word.now c.loop-i.i c.loop-i-test.false c.loop-i.invariant
