-- By where the number lies against the axis.
use Rattle.std.proofs.Common.{ap, ◌∙◌}
use Rattle.number.specs.Words.{offset_binary}
use Rattle.runset_c.proofs.Loading.{index_below, index-from}
use Rattle.runset_c.proofs.index_at.Goals as goal

pub returns-then-t-lt-SHIFT : goal.returns-then-t-lt-SHIFT
returns-then-t-lt-SHIFT c =
    index_below c.args.s.now c.args.at _ (c.offset_binary-t.ensures ∙ ap offset_binary c.word_at.ensures) c.if-t-lt-SHIFT.true

pub returns : goal.returns
returns c =
    c.min.ensures ∙ index-from c.args.s.now c.args.at _ (c.offset_binary-t.ensures ∙ ap offset_binary c.word_at.ensures) c.if-t-lt-SHIFT.false
