-- Refused by 16, or by the text.
use Rattle.evaluation.specs.inner.Evaluation.{text_of}
use Rattle.meaning.specs.inner.Coded.{coded}
use Rattle.band.proofs.laws.Call.{width_below, width_over, width_good}
use Rattle.band.proofs.at_index.Goals as goal

pub returns-then-index-lt-ORIGIN : goal.returns-then-index-lt-ORIGIN
returns-then-index-lt-ORIGIN c =
    width_below (text_of c.args.table.now c.args.count) (coded c.args.rec.now) c.args.index c.if-index-lt-ORIGIN.true

pub returns-then-e-gt-WIDEST : goal.returns-then-e-gt-WIDEST
returns-then-e-gt-WIDEST c =
    width_over (text_of c.args.table.now c.args.count) (coded c.args.rec.now) c.args.index c.if-index-lt-ORIGIN.false c.if-e-gt-WIDEST.true

pub of_text-requires : goal.of_text-requires
of_text-requires c = (c.requires, c.if-e-gt-WIDEST.false)

pub returns : goal.returns
returns c =
    width_good (text_of c.args.table.now c.args.count) (coded c.args.rec.now) c.args.index c.if-index-lt-ORIGIN.false c.if-e-gt-WIDEST.false _ c.of_text.ensures
