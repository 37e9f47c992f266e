-- From the greatest on; all where there is no record.
use Rattle.meaning.specs.inner.Coded.{coded}
use Rattle.leaves.proofs.laws.Span.{spans_ext}
use Rattle.leaves.proofs.laws.Extreme.{capafter_from}
use Rattle.recording.specs.Reading.{curve_of}
use Rattle.leaves.proofs.extremes.capafter.Goals as goal

pub extreme-requires : goal.extreme-requires
extreme-requires c = let s = c in (s.requires.0, s.requires.1)

pub returns : goal.returns
returns c =
    spans_ext _ _ _ (λ v h. capafter_from (curve_of c.args.curve) c.args.after (coded c.args.rec.now) c.extreme.result v h c.extreme.ensures) c.from.ensures
