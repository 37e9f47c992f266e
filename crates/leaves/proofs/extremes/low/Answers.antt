-- From the least on.
use Rattle.std.proofs.Common.{arith}
use lib.ListN.{length-map}
use Rattle.recording.specs.Recording.{readings}
use Rattle.meaning.specs.inner.Coded.{code}
use Rattle.leaves.proofs.laws.Span.{spans_ext}
use Rattle.leaves.proofs.laws.Extreme.{low-from}
use Rattle.recording.specs.Reading.{curve_of}
use Rattle.leaves.proofs.extremes.low.Goals as goal

pub extreme-requires : goal.extreme-requires
extreme-requires c = let s = c in (s.requires.0, s.requires.2)

pub returns : goal.returns
returns c =
    let l = readings c.args.rec.now in
    spans_ext _ _ _ (low-from (curve_of c.args.curve) l (omega (arith, c.requires.1, length-map l code)) c.extreme.result c.extreme.ensures) c.from.ensures
