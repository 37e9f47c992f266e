-- Up to the greatest.
use Rattle.std.proofs.Common.{refl, arith}
use lib.ListN.{length-map}
use Rattle.recording.specs.Recording.{readings}
use Rattle.meaning.specs.inner.Coded.{code}
use Rattle.leaves.proofs.laws.Span.{spans_ext}
use Rattle.leaves.proofs.laws.Extreme.{high-upto}
use Rattle.recording.specs.Reading.{curve_of}
use Rattle.leaves.proofs.extremes.high.Goals as goal

pub extreme-requires : goal.extreme-requires
extreme-requires c = let s = c in (s.requires.0, s.requires.2)

pub upto-requires : goal.upto-requires
upto-requires c = c.extreme.ensures.inside refl

pub returns : goal.returns
returns c =
    let l = readings c.args.rec.now in
    spans_ext _ _ _ (high-upto (curve_of c.args.curve) l (omega (arith, c.requires.1, length-map l code)) c.extreme.result c.extreme.ensures) c.upto.ensures
