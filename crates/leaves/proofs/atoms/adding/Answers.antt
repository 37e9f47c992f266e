-- One test for all numbers.
use Rattle.std.proofs.Common.{sym, ap, ◌∙◌}
use Rattle.recording.specs.Recording.{raw_at, reading}
use Rattle.meaning.specs.inner.Coded.{coded_adds}
use Rattle.meaning.proofs.laws.Listed.{adds-code}
use Rattle.leaves.proofs.laws.Coding.{coded-at, record_inside}
use Rattle.leaves.proofs.atoms.adding.Goals as goal

pub is_added-requires : goal.is_added-requires
is_added-requires c = let s = c in record_inside s.args.rec.now s.requires.0 s.args.i s.requires.1

pub returns : goal.returns
returns c =
    λ n. c.is_added.ensures ∙ sym (adds-code c.args.k (reading (raw_at c.args.rec.now c.args.i)))
    ∙ ap (coded_adds c.args.k) (sym (coded-at c.args.rec.now c.args.i c.requires.1))
