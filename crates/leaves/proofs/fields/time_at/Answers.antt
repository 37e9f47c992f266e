-- The time of an accepted record, and the origin.
use Rattle.std.proofs.Common.{ℕ, ◌+◌, ap, ◌∙◌, arith}
use Rattle.number.specs.Axis.{origin}
use Rattle.leaves.proofs.laws.Coding.{record_inside, time-field, time_most}
use Rattle.leaves.proofs.fields.time_at.Goals as goal

pub word_in-requires : goal.word_in-requires
word_in-requires c = let s = c in (record_inside s.args.rec.now s.requires.0 s.args.i s.requires.1, omega arith)

pub overflow_add-result : goal.overflow_add-result
overflow_add-result c = let s = c in omega (arith, c.word_in.ensures, time_most s.args.rec.now s.requires.0 s.args.i s.requires.1)

pub returns : goal.returns
returns c = (
  ap (λ (x : ℕ). x + origin) c.word_in.ensures ∙ time-field c.args.rec.now c.requires.0 c.args.i c.requires.1,
  omega (arith, c.word_in.ensures, time_most c.args.rec.now c.requires.0 c.args.i c.requires.1),
)
