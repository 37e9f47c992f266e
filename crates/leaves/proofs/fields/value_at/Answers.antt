-- The bits of an accepted value and the origin, wrapped, are its index.
use Rattle.std.proofs.Common.{ℕ, ◌+◌, ◌%◌, ap, ◌∙◌, arith}
use Rattle.number.specs.Axis.{origin}
use Rattle.leaves.proofs.laws.Coding.{record_inside, value-field, value_range}
use Rattle.leaves.proofs.fields.value_at.Goals as goal

pub word_in-requires : goal.word_in-requires
word_in-requires c = let s = c in (record_inside s.args.rec.now s.requires.0 s.args.i s.requires.1, omega arith)

pub returns : goal.returns
returns c =
    let e = c.wrapping_add_u32.ensures.value ∙ ap (λ (x : ℕ). (x + origin) % 4294967296) c.word_in.ensures
    ∙ value-field c.args.rec.now c.requires.0 c.args.i c.requires.1 c.args.curve c.requires.2 in
    (e, omega (arith, e, (value_range c.args.rec.now c.requires.0 c.args.i c.requires.1 c.args.curve c.requires.2).1))
