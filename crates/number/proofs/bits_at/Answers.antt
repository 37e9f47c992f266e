-- The result wraps back to the index when the origin is added, and so do the bits.
use Rattle.std.proofs.Common.{sym, ◌∙◌, arith, rules}
use Rattle.number.proofs.laws.Words.{bits-whole}
use Rattle.number.proofs.bits_at.Goals as goal

pub returns : goal.returns
returns c =
    let n = c.args.index in
    sym (bits-whole n c.requires ∙ omega arith)
