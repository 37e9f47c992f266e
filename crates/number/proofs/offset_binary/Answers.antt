-- `number::offset_binary` meets its contract. The definition opens. Assumes nothing.
use Rattle.number.specs.Words.{offset_binary}
use Rattle.std.proofs.Common.{rules}
use Rattle.number.proofs.offset_binary.Goals as goal

pub returns : goal.returns
unfolding offset_binary
returns c = search rules
