-- One byte is stored.
use Rattle.page.proofs.laws.Puts.{puts_byte}
use Rattle.page.proofs.put.byte.Goals as goal

pub returns : goal.returns
returns c = puts_byte c.args.out.now c.args.at c.args.b c.requires
