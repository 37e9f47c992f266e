-- The digits are those that `io::decimal` gives, the fewest.
use Rattle.page.proofs.laws.Decimal.{decimal_is}
use Rattle.page.proofs.laws.Puts.{puts_same}
use lib.ListN.{length}
use mathlib.Core.Path.{ap, ◌∙◌}
use native.Mathlib.Omega.{arith}
use Rattle.page.proofs.numbers.unsigned.Goals as goal

pub bytes-requires : goal.bytes-requires
bytes-requires c =
    omega (arith, c.requires, ap length (c.decimal-k.ensures.digits ∙ decimal_is c.args.n c.decimal-k.result c.decimal-k.ensures.len))

pub returns : goal.returns
returns c =
    puts_same (c.decimal-k.ensures.digits ∙ decimal_is c.args.n c.decimal-k.result c.decimal-k.ensures.len) c.bytes.ensures
