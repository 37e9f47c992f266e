-- The scan over the kinds says what the tree writes.
use Rattle.text.proofs.TableLaws.{listed_scan}
use Rattle.text.proofs.table.has_listed.Goals as goal

pub returns : goal.returns
returns c = λ t h. listed_scan c.args.table.now c.args.n t h c.some_kind.result c.some_kind.ensures
