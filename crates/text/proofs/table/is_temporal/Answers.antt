-- The scan over the kinds says what the tree writes.
use Rattle.text.proofs.TableLaws.{temporal_yes, temporal-rest}
use Rattle.text.proofs.table.is_temporal.Goals as goal

pub returns-then-some_kind : goal.returns-then-some_kind
returns-then-some_kind c = λ t h. temporal_yes c.args.table.now c.args.n t h c.some_kind.result c.some_kind.ensures c.if-some_kind.true

pub returns-else-some_kind : goal.returns-else-some_kind
returns-else-some_kind c = λ t h. temporal-rest c.args.table.now c.args.n t h c.some_kind.result c.some_kind-else-some_kind.result c.some_kind.ensures c.if-some_kind.false c.some_kind-else-some_kind.ensures
