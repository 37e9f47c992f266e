-- `report_state::add` meets its contract. Assumes nothing.
use mathlib.Core.Path.{ap, ◌∙◌}
use Rattle.report.specs.inner.Running.{Addition}
use Rattle.report_state.specs.State.{add_after}
use Rattle.report_state.proofs.laws.Add.{fine_of}
use Rattle.report_state.proofs.laws.Tell.{same_told}
use borrow.Author.Rules.{rules}
use Rattle.report_state.proofs.add.Goals as goal

pub remember-requires : goal.remember-requires
remember-requires c =
    (fine_of c.args.buffer.now c.args.rec.now _ c.added-a.ensures).writable

pub tell-requires : goal.tell-requires
tell-requires c =
    (fine_of c.args.buffer.now c.args.rec.now _ c.added-a.ensures).tellable

pub returns : goal.returns
returns c =
    record {
      told = same_told c.args.met.now c.args.empty.now c.args.distances.now c.args.mean.now _ _ _ _ _ _ _ c.added-a.ensures c.tell.ensures;
      state = c.remember.ensures ∙ ap (λ (x : Addition). add_after x c.args.buffer.now) c.added-a.ensures;
    }
