-- `report_state::tell` meets its contract. Assumes nothing.
use mathlib.Core.Path.{ap, subst}
use Rattle.refusal.specs.declared.Refusal.TheVariants.{NoReport}
use Rattle.report.specs.declared.Added.{Added}
use Rattle.report.specs.inner.Running.{addition_of, answer_in}
use Rattle.report_state.specs.inner.Kept.{Tellable}
use Rattle.report_state.proofs.laws.Tell.{refusal_told, taken_told, last-told}
use borrow.Author.Rules.{rules}
use Rattle.report_state.proofs.tell.Goals as goal

pub refused-requires-in-Stopped : goal.refused-requires-in-Stopped
refused-requires-in-Stopped c =
    subst (λ (x : Added). Tellable (addition_of x)) c.in-Stopped.is c.requires

pub give-requires : goal.give-requires
give-requires c =
    subst (λ (x : Added). Tellable (addition_of x)) c.in-Last.is c.requires

pub returns-in-Nothing : goal.returns-in-Nothing
returns-in-Nothing c =
    refusal_told c.args.met.now c.args.empty.now c.args.distances.now c.args.mean.now (addition_of c.args.a) NoReport c.refused.result (ap (λ (x : Added). answer_in (addition_of x)) c.in-Nothing.is) c.refused.ensures

pub returns-in-Stopped : goal.returns-in-Stopped
returns-in-Stopped c =
    refusal_told c.args.met.now c.args.empty.now c.args.distances.now c.args.mean.now (addition_of c.args.a) c.in-Stopped.x c.refused-in-Stopped.result (ap (λ (x : Added). answer_in (addition_of x)) c.in-Stopped.is) c.refused-in-Stopped.ensures

pub returns-in-Taken : goal.returns-in-Taken
returns-in-Taken c =
    taken_told c.args.met.now c.args.empty.now c.args.distances.now c.args.mean.now (addition_of c.args.a) _ (ap addition_of c.in-Taken.is)

pub returns-in-Last : goal.returns-in-Last
returns-in-Last c =
    last-told c.args.met.now c.args.empty.now c.args.distances.now c.args.mean.now (addition_of c.args.a) c.in-Last.r _ _ _ _ _ (ap addition_of c.in-Last.is) c.give.ensures
