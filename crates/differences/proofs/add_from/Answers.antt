-- `add_from` meets its contract.
use mathlib.Core.Path.{refl, sym}
use Rattle.std.proofs.lemmas.Result.{IfOk-from_err}
use Rattle.differences.proofs.TurnLaws.{alone_extends}
use Rattle.differences.proofs.add_from.Goals as goal

pub returns-in_err-add : goal.returns-in_err-add
returns-in_err-add g c =
    alone_extends (g.P.Pairs.of c.args.pairs.now) c.args.x c.in-Some.next c.in-Some.ensures.0 c.in-Some.ensures.1 c.args.set.now _ _ _ (sym c.from_residual.ensures.0)
    (IfOk-from_err _ _ c.from_residual.ensures.0) c.in_err-add.ensures

pub returns-in-Some : goal.returns-in-Some
returns-in-Some g c =
    alone_extends (g.P.Pairs.of c.args.pairs.now) c.args.x c.in-Some.next c.in-Some.ensures.0 c.in-Some.ensures.1 c.args.set.now _ _ _ refl refl c.in_ok-add.ensures
