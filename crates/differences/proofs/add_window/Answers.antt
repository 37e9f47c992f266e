-- `add_window` meets its contract.
use mathlib.Core.Path.{refl, sym}
use Rattle.std.proofs.lemmas.Result.{IfOk-from_err}
use mathlib.Core.Bool.{false}
use lib.ListN.{replicate, length-replicate}
use Rattle.differences.specs.inner.Sweep.{window_size}
use Rattle.differences.proofs.TurnLaws.{window_extends}
use Rattle.differences.proofs.add_window.Goals as goal

pub sweep-s-requires : goal.sweep-s-requires
sweep-s-requires g c = (c.requires.0, c.requires.1, length-replicate window_size false)

pub add_all-requires : goal.add_all-requires
add_all-requires g c =
    (c.requires.2, c.requires.3, c.sweep-s.ensures.0.low, c.sweep-s.ensures.0.few, c.sweep-s.ensures.0.on-axis)

pub returns-in_err-add_all : goal.returns-in_err-add_all
returns-in_err-add_all g c =
    window_extends (g.P.Pairs.of c.args.pairs.now) c.args.x c.sweep-s.result.end c.sweep-s.result.next (replicate window_size false) _ c.sweep-s.ensures.0 c.sweep-s.ensures.1 refl c.requires.1
    c.args.set.now _ _ _ (sym c.from_residual.ensures.0) (IfOk-from_err _ _ c.from_residual.ensures.0) c.in_err-add_all.ensures

pub returns : goal.returns
returns g c =
    window_extends (g.P.Pairs.of c.args.pairs.now) c.args.x c.sweep-s.result.end c.sweep-s.result.next (replicate window_size false) _ c.sweep-s.ensures.0 c.sweep-s.ensures.1 refl c.requires.1
    c.args.set.now _ _ _ refl refl c.in_ok-add_all.ensures
