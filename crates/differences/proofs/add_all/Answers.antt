-- `add_all` meets its contract. The invariant: the set holds the part below d of its members and the seen numbers.
use native.Mathlib.Omega.{arith}
use mathlib.Core.Path.{refl, sym, ◌∙◌}
use Rattle.runs.proofs.laws.Set.{makes_failed}
use Rattle.differences.proofs.GatherLaws.{gathered_below}
use Rattle.differences.proofs.TurnLaws.{with_shown, shown-start, shown-more, shown-many, shown-end}
use Rattle.differences.proofs.add_all.Goals as goal

pub loop-d-init : goal.loop-d-init
loop-d-init c =
    shown-start c.args.set.now c.args.w.now c.args.x c.args.end c.requires.0 c.requires.1 (omega (arith, c.requires.2, c.requires.4))

pub place-t-requires : goal.place-t-requires
place-t-requires c = omega arith

pub bounds-w-t : goal.bounds-w-t
bounds-w-t c = omega (arith, c.place-t.ensures, c.loop-d-test.true, c.requires.3)

pub add_seen-requires : goal.add_seen-requires
add_seen-requires c =
    let f = with_shown c.args.set.now c.args.w.now c.args.x c.args.end in
    (c.loop-d.invariant.held.valid, gathered_below f c.loop-d.d c.loop-d.set c.loop-d.invariant, omega (arith, c.loop-d-test.true, c.requires.4))

pub shape_of-set-in_err-add_seen : goal.shape_of-set-in_err-add_seen
shape_of-set-in_err-add_seen c =
    c.add_seen.auto.set ∙ c.loop-d.invariant.held.valid.size ∙ sym c.requires.0.size

pub returns-in_err-add_seen : goal.returns-in_err-add_seen
returns-in_err-add_seen c =
    makes_failed _ _ _ _ (shown-many c.args.set.now c.args.w.now c.args.x c.args.end c.requires.0 c.requires.1 c.loop-d.d c.place-t.result c.loop-d.set _ _ c.loop-d.invariant
    (omega arith) c.loop-d-test.true c.requires.4 c.place-t.ensures c.in_err-add_seen.ensures refl) c.from_residual.ensures.0

pub loop-d-preserved : goal.loop-d-preserved
loop-d-preserved c =
    shown-more c.args.set.now c.args.w.now c.args.x c.args.end c.requires.0 c.requires.1 c.loop-d.d c.place-t.result c.loop-d.set _ _ c.loop-d.invariant
    (omega arith) c.loop-d-test.true c.requires.4 c.place-t.ensures c.in_ok-add_seen.ensures refl

pub shape_of-set : goal.shape_of-set
shape_of-set c =
    c.loop-d.invariant.held.valid.size ∙ sym c.requires.0.size

pub returns : goal.returns
returns c =
    shown-end c.args.set.now c.args.w.now c.args.x c.args.end c.requires.0 c.requires.1 c.loop-d.d c.loop-d.set (omega arith) c.loop-d-test.false c.loop-d.invariant
