-- `report::add` meets its contract. Assumes nothing.
use mathlib.Core.Path.{sym, ◌∙◌}
use lib.Dec.{leb}
use borrow.Author.Tests.{leb-false}
use Rattle.number.specs.Axis.{axis}
use Rattle.number.proofs.laws.Boolean.{none_left, none_right}
use Rattle.report.specs.inner.Running.{faulty}
use Rattle.report.proofs.laws.Running.{unsound_none, sound_added, sound_of, small_reached}
use borrow.Author.Rules.{rules}
use Rattle.report.proofs.add.Goals as goal

pub returns-then-is_unsound : goal.returns-then-is_unsound
returns-then-is_unsound c =
    unsound_none c.args.r c.args.rec.now c.args.text.now c.args.index (sym c.is_unsound.ensures ∙ c.if-is_unsound.true)

pub distance_at-reached-requires : goal.distance_at-reached-requires
distance_at-reached-requires c =
    leb-false axis c.args.index (none_left (leb axis c.args.index) (faulty c.args.r) (sym c.is_unsound.ensures ∙ c.if-is_unsound.false))

pub with_reached-requires : goal.with_reached-requires
with_reached-requires c =
    let h = sym c.is_unsound.ensures ∙ c.if-is_unsound.false in
    (sound_of c.args.r (none_right (leb axis c.args.index) (faulty c.args.r) h), small_reached c.args.rec.now c.args.text.now c.args.index _ c.distance_at-reached.ensures)

pub returns : goal.returns
returns c =
    sound_added c.args.r c.args.rec.now c.args.text.now c.args.index (sym c.is_unsound.ensures ∙ c.if-is_unsound.false) _ c.distance_at-reached.ensures _ c.with_reached.ensures
