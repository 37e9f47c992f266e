-- `report_state::start` meets its contract. Assumes nothing.
use Rattle.refusal.specs.declared.Refusal.{Refusal}
use Rattle.std.specs.Prelude.{Result}
use Rattle.refusal.specs.Outcome.{reported}
use Prim.Native.Nat.{ℕ}
use mathlib.Core.Path.{◌≡◌, subst}
use mathlib.Core.List.{List}
use lib.IntN.{ℤ}
use lib.ListN.{length}
use mir.Syntax.{w64}
use mir.ValLaws.{to_z-of_z}
use Rattle.report.specs.inner.Naming.{naming}
use Rattle.report_state.specs.Call.{named_index}
use Rattle.report_state.proofs.laws.Start.{start-room, start-place, start-begun, start_refused}
use borrow.Author.Rules.{rules}
use Rattle.report_state.proofs.start.Goals as goal

-- the promise, of the target itself
asked : (n : ℕ) (text : List ℕ) (g h : ℤ) (room : ℕ) (x : Result ℕ Refusal) → h ≡ g → reported x ≡ named_index (naming n text h) room → reported x ≡ named_index (naming n text g) room
asked n text g h room x e a = subst (λ (z : ℤ). reported x ≡ named_index (naming n text z) room) e a

pub begin-requires : goal.begin-requires
begin-requires c =
    let n = naming c.args.count c.args.text.now c.args.target in
    let h = asked c.args.count c.args.text.now c.args.target _ (length c.args.buffer.now) c.name-named.result (to_z-of_z w64 c.args.target c.ranges.target) c.name-named.ensures in
    start-room n c.args.buffer.now _ h _ c.in-Ok.is

pub refused-requires : goal.refused-requires
refused-requires c =
    let n = naming c.args.count c.args.text.now c.args.target in
    let h = asked c.args.count c.args.text.now c.args.target _ (length c.args.buffer.now) c.name-named.result (to_z-of_z w64 c.args.target c.ranges.target) c.name-named.ensures in
    start-place n c.args.buffer.now _ h _ c.in-Err.is

pub returns-in-Ok : goal.returns-in-Ok
returns-in-Ok c =
    let n = naming c.args.count c.args.text.now c.args.target in
    let h = asked c.args.count c.args.text.now c.args.target _ (length c.args.buffer.now) c.name-named.result (to_z-of_z w64 c.args.target c.ranges.target) c.name-named.ensures in
    start-begun n c.args.buffer.now _ h _ _ c.in-Ok.is c.begin.ensures

pub returns-in-Err : goal.returns-in-Err
returns-in-Err c =
    let n = naming c.args.count c.args.text.now c.args.target in
    let h = asked c.args.count c.args.text.now c.args.target _ (length c.args.buffer.now) c.name-named.result (to_z-of_z w64 c.args.target c.ranges.target) c.name-named.ensures in
    start_refused n c.args.buffer.now _ h _ c.refused.result _ c.in-Err.is c.refused.ensures c.end.ensures
