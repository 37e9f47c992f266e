-- The answer of `listing::find`, packed: it fits in the low half.
use Rattle.refusal.specs.declared.Refusal.{Refusal}
use Rattle.std.specs.Prelude.{Result}
use Prim.Native.Nat.{ℕ}
use mathlib.Core.Path.{◌≡◌, sym, subst}
use mathlib.Core.List.{List}
use lib.IntN.{ℤ}
use lib.ListN.{length}
use mir.Syntax.{w64}
use mir.ValLaws.{to_z-of_z}
use borrow.Author.Rules.{rules}
use Rattle.recording.specs.Output.{Answers}
use Rattle.listing.specs.Call.{find_of}
use Rattle.reply.specs.Reply.{InHalf}
use Rattle.promises.proofs.laws.InHalf.{find_in_half}
use Rattle.boundary.proofs.laws.Boundary.{writes}
use Rattle.promises.specs.Page as call
use Rattle.promises.proofs.laws.Computed.{every_call}
use Rattle.mill.proofs.mill_find.Goals as goal

-- the promise, of the level itself
asked : (summary : List ℕ) (curve : ℕ) (g h : ℤ) (out : List ℕ) (w : Result ℕ Refusal) (new : List ℕ) → h ≡ g → Answers (find_of summary curve h (length out)) out w new
    → Answers (find_of summary curve g (length out)) out w new
asked summary curve g h out w new e a = subst (λ (z : ℤ). Answers (find_of summary curve z (length out)) out w new) e a

pub written-requires : goal.written-requires
written-requires c =
    let e = asked c.args.entries.now c.args.curve c.args.level _ c.args.out.now c.find-written.result c.find-written.new.out (to_z-of_z w64 c.args.level c.ranges.level) c.find-written.ensures in
    subst InHalf (sym e.answer) (find_in_half c.args.entries.now c.args.curve c.args.level (length c.args.out.now))

pub returns : goal.returns
returns c =
    let e = asked c.args.entries.now c.args.curve c.args.level _ c.args.out.now c.find-written.result c.find-written.new.out (to_z-of_z w64 c.args.level c.ranges.level) c.find-written.ensures in
    every_call (call.find c.args.curve c.args.level) c.args.entries.now c.args.out.now _ _
    (writes (find_of c.args.entries.now c.args.curve c.args.level (length c.args.out.now)) c.args.out.now c.find-written.result c.find-written.new.out c.written.result e c.written.ensures)
