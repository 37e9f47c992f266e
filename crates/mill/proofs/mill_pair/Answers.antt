-- The answer of `pair::pair`, told: its place fits in the low half.
use Rattle.refusal.specs.declared.Refusal.{Refusal}
use Rattle.std.specs.Prelude.{Result, Option}
use Prim.Native.Nat.{ℕ}
use mathlib.Core.Path.{◌≡◌, sym, subst}
use mathlib.Core.List.{List}
use lib.IntN.{ℤ}
use mir.Syntax.{w64}
use mir.ValLaws.{to_z-of_z}
use Rattle.refusal.specs.Outcome.{Outcome}
use Rattle.pair.specs.Pair.{Given, outcome_of, pair_of}
use Rattle.pair.specs.declared.TopPair.{TopPair}
use Rattle.reply.specs.Reply.{InHalf}
use Rattle.boundary.specs.Boundary.{pair_told}
use Rattle.boundary.proofs.laws.Boundary.{pairs_same}
use Rattle.promises.proofs.laws.InHalf.{pair_in_half}
use borrow.Author.Rules.{rules}
use Rattle.promises.specs.Page as call
use Rattle.promises.specs.inner.Made.{two}
use Rattle.promises.proofs.laws.Computed.{every_call}
use Rattle.mill.proofs.mill_pair.Goals as goal

-- the promise, of the target itself
asked : (bytes : List ℕ) (curve : ℕ) (g h : ℤ) (p : Result (Option TopPair) Refusal) → h ≡ g → outcome_of p ≡ pair_of bytes curve h → outcome_of p ≡ pair_of bytes curve g
asked bytes curve g h p e a = subst (λ (z : ℤ). outcome_of p ≡ pair_of bytes curve z) e a

pub tell_pair-requires : goal.tell_pair-requires
tell_pair-requires c =
    let e = asked c.args.rec.now c.args.curve c.args.target _ c.pair-found.result (to_z-of_z w64 c.args.target c.ranges.target) c.pair-found.ensures in
    subst (λ (o : Outcome Given). InHalf (pair_told o)) (sym e) (pair_in_half c.args.rec.now c.args.curve c.args.target)

pub returns : goal.returns
returns c =
    every_call (call.pair c.args.curve c.args.target) c.args.rec.now _ _ _
    (two (pairs_same (asked c.args.rec.now c.args.curve c.args.target _ c.pair-found.result (to_z-of_z w64 c.args.target c.ranges.target) c.pair-found.ensures) c.tell_pair.ensures))
