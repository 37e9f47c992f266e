-- The answer of `band::band`, told: its place fits in the low half, and its ends are on the axis.
use Rattle.refusal.specs.declared.Refusal.{Refusal}
use Rattle.std.specs.Prelude.{Result}
use Prim.Native.Nat.{ℕ}
use mathlib.Core.Path.{◌≡◌, sym, subst}
use mathlib.Core.List.{List}
use lib.IntN.{ℤ}
use mir.Syntax.{w64}
use mir.ValLaws.{to_z-of_z}
use Rattle.refusal.specs.Outcome.{Outcome}
use Rattle.band.specs.Call.{band_of, outcome_of}
use Rattle.band.specs.Means.{Bands}
use Rattle.band.specs.declared.Bands.{Bands as CodeBands}
use Rattle.reply.specs.Reply.{InHalf}
use Rattle.boundary.specs.Boundary.{band_told}
use Rattle.boundary.specs.inner.Fits.{EndsIn}
use Rattle.boundary.proofs.laws.Boundary.{bands_same}
use Rattle.promises.proofs.laws.InHalf.{band_in_half, band_ends}
use borrow.Author.Rules.{rules}
use Rattle.promises.specs.Page as call
use Rattle.promises.specs.inner.Made.{four}
use Rattle.promises.proofs.laws.Computed.{every_call}
use Rattle.mill.proofs.mill_band.Goals as goal

-- the promise, of e itself
asked : (bytes text : List ℕ) (e h : ℤ) (x : Result CodeBands Refusal) → h ≡ e → outcome_of x ≡ band_of bytes text h → outcome_of x ≡ band_of bytes text e
asked bytes text e h x q a = subst (λ (z : ℤ). outcome_of x ≡ band_of bytes text z) q a

pub tell_bands-requires : goal.tell_bands-requires
tell_bands-requires c =
    let e = asked c.args.rec.now c.args.text.now c.args.e _ c.band-answer.result (to_z-of_z w64 c.args.e c.ranges.e) c.band-answer.ensures in (
      subst (λ (o : Outcome Bands). InHalf (band_told o)) (sym e) (band_in_half c.args.rec.now c.args.text.now c.args.e),
      subst EndsIn (sym e) (band_ends c.args.rec.now c.args.text.now c.args.e),
    )

pub returns : goal.returns
returns c =
    every_call (call.band c.args.text.now c.args.e) c.args.rec.now _ _ _
    (four (bands_same (asked c.args.rec.now c.args.text.now c.args.e _ c.band-answer.result (to_z-of_z w64 c.args.e c.ranges.e) c.band-answer.ensures) c.tell_bands.ensures))
