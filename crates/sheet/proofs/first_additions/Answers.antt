-- `sheet::first_additions` meets its contract. The invariant: the table is that of the records from i on. Assumes nothing.
use mathlib.Core.Path.{◌≡◌, sym, subst, ◌∙◌}
use mathlib.Core.List.{List}
use Prim.Native.Nat.{ℕ, suc, ◌-◌, ◌/◌, ◌<◌}
use native.Mathlib.Omega.{arith}
use lib.ListN.{length, get_or}
use Rattle.recording.specs.Recording.{raw_at, readings}
use Rattle.recording.proofs.laws.Record.{length-readings}
use Rattle.sheet.specs.inner.Firsts.{FirstsFrom}
use Rattle.sheet.proofs.laws.Firsts.{pigment-at, pigment_few, firsts_start, firsts_turn, firsts_end}
use Rattle.sheet.proofs.first_additions.Goals as goal

pub loop-i-init : goal.loop-i-init
loop-i-init c =
    firsts_start (readings c.args.rec.now) c.args.n (c.requires.1 ∙ sym (length-readings c.args.rec.now))

pub bounds-first-pigment : goal.bounds-first-pigment
bounds-first-pigment c =
    omega (arith, pigment_few c.args.rec.now c.requires.0 (c.loop-i.i - 1) (omega arith))

pub loop-i-preserved : goal.loop-i-preserved
loop-i-preserved c =
    let rec : List ℕ = c.args.rec.now in
    let i : ℕ = c.loop-i.i - 1 in
    let inside : i < length rec / 16 = omega arith in
    let l = length-readings rec in
    let is : c.from-pigment.result ≡ get_or (raw_at rec i) 14 0 = c.from-pigment.ensures ∙ c.byte_in.ensures in
    let up : suc i ≡ c.loop-i.i = omega arith in
    firsts_turn (readings rec) i c.loop-i.first c.from-pigment.result
    (subst (λ (k : ℕ). FirstsFrom (readings rec) k c.loop-i.first) (sym up) c.loop-i.invariant) (omega arith)
    (sym (is ∙ pigment-at rec c.requires.0 i inside)) (omega (arith, pigment_few rec c.requires.0 i inside))

pub returns : goal.returns
returns c =
    let z : c.loop-i.i ≡ 0 = omega arith in
    firsts_end (readings c.args.rec.now) c.loop-i.first (subst (λ (k : ℕ). FirstsFrom (readings c.args.rec.now) k c.loop-i.first) z c.loop-i.invariant)
