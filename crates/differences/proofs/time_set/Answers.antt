-- `time_set` meets its contract. The invariant: the set holds the times passed.
use Prim.Native.Nat.{ℕ, ◌≤◌, ◌<◌, ◌+◌}
use native.Mathlib.Omega.{arith}
use mathlib.Core.Path.{◌≡◌, refl, sym, ◌∙◌}
use mathlib.Core.Bool.{true, false, ◌&&◌, ◌||◌}
use mathlib.Core.List.{List}
use lib.Dec.{leb}
use lib.ListN.{length, get_or}
use Rattle.number.specs.Axis.{axis}
use Rattle.std.specs.Prelude.{Result, Ok}
use Rattle.std.specs.Result.{is_err}
use Rattle.runs.specs.declared.TooManyRuns.{TooManyRuns}
use Rattle.runs.proofs.laws.Set.{makes_failed}
use Rattle.runs.specs.Set.{member, Holds, Makes}
use Rattle.differences.specs.inner.Sweep.{Least}
use Rattle.differences.specs.inner.Times.{Times, time_set}
use Rattle.differences.proofs.GatherLaws.{gathered_none, gathered_end, gathered_behind, gathered_run, gathered_over}
use Rattle.differences.proofs.TimeLaws.{parted_start, nothing_left, on-axis, time-least, alone, parted_on}
use Rattle.differences.proofs.time_set.Invariants.{Loop}
use Rattle.differences.proofs.time_set.Goals as goal

start : (l words : List ℕ) → Holds (λ v. false) words → Loop l 0 words
start l words w = record { x = 0; parted = parted_start l; gathered = gathered_none (time_set l) 0 words (omega arith) (λ v k. absurd (omega arith)) w }

module _ (l : List ℕ) (t : Times l) (i : ℕ) (words : List ℕ) (h : Loop l i words) where
  done : length l ≤ i → {A : Type 0} {a : A} → Makes (time_set l) words (Ok a)
  done k = gathered_end (time_set l) h.x words h.gathered (nothing_left l i h.x h.parted k)

  module _ (k : i < length l) where
    first : Least (time_set l) h.x (get_or l i 0)
    first = time-least l t i h.x h.parted k

    here : get_or l i 0 < axis
    here = on-axis l t i h.x h.parted k

    full : (v : ℕ) → get_or l i 0 ≤ v → v < get_or l i 0 + 1 → time_set l v ≡ true
    full = alone l t i h.x h.parted k

    below : (v : ℕ) → v < axis → member words v ≡ true → v < get_or l i 0
    below = gathered_behind (time_set l) h.x words h.gathered (get_or l i 0) (get_or l i 0) (get_or l i 0 + 1) refl first (omega arith) (omega (arith, here)) full

    module _ {A : Type 0} (after : List ℕ) (r : Result A TooManyRuns) (m : Makes (λ v. member words v || (leb (get_or l i 0) v && leb v (get_or l i 0))) after r) where
      turn : is_err r ≡ false → Loop l (i + 1) after
      turn o = record {
        x = get_or l i 0 + 1;
        parted = parted_on l t i h.x h.parted k;
        gathered = gathered_run (time_set l) h.x words h.gathered (get_or l i 0) (get_or l i 0) (get_or l i 0 + 1) refl first (omega arith) (omega (arith, here)) full after r m o;
      }

      too_many : is_err r ≡ true → Makes (time_set l) after r
      too_many o = gathered_over (time_set l) h.x words h.gathered (get_or l i 0) (get_or l i 0) (get_or l i 0 + 1) refl first (omega arith) (omega (arith, here)) full after r m o

pub empty-requires : goal.empty-requires
empty-requires c = c.requires.1

pub loop-at-init : goal.loop-at-init
loop-at-init c = let s = c in start s.args.t.now _ c.empty.ensures

pub add-requires : goal.add-requires
add-requires c =
    let b = below c.args.t.now c.requires.0 c.loop-at.at-index c.loop-at.set c.loop-at.invariant c.loop-at-test.true in
    (c.loop-at.invariant.gathered.held.valid, b, omega arith, here c.args.t.now c.requires.0 c.loop-at.at-index c.loop-at.set c.loop-at.invariant c.loop-at-test.true)

pub shape_of-set-in_err-add : goal.shape_of-set-in_err-add
shape_of-set-in_err-add c = let s = c in c.add.auto.set ∙ c.loop-at.invariant.gathered.held.valid.size ∙ sym s.requires.1

pub returns-in_err-add : goal.returns-in_err-add
returns-in_err-add c =
    makes_failed _ _ _ _ (too_many c.args.t.now c.requires.0 c.loop-at.at-index c.loop-at.set c.loop-at.invariant c.loop-at-test.true _ _ c.in_err-add.ensures refl) c.from_residual.ensures.0

pub loop-at-preserved : goal.loop-at-preserved
loop-at-preserved c =
    turn c.args.t.now c.requires.0 c.loop-at.at-index c.loop-at.set c.loop-at.invariant c.loop-at-test.true _ _ c.in_ok-add.ensures refl

pub shape_of-set : goal.shape_of-set
shape_of-set c = let s = c in c.loop-at.invariant.gathered.held.valid.size ∙ sym s.requires.1

pub returns : goal.returns
returns c =
    done c.args.t.now c.requires.0 c.loop-at.at-index c.loop-at.set c.loop-at.invariant c.loop-at-test.false
