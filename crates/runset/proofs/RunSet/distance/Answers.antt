-- The invariant: the nearest is the least distance to the runs from number i on.
use Rattle.std.proofs.Common.{ℕ, ◌≡◌, ◌+◌, ◌-◌, ◌*◌, None, subst, ap, ◌∙◌, arith, drop, get_or}
use Rattle.runs.specs.Runs.{most_runs}
use Rattle.runs.specs.Set.{cuts_of, member}
use Rattle.slot.specs.inner.Gap.{gap_to, nearer_of}
use Rattle.runs.proofs.laws.Set.{cuts_there, valid_cuts}
use Rattle.slot.proofs.laws.Nearness.{Reaches, two_ascend, next_reach, first_reach, nearest_is}
use Rattle.runset.proofs.RunSet.distance.Goals as goal

pub loop-i-init : goal.loop-i-init
loop-i-init c =
    let n : get_or c.args.set.now (2 * most_runs) 0 ≡ 2 * c.count-i.result = omega (arith, valid_cuts c.args.set.now c.requires.0) in
    record {
      within = omega arith;
      reaches = subst (λ (k : ℕ). Reaches (drop k (cuts_of c.args.set.now)) c.args.v None) n
          (first_reach c.args.set.now (get_or c.args.set.now (2 * most_runs) 0) c.args.v (cuts_there c.args.set.now c.requires.0));
    }

pub gap-gap-requires : goal.gap-gap-requires
gap-gap-requires c =
    (omega (arith, (two_ascend c.args.set.now _ (2 * (c.loop-i.i - 1)) (cuts_there c.args.set.now c.requires.0) (omega arith) c.requires.0.canonical).2.0), c.requires.1)

pub loop-i-preserved : goal.loop-i-preserved
loop-i-preserved c =
    let k = 2 * (c.loop-i.i - 1) in
    let i : 2 * c.loop-i.i ≡ k + 2 = omega arith in
    let e : c.nearer.result ≡ nearer_of c.loop-i.nearest (gap_to (get_or c.args.set.now k 0) (get_or c.args.set.now (k + 1) 0) c.args.v) =
    c.nearer.ensures ∙ ap (nearer_of c.loop-i.nearest) c.gap-gap.ensures in
    record {
      within = omega arith;
      reaches = rw e (next_reach c.args.set.now (get_or c.args.set.now (2 * most_runs) 0) k (cuts_there c.args.set.now c.requires.0)
          (omega arith) c.requires.0.canonical c.args.v c.requires.1 c.loop-i.nearest (rw i at c.loop-i.invariant.reaches));
    }

pub returns : goal.returns
unfolding member
returns c =
    let e : c.loop-i.i ≡ 0 = omega (arith, c.loop-i-test.false) in
    nearest_is (cuts_of c.args.set.now) c.args.v c.requires.1 c.loop-i.nearest (rw e at c.loop-i.invariant.reaches)
