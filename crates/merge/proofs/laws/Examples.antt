-- Worked examples of the complement of a full set, by indices on the axis.
use Rattle.std.specs.Prelude.{ℕ, ◌*◌, ◌≡◌, refl, Bool, false, not, List, [], ◌∷◌, length}
use Rattle.std.proofs.Common.{ap, ◌∙◌, arith}
use Rattle.number.specs.Axis.{axis}
use Rattle.runs.specs.Runs.{run_count}
use Rattle.runs.specs.Set.{xor, inside, Canonical}
use Rattle.runs.specs.inner.Emit.{emit}
use Rattle.runs.proofs.laws.Runs.{cuts-count}
use Rattle.runs.proofs.laws.Set.{axis_canonical, axis-inside}
use Rattle.runs.proofs.laws.Examples.{runs_apart, apart}
use Rattle.merge.specs.inner.Merge.{merge_cuts}
use Rattle.merge.proofs.laws.Merge.{merged_inside, merged_canonical}

-- the number of runs of the complement
complement_count : (l : List ℕ) → Canonical l → length (merge_cuts xor false false (0 ∷ axis ∷ []) l) ≡ 2 * run_count (λ v. not (inside l v))
complement_count l c =
    cuts-count (λ v. not (inside l v)) (merge_cuts xor false false (0 ∷ axis ∷ []) l) (merged_canonical xor refl (0 ∷ axis ∷ []) l axis_canonical c)
    (λ v h. merged_inside xor refl (0 ∷ axis ∷ []) l axis_canonical c v ∙ ap (λ (b : Bool). xor b (inside l v)) (axis-inside v h))

-- 256 runs inside the axis: the complement has 257
full_inside : run_count (λ v. not (inside (runs_apart 256 5) v)) ≡ 257
unfolding merge_cuts emit runs_apart
full_inside = let e : 514 ≡ 2 * run_count (λ v. not (inside (runs_apart 256 5) v)) = complement_count (runs_apart 256 5) (apart 256 5 (omega arith)) in omega arith

-- 256 runs of which one begins with the axis: the complement has 256
full_at_the_end : run_count (λ v. not (inside (runs_apart 256 0) v)) ≡ 256
unfolding merge_cuts emit runs_apart
full_at_the_end = let e : 512 ≡ 2 * run_count (λ v. not (inside (runs_apart 256 0) v)) = complement_count (runs_apart 256 0) (apart 256 0 (omega arith)) in omega arith
