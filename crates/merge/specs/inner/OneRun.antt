-- One run as cuts, and what an operation on two runs promises.
use Rattle.std.specs.Prelude.{ℕ, ◌≡◌, Bool, false, cond, List, [], ◌∷◌, ltb, Option}
use Rattle.std.specs.Option.{IfSome}
use Rattle.merge.specs.inner.Merge.{merge_cuts}
use Rattle.merge.specs.declared.run.Run.{Run}

-- the cuts of the numbers from low on and before end
unfoldable pub run_cuts : ℕ → ℕ → List ℕ
run_cuts low end = cond (ltb low end) (low ∷ end ∷ []) []

-- if it is known, f of two sets is this run
pub record OneRun (f : Bool → Bool → Bool) (a b : List ℕ) (r : Option Run) : Type 0 where
  pub cuts : IfSome r (λ run. merge_cuts f false false a b ≡ run_cuts run.low run.end)
