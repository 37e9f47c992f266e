-- The set of differences between tops, where the tops are few enough.
use Rattle.std.specs.Prelude.{◌≡◌, ℕ, ◌<◌, ◌≤◌, Bool, true, false, List, length, Result, Ok, Err}
use Rattle.refusal.specs.declared.Refusal.{Refusal}
use Rattle.refusal.specs.declared.Refusal.TheVariants as refused
use Rattle.runs.specs.declared.TooManyRuns.{TooManyRuns}
use Rattle.runs.specs.Set.{Makes}
use Rattle.tops.specs.Tops.{most_tops}
use Rattle.leaves.specs.inner.Indices.{Indexed}
use Rattle.leaves.specs.declared.TooMany.{TooMany}
use Rattle.leaves.specs.declared.TooMany.TheVariants.{Tops, Runs}

-- the refusal of a call
abbrev pub refusal_of : TooMany → Refusal
refusal_of Tops = refused.TooManyTops
refusal_of Runs = refused.TooManyRuns

-- where the indices found are few enough, the first n of the array are they
abbrev pub FewIndexed : List ℕ → Result ℕ TooMany → List ℕ → Type 0
FewIndexed found (Ok n) new = (length found ≤ most_tops) × Indexed found n new
FewIndexed found (Err Tops) new = most_tops < length found
FewIndexed found (Err Runs) new = ⊥

-- a set that is made has too many runs or not
abbrev pub judged_runs : Result (Unit {0}) TooManyRuns → Result (Unit {0}) TooMany
judged_runs (Ok x) = Ok x
judged_runs (Err e) = Err Runs

-- too many tops, or not, and then the set of f
abbrev pub Differs : Bool → (ℕ → Bool) → List ℕ → Result (Unit {0}) TooMany → Type 0
Differs many f words (Err Tops) = many ≡ true
Differs many f words (Err Runs) = (many ≡ false) × ((e : TooManyRuns) × Makes {A = Unit {0}} f words (Err e))
Differs many f words (Ok x) = (many ≡ false) × Makes f words (Ok x)
