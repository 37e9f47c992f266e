-- A table of sets, a slot to each node.
use Rattle.std.specs.Prelude.{ℕ, ◌*◌, ◌≡◌, Bool, false, List, ltb, length, take, drop, Result}
use Rattle.std.specs.Result.{is_err}
use Rattle.runs.specs.declared.TooManyRuns.{TooManyRuns}
use Rattle.runs.specs.Runs.{most_runs, run_count}
use Rattle.runs.specs.Set.{slot_words, Holds}
use Rattle.grammar.specs.Size.{most_nodes}

-- the words of slot m
unfoldable pub slot : List ℕ → ℕ → List ℕ
slot sets m = take slot_words (drop (slot_words * m) sets)

-- a table with a slot for each node that a text may have
abbrev pub Sized : List ℕ → Type 0
Sized sets = length sets ≡ slot_words * most_nodes

-- the table `after` differs from `before` in slot m alone
abbrev pub Elsewhere : List ℕ → List ℕ → ℕ → Type 0
Elsewhere before after m = (k : ℕ) → (k ≡ m → ⊥) → slot after k ≡ slot before k

-- WHAT PUTTING A SET INTO SLOT m PROMISES: an error if and only if the members f lie in too many maximal runs; else the slot holds the set with these members
pub record Puts (f : ℕ → Bool) (before after : List ℕ) (m : ℕ) (over : Result (Unit {0}) TooManyRuns) : Type 0 where
  pub flag : is_err over ≡ ltb most_runs (run_count f)
  pub here : is_err over ≡ false → Holds f (slot after m)
  pub elsewhere : is_err over ≡ false → Elsewhere before after m
