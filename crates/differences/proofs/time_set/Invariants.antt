-- `time_set` meets its contract. The invariant: the set holds the times passed.
use Prim.Native.Nat.{ℕ}
use mathlib.Core.List.{List}
use Rattle.differences.specs.inner.Times.{time_set}
use Rattle.differences.proofs.GatherLaws.{Gathered}
use Rattle.differences.proofs.TimeLaws.{Parted}
use Rattle.differences.proofs.time_set.Given as goal

pub record Loop (l : List ℕ) (i : ℕ) (words : List ℕ) : Type 0 where
  pub x : ℕ
  pub parted : Parted l i x
  pub gathered : Gathered (time_set l) x words

abbrev pub invariant-loop-at : goal.invariant-loop-at
invariant-loop-at l = Loop l.t l.at-index l.set
