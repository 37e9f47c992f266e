-- Word by word: the first i are copied, the others as they were.
use Prim.Native.Nat.{ℕ, suc, ◌+◌, ◌-◌, ◌≤◌, ◌<◌}
use mathlib.Core.Path.{◌≡◌, refl, sym, ap, ap₂, ◌∙◌}
use mathlib.Core.List.{List, [], ◌∷◌, ◌++◌, append_assoc, append-nil}
use native.Mathlib.Omega.{arith}
use native.Mathlib.Numerals.{add-one}
use lib.ListN.{length, take, drop, get_or, set, length-set, take-append-drop}
use lib.Seq.{take-length, take-suc, take-suc-set, drop-set-lt, drop-drop}
use borrow.Author.Rules.{rules}
use Rattle.slot.proofs.copy.Given as goal

-- the first i words are copied
pub record Copied (from to₀ : List ℕ) (at i : ℕ) (to : List ℕ) : Type 0 where
  pub left : i ≤ length from
  pub size : length to ≡ length to₀
  pub front : take (at + i) to ≡ take at to₀ ++ take i from
  pub behind : drop (at + i) to ≡ drop (at + i) to₀

abbrev pub invariant-loop-i : goal.invariant-loop-i
invariant-loop-i l = Copied l.from l.initial.to l.at l.i l.to
