-- `report_state::put_text` meets its contract. The invariant: the first i bytes are put. Assumes nothing.
use Prim.Native.Nat.{ℕ, ◌+◌, ◌-◌, ◌≤◌}
use mathlib.Core.Path.{◌≡◌, ap, sym, ◌∙◌}
use mathlib.Core.List.{List, ◌++◌}
use native.Mathlib.Numerals.{add-one}
use native.Mathlib.Omega.{arith}
use borrow.Author.Rules.{rules}
use lib.ListN.{length, set, get_or, take, drop}
use lib.Seq.{paste, paste-zero, paste-suc, take_all}
use Rattle.report_state.proofs.put_text.Given as goal

abbrev pub invariant-loop-i : goal.invariant-loop-i
invariant-loop-i l = (l.i ≤ length l.text) × (length l.buffer ≡ length l.initial.buffer) × (l.buffer ≡ paste l.initial.buffer 52 l.text l.i)
