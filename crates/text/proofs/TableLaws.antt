-- What the rows that hold a tree say of it.
use mathlib.Core.Path.{◌≡◌, sym, ap, ◌∙◌}
use mathlib.Core.List.{List}
use Prim.Native.Nat.{ℕ, ◌+◌, ◌≤◌, ◌<◌}
use native.Mathlib.Omega.{arith}
use mathlib.Core.Bool.{Bool, true, false, ◌||◌}
use Rattle.grammar.specs.inner.Kinds.{HIGH, LAG, NEXT, GLOBALLY, UNTIL, WEAK-UNTIL}
use Rattle.grammar.specs.inner.Table.{row_at, some_kind}
use Rattle.grammar.specs.Classes.{within}
use Rattle.grammar.specs.Syntax.{Text}
use Rattle.grammar.specs.Size.{temporal, has_listed, nodes}
use Rattle.parser.specs.inner.Rows.{Laid}
use Rattle.text.proofs.laws.Table as rows
use Rattle.text.proofs.laws.Table.{held-nodes, held_some, some_either, listed_kind, temporal_kind, listed_by_kind, temporal_by_kind}

-- SCANS over the kinds
pub some_here : (P : ℕ → Bool) (T : List ℕ) (n i k : ℕ) (t : Bool) → i < n → k ≡ (row_at T i).kind → t ≡ P k → t ≡ true → true ≡ some_kind P T 0 n
some_here P T n i k t l e q h = sym (rows.some_here (λ r. P r.kind) T n i l (ap P (sym e) ∙ sym q ∙ h))

pub some_next : (P : ℕ → Bool) (T : List ℕ) (i k : ℕ) (t : Bool) → k ≡ (row_at T i).kind → t ≡ P k → t ≡ false → some_kind P T 0 i ≡ false → some_kind P T 0 (i + 1) ≡ false
some_next P T i k t e q h g = rows.some_next (λ r. P r.kind) T i (ap P (sym e) ∙ sym q ∙ h) g

pub some_end : (P : ℕ → Bool) (T : List ℕ) (i n : ℕ) → i ≤ n → n ≤ i → some_kind P T 0 i ≡ false → false ≡ some_kind P T 0 n
some_end P = rows.some_end (λ r. P r.kind)

module _ (T : List ℕ) (n : ℕ) (t : Text) (h : Laid T 0 n t) where
  counted : n ≡ nodes t
  counted = let x = held-nodes h in omega arith

  pub listed_scan : (r : Bool) → r ≡ some_kind (within HIGH LAG) T 0 n → r ≡ has_listed t
  listed_scan r e = e ∙ ap (some_kind (within HIGH LAG) T 0) counted ∙ sym (held_some (λ r. listed_kind r.kind) has_listed listed_by_kind h)

  temporal_is : (some_kind (within NEXT GLOBALLY) T 0 n || some_kind (within UNTIL WEAK-UNTIL) T 0 n) ≡ temporal t
  temporal_is = sym (some_either (within NEXT GLOBALLY) (within UNTIL WEAK-UNTIL) T 0 n) ∙ ap (some_kind temporal_kind T 0) counted ∙ sym (held_some (λ r. temporal_kind r.kind) temporal temporal_by_kind h)

  pub temporal_yes : (r : Bool) → r ≡ some_kind (within NEXT GLOBALLY) T 0 n → r ≡ true → r ≡ temporal t
  temporal_yes r e q = q ∙ sym (ap (λ x. x || some_kind (within UNTIL WEAK-UNTIL) T 0 n) (sym e ∙ q)) ∙ temporal_is

  pub temporal-rest : (r u : Bool) → r ≡ some_kind (within NEXT GLOBALLY) T 0 n → r ≡ false → u ≡ some_kind (within UNTIL WEAK-UNTIL) T 0 n → u ≡ temporal t
  temporal-rest r u e q d = d ∙ sym (ap (λ x. x || some_kind (within UNTIL WEAK-UNTIL) T 0 n) (sym e ∙ q)) ∙ temporal_is
