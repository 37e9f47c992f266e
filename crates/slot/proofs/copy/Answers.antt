-- Word by word: the first i are copied, the others as they were.
use Prim.Native.Nat.{ℕ, suc, ◌+◌, ◌-◌, ◌≤◌, ◌<◌}
use mathlib.Core.Path.{◌≡◌, refl, sym, ap, ap₂, ◌∙◌}
use mathlib.Core.List.{List, [], ◌∷◌, ◌++◌, append_assoc, append-nil}
use native.Mathlib.Omega.{arith}
use native.Mathlib.Numerals.{add-one}
use lib.ListN.{length, take, drop, get_or, set, length-set, take-append-drop}
use lib.Seq.{take-length, take-suc, take-suc-set, drop-set-lt, drop-drop}
use borrow.Author.Rules.{rules}
use Rattle.slot.proofs.copy.Invariants.{Copied}
use Rattle.slot.proofs.copy.Goals as goal

copied_none : (from to : List ℕ) (at : ℕ) → Copied from to at 0 to
copied_none from to at = record { left = omega arith; size = refl; front = (let n : at + 0 ≡ at = omega arith in ap (λ (k : ℕ). take k to) n ∙ sym (append-nil (take at to))); behind = refl }

module _ (from to₀ : List ℕ) (at i : ℕ) (to : List ℕ) where
  copied_on : i < length from → at + length from ≤ length to₀ → Copied from to₀ at i to → Copied from to₀ at (i + 1) (set to (at + i) (get_or from i 0))
  copied_on h room w =
      let n : at + (i + 1) ≡ suc (at + i) = omega arith in
      let m : at + (i + 1) ≡ at + i + 1 = omega arith in
      record {
        left = omega arith;
        size = length-set to (at + i) (get_or from i 0) ∙ w.size;
        front = ap (λ (k : ℕ). take k (set to (at + i) (get_or from i 0))) n ∙ take-suc-set to (at + i) (get_or from i 0) (omega (arith, w.size)) ∙ ap (λ (l : List ℕ). l ++ (get_or from i 0 ∷ [])) w.front
            ∙ append_assoc (take at to₀) (take i from) (get_or from i 0 ∷ []) ∙ ap (λ (l : List ℕ). take at to₀ ++ l) (sym (take-suc from i 0 h) ∙ ap (λ (k : ℕ). take k from) (sym (add-one i)));
        behind = ap (λ (k : ℕ). drop k (set to (at + i) (get_or from i 0))) m ∙ drop-set-lt (at + i + 1) to (at + i) (get_or from i 0) (omega arith) ∙ sym (drop-drop 1 (at + i) to) ∙ ap (drop 1) w.behind ∙ drop-drop 1 (at + i) to₀ ∙ ap (λ (k : ℕ). drop k to₀) (sym m);
      }

  copied_all : i ≡ length from → Copied from to₀ at i to → to ≡ take at to₀ ++ (from ++ drop (at + length from) to₀)
  copied_all e w =
      sym (take-append-drop (at + i) to) ∙ ap₂ ◌++◌ (w.front ∙ ap (λ (k : ℕ). take at to₀ ++ take k from) e ∙ ap (λ (l : List ℕ). take at to₀ ++ l) (take-length from)) (w.behind ∙ ap (λ (k : ℕ). drop (at + k) to₀) e)
      ∙ append_assoc (take at to₀) from (drop (at + length from) to₀)

pub loop-i-init : goal.loop-i-init
loop-i-init c = copied_none c.args.from.now c.args.to.now c.args.at

pub loop-i-preserved : goal.loop-i-preserved
loop-i-preserved c =
    copied_on c.args.from.now c.args.to.now c.args.at c.loop-i.i c.loop-i.to c.loop-i-test.true (omega (arith, c.requires)) c.loop-i.invariant

pub returns : goal.returns
returns c =
    copied_all c.args.from.now c.args.to.now c.args.at c.loop-i.i c.loop-i.to (omega (arith, c.loop-i.invariant.left, c.loop-i-test.false)) c.loop-i.invariant
