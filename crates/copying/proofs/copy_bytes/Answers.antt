-- `copying::copy_bytes` meets its contract. The invariant: i bytes are copied.
use mathlib.Core.Path.{◌≡◌, refl, sym, ap, ◌∙◌}
use mathlib.Core.List.{List}
use Prim.Native.Nat.{ℕ, ◌+◌, ◌-◌, ◌≤◌}
use native.Mathlib.Omega.{arith}
use native.Mathlib.Numerals.{add-one}
use lib.ListN.{length, get_or, drop, set, length-set, length-drop}
use lib.Seq.{paste, paste-zero, paste-suc, get_or-drop}
use Rattle.copying.proofs.laws.Put.{paste-put}
use borrow.Author.Rules.{rules}
use Rattle.copying.proofs.copy_bytes.Goals as goal

pub loop-i-init : goal.loop-i-init
loop-i-init c =
    let a = c.args in
    (omega arith, refl, paste-zero a.out.now a.to (drop a.from a.s.now))

pub loop-i-preserved : goal.loop-i-preserved
loop-i-preserved c =
    let h = c in
    let a = h.args in
    let i : ℕ = h.loop-i.i in
    let l = length-drop a.from a.s.now in (
      omega arith,
      simp length-set h.loop-i.invariant.1,
      ap (λ (o : List ℕ). set o (a.to + i) (get_or a.s.now (a.from + i) 0)) h.loop-i.invariant.2
          ∙ ap (set (paste a.out.now a.to (drop a.from a.s.now) i) (a.to + i)) (sym (get_or-drop a.from a.s.now i 0))
          ∙ paste-suc a.out.now a.to (drop a.from a.s.now) i 0 (omega arith) (omega arith)
          ∙ ap (paste a.out.now a.to (drop a.from a.s.now)) (sym (add-one i)),
    )

pub returns : goal.returns
returns c =
    let h = c in
    let a = h.args in
    let e : h.loop-i.i ≡ a.n = omega arith in
    h.loop-i.invariant.2 ∙ ap (paste a.out.now a.to (drop a.from a.s.now)) e ∙ paste-put a.out.now a.to a.s.now a.from a.n (omega arith)
