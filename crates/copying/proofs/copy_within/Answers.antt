-- `copying::copy_within` meets its contract. The invariant: i blocks are copied, and the next one still stands.
use mathlib.Core.Path.{◌≡◌, refl, ap, ◌∙◌}
use mathlib.Core.List.{List, ◌++◌}
use Prim.Native.Nat.{ℕ, ◌+◌, ◌*◌}
use native.Mathlib.Omega.{arith}
use lib.ListN.{length, take, drop, length-drop}
use lib.Seq.{paste, paste-zero, length-paste}
use Rattle.copying.proofs.laws.Put.{paste-put, block_more, still_stands}
use Rattle.copying.proofs.copy_within.Goals as goal

pub loop-i-init : goal.loop-i-init
loop-i-init c =
    let a = c.args in
    (omega arith, refl, paste-zero a.s.now a.to (drop a.from a.s.now))

pub loop-i-preserved : goal.loop-i-preserved
loop-i-preserved c =
    let h = c in
    let a = h.args in
    let pre = h.requires in
    let i : ℕ = h.loop-i.i in
    let p = c.put16 in
    let t = c.take16 in
    let e : p.new.out ≡ paste a.s.now a.to (drop a.from a.s.now) (16 * (i + 1)) =
    block_more a.s.now a.to a.s.now a.from i h.loop-i.s h.loop-i.s p.new.out (omega arith) (omega arith) h.loop-i.invariant.2
    (still_stands a.s.now a.from a.to a.n i h.loop-i.s pre.0 pre.1 pre.2 (omega arith) h.loop-i.invariant.2)
    (p.ensures ∙ ap (λ (v : List ℕ). take (a.to + 16 * i) h.loop-i.s ++ v ++ drop (a.to + 16 * i + 16) h.loop-i.s) t.ensures) in
    let l = length-drop a.from a.s.now in
    (omega arith, ap length e ∙ length-paste a.s.now a.to (drop a.from a.s.now) (16 * (i + 1)) (omega arith) (omega arith), e)

pub returns : goal.returns
returns c =
    let h = c in
    let a = h.args in
    let e : h.loop-i.i ≡ a.n = omega arith in
    h.loop-i.invariant.2 ∙ ap (λ (k : ℕ). paste a.s.now a.to (drop a.from a.s.now) (16 * k)) e
    ∙ paste-put a.s.now a.to a.s.now a.from (16 * a.n) (omega arith)
