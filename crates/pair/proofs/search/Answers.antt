-- `pair::search` meets its contract. The outer loop has passed the earlier places below i; every time below j is too low for the earlier places from i on. Assumes nothing.
use borrow.Author.Rules.{rules}
use borrow.Author.Count.{below_none, below_more}
use mathlib.Core.Path.{◌≡◌, sym, ap, subst}
use mathlib.Core.Logic.{◌⊎◌, inl, inr, ⊎_elim}
use mathlib.Core.List.{List}
use Prim.Native.Nat.{ℕ, ◌+◌, ◌-◌, ◌≤◌, ◌<◌}
use native.Mathlib.Omega.{arith}
use lib.ListN.{get_or}
use Rattle.number.proofs.laws.Order.{less_or_not, less-more_equal}
use Rattle.pair.specs.inner.Search.{Rising, Spaced}
use Rattle.pair.proofs.laws.Search.{found_first, found_none, Low, low-more, low-next, none_later, none_before, behind_earlier}
use Rattle.pair.proofs.search.Goals as goal
use Rattle.pair.proofs.search.Goals.{else-earlier-test, then-earlier-test+then-loop-j-test+then-later-sought, else-loop-j-test, then-loop-j-test+else-later-sought+then-sought-later}

-- none of the places before i, nor of those before j behind i, is one of two that are g apart
foremost : (times : List ℕ) (n g i j : ℕ) → ((a : ℕ) → a < i → (b : ℕ) → Spaced times n g a b → ⊥) → ((b : ℕ) → b < j → Spaced times n g i b → ⊥)
    → (a b : ℕ) → Spaced times n g a b → (i < a) ⊎ ((i ≡ a) × (j ≤ b))
foremost times n g i j passed later a b s =
    ⊎_elim (λ (h : i < a). inl h)
    (⊎_elim (λ (h : a < i). absurd (passed a h b s))
    (λ (e : i ≡ a). ⊎_elim (λ (h : b < j). absurd (later b h (subst (λ (k : ℕ). Spaced times n g k b) (sym e) s))) (λ (h : j ≤ b). inr (e, h)) (less_or_not b j)))
    (less-more_equal i a)

pub earlier-init : goal.earlier-init
earlier-init c = (below_none _, below_none _)

pub loop-j-init : goal.loop-j-init
loop-j-init c = c.earlier.invariant.1

pub loop-j-preserved : goal.loop-j-preserved
loop-j-preserved c =
    let times : List ℕ = c.args.times.now in
    let i : ℕ = c.earlier.i in
    let j : ℕ = c.loop-j.j in
    let later : c.wide-later.result ≡ get_or times j 0 = c.wide-later.ensures.0 in
    let earlier : c.wide.result ≡ get_or times i 0 = c.wide.ensures.0 in
    let more : c.wide-in-earlier.result ≡ c.args.g = c.wide-in-earlier.ensures.0 in
    let less : get_or times j 0 < get_or times i 0 + c.args.g = ⊎_elim (λ k. k) (⊎_elim (λ k. absurd (omega arith)) (λ k. absurd (c.if-later-sought.false (omega arith)))) (less-more_equal (get_or times j 0) (get_or times i 0 + c.args.g)) in
    low-more times c.args.n c.requires.2 c.args.g i j c.loop-j.invariant less

pub earlier-preserved : goal.earlier-preserved
earlier-preserved c =
    let times : List ℕ = c.args.times.now in
    let i : ℕ = c.earlier.i in
    let j : ℕ = c.loop-j.j in
    let inside : i < c.args.n = c.earlier-test.true in
    let earlier : c.wide.result ≡ get_or times i 0 = c.wide.ensures.0 in
    let more : c.wide-in-earlier.result ≡ c.args.g = c.wide-in-earlier.ensures.0 in
    let end : j < c.args.n → get_or times i 0 + c.args.g < get_or times j 0 = elim c.loop-j-test.branch [
      | else-loop-j-test w ↦ λ l. let out : c.args.n ≤ j = w.loop-j-test.false in absurd (omega arith)
      | then-loop-j-test+else-later-sought+then-sought-later w ↦ λ l. let later : w.wide-later.result ≡ get_or times j 0 = w.wide-later.ensures.0 in let over = w.if-sought-later.true in omega arith
    ] in (
      below_more _ i c.earlier.invariant.0 (none_later times c.args.n c.requires.2 c.args.g i j inside c.loop-j.invariant end),
      low-next times c.args.n c.requires.2 c.args.g i j c.loop-j.invariant,
    )

pub offset_bounds-times-j-then-i-n : goal.offset_bounds-times-j-then-i-n
offset_bounds-times-j-then-i-n c =
    let inside : c.earlier-test.j < c.args.n = elim c.earlier-test.branch [
      | else-earlier-test w ↦ let out : c.args.n ≤ c.earlier.i = w.earlier-test.false in absurd (omega arith)
      | then-earlier-test+then-loop-j-test+then-later-sought w ↦ let at = w.j-is in let l = w.loop-j-test.true in omega arith
    ] in search rules

pub bounds-times-j-then-i-n : goal.bounds-times-j-then-i-n
bounds-times-j-then-i-n c =
    let inside : c.earlier-test.j < c.args.n = elim c.earlier-test.branch [
      | else-earlier-test w ↦ let out : c.args.n ≤ c.earlier.i = w.earlier-test.false in absurd (omega arith)
      | then-earlier-test+then-loop-j-test+then-later-sought w ↦ let at = w.j-is in let l = w.loop-j-test.true in omega arith
    ] in search rules

pub returns-then-i-n : goal.returns-then-i-n
returns-then-i-n c =
    let times : List ℕ = c.args.times.now in
    let n : ℕ = c.args.n in
    let g : ℕ = c.args.g in
    let i : ℕ = c.earlier.i in
    let rising : Rising times n = c.requires.2 in
    -- where i is inside after the loops, it was left at a fitting pair, the first
    let f : Spaced times n g i c.earlier-test.j × ((a b : ℕ) → Spaced times n g a b → (i < a) ⊎ ((i ≡ a) × (c.earlier-test.j ≤ b))) = elim c.earlier-test.branch [
      | else-earlier-test w ↦ let out : n ≤ i = w.earlier-test.false in absurd (omega arith)
      | then-earlier-test+then-loop-j-test+then-later-sought w ↦
          let j : ℕ = w.loop-j.j in
          let later : w.wide-later.result ≡ get_or times j 0 = w.wide-later.ensures.0 in
          let earlier : w.wide.result ≡ get_or times i 0 = w.wide.ensures.0 in
          let more : w.wide-in-earlier.result ≡ g = w.wide-in-earlier.ensures.0 in
          let met : w.wide-later.result ≡ w.wide.result + w.wide-in-earlier.result = w.if-later-sought.true in
          let at : c.earlier-test.j ≡ j = w.j-is in
          subst (λ (k : ℕ). Spaced times n g i k × ((a b : ℕ) → Spaced times n g a b → (i < a) ⊎ ((i ≡ a) × (k ≤ b)))) (sym at) (
            record { order = behind_earlier times n rising g i j w.earlier-test.true c.requires.1 (omega arith); inside = w.loop-j-test.true; sum = omega arith },
            foremost times n g i j c.earlier.invariant.0 (none_before times n rising g i j w.earlier-test.true w.loop-j.invariant),
          )
    ] in
    sym (found_first times n c.requires.0 g _ _ f.0 f.1)

pub returns-else-i-n : goal.returns-else-i-n
returns-else-i-n c =
    sym (found_none c.args.times.now c.args.n c.requires.0 c.args.g (λ a b p. let o = p.order in let l = p.inside in c.earlier.invariant.0 a (omega arith) b p))
