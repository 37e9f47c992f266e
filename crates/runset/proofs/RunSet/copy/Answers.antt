-- The cuts, and their number.
use Prim.Native.Nat.{ℕ, ◌+◌, ◌*◌, ◌≤◌}
use mathlib.Core.Path.{◌≡◌, refl, sym, ap, ◌∙◌}
use mathlib.Core.List.{List, ◌++◌}
use native.Mathlib.Omega.{arith}
use lib.ListN.{length, take, drop, set, length-set}
use lib.Seq.{take-append_seam, take-set-le, get_or-set_same}
use Rattle.runs.specs.Runs.{most_runs}
use Rattle.runs.specs.Set.{slot_words, cuts_of, member, Valid, Holds}
use Rattle.runs.proofs.laws.Set.{held, cuts-length}
use Rattle.runset.proofs.RunSet.copy.Goals as goal

short : (a k : List ℕ) → Valid a → k ≡ cuts_of a → length k ≤ 2 * most_runs
short a k v e = omega (arith, ap length e ∙ cuts-length a v, v.few)

copied : (a old k p : List ℕ) → Valid a → k ≡ cuts_of a → length p ≡ slot_words → p ≡ take 0 old ++ (k ++ drop (0 + length k) old) → Holds (member a) (set p (2 * most_runs) (length k))
unfolding member
copied a old k p v e size is =
    let n = ap length e in
    held (cuts_of a) (set p (2 * most_runs) (length k)) v.canonical (omega (arith, short a k v e)) (length-set p (2 * most_runs) (length k) ∙ size)
    (get_or-set_same p (2 * most_runs) (length k) 0 (omega arith) ∙ n)
    (ap (λ (i : ℕ). take i (set p (2 * most_runs) (length k))) (sym n) ∙ take-set-le (length k) p (2 * most_runs) (length k) (short a k v e) ∙ ap (take (length k)) is ∙ take-append_seam k (drop (0 + length k) old) ∙ e)
    (member a) (λ w h. refl)

pub returns : goal.returns
returns c = let s = c in copied s.args.a.now s.args.set.now _ _ s.requires.0 c.cuts_of-cuts.ensures (c.set-1.given ∙ s.requires.1) c.copy.ensures
