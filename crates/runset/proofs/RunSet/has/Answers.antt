-- The invariant: what the cuts passed say, with what those that are left say, is the membership.
use Rattle.std.proofs.Common.{ℕ, List, Bool, true, false, not, ◌≡◌, ◌<◌, ◌+◌, refl, sym, ap, ◌∙◌, arith, leb, length, drop, get_or, add-one, drop-cons}
use mathlib.Core.Bool.{beq}
use Rattle.std.proofs.Math.Seq.{drop-length}
use Rattle.runs.specs.Set.{xor, inside, member}
use Rattle.runs.proofs.laws.Cuts.{xor_false, xor_assoc, none}
use Rattle.runset.proofs.RunSet.has.Goals as goal

differ : (a b : Bool) → not (beq a b) ≡ xor a b
differ true true = refl
differ true false = refl
differ false true = refl
differ false false = refl

-- one more cut
counted : (l : List ℕ) (i v : ℕ) (b m : Bool) → i < length l → xor b (inside (drop i l) v) ≡ m
    → xor (not (beq b (leb (get_or l i 0) v))) (inside (drop (i + 1) l) v) ≡ m
unfolding inside
counted l i v b m g w =
    ap (λ (k : Bool). xor k (inside (drop (i + 1) l) v)) (differ b (leb (get_or l i 0) v)) ∙ xor_assoc b (leb (get_or l i 0) v) _
    ∙ ap (λ (k : ℕ). xor b (xor (leb (get_or l i 0) v) (inside (drop k l) v))) (add-one i)
    ∙ ap (λ (k : List ℕ). xor b (inside k v)) (sym (drop-cons l i 0 g)) ∙ w

-- all of them
counted-all : (l : List ℕ) (i v : ℕ) (b m : Bool) → i ≡ length l → xor b (inside (drop i l) v) ≡ m → b ≡ m
counted-all l i v b m e w =
    sym (xor_false b) ∙ ap (xor b) (sym (none v) ∙ ap (λ (k : List ℕ). inside k v) (sym (ap (λ (j : ℕ). drop j l) e ∙ drop-length l))) ∙ w

pub loop-cut-preserved : goal.loop-cut-preserved
loop-cut-preserved c =
    counted c.cuts_of-cut-items.result.now c.loop-cut.cut-index c.args.v c.loop-cut.inside _ c.loop-cut-test.true c.loop-cut.invariant

pub returns : goal.returns
unfolding member
returns c =
    counted-all c.cuts_of-cut-items.result.now c.loop-cut.cut-index c.args.v c.loop-cut.inside _ (omega (arith, c.loop-cut-test.false, c.loop-cut.auto.cut-index-end)) c.loop-cut.invariant
    ∙ ap (λ (l : List ℕ). inside l c.args.v) c.cuts_of-cut-items.ensures
