-- The child's set at the next record goes by way of the shared words, for it lies in the table that is written.
use mathlib.Core.Path.{sym, ap, subst, ◌∙◌}
use mathlib.Core.Bool.{Bool, cond}
use mathlib.Core.List.{List, ◌++◌}
use Prim.Native.Nat.{ℕ}
use native.Mathlib.Omega.{arith}
use lib.ListN.{length, take, drop}
use lib.Seq.{length-take-le, take_at}
use Rattle.runs.specs.Set.{member, Valid, slot_words}
use Rattle.evaluation.specs.inner.Slots.{slot}
use Rattle.evaluation.proofs.laws.Slots.{puts_ext}
use Rattle.evaluation.proofs.node.next_at.Goals as goal

pub set_in-requires : goal.set_in-requires
set_in-requires c =
    (c.requires.3, c.requires.1)

pub put-requires : goal.put-requires
put-requires c =
    (subst Valid (sym c.set_in.ensures) c.requires.4, c.requires.2, c.requires.0)

pub returns-then-last : goal.returns-then-last
returns-then-last c =
    puts_ext (member _) (λ v. cond c.args.last (member (slot c.args.other.now c.args.first) v) (member (slot c.args.own.now c.args.first) v)) _ _ _ _
    (λ v h. ap (λ (l : List ℕ). member l v) c.set_in.ensures ∙ sym (ap (λ (b : Bool). cond b (member (slot c.args.other.now c.args.first) v) (member (slot c.args.own.now c.args.first) v)) c.if-last.true)) c.put.ensures

pub set_in-requires-2 : goal.set_in-requires-2
set_in-requires-2 c =
    (c.requires.2, c.requires.1)

pub slice_bounds-copy-end-2 : goal.slice_bounds-copy-end-2
slice_bounds-copy-end-2 c =
    sym (length-take-le slot_words c.args.shared.now (omega (arith, c.requires.6)))

pub copy-requires : goal.copy-requires
copy-requires c =
    (subst Valid (sym c.set_in-2.ensures) (c.requires.5 c.if-last.false), length-take-le slot_words c.args.shared.now (omega (arith, c.requires.6)))

pub slice_bounds-put-end-2 : goal.slice_bounds-put-end-2
slice_bounds-put-end-2 c =
    sym (ap length (take_at c.copy.new.set (drop slot_words c.args.shared.now) slot_words c.copy.ensures.valid.size) ∙ c.copy.ensures.valid.size)

pub put-requires-2 : goal.put-requires-2
put-requires-2 c =
    (subst Valid (sym (take_at c.copy.new.set (drop slot_words c.args.shared.now) slot_words c.copy.ensures.valid.size)) c.copy.ensures.valid, c.requires.2, c.requires.0)

pub returns : goal.returns
returns c =
    puts_ext (member (take slot_words (c.copy.new.set ++ drop slot_words c.args.shared.now))) (λ v. cond c.args.last (member (slot c.args.other.now c.args.first) v) (member (slot c.args.own.now c.args.first) v)) _ _ _ _
    (λ v h. ap (λ (l : List ℕ). member l v) (take_at c.copy.new.set (drop slot_words c.args.shared.now) slot_words c.copy.ensures.valid.size) ∙ c.copy.ensures.members v h
    ∙ ap (λ (l : List ℕ). member l v) c.set_in-2.ensures ∙ sym (ap (λ (b : Bool). cond b (member (slot c.args.other.now c.args.first) v) (member (slot c.args.own.now c.args.first) v)) c.if-last.false)) c.put-2.ensures
