-- Each number stands for one operation.
use Rattle.runs.specs.Set.{member}
use Rattle.runs.proofs.laws.Set.{makes_ext}
use Rattle.runset_c.specs.Bytes.{chosen}
use Rattle.runset_c.proofs.Delivery.{chosen_or, chosen_and, chosen_not, chosen_else}
use Rattle.runset_c.proofs.combine.Goals as goal

pub or-requires : goal.or-requires
or-requires c = let s = c in (s.requires.0, s.requires.1, s.requires.4)

pub returns-then-op-eq0 : goal.returns-then-op-eq0
returns-then-op-eq0 c =
    makes_ext _ (chosen c.args.op (member c.args.a.now) (member c.args.b.now) (member c.args.c.now)) _ _ (λ v h. chosen_or c.args.op (member c.args.a.now) (member c.args.b.now) (member c.args.c.now) v c.if-op-eq0.true) c.or.ensures

pub and-requires : goal.and-requires
and-requires c = let s = c in (s.requires.0, s.requires.1, s.requires.4)

pub returns-then-op-eq1 : goal.returns-then-op-eq1
returns-then-op-eq1 c =
    makes_ext _ (chosen c.args.op (member c.args.a.now) (member c.args.b.now) (member c.args.c.now)) _ _ (λ v h. chosen_and c.args.op (member c.args.a.now) (member c.args.b.now) (member c.args.c.now) v c.if-op-eq1.true) c.and.ensures

pub not-requires : goal.not-requires
not-requires c = let s = c in (s.requires.0, s.requires.4)

pub returns-then-op-eq2 : goal.returns-then-op-eq2
returns-then-op-eq2 c =
    makes_ext _ (chosen c.args.op (member c.args.a.now) (member c.args.b.now) (member c.args.c.now)) _ _ (λ v h. chosen_not c.args.op (member c.args.a.now) (member c.args.b.now) (member c.args.c.now) v c.if-op-eq2.true) c.not.ensures

pub or_and-requires : goal.or_and-requires
or_and-requires c = c.requires

pub returns : goal.returns
returns c =
    makes_ext _ (chosen c.args.op (member c.args.a.now) (member c.args.b.now) (member c.args.c.now)) _ _ (λ v h. chosen_else c.args.op (member c.args.a.now) (member c.args.b.now) (member c.args.c.now) v c.if-op-eq0.false c.if-op-eq1.false c.if-op-eq2.false) c.or_and.ensures
