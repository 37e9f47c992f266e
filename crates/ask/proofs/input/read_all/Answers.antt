-- One turn more, or the last.
use Prim.Native.Nat.{ℕ}
use native.Mathlib.Omega.{arith}
use mathlib.Core.Path.{◌≡◌, refl, sym, subst, ◌∙◌}
use mathlib.Core.Bool.{true}
use mathlib.Core.List.{List}
use borrow.Author.Rules.{rules}
use Rattle.ask.specs.declared.input.Input.{Input}
use Rattle.ask.specs.declared.input.State.{State}
use Rattle.ask.specs.declared.input.State.TheVariants.{More, Ended, Failed}
use Rattle.ask.specs.Reading.{is_more, Turn, Turns, no_turn, then}
use Rattle.ask.proofs.input.read_all.Invariants.{input}
use Rattle.ask.proofs.input.read_all.Goals as goal

is-more : (s : State) → is_more s ≡ true → s ≡ More
is-more More e = refl
is-more Ended e = let z : ◌≡◌ {A = ℕ} 0 1 = cc in absurd (omega arith)
is-more Failed e = let z : ◌≡◌ {A = ℕ} 0 1 = cc in absurd (omega arith)

once_more : (store before new : List ℕ) (n : ℕ) (next : Input) → Turns store before (input n More) → Turn before n new next → is_more next.state ≡ true → Turns store new (input next.kept More)
once_more store before new n next t u e = subst (λ (s : State). Turns store new (input next.kept s)) (is-more next.state e) (then t refl u)

pub loop-init : goal.loop-init
loop-init g c = (refl, search rules, no_turn)

pub returns-then-not-goes_on : goal.returns-then-not-goes_on
returns-then-not-goes_on g c =
    record { turns = then c.loop.invariant.2 refl c.read_on-next.ensures.turn; told = c.read_on-next.ensures.told; prefix_len = c.read_on-next.ensures.prefix_len }

pub loop-preserved : goal.loop-preserved
loop-preserved g c = (
  search rules,
  search rules,
  once_more c.args.store.now c.loop.store c.read_on-next.new.store c.loop.kept c.read_on-next.result c.loop.invariant.2 c.read_on-next.ensures.turn (sym c.goes_on.ensures ∙ c.if-not-goes_on.false),
)
