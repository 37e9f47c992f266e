-- An empty piece is the end and leaves all as it was; any other is taken in.
use Prim.Native.Nat.{ℕ, zero, suc}
use native.Mathlib.Omega.{arith}
use mathlib.Core.Path.{◌≡◌, refl, sym, ap}
use mathlib.Core.List.{List, [], ◌∷◌}
use lib.IntN.{pos}
use lib.ListN.{length}
use Rattle.std.proofs.lemmas.Bool.Decides.{nat_tests}
use Rattle.ask.specs.declared.input.State.TheVariants.{More}
use Rattle.ask.specs.Reading.{state_of}
use Rattle.ask.proofs.laws.Reading.{takes_none}
use Rattle.ask.proofs.input.take_read.Goals as goal

nothing : (piece : List ℕ) → length piece ≡ 0 → piece ≡ []
nothing [] e = refl
nothing (x ∷ piece) e = absurd (omega arith)

more : (k : ℕ) → (k ≡ 0 → ⊥) → More ≡ state_of (pos k)
more zero h = absurd (h refl)
more (suc k) h = refl

pub returns-then-is_empty : goal.returns-then-is_empty
returns-then-is_empty c =
    let none : length c.args.piece.now ≡ 0 = grind (arith, nat_tests) in
    record {
      told = sym (ap (λ (k : ℕ). state_of (pos k)) none);
      takes = takes_none c.args.store.now c.args.n c.args.piece.now (nothing c.args.piece.now none);
      prefix_len = c.requires.1;
    }

pub returns : goal.returns
returns c =
    let some : length c.args.piece.now ≡ 0 → ⊥ = λ e. grind (arith, nat_tests) in
    record { told = more (length c.args.piece.now) some; takes = c.take_in.ensures.takes_in; prefix_len = c.take_in.ensures.prefix_len }
