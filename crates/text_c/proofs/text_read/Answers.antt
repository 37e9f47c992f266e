-- What the reader answers, packed.
use Rattle.std.specs.Prelude.{Result, Ok, Err}
use Prim.Native.Nat.{ℕ, ◌<◌}
use native.Mathlib.Omega.{arith}
use mathlib.Core.Path.{◌≡◌, refl, sym, ap, ◌∙◌}
use mathlib.Core.List.{List}
use Rattle.refusal.specs.Outcome.{refused, reported}
use Rattle.refusal.specs.Numbers.{number_of, place_of}
use Rattle.refusal.specs.declared.Refusal.{Refusal}
use Rattle.grammar.specs.inner.Parse.{parsed}
use Rattle.text.specs.Told.{text_lines, nodes_of, Told}
use Rattle.reply.specs.Reply.{half, packed}
use Rattle.reply.proofs.laws.Place.{plain-place}
use Rattle.text_c.specs.Reads.{nodes_or_refusal}
use Rattle.text_c.proofs.text_read.Goals as goal

module _ (s table : List ℕ) (a : Result ℕ Refusal) (t : Told s table a) where
  read-nodes : (n : ℕ) → a ≡ Ok n → n ≡ packed (nodes_or_refusal s)
  read-nodes n e = sym (ap (λ (k : Result ℕ Refusal). packed (reported k)) e) ∙ ap packed t.outcome

  read_refusal : (x : Refusal) (r : ℕ) → a ≡ Err x → r ≡ packed (refused (number_of x) (place_of x)) → r ≡ packed (nodes_or_refusal s)
  read_refusal x r e q = q ∙ sym (ap (λ (k : Result ℕ Refusal). packed (reported k)) e) ∙ ap packed t.outcome

  place-fits : (x : Refusal) → a ≡ Err x → place_of x < half
  place-fits x e =
      let z = plain-place (text_lines s) (nodes_of (parsed s)) (number_of x) (place_of x) (refl, (refl, (refl, tt))) (sym t.outcome ∙ ap reported e) in
      omega arith

pub refused-requires : goal.refused-requires
refused-requires c =
    place-fits c.args.s.now c.read-answer.new.table c.read-answer.result c.read-answer.ensures c.in-Err.x c.in-Err.is

pub returns-in-Ok : goal.returns-in-Ok
returns-in-Ok c =
    read-nodes c.args.s.now c.read-answer.new.table c.read-answer.result c.read-answer.ensures c.in-Ok.n c.in-Ok.is

pub returns-in-Err : goal.returns-in-Err
returns-in-Err c =
    read_refusal c.args.s.now c.read-answer.new.table c.read-answer.result c.read-answer.ensures c.in-Err.x c.refused.result c.in-Err.is c.refused.ensures
