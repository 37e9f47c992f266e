-- By the answer.
use Rattle.std.specs.Prelude.{ℕ, Result}
use Rattle.refusal.specs.Outcome.{reported}
use Rattle.refusal.specs.declared.Refusal.{Refusal}
use mathlib.Core.Path.{sym, ap, ◌∙◌, subst}
use Rattle.reply.specs.Reply.{packed, InHalf}
use Rattle.reply.proofs.written.Goals as goal

pub refused-requires : goal.refused-requires
refused-requires c =
    subst (λ (w : Result ℕ Refusal). InHalf (reported w)) c.in-Err.is c.requires

pub returns-in-Err : goal.returns-in-Err
returns-in-Err c =
    c.refused.ensures ∙ ap (λ (w : Result ℕ Refusal). packed (reported w)) (sym c.in-Err.is)
