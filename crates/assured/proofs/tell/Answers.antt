-- By the verdict.
use Rattle.refusal.specs.declared.Refusal.{Refusal}
use Rattle.std.specs.Prelude.{Bool, Result}
use mathlib.Core.Path.{sym, ap, ◌∙◌, subst}
use Rattle.reply.specs.Reply.{packed, InHalf}
use Rattle.assured.specs.inner.Verdict.{verdict_of}
use Rattle.assured.proofs.tell.Goals as goal

pub refused-requires : goal.refused-requires
refused-requires c =
    subst (λ (w : Result Bool Refusal). InHalf (verdict_of w)) c.in-Err.is c.requires

pub returns-in-Err : goal.returns-in-Err
returns-in-Err c = c.refused.ensures ∙ ap (λ (w : Result Bool Refusal). packed (verdict_of w)) (sym c.in-Err.is)
