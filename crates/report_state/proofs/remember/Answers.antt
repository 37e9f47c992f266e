-- `report_state::remember` meets its contract. Assumes nothing.
use native.Mathlib.Omega.{arith}
use mathlib.Core.Path.{sym, ap, ◌∙◌, subst}
use mathlib.Core.List.{List, ◌++◌}
use Prim.Native.Nat.{ℕ}
use lib.ListN.{drop}
use Rattle.number.specs.Words.{words_bytes}
use Rattle.report.specs.declared.Added.{Added}
use Rattle.report.specs.inner.Running.{addition_of}
use Rattle.report_state.specs.State.{add_after}
use Rattle.report_state.specs.inner.Kept.{Writable}
use borrow.Author.Rules.{rules}
use Rattle.report_state.proofs.remember.Goals as goal

pub close-requires : goal.close-requires
close-requires c =
    let h = subst (λ (x : Added). Writable (addition_of x) c.args.buffer.now) c.in-Stopped.is c.requires in omega (arith, h)

pub words_of-requires : goal.words_of-requires
words_of-requires c =
    let h = subst (λ (x : Added). Writable (addition_of x) c.args.buffer.now) c.in-Taken.is c.requires in h.1

pub put_words-requires : goal.put_words-requires
put_words-requires c =
    let h = subst (λ (x : Added). Writable (addition_of x) c.args.buffer.now) c.in-Taken.is c.requires in h.0

pub close-requires-in-Last : goal.close-requires-in-Last
close-requires-in-Last c =
    let h = subst (λ (x : Added). Writable (addition_of x) c.args.buffer.now) c.in-Last.is c.requires in omega (arith, h)

pub returns-in-Nothing : goal.returns-in-Nothing
returns-in-Nothing c =
    sym (ap (λ (x : Added). add_after (addition_of x) c.args.buffer.now) c.in-Nothing.is)

pub returns-in-Stopped : goal.returns-in-Stopped
returns-in-Stopped c =
    c.close.ensures ∙ sym (ap (λ (x : Added). add_after (addition_of x) c.args.buffer.now) c.in-Stopped.is)

pub returns-in-Taken : goal.returns-in-Taken
returns-in-Taken c =
    c.put_words.ensures ∙ ap (λ (w : List ℕ). words_bytes w ++ drop 44 c.args.buffer.now) c.words_of.ensures
    ∙ sym (ap (λ (x : Added). add_after (addition_of x) c.args.buffer.now) c.in-Taken.is)

pub returns-in-Last : goal.returns-in-Last
returns-in-Last c =
    c.close-in-Last.ensures ∙ sym (ap (λ (x : Added). add_after (addition_of x) c.args.buffer.now) c.in-Last.is)
