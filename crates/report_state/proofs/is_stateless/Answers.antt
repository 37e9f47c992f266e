-- `report_state::is_stateless` meets its contract, test by test. Assumes nothing.
use mathlib.Core.Path.{sym, ap, ◌∙◌}
use native.Mathlib.Omega.{arith}
use lib.Ieee.{binary64, nan_bits}
use Rattle.report_state.proofs.laws.Read.{too_short, other_head, too-large, sum_nan, mean_nan}
use borrow.Author.Rules.{rules}
use Rattle.report_state.proofs.is_stateless.Goals as goal

pub returns-then-buffer-lt-REPORT_BYTES : goal.returns-then-buffer-lt-REPORT_BYTES
returns-then-buffer-lt-REPORT_BYTES c =
    too_short c.args.buffer.now c.if-buffer-lt-REPORT_BYTES.true

pub returns-then-word_at-ne-SIGNATURE : goal.returns-then-word_at-ne-SIGNATURE
returns-then-word_at-ne-SIGNATURE c =
    other_head c.args.buffer.now (λ e. c.if-word_at-ne-SIGNATURE.true (c.word_at.ensures ∙ e))

pub returns-then-word_at : goal.returns-then-word_at
returns-then-word_at c =
    too-large c.args.buffer.now (omega (arith, c.word_at-2.ensures, c.if-word_at.true))

pub returns-then-is_nan : goal.returns-then-is_nan
returns-then-is_nan c =
    sum_nan c.args.buffer.now (ap (nan_bits binary64) (sym c.long_at.ensures) ∙ sym c.is_nan.ensures ∙ c.if-is_nan.true)

pub returns : goal.returns
returns c =
    c.is_nan-2.ensures ∙ ap (nan_bits binary64) c.long_at-2.ensures
    ∙ mean_nan c.args.buffer.now c.if-buffer-lt-REPORT_BYTES.false (sym c.word_at.ensures ∙ c.if-word_at-ne-SIGNATURE.false) (omega (arith, c.word_at-2.ensures, c.if-word_at.false))
    (ap (nan_bits binary64) (sym c.long_at.ensures) ∙ sym c.is_nan.ensures ∙ c.if-is_nan.false)
