-- What the inner functions of the report calls ask.
use Rattle.std.specs.Prelude.{ℕ, ◌≤◌, ◌<◌, ◌≡◌, false, List, length}
use Rattle.std.specs.Float.{binary64}
use Rattle.std.specs.Float.Ieee.{nan_bits}
use Rattle.number.specs.Words.{word}
use Rattle.grammar.specs.Size.{most_bytes}
use Rattle.reply.specs.Reply.{half}
use Rattle.mean.specs.inner.Running.{Numbers}
use Rattle.report.specs.Report.{report_bytes}
use Rattle.report.specs.inner.Running.{Addition, none, stopped, further, last}
use Rattle.report_state.specs.State.{report_signature, long, size_in}

-- there is room for what a recording leads to, and what is written are numbers
abbrev pub Writable : Addition → List ℕ → Type 0
Writable none b = Unit {0}
Writable (stopped n p) b = 44 ≤ length b
Writable (further r) b = (44 ≤ length b) × Numbers r.mean
Writable (last r) b = 44 ≤ length b

-- the place fits in the low half, and the mean is a number
abbrev pub Tellable : Addition → Type 0
Tellable none = Unit {0}
Tellable (stopped n p) = p < half
Tellable (further r) = Unit {0}
Tellable (last r) = Numbers r.mean

-- the bytes are not plainly no state
pub record Held (b : List ℕ) : Type 0 where
  pub long_enough : report_bytes ≤ length b
  pub head : word b 0 ≡ report_signature
  pub size : size_in b ≤ most_bytes
  pub sum_number : nan_bits binary64 (long b 28) ≡ false
  pub mean_number : nan_bits binary64 (long b 36) ≡ false
