-- Worked examples, by computing.
use Rattle.std.specs.Prelude.{ℕ, ◌≡◌, refl, List, [], ◌++◌}
use Rattle.std.proofs.Common.{sym, ap₂, arith}
use Rattle.number.specs.Least.{least}
use Rattle.number.specs.Words.{word_bytes, offset_binary, signed}
use Rattle.refusal.specs.Outcome.{result, refused}
use Rattle.grammar.specs.Bytes.{bytes}
use Rattle.page.specs.Decimal.{places, in_decimal, signed_decimal}
use Rattle.page.proofs.laws.Decimal.{decimal_is}
use Rattle.page.specs.Page.{newline, run_line, run_lines, page}
use Rattle.page.specs.Typed.{without_newline}

-- R1 and `peaks(A)`: the runs 30..30 and 70..70
pub two_runs : page (result (word_bytes 30 ++ word_bytes 30 ++ word_bytes 70 ++ word_bytes 70))
    ≡ bytes "runs 2" ++ newline ++ bytes "30 30" ++ newline ++ bytes "70 70" ++ newline
unfolding page run_lines run_line signed_decimal in_decimal places least signed offset_binary
two_runs = refl

no_run : page (result []) ≡ bytes "runs 0" ++ newline
unfolding page run_lines in_decimal places least
no_run = refl

-- the ends of the axis
one : in_decimal 1 ≡ bytes "1"
unfolding in_decimal places least
one = refl

axis-end : in_decimal 2000000000 ≡ bytes "2000000000"
axis-end = sym (decimal_is 2000000000 10 (omega arith, omega arith, λ h. omega arith))

-- 2294967296 are the bits of −2,000,000,000
whole-axis : page (result (word_bytes 2294967296 ++ word_bytes 2000000000)) ≡ bytes "runs 1" ++ newline ++ bytes "-2000000000 2000000000" ++ newline
unfolding page run_lines run_line signed_decimal signed offset_binary
whole-axis = ap₂ (λ (n k : List ℕ). bytes "runs " ++ n ++ newline ++ (bytes "-" ++ k ++ bytes " " ++ k ++ newline)) one axis-end

no-record : page (refused 4 0) ≡ bytes "refused 4 0" ++ newline
unfolding page in_decimal places least
no-record = refl

bad_record : page (refused 3 17) ≡ bytes "refused 3 17" ++ newline
unfolding page in_decimal places least
bad_record = refl

-- one newline is dropped, not two
one-newline : without_newline (bytes "cross" ++ newline ++ newline) ≡ bytes "cross" ++ newline
unfolding without_newline
one-newline = refl
