-- Document 02, Paper 8: the report under way as bytes, which are handed on as the last call gave them. They stand in the caller's memory; what bytes are a
-- state is stated for all bytes, also for those that no call left there.
use Rattle.std.specs.Prelude.{ℕ, ◌+◌, ◌*◌, ◌/◌, ◌%◌, Bool, cond, not, ◌||◌, List, [], ◌∷◌, ◌++◌, eqb, ltb, length, take, drop}
use Rattle.std.specs.Float.{binary64}
use Rattle.std.specs.Float.Ieee.{to_bits, of_bits, nan_bits}
use Rattle.number.specs.Words.{word, word_bytes, words_bytes}
use Rattle.refusal.specs.Outcome.{Outcome, result, refused}
use Rattle.kept.specs.Kept.{kept_rule}
use Rattle.grammar.specs.Size.{most_bytes}
use Rattle.degree.specs.inner.Reach.{reach_at}
use Rattle.report.specs.Report.{Naming, report_bytes}
use Rattle.report.specs.inner.Running.{Addition, none, stopped, further, last, added_to, absent, running_of}
use Rattle.report.specs.declared.Report.{Report}

-- ---- the layout: words of 32 bits, then the text

-- the format of a report under way, which goes up with each change of the layout; 1 was that of version 1.0, whose bytes name neither format nor rule
abbrev pub report_format : ℕ
report_format = 2

-- the head of every report under way: "MR", the format, and the kept rule. Bytes that begin otherwise, as those of another format or rule do, are no report
abbrev pub report_signature : ℕ
report_signature = 77 + 256 * 82 + 65536 * report_format + 16777216 * kept_rule

-- a number of 64 bits as two words, the lower first
abbrev pub low : ℕ → ℕ
low n = n % 4294967296

abbrev pub high : ℕ → ℕ
high n = n / 4294967296

abbrev pub long : List ℕ → ℕ → ℕ
long bytes at = word bytes at + 4294967296 * word bytes (at + 4)

-- 44 bytes: the head, the counts, and the sum of the distances, the sum of the degrees and the mean, the last two by their bits
abbrev pub figure_words : Report → List ℕ
figure_words r =
    report_signature ∷ r.count ∷ r.taken ∷ r.met ∷ r.empty ∷ low r.distances ∷ high r.distances ∷ low (to_bits binary64 r.mean.sum)
    ∷ high (to_bits binary64 r.mean.sum) ∷ low (to_bits binary64 r.mean.mean) ∷ high (to_bits binary64 r.mean.mean) ∷ []

abbrev pub report_in : List ℕ → Report
report_in b =
    record {
      count = word b 4;
      taken = word b 8;
      met = word b 12;
      empty = word b 16;
      distances = long b 20;
      mean = record { sum = of_bits binary64 (long b 28); mean = of_bits binary64 (long b 36) };
    }

-- behind them, at 44 the target's index on the axis, at 48 the length of the text, and from 52 on the text
abbrev pub index_in : List ℕ → ℕ
index_in b = word b 44

abbrev pub size_in : List ℕ → ℕ
size_in b = word b 48

abbrev pub report_text : List ℕ → List ℕ
report_text b = take (size_in b) (drop 52 b)

-- plainly no state: too short, with another head, with a text that is longer than any, or with a sum or a mean that is no number
abbrev pub stateless : List ℕ → Bool
stateless b =
    ltb (length b) report_bytes || (not (eqb (word b 0) report_signature) || (ltb most_bytes (size_in b) || (nan_bits binary64 (long b 28) || nan_bits binary64 (long b 36))))

-- THE BYTES HOLD NO REPORT: plainly no state, or with figures that no batches lead to, a target off the axis, or a text that 5, 6 or 7 refuses. A report that was given or
-- stopped is held no more: its head is cleared. All other bytes hold one
unfoldable pub no_report : List ℕ → Bool
no_report b = stateless b || absent (report_in b) (report_text b) (index_in b)

-- ---- what a call leaves there; where nothing is said of a byte, it stays

-- no report is under way any more: the head is cleared
abbrev pub closed_bytes : List ℕ → List ℕ
closed_bytes b = word_bytes 0 ++ drop 4 b

-- what a naming of this count and text leaves, with the target at index v
abbrev pub named_bytes : ℕ → List ℕ → ℕ → List ℕ → List ℕ
named_bytes n text v b =
    words_bytes (figure_words (running_of n [])) ++ word_bytes v ++ word_bytes (length text) ++ text ++ drop (52 + length text) b

-- the report that the bytes hold is ended; where they hold none, they stay
abbrev pub ended_bytes : List ℕ → List ℕ
ended_bytes b = cond (no_report b) b (closed_bytes b)

-- A NAMING. Refused, it ends the report that the bytes held
abbrev pub naming_after : Naming → Outcome ℕ → List ℕ → List ℕ
naming_after n (result v) b = named_bytes n.count n.text v b
naming_after n (refused k p) b = ended_bytes b

-- A RECORDING handed in with these bytes: none is under way where they hold no report
abbrev pub addition_in : List ℕ → List ℕ → Addition
addition_in b recording = cond (no_report b) none (added_to (report_in b) (reach_at recording (report_text b) (index_in b)))

-- a report that is refused or given is closed; 15 leaves every byte
abbrev pub add_after : Addition → List ℕ → List ℕ
add_after none b = b
add_after (stopped n p) b = closed_bytes b
add_after (further r) b = words_bytes (figure_words r) ++ drop 44 b
add_after (last r) b = closed_bytes b
