-- `sheet::in_accepted` meets its contract. Each test of the code is a line of the table, in the table's order. Assumes nothing.
use Rattle.refusal.specs.declared.Refusal.{Refusal}
use Rattle.std.specs.Prelude.{Result, Ok, Err, Option}
use borrow.Author.Rules.{rules}
use borrow.Author.Tests.{eq-eqb, ne_eqb}
use mathlib.Core.Path.{◌≡◌, sym, ap, ◌∙◌}
use mathlib.Core.Bool.{true, false}
use mathlib.Core.List.{List, [], ◌∷◌}
use Prim.Native.Nat.{ℕ, ◌/◌}
use lib.ListN.{length}
use Rattle.refusal.specs.Outcome.{result, judged}
use Rattle.refusal.specs.declared.Refusal.TheVariants.{NoRecord, BadSheet}
use Rattle.recording.specs.Recording.{records, readings, no_record}
use Rattle.recording.proofs.laws.Outcome.{judged-first, judged_pass, judged_none}
use Rattle.recording.proofs.laws.Record.{length-records}
use Rattle.sheet.specs.declared.Breach.{Breach}
use Rattle.sheet.specs.Sheet.{sheet_of, bad_sheet}
use Rattle.sheet.specs.Finding.{Finding}
use Rattle.sheet.specs.inner.Found.{finding}
use Rattle.sheet.specs.Call.{sheet_lines, outcome_of}
use Rattle.sheet.proofs.in_accepted.Goals as goal

module _ (bytes sheet : List ℕ) (n : ℕ) (e : n ≡ length bytes / 16) where
  abbrev found : Finding
  found = finding (sheet_of sheet) (readings bytes)

  count : length (records bytes) ≡ n
  count = length-records bytes ∙ sym e

  empty : n ≡ 0 → outcome_of (Err NoRecord) ≡ judged (sheet_lines bytes sheet) found
  empty z = sym (judged-first (no_record bytes) (bad_sheet sheet ∷ []) found (eq-eqb (length (records bytes)) 0 (count ∙ z)))

  module _ (some : n ≡ 0 → ⊥) where
    no_four : (no_record bytes).meets ≡ false
    no_four = ne_eqb (length (records bytes)) 0 (λ z. some (sym count ∙ z))

    bad : (bad_sheet sheet).meets ≡ true → outcome_of (Err BadSheet) ≡ judged (sheet_lines bytes sheet) found
    bad m = sym (judged_pass (no_record bytes ∷ []) (bad_sheet sheet ∷ []) found (no_four, tt) ∙ judged-first (bad_sheet sheet) [] found m)

    fine : (bad_sheet sheet).meets ≡ false → (x : Result (Option Breach) Refusal) → outcome_of x ≡ result found → outcome_of x ≡ judged (sheet_lines bytes sheet) found
    fine m x a = a ∙ sym (judged_none (sheet_lines bytes sheet) found (no_four, (m, tt)))

pub returns-then-n-eq0 : goal.returns-then-n-eq0
returns-then-n-eq0 c =
    empty c.args.rec.now c.args.sheet.now c.args.n c.requires.1 c.if-n-eq0.true

pub returns-then-is_bad : goal.returns-then-is_bad
returns-then-is_bad c =
    bad c.args.rec.now c.args.sheet.now c.args.n c.requires.1 c.if-n-eq0.false (sym c.is_bad.ensures ∙ c.if-is_bad.true)

pub find-requires : goal.find-requires
find-requires c =
    (c.requires.0, c.requires.1, (sym c.is_bad.ensures ∙ c.if-is_bad.false, tt))

pub returns : goal.returns
returns c =
    fine c.args.rec.now c.args.sheet.now c.args.n c.requires.1 c.if-n-eq0.false (sym c.is_bad.ensures ∙ c.if-is_bad.false)
    (Ok c.find.result) (ap result c.find.ensures)
