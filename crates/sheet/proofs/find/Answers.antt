-- `sheet::find` meets its contract. What the table of first additions shows is what the check finds. Assumes nothing.
use borrow.Author.Rules.{rules}
use mathlib.Core.Path.{◌≡◌, sym, ap, ◌∙◌, subst}
use mathlib.Core.List.{List}
use Prim.Native.Nat.{ℕ, ◌/◌, ◌≤◌, ◌<◌}
use native.Mathlib.Omega.{arith}
use lib.ListN.{length}
use Rattle.number.specs.Words.{word}
use Rattle.recording.specs.Recording.{raw_at, readings, Accepted}
use Rattle.recording.proofs.laws.Record.{length-readings}
use Rattle.sheet.specs.Sheet.{sheet_of, most_lines, AcceptedSheet}
use Rattle.sheet.specs.Finding.{all_met, broken_at}
use Rattle.sheet.specs.inner.Found.{finding}
use Rattle.sheet.specs.inner.Firsts.{Firsts, Earliest}
use Rattle.sheet.proofs.laws.Firsts.{time-at, shown_broken, shown_met}
use Rattle.sheet.proofs.laws.Sheet.{lines_few}
use Rattle.sheet.proofs.find.Goals as goal

module _ (bytes : List ℕ) (accepted : Accepted bytes) (n : ℕ) (count : n ≡ length bytes / 16) (sheet : List ℕ) (fine : AcceptedSheet sheet) (table : List ℕ) (firsts : Firsts (readings bytes) table)
    (index line : ℕ) (e : Earliest table n sheet (length sheet / 2) index line) where
  shown : Earliest table (length (readings bytes)) sheet (length sheet / 2) index line
  shown = subst (λ (k : ℕ). Earliest table k sheet (length sheet / 2) index line) (count ∙ sym (length-readings bytes)) e

  met : n ≤ index → all_met ≡ finding (sheet_of sheet) (readings bytes)
  met h = shown_met (readings bytes) table firsts sheet fine index line shown (omega (arith, length-readings bytes))

  broken : (time : ℕ) → index < n → time ≡ word (raw_at bytes index) 0 → broken_at time line ≡ finding (sheet_of sheet) (readings bytes)
  broken time h t =
      ap (λ (u : ℕ). broken_at u line) (t ∙ time-at bytes accepted index (omega arith))
      ∙ shown_broken (readings bytes) table firsts sheet fine index line shown (omega (arith, length-readings bytes))

  few : index < n → line < most_lines
  few h = let l = e.there h in let m = lines_few sheet fine in omega arith

pub returns-then-n-index : goal.returns-then-n-index
returns-then-n-index c =
    met c.args.rec.now c.requires.0 c.args.n c.requires.1 c.args.sheet.now c.requires.2 c.first_additions-first.result c.first_additions-first.ensures
    c.first_break-found.result.index c.first_break-found.result.line c.first_break-found.ensures c.if-n-index.true

pub returns : goal.returns
returns c =
    broken c.args.rec.now c.requires.0 c.args.n c.requires.1 c.args.sheet.now c.requires.2 c.first_additions-first.result
    c.first_additions-first.ensures c.first_break-found.result.index c.first_break-found.result.line c.first_break-found.ensures c.word_in-time.result c.if-n-index.false c.word_in-time.ensures
