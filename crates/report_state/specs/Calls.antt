-- Document 02, Paper 8: a list of report calls as a caller makes them, of the numbers and bytes that they leave, each handed the report under way as the last
-- call gave it, read against the plain fold of report/specs/Report.
use Rattle.std.specs.Prelude.{ℕ, ◌≡◌}
use mathlib.Core.List.{List, [], ◌∷◌, map, Memᴰ}
use Rattle.refusal.specs.Outcome.{Outcome, result}
use Rattle.reply.specs.Reply.{packed}
use Rattle.report.specs.Report.{Naming, Answer, given, Figures, Reported, closed, ReportCall, start_report, add_batch, report_answers}
use Rattle.report_state.specs.Call.{answer_told, ReportTold, Starts, Adds}

-- a naming; or a recording of any bytes, with what stands at the four places
pub data Made : Type 0 where
  made_start : Naming → Made
  made_add : (recording : List ℕ) (met empty distances mean : ℕ) → Made

-- the call without the caller's memory
abbrev pub call_of : Made → ReportCall
call_of (made_start n) = start_report n
call_of (made_add recording m e d x) = add_batch recording

-- what a call returned, the report under way after it, and the four places; a naming has none
pub record ReportReturned : Type 0 where
  pub returned : ℕ
  pub state : List ℕ
  pub met : ℕ
  pub empty : ℕ
  pub distances : ℕ
  pub mean : ℕ

-- calls that each meet their contract, begun with the bytes b as the report
abbrev pub ReportCallsMade : List ℕ → List Made → List ReportReturned → Type 0
ReportCallsMade b [] [] = Unit {0}
ReportCallsMade b [] (x ∷ xs) = ⊥
ReportCallsMade b (c ∷ cs) [] = ⊥
ReportCallsMade b (made_start n ∷ cs) (x ∷ xs) = Starts n b x.returned x.state × ReportCallsMade x.state cs xs
ReportCallsMade b (made_add recording m e d y ∷ cs) (x ∷ xs) =
    Adds b recording m e d y x.returned x.state x.met x.empty x.distances x.mean × ReportCallsMade x.state cs xs

-- a call returned, and left at its places, what the outcome o says
abbrev pub ReturnedAs : Outcome Answer → Made → ReportReturned → Type 0
ReturnedAs o (made_start n) x = x.returned ≡ packed (answer_told o)
ReturnedAs o (made_add recording m e d y) x = ReportTold o m e d y x.returned x.met x.empty x.distances x.mean

abbrev pub AllReturnedAs : List (Outcome Answer) → List Made → List ReportReturned → Type 0
AllReturnedAs [] [] [] = Unit {0}
AllReturnedAs (o ∷ os) (c ∷ cs) (x ∷ xs) = ReturnedAs o c x × AllReturnedAs os cs xs
AllReturnedAs [] (c ∷ cs) xs = ⊥
AllReturnedAs [] [] (x ∷ xs) = ⊥
AllReturnedAs (o ∷ os) [] xs = ⊥
AllReturnedAs (o ∷ os) (c ∷ cs) [] = ⊥

-- THE CLAIM, of a whole list of calls that begins with no report under way: every call answers as the fold does, and every report that is given has its mean near
pub record AsTheFold (room : ℕ) (cs : List Made) (xs : List ReportReturned) : Type 0 where
  pub answered : AllReturnedAs (report_answers room closed (map call_of cs)) cs xs
  pub near : (f : Figures) → Memᴰ (result (given f)) (report_answers room closed (map call_of cs)) → Reported f

-- the second list of calls is the first with other recordings in place of its own, each for its own by R, of the text that was named last; all else is alike
module _ (R : (text held full : List ℕ) → Type 0) where
  abbrev pub Exchanged : List ℕ → List Made → List Made → Type 0
  Exchanged text [] [] = Unit {0}
  Exchanged text [] (d ∷ ds) = ⊥
  Exchanged text (c ∷ cs) [] = ⊥
  Exchanged text (made_start n ∷ cs) (made_start m ∷ ds) = (n ≡ m) × Exchanged n.text cs ds
  Exchanged text (made_start n ∷ cs) (made_add full m' e' d' x' ∷ ds) = ⊥
  Exchanged text (made_add held m e d x ∷ cs) (made_start n ∷ ds) = ⊥
  Exchanged text (made_add held m e d x ∷ cs) (made_add full m' e' d' x' ∷ ds) =
      R text held full × (m ≡ m') × (e ≡ e') × (d ≡ d') × (x ≡ x') × Exchanged text cs ds
