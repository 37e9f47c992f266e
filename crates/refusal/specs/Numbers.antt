-- Document 01, the table of refusals, and document 02, which adds to it: the number and the place of each.
use Rattle.std.specs.Prelude.{ℕ}
use Rattle.refusal.specs.declared.Refusal.{Refusal}
use Rattle.refusal.specs.declared.Refusal.TheVariants.{PartialRecord, TooManyRecords, BadRecord, NoRecord, TextLength, NoReading, TextTooLarge, TooManyRuns, TooManyTops, ShortOutput, BadMarks, BadTarget, BadSheet, NotForLaboratory, NoReport, BadBand, NotBandQuestion, BadMoment, TooManyKept, BadSummary}

abbrev pub number_of : Refusal → ℕ
number_of PartialRecord = 1
number_of TooManyRecords = 2
number_of (BadRecord i) = 3
number_of NoRecord = 4
number_of TextLength = 5
number_of NoReading = 6
number_of TextTooLarge = 7
number_of TooManyRuns = 8
number_of TooManyTops = 9
number_of ShortOutput = 10
number_of BadMarks = 11
number_of BadTarget = 12
number_of BadSheet = 13
number_of NotForLaboratory = 14
number_of NoReport = 15
number_of BadBand = 16
number_of NotBandQuestion = 17
number_of BadMoment = 18
number_of TooManyKept = 19
number_of BadSummary = 20

-- the index of the record for number 3, else 0
abbrev pub place_of : Refusal → ℕ
place_of (BadRecord i) = i
place_of PartialRecord = 0
place_of TooManyRecords = 0
place_of NoRecord = 0
place_of TextLength = 0
place_of NoReading = 0
place_of TextTooLarge = 0
place_of TooManyRuns = 0
place_of TooManyTops = 0
place_of ShortOutput = 0
place_of BadMarks = 0
place_of BadTarget = 0
place_of BadSheet = 0
place_of NotForLaboratory = 0
place_of NoReport = 0
place_of BadBand = 0
place_of NotBandQuestion = 0
place_of BadMoment = 0
place_of TooManyKept = 0
place_of BadSummary = 0
