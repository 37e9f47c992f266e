-- Worked examples: additions by hand, and the order call on the bytes of R3, which has pigment 7 at T 20 and 16 at T 40.
use Rattle.std.specs.Prelude.{ℕ, ◌≡◌, refl, [], ◌∷◌, pos}
use Rattle.number.specs.Least.{least}
use Rattle.number.specs.Words.{signed, offset_binary}
use Rattle.refusal.specs.Outcome.{result, refused, judged}
use Rattle.recording.specs.Reading.{Reading}
use Rattle.recording.specs.Recording.{reading, fields, fields_of, lawful, first_bad}
use Rattle.recording.specs.R3.{R3}
use Rattle.sheet.specs.Sheet.{Precedence, sheet_of}
use Rattle.sheet.specs.Finding.{all_met, broken_at}
use Rattle.sheet.specs.inner.Found.{finding}
use Rattle.sheet.specs.Call.{order_of}

-- a reading with a time and a pigment
abbrev at : ℕ → ℕ → Reading
at t p = record { time = t; a = pos 0; b = pos 0; slope_a = 1; slope_b = 1; pigment = p }

infixl 20 ◌before◌
abbrev ◌before◌ : ℕ → ℕ → Precedence
a before b = record { a = a; b = b }

-- first the record, then the line: 3 comes first and breaks line 1, though line 0 is broken too
pub record_then_line : finding ((1 before 2) ∷ (4 before 3) ∷ []) (at 0 0 ∷ at 10 3 ∷ at 20 2 ∷ []) ≡ broken_at 10 1
unfolding finding least
record_then_line = refl

-- of the lines that the addition breaks the first
pub line_first : finding ((5 before 6) ∷ (1 before 2) ∷ (3 before 2) ∷ []) (at 10 2 ∷ at 20 1 ∷ []) ≡ broken_at 10 1
unfolding finding least
line_first = refl

-- in order; the same the other way round; where a was never added; where b was not
pub in_order : finding ((1 before 2) ∷ []) (at 0 1 ∷ at 10 2 ∷ at 20 1 ∷ at 30 2 ∷ []) ≡ all_met
unfolding finding least
in_order = refl

pub out_of_order : finding ((1 before 2) ∷ []) (at 0 2 ∷ at 10 1 ∷ at 20 2 ∷ []) ≡ broken_at 0 0
unfolding finding least
out_of_order = refl

pub never_added : finding ((1 before 2) ∷ []) (at 0 0 ∷ at 10 2 ∷ []) ≡ broken_at 10 0
unfolding finding least
never_added = refl

pub not_asked_for : finding ((1 before 2) ∷ []) (at 0 1 ∷ at 10 3 ∷ []) ≡ all_met
unfolding finding least
not_asked_for = refl

-- a line with a equal to b
pub own_broken : finding ((3 before 3) ∷ []) (at 0 1 ∷ at 10 3 ∷ at 20 3 ∷ []) ≡ broken_at 10 0
unfolding finding least
own_broken = refl

-- ---- the call

pub R3-met : order_of R3 (7 ∷ 16 ∷ []) ≡ result all_met
unfolding order_of judged sheet_of finding least reading signed offset_binary fields fields_of lawful first_bad
R3-met = refl

pub R3-broken : order_of R3 (7 ∷ 16 ∷ 16 ∷ 7 ∷ []) ≡ result (broken_at 20 1)
unfolding order_of judged sheet_of finding least reading signed offset_binary fields fields_of lawful first_bad
R3-broken = refl

-- an odd length, and the numbers 0 and 17
pub bad_sheets : (order_of R3 (7 ∷ []) ≡ refused 13 0) × (order_of R3 (0 ∷ 7 ∷ []) ≡ refused 13 0) × (order_of R3 (7 ∷ 17 ∷ []) ≡ refused 13 0)
unfolding order_of judged sheet_of finding least reading signed offset_binary fields fields_of lawful first_bad
bad_sheets = (refl, refl, refl)

-- 4 comes before 13
pub empty_recording : order_of [] (7 ∷ []) ≡ refused 4 0
unfolding order_of judged sheet_of finding least reading signed offset_binary fields fields_of lawful first_bad
empty_recording = refl
