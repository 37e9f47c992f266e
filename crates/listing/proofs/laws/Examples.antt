-- Worked examples, by computing: the entries of R1 and of R2, and of a recording below zero, in one summary.
use Rattle.std.specs.Prelude.{ℕ, ◌≡◌, refl, List, [], ◌∷◌, ◌++◌, ℤ, pos, negsuc}
use Rattle.number.specs.Words.{offset_binary, signed, words_bytes, bits}
use Rattle.refusal.specs.Outcome.{result, refused, judged}
use Rattle.recording.specs.Reading.{Curve, A, B}
use Rattle.listing.specs.Listing.{said_to_reach, listing}
use Rattle.listing.specs.Call.{find_of}

-- the entries of R1 and R2 as entry/specs/laws/Examples has them; the third has A from −5 to −1, B from −9 to −9
abbrev summary : List ℕ
summary =
    words_bytes (0 ∷ 70 ∷ 90 ∷ 30 ∷ 50 ∷ 50 ∷ 2 ∷ 0 ∷ [])
    ++ words_bytes (0 ∷ 80 ∷ 10 ∷ 2 ∷ 0 ∷ 0 ∷ 1 ∷ 0 ∷ [])
    ++ words_bytes (0 ∷ 10 ∷ bits (negsuc 0) ∷ bits (negsuc 4) ∷ bits (negsuc 8) ∷ bits (negsuc 8) ∷ 0 ∷ 0 ∷ [])

-- the numbers at a level of a curve
pub record FoundLine : Type 0 where
  pub curve : Curve
  pub level : ℤ
  pub numbers : List ℕ

abbrev pub found_lines : List FoundLine
found_lines =
    record { curve = A; level = pos 91; numbers = [] }
    ∷ record { curve = A; level = pos 90; numbers = 0 ∷ [] }
    ∷ record { curve = A; level = pos 10; numbers = 0 ∷ 1 ∷ [] }
    ∷ record { curve = A; level = negsuc 0; numbers = 0 ∷ 1 ∷ 2 ∷ [] }
    ∷ record { curve = B; level = pos 1; numbers = 0 ∷ [] }
    ∷ record { curve = B; level = negsuc 7; numbers = 0 ∷ 1 ∷ [] }
    ∷ record { curve = B; level = negsuc 8; numbers = 0 ∷ 1 ∷ 2 ∷ [] }
    ∷ []

abbrev AsComputed : List FoundLine → Type 0
AsComputed [] = Unit {0}
AsComputed (l ∷ ls) = (listing l.curve l.level summary ≡ words_bytes l.numbers) × AsComputed ls

pub lines-found : AsComputed found_lines
unfolding listing said_to_reach signed offset_binary
lines-found = (refl, (refl, (refl, (refl, (refl, (refl, (refl, tt)))))))

-- the call: two numbers where there is room for 8 bytes, 10 where there is not; a curve number of 2 is refused by 12 in any output
pub two-found : find_of summary 0 (pos 10) 8 ≡ result (words_bytes (0 ∷ 1 ∷ []))
unfolding find_of judged listing said_to_reach signed offset_binary
two-found = refl

pub no_room : find_of summary 0 (pos 10) 7 ≡ refused 10 0
unfolding find_of judged listing said_to_reach signed offset_binary
no_room = refl

pub no_curve : find_of summary 2 (pos 10) 0 ≡ refused 12 0
unfolding find_of judged listing said_to_reach signed offset_binary
no_curve = refl

-- one byte more, and the curve number wrong too: 20 before 12
pub not_in_entries : find_of (0 ∷ summary) 2 (pos 10) 0 ≡ refused 20 0
unfolding find_of judged listing said_to_reach signed offset_binary
not_in_entries = refl
