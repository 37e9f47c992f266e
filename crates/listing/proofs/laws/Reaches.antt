-- The greatest value that an entry gives, compared in offset binary.
use Rattle.std.specs.Prelude.{ℕ, zero, suc, ◌+◌, ◌*◌, ◌≤◌, ◌<◌, ◌≡◌, List, leb, get_or, drop, ℤ}
use Rattle.std.proofs.Common.{arith, sym, ap, ap₂, ◌∙◌, get_or-take, get_or-drop}
use Rattle.std.specs.Int.Signed.{le_z}
use Rattle.number.specs.Axis.{axis, whole}
use Rattle.number.specs.Words.{word, offset_binary, signed, bits}
use Rattle.number.proofs.laws.Words.{sub_le, bits-whole, signed-bits}
use Rattle.recording.specs.Reading.{curve_of}
use Rattle.entry.specs.Entry.{entry_bytes, greatest_at}
use Rattle.listing.specs.Listing.{entry_at, said_to_reach}

-- the four bytes from o on of entry i
word_of : (s : List ℕ) (i o at : ℕ) → o + 4 ≤ entry_bytes → at ≡ i * entry_bytes + o → word (entry_at s i) o ≡ word s at
word_of s i o at h e =
    let byte : (j k : ℕ) → j < entry_bytes → k ≡ i * entry_bytes + j → get_or (entry_at s i) j 0 ≡ get_or s k 0 =
    λ j k l f. get_or-take entry_bytes (drop (i * entry_bytes) s) j 0 l ∙ get_or-drop (i * entry_bytes) s j 0 ∙ ap (λ (m : ℕ). get_or s m 0) (sym f) in
    let b0 = byte o at (omega arith) (omega arith) in
    let b1 = byte (o + 1) (at + 1) (omega arith) (omega arith) in
    let b2 = byte (o + 2) (at + 2) (omega arith) (omega arith) in
    let b3 = byte (o + 3) (at + 3) (omega arith) (omega arith) in
    cc

greatest_word : (s : List ℕ) (i curve : ℕ) → curve < 2 → word (entry_at s i) (greatest_at (curve_of curve)) ≡ word s (i * entry_bytes + 8 + 8 * curve)
greatest_word s i zero h = word_of s i 8 (i * entry_bytes + 8 + 0) (omega arith) (omega arith)
greatest_word s i (suc zero) h = word_of s i 16 (i * entry_bytes + 8 + 8) (omega arith) (omega arith)
greatest_word s i (suc (suc k)) h = absurd (omega arith)

-- a number of the axis in offset binary
lifted : (index : ℕ) → index < axis → offset_binary (bits (whole index)) ≡ index + 147483648
unfolding offset_binary
lifted index h =
    let e = bits-whole index h in
    omega arith

pub reaches-index : (s : List ℕ) (i curve index : ℕ) → curve < 2 → index < axis
    → leb (index + 147483648) (offset_binary (word s (i * entry_bytes + 8 + 8 * curve))) ≡ said_to_reach (curve_of curve) (whole index) (entry_at s i)
unfolding said_to_reach signed
reaches-index s i curve index h k =
    ap₂ (λ (m w : ℕ). leb m (offset_binary w)) (sym (lifted index k)) (sym (greatest_word s i curve h))
    ∙ sym (sub_le 2147483648 (offset_binary (bits (whole index))) (offset_binary (word (entry_at s i) (greatest_at (curve_of curve)))))
    ∙ ap (λ (z : ℤ). le_z z (signed (word (entry_at s i) (greatest_at (curve_of curve))))) (signed-bits index k)
