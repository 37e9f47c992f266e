-- Bytes s with others, t, behind them: what lies within s is read there, and put there.
use Rattle.std.specs.Prelude.{ℕ, ◌+◌, ◌≤◌, ◌≡◌, take, drop}
use Rattle.std.proofs.Common.{arith, ap, ◌∙◌, length-drop}
use Rattle.std.proofs.Math.Path.{sym, ap₂}
use mathlib.Core.List.{List, ◌++◌, append_assoc}
use Rattle.std.proofs.Math.ListN.{length}
use Rattle.std.proofs.lemmas.List.{take-append-le, drop-append-le}
use Rattle.std.proofs.Math.Seq.{take-append_seam}
use Rattle.number.specs.Words.{word}
use Rattle.copying.specs.Put.{part, put}
use Rattle.copying.proofs.laws.Put.{word-part}

module _ (s t : List ℕ) where
  pub part-within : (at n : ℕ) → at + n ≤ length s → part at n (s ++ t) ≡ part at n s
  part-within at n h =
      let d = length-drop at s in
      ap (take n) (drop-append-le at s t (omega arith)) ∙ take-append-le n (drop at s) t (omega arith)

  pub word-within : (at : ℕ) → at + 4 ≤ length s → word (s ++ t) at ≡ word s at
  word-within at h =
      let e : at ≡ 0 + at = omega arith in
      ap (word (s ++ t)) e ∙ sym (word-part 0 (length s) (s ++ t) at h) ∙ ap (λ (x : List ℕ). word x at) (take-append_seam s t)

  pub put-within : (at : ℕ) (v : List ℕ) → at + length v ≤ length s → put at v (s ++ t) ≡ put at v s ++ t
  unfolding put
  put-within at v h =
      ap₂ (λ (x y : List ℕ). (x ++ v) ++ y) (take-append-le at s t (omega arith)) (drop-append-le (at + length v) s t h)
      ∙ sym (append_assoc (take at s ++ v) (drop (at + length v) s) t)
