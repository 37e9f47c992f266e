-- A final newline is dropped, and nothing else.
use Rattle.std.specs.Prelude.{ℕ, ◌+◌, ◌-◌, ◌≤◌, ◌≡◌, refl, Bool, true, false, cond, List, [], ◌∷◌, ◌++◌, eqb, length, get_or, take}
use Rattle.std.proofs.Common.{sym, ap, ◌∙◌, ⊎_elim, arith, length-append, length-take-le, take_at, eq-eqb, ne_eqb}
use Rattle.std.proofs.Math.Seq.{take-length}
use Rattle.std.proofs.lemmas.List.{get_or_at}
use Rattle.number.proofs.laws.Order.{true_or_false}
use Rattle.page.specs.Typed.{ends_line, without_newline}

-- ---- by the last byte

pub line_typed : (s : List ℕ) (n : ℕ) → n ≡ length s → get_or s (n - 1) 0 ≡ 10 → take (n - 1) s ≡ without_newline s
unfolding without_newline
line_typed s n e h =
    let t : ends_line s ≡ true = ap (λ (k : ℕ). eqb (get_or s (k - 1) 0) 10) (sym e) ∙ eq-eqb (get_or s (n - 1) 0) 10 h in
    ap (λ (k : ℕ). take (k - 1) s) e ∙ sym (ap (λ (b : Bool). cond b (take (length s - 1) s) s) t)

pub plain_typed : (s : List ℕ) (n : ℕ) → n ≡ length s → (get_or s (n - 1) 0 ≡ 10 → ⊥) → take n s ≡ without_newline s
unfolding without_newline
plain_typed s n e h =
    let t : ends_line s ≡ false = ap (λ (k : ℕ). eqb (get_or s (k - 1) 0) 10) (sym e) ∙ ne_eqb (get_or s (n - 1) 0) 10 h in
    ap (λ (k : ℕ). take k s) e ∙ take-length s ∙ sym (ap (λ (b : Bool). cond b (take (length s - 1) s) s) t)

pub nothing_typed : (s : List ℕ) → length s ≡ 0 → take 0 s ≡ without_newline s
unfolding without_newline
nothing_typed [] e = refl
nothing_typed (b ∷ s) e = absurd (omega arith)

-- ---- ONE NEWLINE is dropped, and no other byte

last_byte : (s : List ℕ) (b : ℕ) → get_or (s ++ b ∷ []) (length (s ++ b ∷ []) - 1) 0 ≡ b
last_byte s b = let e : length (s ++ b ∷ []) - 1 ≡ length s = omega (arith, length-append s (b ∷ [])) in ap (λ (k : ℕ). get_or (s ++ b ∷ []) k 0) e ∙ get_or_at s b [] 0 (length s) refl

pub newline_dropped : (s : List ℕ) → without_newline (s ++ 10 ∷ []) ≡ s
newline_dropped s =
    let e : length s ≡ length (s ++ 10 ∷ []) - 1 = omega (arith, length-append s (10 ∷ [])) in
    sym (line_typed (s ++ 10 ∷ []) (length (s ++ 10 ∷ [])) refl (last_byte s 10)) ∙ take_at s (10 ∷ []) (length (s ++ 10 ∷ []) - 1) e

-- at most one byte goes
pub typed_length : (s : List ℕ) → length s ≤ length (without_newline s) + 1
unfolding without_newline
typed_length s =
    ⊎_elim (λ t. rw t (omega (arith, length-take-le (length s - 1) s (omega arith)))) (λ t. rw t (omega arith)) (true_or_false (ends_line s))
