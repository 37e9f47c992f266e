-- Laws of the lines of a sheet: no addition of a strictly before; a line 'a then a'; a line taken off; and that the first break is a first addition.
use Rattle.std.specs.Prelude.{ℕ, zero, suc, ◌≤◌, ◌<◌, ◌≡◌, refl, ◌↔◌, List, [], ◌∷◌, ◌++◌, length, get_or}
use Rattle.std.proofs.Common.{suc-le-suc, arith, le_of_suc-le-suc, sym, subst, inl, inr, ⊎_elim}
use Rattle.number.proofs.laws.Order.{less_or_not}
use Rattle.recording.specs.Reading.{Reading}
use Rattle.sheet.specs.Sheet.{Precedence}
use Rattle.sheet.specs.Finding.{Addition, Breaks, no_line, all_met, TrueFinding}
use Rattle.sheet.specs.inner.Found.{first_addition, finding}
use Rattle.sheet.proofs.laws.Finding.{first-least, first-addition, first_or_never, finding_true, true_found}

module _ (r : List Reading) (l : Precedence) (i : ℕ) where
  -- AN ADDITION OF b BREAKS THE LINE exactly where no addition of a stands strictly before it
  pub breaks_strictly : Breaks r l i ↔ (Addition r l.b i × ((j : ℕ) → j < i → ¬ Addition r l.a j))
  breaks_strictly = (
    λ b. (b.addition, λ j h a. ⊎_elim (λ f. let m = f.2 in f.1.none_before j (omega arith) a) (λ n. n j a) b.early),
    λ h. record {
      addition = h.0;
      early = ⊎_elim (λ f. inl (f.0, f.1, ⊎_elim (λ m. absurd (h.1 f.0 m f.1.addition)) (λ m. m) (less_or_not f.0 i))) (λ n. inr n) (first_or_never r l.a);
    },
  )

  -- then the first addition of b breaks it, and stands no later
  pub first-breaks : Breaks r l i → Breaks r l (first_addition l.b r) × (first_addition l.b r ≤ i)
  first-breaks b =
      let h = first-least r l.b i b.addition in
      let n = b.addition.inside in (
        record {
          addition = (first-addition r l.b (omega arith)).addition;
          early = ⊎_elim (λ f. let m = f.2 in inl (f.0, f.1, omega arith)) (λ n. inr n) b.early;
        },
        h,
      )

-- A LINE WITH a EQUAL TO b IS BROKEN EXACTLY IF a IS ADDED
pub own_line : (r : List Reading) (a : ℕ) → ((i : ℕ) × Breaks r (record { a = a; b = a }) i) ↔ ((i : ℕ) × Addition r a i)
own_line r a = (
  λ b. (b.0, b.1.addition),
  λ x. ⊎_elim (λ f. (f.0, record { addition = f.1.addition; early = inl (f.0, f.1, omega arith) })) (λ n. absurd (n x.0 x.1)) (first_or_never r a),
)

-- ---- sheets

-- AN EMPTY SHEET IS MET
pub empty_met : (r : List Reading) → finding [] r ≡ all_met
empty_met r = sym (true_found r [] all_met (λ i k b. let h = b.inside in absurd (omega arith)))

-- the lines of a sheet with one line fewer are lines of the sheet
kept_line : (ls : List Precedence) (l : Precedence) (ms : List Precedence) (k : ℕ) → k < length (ls ++ ms)
    → (m : ℕ) × (m < length (ls ++ (l ∷ ms))) × (get_or (ls ++ ms) k no_line ≡ get_or (ls ++ (l ∷ ms)) m no_line)
kept_line [] l ms k h = (suc k, suc-le-suc h, refl)
kept_line (x ∷ ls) l ms zero h = (zero, omega arith, refl)
kept_line (x ∷ ls) l ms (suc k) h = let q = kept_line ls l ms k (le_of_suc-le-suc h) in (suc q.0, suc-le-suc q.1, q.2)

-- TAKING A LINE OFF THE SHEET never breaks what was met
pub met_without : (r : List Reading) (ls : List Precedence) (l : Precedence) (ms : List Precedence) → finding (ls ++ (l ∷ ms)) r ≡ all_met → finding (ls ++ ms) r ≡ all_met
met_without r ls l ms e =
    let none : TrueFinding r (ls ++ (l ∷ ms)) all_met = subst (TrueFinding r (ls ++ (l ∷ ms))) e (finding_true r (ls ++ (l ∷ ms))) in
    sym (true_found r (ls ++ ms) all_met (λ i k b.
    let q = kept_line ls l ms k b.inside in
    none i q.0 (record { inside = q.1; breaks = subst (λ (p : Precedence). Breaks r p i) q.2 b.breaks })))
