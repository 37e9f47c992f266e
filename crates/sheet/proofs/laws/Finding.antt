-- What the check finds is true, in the words of the paper, and no other finding is.
use Prim.Native.Nat.{ℕ, ◌≤◌, ◌<◌}
use Rattle.std.proofs.Common.{arith, sym, ap, ap₂, ◌∙◌, subst, inl, inr, ⊎_elim, leb-true, le-leb, ltb-true, ltb-false, lt-ltb}
use Rattle.std.specs.Prelude.{◌≡◌, Bool, true, false, cond, ◌⊎◌, ◌↔◌, List, length, get_or, leb, ltb}
use Rattle.std.proofs.Math.Path.{refl}
use Rattle.number.proofs.laws.Least.{least_holds, least_first}
use Rattle.number.proofs.laws.Boolean.{clash, and_left, and_right, and_make}
use Rattle.number.proofs.laws.Order.{less_or_not}
use Rattle.recording.specs.Reading.{Reading, adds, nothing}
use Rattle.sheet.specs.Sheet.{Precedence}
use Rattle.sheet.specs.Finding.{Addition, FirstAddition, Breaks, no_line, BreaksLine, Finding, all_met, broken_at, FirstBreak, TrueFinding}
use Rattle.sheet.specs.inner.Found.{first_addition, breaks, line_broken, record_breaking, finding}

-- ---- the first addition

module _ (r : List Reading) (k : ℕ) where
  -- no addition stands before it
  pub first-least : (i : ℕ) → Addition r k i → first_addition k r ≤ i
  first-least i a =
      ⊎_elim (λ h. absurd (clash a.adding (least_first (λ i. adds k (get_or r i nothing)) (length r) i h))) (λ h. h) (less_or_not i (first_addition k r))

  -- it is one, where it is inside
  pub first-addition : first_addition k r < length r → FirstAddition r k (first_addition k r)
  first-addition h = record {
    addition = record { inside = h; adding = least_holds (λ i. adds k (get_or r i nothing)) (length r) h };
    none_before = λ i l a. let m = first-least i a in absurd (omega arith);
  }

  -- THERE IS A FIRST ADDITION, or the pigment was never added
  pub first_or_never : ((j : ℕ) × FirstAddition r k j) ⊎ ((j : ℕ) → ¬ Addition r k j)
  first_or_never =
      ⊎_elim (λ h. inl (first_addition k r, first-addition h)) (λ h. inr (λ j a. let m = first-least j a in let n = a.inside in absurd (omega arith)))
      (less_or_not (first_addition k r) (length r))

  -- there is only one
  pub first_is : (j : ℕ) → FirstAddition r k j → first_addition k r ≡ j
  first_is j f =
      let h = first-least j f.addition in
      let n = f.addition.inside in
      let g : FirstAddition r k (first_addition k r) = first-addition (omega arith) in
      ⊎_elim (λ l. absurd (f.none_before (first_addition k r) l g.addition)) (λ l. omega arith) (less_or_not (first_addition k r) j)

-- ---- breaking a line

module _ (r : List Reading) (l : Precedence) (i : ℕ) where
  -- the test is the paper's sentence
  pub breaks_means : i < length r → (breaks r i l ≡ true) ↔ Breaks r l i
  breaks_means inside = (to, from)
    where
      to : breaks r i l ≡ true → Breaks r l i
      to e =
          let early : i ≤ first_addition l.a r = leb-true i (first_addition l.a r) (and_right (adds l.b (get_or r i nothing)) (leb i (first_addition l.a r)) e) in
          record {
            addition = record { inside = inside; adding = and_left (adds l.b (get_or r i nothing)) (leb i (first_addition l.a r)) e };
            early = ⊎_elim (λ f. inl (f.0, f.1, subst (λ (j : ℕ). i ≤ j) (first_is r l.a f.0 f.1) early)) (λ n. inr n) (first_or_never r l.a);
          }

      from : Breaks r l i → breaks r i l ≡ true
      from b =
          and_make (adds l.b (get_or r i nothing)) (leb i (first_addition l.a r)) b.addition.adding
          (le-leb i (first_addition l.a r)
          (⊎_elim (λ f. let e = first_is r l.a f.0 f.1 in let h = f.2 in omega arith)
          (λ n. ⊎_elim (λ h. absurd (n (first_addition l.a r) (first-addition r l.a h).addition)) (λ h. omega arith)
          (less_or_not (first_addition l.a r) (length r))) b.early))

module _ (r : List Reading) (sheet : List Precedence) where
  line-least : (i k : ℕ) → BreaksLine r sheet i k → line_broken sheet r i ≤ k
  line-least i k b =
      ⊎_elim
      (λ h. absurd (clash ((breaks_means r (get_or sheet k no_line) i b.breaks.addition.inside).1 b.breaks) (least_first (λ k. breaks r i (get_or sheet k no_line)) (length sheet) k h)))
      (λ h. h) (less_or_not k (line_broken sheet r i))

  line-breaks : (i : ℕ) → i < length r → line_broken sheet r i < length sheet → BreaksLine r sheet i (line_broken sheet r i)
  line-breaks i inside h = record {
    inside = h;
    breaks = (breaks_means r (get_or sheet (line_broken sheet r i) no_line) i inside).0 (least_holds (λ k. breaks r i (get_or sheet k no_line)) (length sheet) h);
  }

  record_least : (i k : ℕ) → BreaksLine r sheet i k → record_breaking sheet r ≤ i
  record_least i k b =
      let h = line-least i k b in
      let n = b.inside in
      ⊎_elim
      (λ l. absurd (clash (lt-ltb (line_broken sheet r i) (length sheet) (omega arith)) (least_first (λ i. ltb (line_broken sheet r i) (length sheet)) (length r) i l)))
      (λ l. l) (less_or_not i (record_breaking sheet r))

  -- WHAT THE CHECK FINDS IS TRUE
  pub finding_true : TrueFinding r sheet (finding sheet r)
  unfolding finding
  finding_true = go (ltb i (length r)) refl
    where
      i : ℕ
      i = record_breaking sheet r

      broken : i < length r → FirstBreak r sheet (get_or r i nothing).time (line_broken sheet r i) i
      broken h = record {
        time = refl;
        breaks = line-breaks i h (ltb-true (line_broken sheet r i) (length sheet) (least_holds (λ i. ltb (line_broken sheet r i) (length sheet)) (length r) h));
        first_record = λ j m b. record_least j m b;
        first-line = λ m b. line-least i m b;
      }

      go : (e : Bool) → ltb i (length r) ≡ e → TrueFinding r sheet (cond e (broken_at (get_or r i nothing).time (line_broken sheet r i)) all_met)
      go true e = (i, broken (ltb-true i (length r) e))
      go false e = λ j k b.
          let h = record_least j k b in
          let l = ltb-false i (length r) e in
          let n = b.breaks.addition.inside in
          absurd (omega arith)

  -- AND NO OTHER FINDING IS
  pub true_one : (f g : Finding) → TrueFinding r sheet f → TrueFinding r sheet g → f ≡ g
  true_one all_met all_met s t = refl
  true_one all_met (broken_at u m) s t = absurd (s t.0 m t.1.breaks)
  true_one (broken_at t k) all_met s n = absurd (n s.0 k s.1.breaks)
  true_one (broken_at t k) (broken_at u m) s v =
      let h = s.1.first_record v.0 m v.1.breaks in
      let g = v.1.first_record s.0 k s.1.breaks in
      let e : s.0 ≡ v.0 = omega arith in
      let x = s.1.first-line m (subst (λ (i : ℕ). BreaksLine r sheet i m) (sym e) v.1.breaks) in
      let y = v.1.first-line k (subst (λ (i : ℕ). BreaksLine r sheet i k) e s.1.breaks) in
      let q : k ≡ m = omega arith in
      ap₂ broken_at (sym s.1.time ∙ ap (λ (i : ℕ). (get_or r i nothing).time) e ∙ v.1.time) q

  -- so a finding that is true is what the check finds
  pub true_found : (f : Finding) → TrueFinding r sheet f → f ≡ finding sheet r
  true_found f s = true_one f (finding sheet r) s finding_true
