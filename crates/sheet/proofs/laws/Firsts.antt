-- Laws of the table of first additions: how it is filled from the last record on, and that what it shows is what the check finds.
use Rattle.std.specs.Prelude.{ℕ, zero, suc, ◌+◌, ◌*◌, ◌/◌, ◌≤◌, ◌<◌, ◌≡◌, refl, true, ◌⊎◌, List, [], ◌∷◌, leb, length, get_or, set, replicate}
use Rattle.std.proofs.Common.{arith, le_of_suc-le-suc, ◌∙◌, subst, inl, inr, ⊎_elim, length-set, get_or-set_same, get_or-set_other, eq-eqb, ne_eqb, leb-true, le-leb}
use Rattle.std.proofs.Math.Path.{sym, ap}
use Rattle.std.proofs.Math.ListN.{get_or-map}
use Rattle.std.proofs.lemmas.List.{length-replicate, get_or-replicate}
use Rattle.number.specs.Words.{word, signed, offset_binary}
use Rattle.number.proofs.laws.Boolean.{and_right, and_make}
use Rattle.number.proofs.laws.Least.{least_is, least_none}
use Rattle.number.proofs.laws.Order.{less_or_not, less-more_equal}
use Rattle.recording.specs.Reading.{Reading, adds, nothing}
use Rattle.recording.specs.Recording.{Raw, records, raw_at, reading, readings, most_pigments, fields, Accepted}
use Rattle.recording.proofs.laws.Acceptance.{Good, accepted_sound}
use Rattle.recording.proofs.laws.Pigment.{pigment_most}
use Rattle.recording.proofs.laws.Record.{length-records, get_d_chunks}
use Rattle.sheet.specs.Sheet.{Precedence, sheet_of, AcceptedSheet}
use Rattle.sheet.specs.Finding.{Breaks, BreaksLine, all_met, broken_at}
use Rattle.sheet.specs.inner.Found.{first_addition, breaks, finding}
use Rattle.sheet.specs.inner.Firsts.{Firsts, FirstsFrom, line_at, OutOfOrder, Earliest}
use Rattle.sheet.proofs.laws.Finding.{first-addition, breaks_means, true_found}
use Rattle.sheet.proofs.laws.Lines.{first-breaks}
use Rattle.sheet.proofs.laws.Sheet.{length_sheet, line_is, IsPigment, pigments_in}

-- ---- the records of an accepted recording

good_fields : (xs : List Raw) (from : ℕ) → Good from xs → (i : ℕ) → i < length xs → fields (get_or xs i []) ≡ true
good_fields [] from g i h = absurd (omega arith)
good_fields (x ∷ xs) from g zero h = g.1
good_fields (x ∷ xs) from g (suc i) h = good_fields xs (suc (word x 0)) g.2 i (le_of_suc-le-suc h)

module _ (bytes : List ℕ) (accepted : Accepted bytes) (i : ℕ) (h : i < length bytes / 16) where
  -- a record as it is read
  pub reading-at : reading (raw_at bytes i) ≡ get_or (readings bytes) i nothing
  unfolding reading signed offset_binary
  reading-at = ap reading (sym (get_d_chunks (length bytes / 16) bytes i h)) ∙ sym (get_or-map reading (records bytes) i [])

  -- its pigment and its time, by the bytes
  pub pigment-at : get_or (raw_at bytes i) 14 0 ≡ (get_or (readings bytes) i nothing).pigment
  unfolding reading
  pigment-at = ap (λ (x : Reading). x.pigment) reading-at

  pub time-at : word (raw_at bytes i) 0 ≡ (get_or (readings bytes) i nothing).time
  unfolding reading
  time-at = ap (λ (x : Reading). x.time) reading-at

  pub pigment_few : get_or (raw_at bytes i) 14 0 ≤ most_pigments
  unfolding reading
  pigment_few =
      let l = length-records bytes in
      pigment_most (raw_at bytes i) (ap fields (sym (get_d_chunks (length bytes / 16) bytes i h)) ∙ good_fields (records bytes) 0 (accepted_sound bytes accepted).good i (omega arith))

-- ---- filling it

module _ (r : List Reading) where
  -- before any record
  pub firsts_start : (n : ℕ) → n ≡ length r → FirstsFrom r n (replicate (suc most_pigments) n)
  firsts_start n e = record {
    long = length-replicate (suc most_pigments) n;
    from = λ k h. let z = at k h in omega arith;
    most = λ k h. let z = at k h in omega arith;
    has = λ k h l. let z = at k h in absurd (omega arith);
    none = λ k h j f g. let z = at k h in absurd (omega arith);
  }
    where
      at : (k : ℕ) → k ≤ most_pigments → get_or (replicate (suc most_pigments) n) k 0 ≡ n
      at k h = get_or-replicate (suc most_pigments) k n 0 (omega arith)

  -- one record more in front: its index is put at its pigment
  pub firsts_turn : (i : ℕ) (table : List ℕ) (p : ℕ) → FirstsFrom r (suc i) table → i < length r → (get_or r i nothing).pigment ≡ p → p ≤ most_pigments → FirstsFrom r i (set table p i)
  firsts_turn i table p t inside e h =
      let l = t.long in
      let same : get_or (set table p i) p 0 ≡ i = get_or-set_same table p i 0 (omega arith) in
      record {
        long = length-set table p i ∙ t.long;
        from = λ k m. ⊎_elim (λ q. let z = at k q in omega arith) (λ n. let z = other k n in let y = t.from k m in omega arith) (is k);
        most = λ k m. ⊎_elim (λ q. let z = at k q in omega arith) (λ n. let z = other k n in let y = t.most k m in omega arith) (is k);
        has = λ k m g. ⊎_elim
            (λ q. ap (λ (j : ℕ). (get_or r j nothing).pigment) (at k q) ∙ e ∙ sym q)
            (λ n. let z = other k n in ap (λ (j : ℕ). (get_or r j nothing).pigment) z ∙ t.has k m (omega arith)) (is k);
        none = λ k m j f g y. ⊎_elim
            (λ q. let z = at k q in absurd (omega arith))
            (λ n. let z = other k n in
            ⊎_elim (λ v. t.none k m j v (omega arith) y)
            (λ v. let w : j ≡ i = omega arith in n (sym y ∙ ap (λ (j : ℕ). (get_or r j nothing).pigment) w ∙ e)) (less_or_not i j)) (is k);
      }
    where
      is : (k : ℕ) → (k ≡ p) ⊎ (k ≡ p → ⊥)
      is k = ⊎_elim (λ b. inr (λ q. absurd (omega arith))) (⊎_elim (λ b. inr (λ q. absurd (omega arith))) (λ q. inl q)) (less-more_equal k p)

      at : (k : ℕ) → k ≡ p → get_or (set table p i) k 0 ≡ i
      at k q = let l = t.long in ap (λ (j : ℕ). get_or (set table p i) j 0) q ∙ get_or-set_same table p i 0 (omega arith)

      other : (k : ℕ) → (k ≡ p → ⊥) → get_or (set table p i) k 0 ≡ get_or table k 0
      other k n = get_or-set_other table p k i 0 n

  -- the whole table
  pub firsts_end : (table : List ℕ) → FirstsFrom r 0 table → Firsts r table
  firsts_end table t zero z h = absurd (omega arith)
  firsts_end table t (suc k) z h = ⊎_elim
      (λ l. sym (least_is (λ i. adds (suc k) (get_or r i nothing)) (length r) (get_or table (suc k) 0) l (eq-eqb (get_or r (get_or table (suc k) 0) nothing).pigment (suc k) (t.has (suc k) h l))
      (λ j g. ne_eqb (get_or r j nothing).pigment (suc k) (t.none (suc k) h j (omega arith) g))))
      (λ l.
      let m = t.most (suc k) h in
      let e : get_or table (suc k) 0 ≡ length r = omega arith in
      e ∙ sym (least_none (λ i. adds (suc k) (get_or r i nothing)) (length r) (λ j g. ne_eqb (get_or r j nothing).pigment (suc k) (t.none (suc k) h j (omega arith) (omega arith)))))
      (less_or_not (get_or table (suc k) 0) (length r))

-- ---- what it shows

module _ (r : List Reading) (table : List ℕ) (firsts : Firsts r table) (l : Precedence) (is-a : IsPigment l.a) (is_b : IsPigment l.b) where
  at_a : get_or table l.a 0 ≡ first_addition l.a r
  at_a = firsts l.a is-a.some is-a.most

  at_b : get_or table l.b 0 ≡ first_addition l.b r
  at_b = firsts l.b is_b.some is_b.most

  -- a line out of order is broken by the first addition of b
  pub order_breaks : OutOfOrder table (length r) l → Breaks r l (get_or table l.b 0)
  order_breaks o =
      let a = at_a in
      let b = at_b in
      let n = o.added in
      let e = o.early in
      subst (Breaks r l) (sym b)
      ((breaks_means r l (first_addition l.b r) (omega arith)).0
      (and_make (adds l.b (get_or r (first_addition l.b r) nothing)) (leb (first_addition l.b r) (first_addition l.a r))
      (first-addition r l.b (omega arith)).addition.adding (le-leb (first_addition l.b r) (first_addition l.a r) (omega arith))))

  -- a line that is broken is out of order, and its break stands no earlier
  pub breaks_order : (i : ℕ) → Breaks r l i → OutOfOrder table (length r) l × (get_or table l.b 0 ≤ i)
  breaks_order i b =
      let f = first-breaks r l i b in
      let a = at_a in
      let c = at_b in
      let h = f.1 in
      let n = f.0.addition.inside in
      let e = leb-true (first_addition l.b r) (first_addition l.a r)
      (and_right (adds l.b (get_or r (first_addition l.b r) nothing)) (leb (first_addition l.b r) (first_addition l.a r)) ((breaks_means r l (first_addition l.b r) n).1 f.0)) in
      (record { added = omega arith; early = omega arith }, omega arith)

module _ (r : List Reading) (table : List ℕ) (firsts : Firsts r table) (sheet : List ℕ) (accepted : AcceptedSheet sheet) (index line : ℕ)
    (e : Earliest table (length r) sheet (length sheet / 2) index line) where
  -- line m by its bytes, whose numbers are those of pigments
  of_line : (m i : ℕ) → BreaksLine r (sheet_of sheet) i m → (m < length sheet / 2) × OutOfOrder table (length r) (line_at sheet m) × (get_or table (line_at sheet m).b 0 ≤ i)
  of_line m i b =
      let l = length_sheet sheet in
      let h = b.inside in
      let n : m < length sheet / 2 = omega arith in
      let o = breaks_order r table firsts (line_at sheet m) (pigments_in sheet accepted (m * 2) (omega arith)) (pigments_in sheet accepted (m * 2 + 1) (omega arith)) i
      (subst (λ (p : Precedence). Breaks r p i) (line_is sheet m n) b.breaks) in
      (n, o.0, o.1)

  to_line : index < length r → BreaksLine r (sheet_of sheet) index line
  to_line h =
      let l = length_sheet sheet in
      let n : line < length sheet / 2 = e.there h in
      record {
        inside = omega arith;
        breaks = subst (λ (p : Precedence). Breaks r p index) (sym (line_is sheet line n))
            (subst (Breaks r (line_at sheet line)) (e.added h)
            (order_breaks r table firsts (line_at sheet line) (pigments_in sheet accepted (line * 2) (omega arith)) (pigments_in sheet accepted (line * 2 + 1) (omega arith)) (e.broken h)));
      }

  -- WHERE AN INDEX IS SHOWN, that record is the first break
  pub shown_broken : index < length r → broken_at (get_or r index nothing).time line ≡ finding (sheet_of sheet) r
  shown_broken h = true_found r (sheet_of sheet) (broken_at (get_or r index nothing).time line) (
    index,
    record {
      time = refl;
      breaks = to_line h;
      first_record = λ j m b. let o = of_line m j b in let x = e.earliest m o.0 o.1 in let y = o.2 in omega arith;
      first-line = λ m b. let o = of_line m index b in let x = e.earliest m o.0 o.1 in let y = o.2 in e.first h m o.0 o.1 (omega arith);
    },
  )

  -- else every line is met
  pub shown_met : length r ≤ index → all_met ≡ finding (sheet_of sheet) r
  shown_met h = true_found r (sheet_of sheet) all_met (λ i k b.
      let o = of_line k i b in
      let x = e.earliest k o.0 o.1 in
      let y = o.1.added in
      absurd (omega arith))

-- ---- the search of the lines

module _ (table : List ℕ) (n : ℕ) (sheet : List ℕ) where
  -- before any line
  pub earliest-start : Earliest table n sheet 0 n 0
  earliest-start = record {
    most = omega arith;
    earliest = λ m h. absurd (omega arith);
    there = λ h. absurd (omega arith);
    broken = λ h. absurd (omega arith);
    added = λ h. absurd (omega arith);
    first = λ h m g. absurd (omega arith);
  }

  module _ (k index line a b : ℕ) (at_a : a ≡ get_or table (line_at sheet k).a 0) (at_b : b ≡ get_or table (line_at sheet k).b 0) (e : Earliest table n sheet k index line) where
    -- line k is out of order, earlier than all before it
    pub earliest_here : b < index → b ≤ a → Earliest table n sheet (k + 1) b k
    earliest_here h g =
        let m = e.most in
        record {
          most = omega arith;
          earliest = λ m l o. ⊎_elim (λ v. let x = e.earliest m v o in omega arith) (λ v. let q : m ≡ k = omega arith in let z = ap (λ (m : ℕ). get_or table (line_at sheet m).b 0) q in omega arith) (less_or_not m k);
          there = λ i. omega arith;
          broken = λ i. record { added = omega arith; early = omega arith };
          added = λ i. sym at_b;
          first = λ i m l o q. ⊎_elim (λ v. let x = e.earliest m v o in absurd (omega arith)) (λ v. v) (less_or_not m k);
        }

    -- line k is in order, or its break is no earlier
    pub earliest_past : (b < index → a < b) → Earliest table n sheet (k + 1) index line
    earliest_past h =
        record {
          most = e.most;
          earliest = λ m l o. ⊎_elim (λ v. e.earliest m v o)
              (λ v. let q : m ≡ k = omega arith in
              let z = ap (λ (m : ℕ). get_or table (line_at sheet m).b 0) q in
              let y = ap (λ (m : ℕ). get_or table (line_at sheet m).a 0) q in
              let w = o.early in
              ⊎_elim (λ u. let t = h u in absurd (omega arith)) (λ u. omega arith) (less_or_not b index)) (less_or_not m k);
          there = λ h. let x = e.there h in omega arith;
          broken = e.broken;
          added = e.added;
          first = λ h m l o q. ⊎_elim (λ v. e.first h m v o q) (λ v. let x = e.there h in omega arith) (less_or_not m k);
        }
