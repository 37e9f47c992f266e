-- What the check finds depends on the times of the additions of each pigment only: recordings with increasing times and the same of these have the same finding.
use Rattle.std.specs.Prelude.{ℕ, zero, suc, ◌≤◌, ◌<◌, ◌≡◌, refl, Bool, true, false, length, get_or}
use Rattle.std.proofs.Common.{suc-le-suc, arith, le_of_suc-le-suc, sym, ap, ◌∙◌, subst, true≢false, inl, inr, ⊎_elim}
use mathlib.Core.List.Memᴰ
use mathlib.Core.List.{List, [], ◌∷◌, map, Memᴰ}
use Rattle.std.proofs.lemmas.List.{length-map}
use Rattle.std.proofs.Math.ListN.{get_or-map}
use Rattle.number.specs.Words.{signed, offset_binary}
use Rattle.number.proofs.laws.Order.{less_or_not, less-more_equal}
use Rattle.recording.specs.Condition.{when, pick, pick_from}
use Rattle.recording.specs.Reading.{Reading, adds, added, nothing}
use Rattle.recording.specs.Recording.{records, reading, readings, Accepted}
use Rattle.recording.proofs.laws.Acceptance.{accepted_sound, good_rising}
use Rattle.sheet.specs.Sheet.{Precedence}
use Rattle.sheet.specs.Finding.{Addition, FirstAddition, Breaks, no_line, BreaksLine, Finding, all_met, broken_at, TrueFinding}
use Rattle.sheet.specs.inner.Found.{finding}
use Rattle.sheet.proofs.laws.Finding.{first_or_never, finding_true, true_found}

abbrev time_at : List Reading → ℕ → ℕ
time_at r i = (get_or r i nothing).time

-- the times of the additions of pigment k, in order
abbrev times_added : ℕ → List Reading → List ℕ
times_added k r = map (λ (x : Reading). x.time) (pick (added k) r)

-- ---- the times are those of additions

-- an addition of k at the time t
pub record AddedAt (r : List Reading) (k t : ℕ) : Type 0 where
  pub i : ℕ
  pub addition : Addition r k i
  pub time : time_at r i ≡ t

module _ (k t : ℕ) where
  addition_time : (b r : List Reading) (i : ℕ) → Addition r k i → time_at r i ≡ t → Memᴰ t (map (λ (x : Reading). x.time) (pick_from (added k) b r))
  addition_time b [] i a e = let h = a.inside in absurd (omega arith)
  addition_time b (x ∷ r) i a e = go i (adds k x) refl a e (λ i a e. addition_time (x ∷ b) r i a e)
    where
      go : (i : ℕ) (s : Bool) → adds k x ≡ s → Addition (x ∷ r) k i → time_at (x ∷ r) i ≡ t
          → ((i : ℕ) → Addition r k i → time_at r i ≡ t → Memᴰ t (map (λ (x : Reading). x.time) (pick_from (added k) (x ∷ b) r)))
          → Memᴰ t (map (λ (x : Reading). x.time) (when s x (pick_from (added k) (x ∷ b) r)))
      go zero true q a e rest = Memᴰ.head (sym e)
      go zero false q a e rest = absurd (true≢false (sym a.adding ∙ q))
      go (suc i) true q a e rest = Memᴰ.tail (rest i (record { inside = le_of_suc-le-suc a.inside; adding = a.adding }) e)
      go (suc i) false q a e rest = rest i (record { inside = le_of_suc-le-suc a.inside; adding = a.adding }) e

  later_addition : (x : Reading) (r : List Reading) → AddedAt r k t → AddedAt (x ∷ r) k t
  later_addition x r a = record { i = suc a.i; addition = record { inside = suc-le-suc a.addition.inside; adding = a.addition.adding }; time = a.time }

  time_addition : (b r : List Reading) → Memᴰ t (map (λ (x : Reading). x.time) (pick_from (added k) b r)) → AddedAt r k t
  time_addition b [] m = absurd (Memᴰ.not-nil m)
  time_addition b (x ∷ r) m = go (adds k x) refl m (λ n. later_addition x r (time_addition (x ∷ b) r n))
    where
      go : (s : Bool) → adds k x ≡ s → Memᴰ t (map (λ (x : Reading). x.time) (when s x (pick_from (added k) (x ∷ b) r)))
          → (Memᴰ t (map (λ (x : Reading). x.time) (pick_from (added k) (x ∷ b) r)) → AddedAt (x ∷ r) k t) → AddedAt (x ∷ r) k t
      go true q m rest = ⊎_elim
          (λ (e : t ≡ x.time). record { i = zero; addition = record { inside = omega arith; adding = q }; time = sym e })
          rest (Memᴰ.cases_cons m)
      go false q m rest = rest m

-- ---- two recordings with the same times

-- times strictly increase
abbrev Increasing : List Reading → Type 0
Increasing r = (i j : ℕ) → i < j → j < length r → time_at r i < time_at r j

-- an addition at the same time in the other recording
abbrev Carries : List Reading → List Reading → Type 0
Carries r s = (k i : ℕ) → Addition r k i → AddedAt s k (time_at r i)

module _ (r s : List Reading) (up : Increasing r) (rise : Increasing s) (there : Carries r s) (back : Carries s r) where
  -- by times as by places
  no_later : (i j : ℕ) → i < length r → i ≤ j → j < length r → time_at r i ≤ time_at r j
  no_later i j n h m = ⊎_elim (λ l. let t = up i j l m in omega arith) (⊎_elim (λ l. absurd (omega arith)) (λ e. let t = ap (time_at r) e in omega arith)) (less-more_equal i j)

  no_earlier : (i j : ℕ) → i < length s → time_at s i ≤ time_at s j → i ≤ j
  no_earlier i j n h = ⊎_elim (λ l. let t = rise j i l n in absurd (omega arith)) (λ l. l) (less_or_not j i)

  same_place : (i j : ℕ) → i < length r → j < length r → time_at r i ≡ time_at r j → i ≡ j
  same_place i j n m e =
      ⊎_elim (λ l. let t = up i j l m in absurd (omega arith)) (⊎_elim (λ l. let t = up j i l n in absurd (omega arith)) (λ q. q)) (less-more_equal i j)

  -- a line that an addition breaks is broken by the addition of the same time
  carried : (l : Precedence) (i : ℕ) → Breaks r l i → (j : ℕ) × Breaks s l j × (time_at s j ≡ time_at r i)
  carried l i b =
      let x = there l.b i b.addition in
      (x.i, record { addition = x.addition; early = ⊎_elim (λ f. inl (f.0, f.1, no_earlier x.i f.0 x.addition.inside (in_time x f.0 f.1))) (λ n. inr n) (first_or_never s l.a) }, x.time)
    where
      in_time : (x : AddedAt s l.b (time_at r i)) (m : ℕ) → FirstAddition s l.a m → time_at s x.i ≤ time_at s m
      in_time x m f =
          let y = back l.a m f.addition in
          let e = x.time in
          let q = y.time in
          let h : i ≤ y.i = ⊎_elim
          (λ g. let o = g.2 in ⊎_elim (λ k. absurd (g.1.none_before y.i k y.addition)) (λ k. omega arith) (less_or_not y.i g.0))
          (λ n. absurd (n y.i y.addition)) b.early in
          let t = no_later i y.i b.addition.inside h y.addition.inside in
          omega arith

module _ (r s : List Reading) (up : Increasing r) (rise : Increasing s) (there : Carries r s) (back : Carries s r) (sheet : List Precedence) where
  line_there : (i k : ℕ) → BreaksLine r sheet i k → (j : ℕ) × BreaksLine s sheet j k × (time_at s j ≡ time_at r i)
  line_there i k b = let c = carried r s up rise there back (get_or sheet k no_line) i b.breaks in (c.0, record { inside = b.inside; breaks = c.1 }, c.2)

  line-back : (i k : ℕ) → BreaksLine s sheet i k → (j : ℕ) × BreaksLine r sheet j k × (time_at r j ≡ time_at s i)
  line-back i k b = let c = carried s r rise up back there (get_or sheet k no_line) i b.breaks in (c.0, record { inside = b.inside; breaks = c.1 }, c.2)

  -- a finding that is true of the one is true of the other
  true_there : (f : Finding) → TrueFinding r sheet f → TrueFinding s sheet f
  true_there all_met none = λ i k b. let c = line-back i k b in none c.0 k c.1
  true_there (broken_at t k) f =
      let i : ℕ = f.0 in
      let c = line_there i k f.1.breaks in
      let j : ℕ = c.0 in
      let ct = c.2 in (
        j,
        record {
          time = c.2 ∙ f.1.time;
          breaks = c.1;
          first_record = λ m n b.
              let d = line-back m n b in
              let dt = d.2 in
              let h = no_later r s up rise there back i d.0 f.1.breaks.breaks.addition.inside (f.1.first_record d.0 n d.1) d.1.breaks.addition.inside in
              no_earlier r s up rise there back j m c.1.breaks.addition.inside (omega arith);
          first-line = λ m b.
              let d = line-back j m b in
              let e = same_place r s up rise there back d.0 i d.1.breaks.addition.inside f.1.breaks.breaks.addition.inside (d.2 ∙ c.2) in
              f.1.first-line m (subst (λ (n : ℕ). BreaksLine r sheet n m) e d.1);
        },
      )

  same_true : finding sheet r ≡ finding sheet s
  same_true = true_found s sheet (finding sheet r) (true_there (finding sheet r) (finding_true r sheet))

-- ---- of recordings

increasing : (bytes : List ℕ) → Accepted bytes → Increasing (readings bytes)
unfolding reading signed offset_binary
increasing bytes a i j h n =
    let l = length-map (records bytes) reading in
    let t = good_rising (records bytes) 0 (accepted_sound bytes a).good i j h (omega arith) in
    let e = ap (λ (x : Reading). x.time) (get_or-map reading (records bytes) i []) in
    let q = ap (λ (x : Reading). x.time) (get_or-map reading (records bytes) j []) in
    omega arith

carries : (r s : List Reading) → ((k : ℕ) → times_added k r ≡ times_added k s) → Carries r s
carries r s e k i a = time_addition k (time_at r i) [] s (subst (Memᴰ (time_at r i)) (e k) (addition_time k (time_at r i) [] r i a refl))

-- ACCEPTED RECORDINGS WITH THE SAME TIMES OF THE ADDITIONS of each pigment have the same finding
pub same_finding : (sheet : List Precedence) (full held : List ℕ) → Accepted full → Accepted held
    → ((k : ℕ) → map (λ (x : Reading). x.time) (pick (added k) (readings held)) ≡ map (λ (x : Reading). x.time) (pick (added k) (readings full)))
    → finding sheet (readings held) ≡ finding sheet (readings full)
same_finding sheet full held a h e =
    same_true (readings held) (readings full) (increasing held h) (increasing full a) (carries (readings held) (readings full) e) (carries (readings full) (readings held) (λ k. sym (e k))) sheet
