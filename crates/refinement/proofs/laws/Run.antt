-- A run with one reading more, judged by the kept readings of the run alone.
use Rattle.std.specs.Prelude.{ℕ, zero, suc, ◌+◌, ◌*◌, ◌/◌, ◌≤◌, ◌<◌, ◌≡◌, refl, Bool, true, false, ◌&&◌, length, get_or, leb, ltb}
use Rattle.std.proofs.Common.{arith, sym, ap₂, ◌∙◌, subst, ⊎_elim, length-append, le-ltb, leb-true}
use Rattle.std.proofs.Math.Path.{ap}
use mathlib.Core.List.{List, [], ◌∷◌, ◌++◌, append-nil}
use Rattle.std.proofs.Math.ListN.{get_or-append}
use Rattle.std.proofs.Math.Seq.{get_or-append_seam}
use Rattle.std.proofs.Math.Dec.{leb-zero}
use Rattle.number.specs.Words.{word}
use Rattle.number.proofs.laws.Boolean.{and_left, and_right, clash}
use Rattle.number.proofs.laws.Order.{less_or_not}
use Rattle.recording.specs.Condition.{Condition, pick, on}
use Rattle.recording.specs.Recording.{Raw, records, concat, reading, fields, lawful, first_bad, most_records, Accepted}
use Rattle.recording.proofs.laws.Record.{Sixteens, sixteens_pick, length-concat, concat-append, records-concat, records-append}
use Rattle.recording.proofs.laws.Acceptance.{Good, good_lawful, good_join, next, first-bad, sound_accepted}
use Rattle.kept.specs.Kept.{kept_for}
use Rattle.kept.specs.Selection.{flags}
use Rattle.kept.proofs.laws.Stability.{pick-flags}
use Rattle.kept.proofs.laws.On.{on_last_below}
use Rattle.kept.proofs.laws.Kept.{last-kept}
use Rattle.thin.specs.Thin.{kept_bytes}
use Rattle.thin.proofs.laws.Model.{kept_join}
use Rattle.thin.proofs.laws.Join.{next_pick}
use Rattle.thin.proofs.laws.Selection.{good_select}
use Rattle.live_state.specs.Limits.{most_held}
use Rattle.live_state.specs.State.{head_of}
use Rattle.live.specs.History.{kept_of}
use Rattle.refinement.proofs.laws.Represents.{run_of, Taken}

-- ---- the rules of one reading more

-- the time of the last of some readings
last-time : (y : Raw) (ys : List Raw) (from : ℕ) (x : Raw) → suc (word (get_or (y ∷ ys ++ x ∷ []) (length ys) []) 0) ≡ next from (y ∷ ys)
last-time y [] from x = refl
last-time y (z ∷ ys) from x = last-time z ys (suc (word y 0)) x

-- it keeps to its rules behind the readings xs
pub lawful_behind : (xs : List Raw) (x : Raw) → lawful (xs ++ x ∷ []) (length xs) ≡ (fields x && leb (next 0 xs) (word x 0))
unfolding lawful
lawful_behind [] x = ap (λ (b : Bool). fields x && b) (sym (leb-zero (word x 0)))
lawful_behind (y ∷ ys) x =
    let g : get_or (y ∷ ys ++ x ∷ []) (length (y ∷ ys)) [] ≡ x = get_or-append_seam (y ∷ ys) x [] [] in
    ap₂ ◌&&◌ (ap fields g) (ap₂ (λ (a : ℕ) (z : Raw). leb a (word z 0)) (last-time y ys 0 x) g)

-- a reading of the front keeps to its rules as before
lawful-front : (xs ys : List Raw) (i : ℕ) → i < length xs → lawful (xs ++ ys) i ≡ lawful xs i
unfolding lawful
lawful-front xs ys zero h = ap (λ (x : Raw). fields x && true) (get_or-append xs ys [] zero h)
lawful-front xs ys (suc i) h =
    let g = get_or-append xs ys [] (suc i) h in
    let k = get_or-append xs ys [] i (omega arith) in
    ap₂ (λ (x y : Raw). fields x && ltb (word y 0) (word x 0)) g k

-- no reading of a front that is good is out of its rules
pub front_good : (xs : List Raw) (x : Raw) → Good 0 xs → ltb (first_bad (xs ++ x ∷ [])) (length xs) ≡ false
front_good xs x g = ⊎_elim (λ h. absurd (never h)) (λ h. le-ltb (first_bad (xs ++ x ∷ [])) (length xs) h) (less_or_not (first_bad (xs ++ x ∷ [])) (length xs))
  where
    never : first_bad (xs ++ x ∷ []) < length xs → ⊥
    never h =
        let l = length-append xs (x ∷ []) in
        clash (lawful-front xs (x ∷ []) (first_bad (xs ++ x ∷ [])) h ∙ good_lawful xs 0 g (first_bad (xs ++ x ∷ [])) h) (first-bad (xs ++ x ∷ []) (omega arith))

-- ---- the kept readings of a run

module _ (marks : List ℕ) where
  ρ : Condition Raw
  ρ = on reading (kept_for marks)

  pub kept-sixteen : (xs : List Raw) → Sixteens xs → Sixteens (kept_of marks xs)
  kept-sixteen xs h = sixteens_pick (on reading (kept_for marks)) [] xs h

  -- their bytes are what thinning keeps of the run's bytes
  pub kept-concat : (xs : List Raw) → Sixteens xs → kept_bytes marks (concat xs) ≡ concat (kept_of marks xs)
  unfolding kept_bytes
  kept-concat xs h = ap (λ (r : List Raw). concat (pick (on reading (kept_for marks)) r)) (records-concat xs h)

  pub run_length : (xs : List Raw) → Sixteens xs → length (run_of marks xs) ≡ 16 + 16 * length (kept_of marks xs)
  run_length xs h =
      let l = length-concat (kept_of marks xs) (kept-sixteen xs h) in
      length-append (head_of (length xs) (length (kept_of marks xs))) (concat (kept_of marks xs)) ∙ omega arith

  pub kept_good : (xs : List Raw) → Good 0 xs → Good 0 (kept_of marks xs)
  kept_good xs g = subst (Good 0) (sym (pick-flags (on reading (kept_for marks)) [] xs)) (good_select (flags (on reading (kept_for marks)) xs) xs 0 g)

  -- THE LAST READING IS KEPT, so a reading keeps to its rules behind the kept ones where it does behind the run
  pub lawful-kept : (xs : List Raw) (x : Raw) → lawful (kept_of marks xs ++ x ∷ []) (length (kept_of marks xs)) ≡ lawful (xs ++ x ∷ []) (length xs)
  lawful-kept xs x =
      lawful_behind (kept_of marks xs) x
      ∙ ap (λ (n : ℕ). fields x && leb n (word x 0)) (next_pick (on reading (kept_for marks)) (on_last_below reading (kept_for marks) (last-kept marks)) xs [] 0)
      ∙ sym (lawful_behind xs x)

  concat_snoc : (xs : List Raw) (x : Raw) → concat (xs ++ x ∷ []) ≡ concat xs ++ x
  concat_snoc xs x = concat-append xs (x ∷ []) ∙ ap (λ (b : List ℕ). concat xs ++ b) (append-nil x)

  module _ (xs : List Raw) (x : Raw) (h : Sixteens xs) (lx : length x ≡ 16) where
    -- the kept readings, with one behind them, as records
    pub records_behind : records (concat (kept_of marks xs) ++ x) ≡ kept_of marks xs ++ x ∷ []
    records_behind =
        let k : Sixteens (kept_of marks xs) = kept-sixteen xs h in
        let l = length-concat (kept_of marks xs) k in
        let m = length-concat (x ∷ []) (lx, tt) in
        records-append (concat (kept_of marks xs)) x (omega arith)
        ∙ ap₂ ◌++◌ (records-concat (kept_of marks xs) k) (ap records (sym (append-nil x)) ∙ records-concat (x ∷ []) (lx, tt))

    pub grown_sixteens : Sixteens (xs ++ x ∷ [])
    grown_sixteens = go xs h
      where
        go : (ys : List Raw) → Sixteens ys → Sixteens (ys ++ x ∷ [])
        go [] t = (lx, tt)
        go (y ∷ ys) t = (t.0, go ys t.1)

    -- THINNED AGAIN, they are the kept readings of the run with it
    pub kept_behind : kept_bytes marks (concat (kept_of marks xs) ++ x) ≡ concat (kept_of marks (xs ++ x ∷ []))
    kept_behind =
        let l = length-concat xs h in
        ap (λ (b : List ℕ). kept_bytes marks (b ++ x)) (sym (kept-concat xs h)) ∙ kept_join marks (concat xs) x (omega arith) ∙ ap (kept_bytes marks) (sym (concat_snoc xs x))
        ∙ kept-concat (xs ++ x ∷ []) grown_sixteens

    -- a reading that is not refused is taken
    pub taken_more : Taken marks xs → lawful (xs ++ x ∷ []) (length xs) ≡ true → length (xs ++ x ∷ []) ≤ most_records
        → length (kept_of marks (xs ++ x ∷ [])) ≤ most_held → Taken marks (xs ++ x ∷ [])
    taken_more t l few held =
        let r : (fields x && leb (next 0 xs) (word x 0)) ≡ true = sym (lawful_behind xs x) ∙ l in
        record {
          sixteens = grown_sixteens;
          good = good_join xs (x ∷ []) 0 t.good (leb-true (next 0 xs) (word x 0) (and_right (fields x) (leb (next 0 xs) (word x 0)) r), and_left (fields x) (leb (next 0 xs) (word x 0)) r, tt);
          few = few;
          held = held;
        }

    -- the bytes of the run with it
    pub run_behind : head_of (length xs + 1) (length (concat (kept_of marks (xs ++ x ∷ []))) / 16) ++ concat (kept_of marks (xs ++ x ∷ [])) ≡ run_of marks (xs ++ x ∷ [])
    run_behind =
        let ys : List Raw = kept_of marks (xs ++ x ∷ []) in
        let l = length-concat ys (kept-sixteen (xs ++ x ∷ []) grown_sixteens) in
        let a = length-append xs (x ∷ []) in
        let n : length xs + 1 ≡ length (xs ++ x ∷ []) = omega arith in
        let m : length (concat ys) / 16 ≡ length ys = omega arith in
        ap₂ (λ (i j : ℕ). head_of i j ++ concat ys) n m

-- the run is an accepted recording
pub taken_accepted : (ks : List ℕ) (run : List Raw) → Taken ks run → Accepted (concat run)
taken_accepted ks run t =
    let l = length-concat run t.sixteens in
    let few = t.few in
    sound_accepted (concat run) (record { whole = omega arith; few = omega arith; good = subst (Good 0) (sym (records-concat run t.sixteens)) t.good })
