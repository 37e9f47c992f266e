-- The runs of a set, read off its cuts.
use Prim.Native.Nat.{ℕ, zero, suc, ◌+◌, ◌*◌, ◌≤◌, ◌<◌}
use mathlib.Core.Path.{◌≡◌, refl, sym, ap, ap₂, subst, ◌∙◌}
use mathlib.Core.Bool.{Bool, false}
use mathlib.Core.List.{List, [], ◌∷◌, ◌++◌, append_assoc}
use native.Mathlib.Omega.{arith}
use native.Mathlib.Numerals.{add-one}
use lib.ListN.{length, take, drop, get_or}
use lib.Seq.{length-take-le, get_or-take, take-suc, take_all}
use Rattle.number.specs.Axis.{axis}
use Rattle.number.proofs.laws.Words.{put_behind}
use Rattle.runs.specs.Runs.{most_runs, lows, highs, run_count, number_bytes, run_bytes, set_bytes}
use Rattle.runs.specs.Set.{cuts_of, inside, member, Ascending, Valid}
use Rattle.runs.proofs.laws.Cuts.{low_cuts, high_cuts, lone, rest_ended}
use Rattle.runs.proofs.laws.Runs.{lows_are, highs_are, lows-highs, run_bytes-length, set_bytes-length}
use Rattle.runs.proofs.laws.Set.{valid_cuts, cuts-length}

-- run i of a list of cuts
pub record RunAt (hi : ℕ) (l lows highs : List ℕ) (i : ℕ) : Type 0 where
  pub low : get_or l (2 * i) 0 ≡ get_or lows i 0
  pub end : get_or l (2 * i + 1) 0 ≡ get_or highs i 0 + 1
  pub order : get_or lows i 0 ≤ get_or highs i 0
  pub top : get_or highs i 0 < hi

run-at : (lo hi : ℕ) (l : List ℕ) → Ascending lo hi l → inside l hi ≡ false → (i : ℕ) → 2 * i < length l → RunAt hi l (low_cuts l) (high_cuts l) i
unfolding low_cuts high_cuts
run-at lo hi [] a e i h = absurd (omega arith)
run-at lo hi (c ∷ []) a e i h = lone lo hi c a e
run-at lo hi (c ∷ d ∷ r) a e zero h = record { low = refl; end = omega arith; order = omega arith; top = omega arith }
run-at lo hi (c ∷ d ∷ r) a e (suc i) h =
    let n = run-at (d + 1) hi r a.2.2 (rest_ended lo hi c d r a e) i (omega arith) in
    let p : 2 * suc i ≡ suc (suc (2 * i)) = omega arith in
    let q : 2 * suc i + 1 ≡ suc (suc (2 * i + 1)) = omega arith in
    record {
      low = ap (λ (k : ℕ). get_or (c ∷ d ∷ r) k 0) p ∙ n.low;
      end = ap (λ (k : ℕ). get_or (c ∷ d ∷ r) k 0) q ∙ n.end;
      order = n.order;
      top = n.top;
    }

module _ (s : List ℕ) (v : Valid s) where
  pub run : (i : ℕ) → i < run_count (member s) → RunAt axis s (lows (member s)) (highs (member s)) i
  unfolding member
  run i h =
      let n = valid_cuts s v in
      let k = cuts-length s v in
      let r = run-at 0 axis (cuts_of s) v.canonical.ascending v.canonical.ended i (omega arith) in
      let l : lows (member s) ≡ low_cuts (cuts_of s) = lows_are (member s) (cuts_of s) v.canonical (λ w h. refl) in
      let u : highs (member s) ≡ high_cuts (cuts_of s) = highs_are (member s) (cuts_of s) v.canonical (λ w h. refl) in
      record {
        low = sym (get_or-take (get_or s (2 * most_runs) 0) s (2 * i) 0 (omega arith)) ∙ r.low ∙ ap (λ (x : List ℕ). get_or x i 0) (sym l);
        end = sym (get_or-take (get_or s (2 * most_runs) 0) s (2 * i + 1) 0 (omega arith)) ∙ r.end ∙ ap (λ (x : List ℕ). get_or x i 0 + 1) (sym u);
        order = subst (λ (x : List ℕ). get_or x i 0 ≤ get_or (highs (member s)) i 0) (sym l) (subst (λ (x : List ℕ). get_or (low_cuts (cuts_of s)) i 0 ≤ get_or x i 0) (sym u) r.order);
        top = subst (λ (x : List ℕ). get_or x i 0 < axis) (sym u) r.top;
      }

-- ---- the bytes, run by run

run_bytes-append : (a b c d : List ℕ) → length a ≡ length b → run_bytes (a ++ c) (b ++ d) ≡ run_bytes a b ++ run_bytes c d
run_bytes-append [] [] c d e = refl
run_bytes-append [] (y ∷ b) c d e = absurd (omega arith)
run_bytes-append (x ∷ a) [] c d e = absurd (omega arith)
run_bytes-append (x ∷ a) (y ∷ b) c d e =
    ap (λ (l : List ℕ). (number_bytes x ++ number_bytes y) ++ l) (run_bytes-append a b c d (omega arith))
    ∙ sym (append_assoc (number_bytes x ++ number_bytes y) (run_bytes a b) (run_bytes c d))

-- the first i runs
abbrev pub front : (ℕ → Bool) → ℕ → List ℕ
front f i = run_bytes (take i (lows f)) (take i (highs f))

module _ (f : ℕ → Bool) where
  front_length : (i : ℕ) → i ≤ run_count f → length (front f i) ≡ 8 * i
  front_length i h =
      let n = lows-highs f in
      let l : length (take i (lows f)) ≡ i = length-take-le i (lows f) h in
      let u : length (take i (highs f)) ≡ i = length-take-le i (highs f) (omega arith) in
      run_bytes-length (take i (lows f)) (take i (highs f)) (l ∙ sym u) ∙ ap (λ (k : ℕ). 8 * k) l

  front-next : (i : ℕ) → i < run_count f → front f (i + 1) ≡ front f i ++ (number_bytes (get_or (lows f) i 0) ++ number_bytes (get_or (highs f) i 0))
  front-next i h =
      let n = lows-highs f in
      let l : length (take i (lows f)) ≡ i = length-take-le i (lows f) (omega arith) in
      let u : length (take i (highs f)) ≡ i = length-take-le i (highs f) (omega arith) in
      ap (front f) (add-one i) ∙ ap₂ run_bytes (take-suc (lows f) i 0 h) (take-suc (highs f) i 0 (omega arith))
      ∙ run_bytes-append (take i (lows f)) (take i (highs f)) (get_or (lows f) i 0 ∷ []) (get_or (highs f) i 0 ∷ []) (l ∙ sym u)

  -- the bytes of run i behind those of the first i
  pub next-run : (i : ℕ) (before out after : List ℕ) (l h : ℕ) → i < run_count f → out ≡ front f i ++ drop (8 * i) before
      → l ≡ get_or (lows f) i 0 → h ≡ get_or (highs f) i 0 → after ≡ take (8 * i) out ++ (number_bytes l ++ number_bytes h) ++ drop (8 * i + 8) out
      → after ≡ front f (i + 1) ++ drop (8 * (i + 1)) before
  next-run i before out after l h k e el eh p =
      let q : 8 * i + 8 ≡ 8 * (i + 1) = omega arith in
      p ∙ put_behind (front f i) (number_bytes l ++ number_bytes h) before out (8 * i) 8 (front_length i (omega arith)) e
      ∙ ap₂ (λ (x : List ℕ) (j : ℕ). x ++ drop j before) (ap₂ (λ (x y : ℕ). front f i ++ (number_bytes x ++ number_bytes y)) el eh ∙ sym (front-next i k)) q

  pub all_runs : (i : ℕ) (before out : List ℕ) → i ≡ run_count f → out ≡ front f i ++ drop (8 * i) before
      → out ≡ set_bytes f ++ drop (length (set_bytes f)) before
  unfolding set_bytes
  all_runs i before out h e =
      let n = lows-highs f in
      e
      ∙ ap₂ (λ (x : List ℕ) (j : ℕ). x ++ drop j before) (ap₂ run_bytes (take_all i (lows f) (omega arith)) (take_all i (highs f) (omega arith)))
      (ap (λ (k : ℕ). 8 * k) h ∙ sym (set_bytes-length f))
