-- WHAT IS LISTED: exactly the entries that say so, ascending; and where the entries are true, exactly the recordings that reach the level when they are opened.
use Rattle.std.specs.Prelude.{ℕ, zero, suc, ◌+◌, ◌≤◌, ◌<◌, ◌≡◌, refl, Bool, true, false, not, ◌↔◌, length, get_or, ℤ, ◌≤ℤ◌}
use Rattle.std.proofs.Common.{arith, sym, ap, ◌∙◌, subst, true≢false, ⊎_elim}
use Rattle.std.proofs.Math.Bool.{So}
use mathlib.Core.List.Memᴰ
use mathlib.Core.List.{List, [], Memᴰ}
use Rattle.std.specs.Int.Signed.{le_z, lt_z}
use Rattle.std.proofs.lemmas.Bool.{not-true}
use Rattle.number.specs.Words.{word, words_bytes, signed}
use Rattle.number.proofs.laws.Boolean.{then, off, so_test}
use Rattle.number.proofs.laws.Order.{less_or_not}
use Rattle.number.proofs.laws.Words.{le_z_not_lt_z}
use Rattle.recording.specs.Condition.{when}
use Rattle.recording.specs.Reading.{Reading, Curve, value, nothing}
use Rattle.recording.specs.Recording.{readings}
use Rattle.recording.proofs.laws.Value.{lt_z_between}
use Rattle.entry.specs.Entry.{greatest_at, Greatest}
use Rattle.listing.specs.Listing.{entry_count, entry_at, said_to_reach, numbers_from, numbers_to, listing}
use Rattle.listing.specs.Opened.{Exactly, SaidToReach, Reaches, TrueSummary}

-- ---- numbers picked by a test

module _ (p : ℕ → Bool) where
  -- those from `at` on, under at + n, that pass
  pub record Passes (at n k : ℕ) : Type 0 where
    pub from : at ≤ k
    pub under : k < at + n
    pub passes : p k ≡ true

  member : (at n k : ℕ) → Memᴰ k (numbers_from p at n) → Passes at n k
  member at zero k m = absurd (Memᴰ.not-nil m)
  member at (suc n) k m = go (p at) refl m (λ i. later (member (suc at) n k i))
    where
      later : Passes (suc at) n k → Passes at (suc n) k
      later h = record { from = omega (arith, h.from); under = omega (arith, h.under); passes = h.passes }

      here : p at ≡ true → k ≡ at → Passes at (suc n) k
      here e i = record { from = omega arith; under = omega arith; passes = ap p i ∙ e }

      go : (b : Bool) → p at ≡ b → Memᴰ k (when b at (numbers_from p (suc at) n)) → (Memᴰ k (numbers_from p (suc at) n) → Passes at (suc n) k) → Passes at (suc n) k
      go true e m rest = ⊎_elim (λ i. here e i) rest (Memᴰ.cases_cons m)
      go false e m rest = rest m

  there : (at n k : ℕ) → Passes at n k → Memᴰ k (numbers_from p at n)
  there at zero k h = absurd (omega (arith, h.from, h.under))
  there at (suc n) k h =
      ⊎_elim (λ l. past (p at) (there (suc at) n k (record { from = l; under = omega (arith, h.under); passes = h.passes }))) (λ l. here (omega (arith, h.from)) (p at) refl) (less_or_not at k)
    where
      past : (b : Bool) → Memᴰ k (numbers_from p (suc at) n) → Memᴰ k (when b at (numbers_from p (suc at) n))
      past true m = Memᴰ.tail m
      past false m = m

      here : k ≡ at → (b : Bool) → p at ≡ b → Memᴰ k (when b at (numbers_from p (suc at) n))
      here i true e = Memᴰ.head i
      here i false e = absurd (true≢false (sym h.passes ∙ ap p i ∙ e))

  -- each is at least `at`, and they ascend
  least-at : (at n i : ℕ) → i < length (numbers_from p at n) → at ≤ get_or (numbers_from p at n) i 0
  least-at at zero i h = absurd (omega arith)
  least-at at (suc n) i h = go (p at) i h (least-at (suc at) n)
    where
      go : (b : Bool) (i : ℕ) → i < length (when b at (numbers_from p (suc at) n)) → ((j : ℕ) → j < length (numbers_from p (suc at) n) → suc at ≤ get_or (numbers_from p (suc at) n) j 0)
          → at ≤ get_or (when b at (numbers_from p (suc at) n)) i 0
      go true zero h rest = omega arith
      go true (suc i) h rest = omega (arith, rest i (omega arith))
      go false i h rest = omega (arith, rest i h)

  ascend : (at n i j : ℕ) → i < j → j < length (numbers_from p at n) → get_or (numbers_from p at n) i 0 < get_or (numbers_from p at n) j 0
  ascend at zero i j l h = absurd (omega arith)
  ascend at (suc n) i j l h = go (p at) i j l h (ascend (suc at) n)
    where
      go : (b : Bool) (i j : ℕ) → i < j → j < length (when b at (numbers_from p (suc at) n))
          → ((i j : ℕ) → i < j → j < length (numbers_from p (suc at) n) → get_or (numbers_from p (suc at) n) i 0 < get_or (numbers_from p (suc at) n) j 0)
          → get_or (when b at (numbers_from p (suc at) n)) i 0 < get_or (when b at (numbers_from p (suc at) n)) j 0
      go true i zero l h rest = absurd (omega arith)
      go true zero (suc j) l h rest = least-at (suc at) n j (omega arith)
      go true (suc i) (suc j) l h rest = rest i j (omega arith) (omega arith)
      go false i j l h rest = rest i j l h

  -- EXACTLY THOSE OF WHICH P HOLDS, where the test is of P
  pub exactly : (P : ℕ → Type 0) (n : ℕ) → ((k : ℕ) → k < n → So (p k) ↔ P k) → Exactly P n (numbers_from p 0 n)
  exactly P n test = record {
    ascending = ascend 0 n;
    members = λ k. (
      λ m. let h = member 0 n k m in let u : k < n = omega (arith, h.under) in (u, (test k u).0 h.passes),
      λ m. there 0 n k (record { from = omega arith; under = omega (arith, m.0); passes = (test k m.0).1 m.1 }),
    );
  }

-- ---- whole numbers

le_so : (x y : ℤ) → So (le_z x y) ↔ (x ≤ℤ y)
le_so x y = then (so_test (le_z x y)) (λ h. record { le = h }, λ h. h.le)

le_trans : (x y z : ℤ) → x ≤ℤ y → y ≤ℤ z → x ≤ℤ z
le_trans x y z h k = (le_so x z).0 (le_z_not_lt_z x z ∙ ap not (off back (not_above x y h)))
  where
    not_above : (u v : ℤ) → u ≤ℤ v → lt_z v u ≡ false
    not_above u v l = not-true (lt_z v u) (sym (le_z_not_lt_z u v) ∙ (le_so u v).1 l)

    back : lt_z z x ≡ true → lt_z y x ≡ true
    back l = lt_z_between z y x l (not_above y z k)

-- ---- what is listed

-- BY WHAT THE ENTRIES SAY
pub listing_exactly : (c : Curve) (z : ℤ) (summary : List ℕ)
    → (ns : List ℕ) × (listing c z summary ≡ words_bytes ns) × Exactly (SaidToReach c z summary) (entry_count summary) ns
unfolding listing said_to_reach
listing_exactly c z summary = (
  numbers_to c z summary (entry_count summary),
  refl,
  exactly (λ i. said_to_reach c z (entry_at summary i)) (SaidToReach c z summary) (entry_count summary) (λ k h. le_so z (signed (word (entry_at summary k) (greatest_at c)))),
)

-- the greatest value is at least z exactly where some value is
greatest_reaches : (c : Curve) (z g : ℤ) (r : List Reading) → Greatest c r g → (z ≤ℤ g) ↔ ((j : ℕ) × (j < length r) × (z ≤ℤ value c (get_or r j nothing)))
greatest_reaches c z g r t = (
  λ h. (t.reached.0, t.reached.1, subst (λ (v : ℤ). z ≤ℤ v) (sym t.reached.2) h),
  λ m. le_trans z (value c (get_or r m.0 nothing)) g m.2 (t.none_beyond m.0 m.1),
)

-- AS WHEN THE RECORDINGS ARE OPENED
pub listing-opened : (c : Curve) (z : ℤ) (recordings : List (List ℕ)) (summary : List ℕ) → TrueSummary recordings summary
    → (ns : List ℕ) × (listing c z summary ≡ words_bytes ns) × Exactly (Reaches c z recordings) (length recordings) ns
unfolding listing said_to_reach
listing-opened c z recordings summary s =
    let n : entry_count summary ≡ length recordings = omega (arith, s.size) in (
      numbers_to c z summary (length recordings),
      ap (λ (k : ℕ). words_bytes (numbers_to c z summary k)) n,
      exactly (λ i. said_to_reach c z (entry_at summary i)) (Reaches c z recordings) (length recordings)
          (λ k h. then (le_so z (signed (word (entry_at summary k) (greatest_at c))))
          (greatest_reaches c z (signed (word (entry_at summary k) (greatest_at c))) (readings (get_or recordings k [])) ((s.entries k h).greatest c))),
    )
