-- The numbers that are found: one list at most is exact, and it is as long as what is written.
use Rattle.std.specs.Prelude.{ℕ, suc, ◌*◌, ◌<◌, ◌≡◌, refl, ◌⊎◌, ◌↔◌, ℤ, length, get_or}
use Rattle.std.proofs.Common.{arith, sym, ap, ap₂, subst, ◌∙◌, ⊎_elim}
use mathlib.Core.List.Memᴰ
use mathlib.Core.List.{List, [], ◌∷◌, Memᴰ}
use Rattle.number.specs.Words.{words_bytes}
use Rattle.recording.specs.Reading.{curve_of}
use Rattle.listing.specs.Listing.{listing}
use Rattle.listing.specs.Opened.{Exactly}
use Rattle.listing.proofs.laws.Opened.{listing_exactly}
use Rattle.promises.specs.Conditions.{FoundLonger}

-- two ascending lists with the same members are one
place_of : (k : ℕ) (l : List ℕ) → Memᴰ k l → (i : ℕ) × (i < length l) × (get_or l i 0 ≡ k)
place_of k [] m = absurd (Memᴰ.not-nil m)
place_of k (x ∷ l) m = ⊎_elim (λ e. (0, omega arith, sym e)) (λ h. let p = place_of k l h in (suc p.0, (let q = p.1 in omega arith), p.2)) (Memᴰ.cases_cons m)

abbrev Ascending : List ℕ → Type 0
Ascending l = (i j : ℕ) → i < j → j < length l → get_or l i 0 < get_or l j 0

behind : (x : ℕ) (l : List ℕ) → Ascending (x ∷ l) → (k : ℕ) → Memᴰ k l → x < k
behind x l a k m = let p = place_of k l m in let q = p.1 in subst (λ (n : ℕ). x < n) p.2 (a 0 (suc p.0) (omega arith) (omega arith))

same_lists : (l m : List ℕ) → Ascending l → Ascending m → ((k : ℕ) → Memᴰ k l → Memᴰ k m) → ((k : ℕ) → Memᴰ k m → Memᴰ k l) → l ≡ m
same_lists [] [] a b f h = refl
same_lists [] (y ∷ m) a b f h = absurd (Memᴰ.not-nil (h y (Memᴰ.head refl)))
same_lists (x ∷ l) [] a b f h = absurd (Memᴰ.not-nil (f x (Memᴰ.head refl)))
same_lists (x ∷ l) (y ∷ m) a b f h =
    ap₂ (λ (z : ℕ) (zs : List ℕ). z ∷ zs) e
    (same_lists l m (λ i j p q. a (suc i) (suc j) (omega arith) (omega arith)) (λ i j p q. b (suc i) (suc j) (omega arith) (omega arith))
    (λ k i. ⊎_elim (λ z. let q : x ≡ y = e in let s = behind x l a k i in absurd (omega arith)) (λ z. z) (Memᴰ.cases_cons (f k (Memᴰ.tail i))))
    (λ k i. ⊎_elim (λ z. let q : x ≡ y = e in let s = behind y m b k i in absurd (omega arith)) (λ z. z) (Memᴰ.cases_cons (h k (Memᴰ.tail i)))))
  where
    e : x ≡ y
    e = ⊎_elim (λ z. z) (λ i. ⊎_elim (λ z. sym z) (λ j. let s = behind y m b x i in let t = behind x l a y j in absurd (omega arith)) (Memᴰ.cases_cons (h y (Memᴰ.head refl)))) (Memᴰ.cases_cons (f x (Memᴰ.head refl)))

pub one_list : {P : ℕ → Type 0} {n : ℕ} {l m : List ℕ} → Exactly P n l → Exactly P n m → l ≡ m
one_list {l = l} {m = m} a b = same_lists l m a.ascending b.ascending (λ k i. (b.members k).1 ((a.members k).0 i)) (λ k i. (a.members k).1 ((b.members k).0 i))

pub words-length : (l : List ℕ) → length (words_bytes l) ≡ 4 * length l
words-length [] = refl
words-length (x ∷ l) = let e = words-length l in omega arith

-- 10 of the find call
pub found_longer : (g : List ℕ) (curve : ℕ) (level : ℤ) (room : ℕ) → (room < length (listing (curve_of curve) level g)) ↔ FoundLonger curve level g room
found_longer g curve level room =
    let m = listing_exactly (curve_of curve) level g in
    let e : length (listing (curve_of curve) level g) ≡ 4 * length m.0 = ap length m.1 ∙ words-length m.0 in
    (λ h. (m.0, m.2, omega arith), λ h. let q = ap length (one_list m.2 h.1) in let k = h.2 in omega arith)
