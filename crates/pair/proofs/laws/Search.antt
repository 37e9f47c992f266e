-- The first pair by the order of the list is the first by places.
use Rattle.std.specs.Prelude.{ℕ, zero, suc, ◌+◌, ◌-◌, ◌≤◌, ◌<◌, ◌≡◌, refl, Bool, true, false, cond, ◌⊎◌, List, [], ◌∷◌, ◌++◌, ℤ, pos, negsuc, length, get_or, take}
use Rattle.std.proofs.Common.{suc-le-suc, arith, le_of_suc-le-suc, eq-or-lt_of_le, sym, ap, ap₂, ◌∙◌, true≢false, inl, inr, ⊎_elim, get_or-take, length-take-le, eqb-true, eq-eqb, below_more}
use Rattle.std.proofs.Math.IntN.{sub_ℕ}
use Rattle.number.proofs.laws.Order.{less_or_not}
use Rattle.targets.proofs.laws.Target.{sub_above, sub_below}
use Rattle.pair.specs.Pair.{times, none, Two, with, pairs_of, eq_z, first_apart}
use Rattle.pair.specs.inner.Search.{Rising, Apart, Spaced, FirstApart}

pub eq_z_true : (x y : ℤ) → eq_z x y ≡ true → x ≡ y
eq_z_true (pos m) (pos n) e = ap pos (eqb-true m n e)
eq_z_true (pos m) (negsuc n) e = absurd (true≢false (sym e))
eq_z_true (negsuc m) (pos n) e = absurd (true≢false (sym e))
eq_z_true (negsuc m) (negsuc n) e = ap negsuc (eqb-true m n e)

pub eq_z_same : (x : ℤ) → eq_z x x ≡ true
eq_z_same (pos m) = eq-eqb m m refl
eq_z_same (negsuc m) = eq-eqb m m refl

module _ (g : ℤ) where
  -- one time, and those behind it
  later_none : (t : ℕ) (ts : List ℕ) (ps : List Two) → ((j : ℕ) → j < length ts → sub_ℕ (get_or ts j 0) t ≡ g → ⊥) → first_apart g (with t ts ++ ps) ≡ first_apart g ps
  later_none t [] ps h = refl
  later_none t (u ∷ us) ps h = go (eq_z (sub_ℕ u t) g) refl (later_none t us ps (λ j l. h (suc j) (suc-le-suc l)))
    where
      go : (b : Bool) → eq_z (sub_ℕ u t) g ≡ b → first_apart g (with t us ++ ps) ≡ first_apart g ps → cond b (times t u) (first_apart g (with t us ++ ps)) ≡ first_apart g ps
      go true e r = absurd (h 0 (omega arith) (eq_z_true (sub_ℕ u t) g e))
      go false e r = r

  later_first : (t : ℕ) (ts : List ℕ) (ps : List Two) (j : ℕ) → j < length ts → sub_ℕ (get_or ts j 0) t ≡ g
      → ((b : ℕ) → b < length ts → sub_ℕ (get_or ts b 0) t ≡ g → j ≤ b) → first_apart g (with t ts ++ ps) ≡ times t (get_or ts j 0)
  later_first t [] ps j l e h = absurd (omega arith)
  later_first t (u ∷ us) ps zero l e h =
      ap (λ (b : Bool). cond b (times t u) (first_apart g (with t us ++ ps))) (ap (λ (z : ℤ). eq_z z g) e ∙ eq_z_same g)
  later_first t (u ∷ us) ps (suc j) l e h =
      go (eq_z (sub_ℕ u t) g) refl (later_first t us ps j (le_of_suc-le-suc l) e (λ b m f. le_of_suc-le-suc (h (suc b) (suc-le-suc m) f)))
    where
      go : (b : Bool) → eq_z (sub_ℕ u t) g ≡ b → first_apart g (with t us ++ ps) ≡ times t (get_or us j 0)
          → cond b (times t u) (first_apart g (with t us ++ ps)) ≡ times t (get_or us j 0)
      go true q r = absurd (let z = h 0 (omega arith) (eq_z_true (sub_ℕ u t) g q) in omega arith)
      go false q r = r

  -- one place more in front
  behind : (t : ℕ) (ts : List ℕ) (i j : ℕ) → Apart ts g i j → Apart (t ∷ ts) g (suc i) (suc j)
  behind t ts i j a = record { order = suc-le-suc a.order; inside = suc-le-suc a.inside; apart = a.apart }

  -- NONE, where no two places are g apart
  pub none_apart : (ts : List ℕ) → ((i j : ℕ) → Apart ts g i j → ⊥) → first_apart g (pairs_of ts) ≡ none
  none_apart [] h = refl
  none_apart (t ∷ ts) h =
      later_none t ts (pairs_of ts) (λ j l e. h 0 (suc j) (record { order = omega arith; inside = suc-le-suc l; apart = e }))
      ∙ none_apart ts (λ i j a. h (suc i) (suc j) (behind t ts i j a))

  -- THE FIRST two places
  pub first-apart : (ts : List ℕ) (i j : ℕ) → FirstApart ts g i j → first_apart g (pairs_of ts) ≡ times (get_or ts i 0) (get_or ts j 0)
  first-apart [] i j f = absurd (let l = f.places.inside in omega arith)
  first-apart (t ∷ ts) zero zero f = absurd (let l = f.places.order in omega arith)
  first-apart (t ∷ ts) zero (suc j) f =
      later_first t ts (pairs_of ts) j (le_of_suc-le-suc f.places.inside) f.places.apart
      (λ b l e. ⊎_elim (λ (h : 0 < 0). absurd (omega arith)) (λ h. le_of_suc-le-suc h.1)
      (f.before 0 (suc b) (record { order = omega arith; inside = suc-le-suc l; apart = e })))
  first-apart (t ∷ ts) (suc i) zero f = absurd (let l = f.places.order in omega arith)
  first-apart (t ∷ ts) (suc i) (suc j) f =
      later_none t ts (pairs_of ts) (λ b l e. ⊎_elim (λ (h : suc i < 0). omega arith) (λ h. let z = h.0 in omega arith)
      (f.before 0 (suc b) (record { order = omega arith; inside = suc-le-suc l; apart = e })))
      ∙ first-apart ts i j (record {
        places = record { order = le_of_suc-le-suc f.places.order; inside = le_of_suc-le-suc f.places.inside; apart = f.places.apart };
        before = λ a b p. ⊎_elim (λ h. inl (le_of_suc-le-suc h)) (λ h. inr (let z = h.0 in omega arith, le_of_suc-le-suc h.1))
            (f.before (suc a) (suc b) (behind t ts a b p));
      })

  -- whether a time behind t is g more, and the first such
  decide_later : (t : ℕ) (ts : List ℕ)
      → ((j : ℕ) × (j < length ts) × (sub_ℕ (get_or ts j 0) t ≡ g) × ((b : ℕ) → b < length ts → sub_ℕ (get_or ts b 0) t ≡ g → j ≤ b))
      ⊎ ((b : ℕ) → b < length ts → sub_ℕ (get_or ts b 0) t ≡ g → ⊥)
  decide_later t [] = inr (λ b l e. omega arith)
  decide_later t (u ∷ us) = go (eq_z (sub_ℕ u t) g) refl (decide_later t us)
    where
      go : (x : Bool) → eq_z (sub_ℕ u t) g ≡ x
          → ((j : ℕ) × (j < length us) × (sub_ℕ (get_or us j 0) t ≡ g) × ((b : ℕ) → b < length us → sub_ℕ (get_or us b 0) t ≡ g → j ≤ b))
          ⊎ ((b : ℕ) → b < length us → sub_ℕ (get_or us b 0) t ≡ g → ⊥)
          → ((j : ℕ) × (j < length (u ∷ us)) × (sub_ℕ (get_or (u ∷ us) j 0) t ≡ g) × ((b : ℕ) → b < length (u ∷ us) → sub_ℕ (get_or (u ∷ us) b 0) t ≡ g → j ≤ b))
          ⊎ ((b : ℕ) → b < length (u ∷ us) → sub_ℕ (get_or (u ∷ us) b 0) t ≡ g → ⊥)
      go true q r = inl (0, omega arith, eq_z_true (sub_ℕ u t) g q, λ b l e. omega arith)
      go false q (inl k) = inl (suc k.0, suc-le-suc k.1, k.2, least k.0 k.3)
        where
          least : (j : ℕ) → ((b : ℕ) → b < length us → sub_ℕ (get_or us b 0) t ≡ g → j ≤ b) → (b : ℕ) → b < length (u ∷ us) → sub_ℕ (get_or (u ∷ us) b 0) t ≡ g → suc j ≤ b
          least j h zero l e = absurd (true≢false (sym (ap (λ (z : ℤ). eq_z z g) e ∙ eq_z_same g) ∙ q))
          least j h (suc b) l e = suc-le-suc (h b (le_of_suc-le-suc l) e)
      go false q (inr h) = inr no_later
        where
          no_later : (b : ℕ) → b < length (u ∷ us) → sub_ℕ (get_or (u ∷ us) b 0) t ≡ g → ⊥
          no_later zero l e = true≢false (sym (ap (λ (z : ℤ). eq_z z g) e ∙ eq_z_same g) ∙ q)
          no_later (suc b) l e = h b (le_of_suc-le-suc l) e

  -- what holds of t and those behind it, given what holds behind
  module _ (t : ℕ) (ts : List ℕ) where
    first-later : (j : ℕ) → ((b : ℕ) → b < length ts → sub_ℕ (get_or ts b 0) t ≡ g → j ≤ b) → (a b : ℕ) → Apart (t ∷ ts) g a b → (0 < a) ⊎ ((0 ≡ a) × (suc j ≤ b))
    first-later j h zero zero p = absurd (let o = p.order in omega arith)
    first-later j h zero (suc b) p = inr (refl, suc-le-suc (h b (le_of_suc-le-suc p.inside) p.apart))
    first-later j h (suc a) b p = inl (omega arith)

    module _ (no_later : (b : ℕ) → b < length ts → sub_ℕ (get_or ts b 0) t ≡ g → ⊥) where
      inner : (a b : ℕ) → Apart (t ∷ ts) g a b → (c : ℕ) × (d : ℕ) × (a ≡ suc c) × (b ≡ suc d) × Apart ts g c d
      inner zero zero p = absurd (let o = p.order in omega arith)
      inner zero (suc b) p = absurd (no_later b (le_of_suc-le-suc p.inside) p.apart)
      inner (suc a) zero p = absurd (let o = p.order in omega arith)
      inner (suc a) (suc b) p =
          (a, b, refl, refl, record { order = le_of_suc-le-suc p.order; inside = le_of_suc-le-suc p.inside; apart = p.apart })

      there : (i j : ℕ) → FirstApart ts g i j → FirstApart (t ∷ ts) g (suc i) (suc j)
      there i j f = record {
        places = behind t ts i j f.places;
        before = λ a b p.
            let k = inner a b p in
            let x = k.2 in
            let y = k.3 in
            ⊎_elim (λ (h : i < k.0). inl (omega arith)) (λ h. let z = h.0 in let w = h.1 in inr (omega arith, omega arith)) (f.before k.0 k.1 k.4);
      }

  -- THE FIRST TWO PLACES, or none
  pub decide_apart : (ts : List ℕ) → ((i : ℕ) × (j : ℕ) × FirstApart ts g i j) ⊎ ((i j : ℕ) → Apart ts g i j → ⊥)
  decide_apart [] = inr (λ i j a. let l = a.inside in omega arith)
  decide_apart (t ∷ ts) = ⊎_elim
      (λ k. inl (
        0,
        suc k.0,
        record { places = record { order = omega arith; inside = suc-le-suc k.1; apart = k.2 }; before = first-later t ts k.0 k.3 },
      ))
      (λ h. ⊎_elim (λ f. inl (suc f.0, suc f.1, there t ts h f.0 f.1 f.2)) (λ n. inr (λ i j p. let k = inner t ts h i j p in n k.0 k.1 k.4))
      (decide_apart ts))
      (decide_later t ts)

-- ---- sums and differences

pos_injective : (m n : ℕ) → pos m ≡ pos n → m ≡ n
pos_injective m n e = cc

pub pos_negsuc : {C : Type 0} (m n : ℕ) → pos m ≡ negsuc n → C
pos_negsuc m n e = let z : ◌≡◌ {A = ℕ} 0 1 = cc in absurd (bad z)
  where
    bad : ◌≡◌ {A = ℕ} 0 1 → ⊥
    bad z = omega arith

sub_sum : (u t g : ℕ) → sub_ℕ u t ≡ pos g → t + g ≡ u
sub_sum u t g e =
    ⊎_elim (λ (h : u < t). pos_negsuc g (t - suc u) (sym e ∙ sub_below u t h))
    (λ (h : t ≤ u). let k = pos_injective (u - t) g (sym (sub_above u t h) ∙ e) in omega arith) (less_or_not u t)

sum_sub : (u t g : ℕ) → t + g ≡ u → sub_ℕ u t ≡ pos g
sum_sub u t g e = sub_above u t (omega arith) ∙ ap pos (let k : u - t ≡ g = omega arith in k)

module _ (ts : List ℕ) (n : ℕ) (fits : n ≤ length ts) (g : ℕ) where
  pub spaced_apart : (i j : ℕ) → Spaced ts n g i j → Apart (take n ts) (pos g) i j
  spaced_apart i j s =
      let o = s.order in
      let l = s.inside in
      let k = length-take-le n ts fits in
      let a = get_or-take n ts i 0 (omega arith) in
      let b = get_or-take n ts j 0 l in
      let e = s.sum in
      record { order = o; inside = omega arith; apart = sum_sub (get_or (take n ts) j 0) (get_or (take n ts) i 0) g (omega arith) }

  pub apart_spaced : (i j : ℕ) → Apart (take n ts) (pos g) i j → Spaced ts n g i j
  apart_spaced i j p =
      let o = p.order in
      let m = p.inside in
      let k = length-take-le n ts fits in
      let l : j < n = omega arith in
      let a = get_or-take n ts i 0 (omega arith) in
      let b = get_or-take n ts j 0 l in
      let e = sub_sum (get_or (take n ts) j 0) (get_or (take n ts) i 0) g p.apart in
      record { order = o; inside = l; sum = omega arith }

  -- what the search finds
  pub found_first : (i j : ℕ) → Spaced ts n g i j → ((a b : ℕ) → Spaced ts n g a b → (i < a) ⊎ ((i ≡ a) × (j ≤ b)))
      → first_apart (pos g) (pairs_of (take n ts)) ≡ times (get_or ts i 0) (get_or ts j 0)
  found_first i j s h =
      let o = s.order in
      let l = s.inside in
      first-apart (pos g) (take n ts) i j (record { places = spaced_apart i j s; before = λ a b p. h a b (apart_spaced a b p) })
      ∙ ap₂ times (get_or-take n ts i 0 (omega arith)) (get_or-take n ts j 0 l)

  pub found_none : ((a b : ℕ) → Spaced ts n g a b → ⊥) → first_apart (pos g) (pairs_of (take n ts)) ≡ none
  found_none h = none_apart (pos g) (take n ts) (λ a b p. h a b (apart_spaced a b p))

-- ---- one walk with two places

-- each time before place j is less than g more than any from place i on
abbrev pub Low : List ℕ → ℕ → ℕ → ℕ → ℕ → Type 0
Low ts n g i j = (b : ℕ) → b < j → (a : ℕ) → i ≤ a → a < n → get_or ts b 0 < get_or ts a 0 + g

module _ (ts : List ℕ) (n : ℕ) (rising : Rising ts n) (g : ℕ) where
  -- a later place has no lesser time
  no_less : (a b : ℕ) → a ≤ b → b < n → get_or ts a 0 ≤ get_or ts b 0
  no_less a b h m = ⊎_elim (λ (e : a ≡ b). let q = ap (λ (k : ℕ). get_or ts k 0) e in omega arith) (λ (l : a < b). let q = rising a b l m in omega arith) (eq-or-lt_of_le h)

  pub low-more : (i j : ℕ) → Low ts n g i j → get_or ts j 0 < get_or ts i 0 + g → Low ts n g i (j + 1)
  low-more i j low h = below_more _ j low (λ a m l. let q = no_less i a m l in omega arith)

  pub low-next : (i j : ℕ) → Low ts n g i j → Low ts n g (i + 1) j
  low-next i j low b h a m l = low b h a (omega arith) l

  -- no later time is sought where all before j are low and the one at j is more
  pub none_later : (i j : ℕ) → i < n → Low ts n g i j → (j < n → get_or ts i 0 + g < get_or ts j 0) → (b : ℕ) → Spaced ts n g i b → ⊥
  none_later i j l low more b s =
      let e = s.sum in
      let m = s.inside in
      ⊎_elim (λ (h : b < j). let q = low b h i (omega arith) l in omega arith) (λ (h : j ≤ b). let q = no_less j b h m in let z = more (omega arith) in omega arith) (less_or_not b j)

  -- the place of the time that is sought lies behind, and no place before it fits
  pub behind_earlier : (i j : ℕ) → i < n → 0 < g → get_or ts i 0 + g ≡ get_or ts j 0 → i < j
  behind_earlier i j l p e = ⊎_elim (λ (h : i < j). h) (λ (h : j ≤ i). let q = no_less j i h l in omega arith) (less_or_not i j)

  pub none_before : (i j : ℕ) → i < n → Low ts n g i j → (b : ℕ) → b < j → Spaced ts n g i b → ⊥
  none_before i j l low b h s = let e = s.sum in let q = low b h i (omega arith) l in omega arith
