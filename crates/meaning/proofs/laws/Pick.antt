-- The records that a condition picks, by their indices: one of them, two in order, two neighbours. Each law is by the first record of the list.
use Rattle.std.specs.Prelude.{ℕ, zero, suc, ◌<◌, ◌≡◌, refl, Bool, true, false, ◌&&◌, ◌||◌, not, cond, List, [], ◌∷◌, map, length, get_or}
use Rattle.std.proofs.Common.{arith, le_of_suc-le-suc, not-suc-le-zero, ap, ◌∙◌}
use Rattle.std.proofs.lemmas.Bool.{false≢true}
use Rattle.recording.specs.Condition.{Condition, when, pick_from, some_of}
use Rattle.recording.specs.Reading.{last_of_those, turn}
use Rattle.recording.proofs.laws.Turn.{one_of}
use Rattle.tops.proofs.laws.Pick.{holds_from}
use Rattle.meaning.specs.inner.Truth.{all_of, some_pair, some_step}
use Rattle.number.proofs.laws.Boolean.{or_left, or_right, or_cases, and_left, and_right, and_make, clash}

module _ {X : Type 0} where
  -- ---- some record, each record

  pub some_at : (d : X) (P : X → Bool) (r : List X) (i : ℕ) → i < length r → P (get_or r i d) ≡ true → some_of P r ≡ true
  some_at d P [] i h e = absurd (not-suc-le-zero h)
  some_at d P (x ∷ r) zero h e = or_left (P x) _ e
  some_at d P (x ∷ r) (suc i) h e = or_right (P x) _ (some_at d P r i (le_of_suc-le-suc h) e)

  pub some_find : (d : X) (P : X → Bool) (r : List X) → some_of P r ≡ true → (i : ℕ) × (i < length r) × (P (get_or r i d) ≡ true)
  some_find d P [] e = absurd (false≢true e)
  some_find d P (x ∷ r) e = or_cases (P x) (some_of P r) e (λ h. (0, omega arith, h))
      (λ h. let s = some_find d P r h in (suc s.0, omega (arith, s.1), s.2))

  pub all_at : (d : X) (P : X → Bool) (r : List X) → all_of P r ≡ true → (i : ℕ) → i < length r → P (get_or r i d) ≡ true
  all_at d P [] e i h = absurd (not-suc-le-zero h)
  all_at d P (x ∷ r) e zero h = and_left (P x) _ e
  all_at d P (x ∷ r) e (suc i) h = all_at d P r (and_right (P x) _ e) i (le_of_suc-le-suc h)

  pub all_make : (d : X) (P : X → Bool) (r : List X) → ((i : ℕ) → i < length r → P (get_or r i d) ≡ true) → all_of P r ≡ true
  all_make d P [] h = refl
  all_make d P (x ∷ r) h = and_make (P x) _ (h 0 (omega arith)) (all_make d P r (λ i k. h (suc i) (omega arith)))

  -- ---- picked records

  -- record i of r, before which stand the records b, is picked
  abbrev pub Picked : X → Condition X → List X → List X → ℕ → Type 0
  Picked d ρ b r i = (i < length r) × (holds_from d ρ b r i ≡ true)

  -- the numbers that f gives of the picked records
  abbrev pub keys_of : (X → ℕ) → Condition X → List X → List X → List ℕ
  keys_of f ρ b r = map f (pick_from ρ b r)

nil_cons : {t : ℕ} {l : List ℕ} → [] ≡ t ∷ l → ⊥
nil_cons {t} {l} e = let z : ◌≡◌ {A = ℕ} 0 1 = cc in omega arith

heads : {s t : ℕ} {l m : List ℕ} → s ∷ l ≡ t ∷ m → s ≡ t
heads e = cc

module _ {X : Type 0} (d : X) (ρ : Condition X) (f : X → ℕ) where
  later : (b : List X) (x : X) (r : List X) (i : ℕ) → Picked d ρ (x ∷ b) r i → Picked d ρ b (x ∷ r) (suc i)
  later b x r i p = (omega (arith, p.0), p.1)

  sooner : (b : List X) (x : X) (r : List X) (i : ℕ) → Picked d ρ b (x ∷ r) (suc i) → Picked d ρ (x ∷ b) r i
  sooner b x r i p = (omega (arith, p.0), p.1)

  -- ---- one record

  pub key_find : (Q : ℕ → Bool) (b r : List X) → some_of Q (keys_of f ρ b r) ≡ true → (i : ℕ) × Picked d ρ b r i × (Q (f (get_or r i d)) ≡ true)
  key_find Q b [] e = absurd (false≢true e)
  key_find Q b (x ∷ r) e = go (ρ b x r) refl (λ h. let s = key_find Q (x ∷ b) r h in (suc s.0, later b x r s.0 s.1, s.2)) e
    where
      go : (k : Bool) → ρ b x r ≡ k → (some_of Q (keys_of f ρ (x ∷ b) r) ≡ true → (i : ℕ) × Picked d ρ b (x ∷ r) i × (Q (f (get_or (x ∷ r) i d)) ≡ true))
          → some_of Q (map f (when k x (pick_from ρ (x ∷ b) r))) ≡ true → (i : ℕ) × Picked d ρ b (x ∷ r) i × (Q (f (get_or (x ∷ r) i d)) ≡ true)
      go false h rest e = rest e
      go true h rest e = or_cases (Q (f x)) _ e (λ q. (0, (omega arith, h), q)) rest

  pub key_at : (Q : ℕ → Bool) (b r : List X) (i : ℕ) → Picked d ρ b r i → Q (f (get_or r i d)) ≡ true → some_of Q (keys_of f ρ b r) ≡ true
  key_at Q b [] i p q = absurd (not-suc-le-zero p.0)
  key_at Q b (x ∷ r) zero p q =
      ap (λ (k : Bool). some_of Q (map f (when k x (pick_from ρ (x ∷ b) r)))) p.1 ∙ or_left (Q (f x)) _ q
  key_at Q b (x ∷ r) (suc i) p q = go (ρ b x r) (key_at Q (x ∷ b) r i (sooner b x r i p) q)
    where
      go : (k : Bool) → some_of Q (keys_of f ρ (x ∷ b) r) ≡ true → some_of Q (map f (when k x (pick_from ρ (x ∷ b) r))) ≡ true
      go true h = or_right (Q (f x)) _ h
      go false h = h

  -- ---- two records, in order

  pub pair_find : (R : ℕ → ℕ → Bool) (b r : List X) → some_pair R (keys_of f ρ b r) ≡ true
      → (i : ℕ) × (j : ℕ) × (i < j) × Picked d ρ b r i × Picked d ρ b r j × (R (f (get_or r i d)) (f (get_or r j d)) ≡ true)
  pair_find R b [] e = absurd (false≢true e)
  pair_find R b (x ∷ r) e = go (ρ b x r) refl
      (λ h. let s = pair_find R (x ∷ b) r h in (suc s.0, suc s.1, omega (arith, s.2), later b x r s.0 s.3, later b x r s.1 s.4, s.5)) e
    where
      go : (k : Bool) → ρ b x r ≡ k
          → (some_pair R (keys_of f ρ (x ∷ b) r) ≡ true
          → (i : ℕ) × (j : ℕ) × (i < j) × Picked d ρ b (x ∷ r) i × Picked d ρ b (x ∷ r) j × (R (f (get_or (x ∷ r) i d)) (f (get_or (x ∷ r) j d)) ≡ true))
          → some_pair R (map f (when k x (pick_from ρ (x ∷ b) r))) ≡ true
          → (i : ℕ) × (j : ℕ) × (i < j) × Picked d ρ b (x ∷ r) i × Picked d ρ b (x ∷ r) j × (R (f (get_or (x ∷ r) i d)) (f (get_or (x ∷ r) j d)) ≡ true)
      go false h rest e = rest e
      go true h rest e = or_cases (some_of (R (f x)) (keys_of f ρ (x ∷ b) r)) _ e
          (λ q. let s = key_find (R (f x)) (x ∷ b) r q in (0, suc s.0, omega arith, (omega arith, h), later b x r s.0 s.1, s.2)) rest

  pub pair_at : (R : ℕ → ℕ → Bool) (b r : List X) (i j : ℕ) → i < j → Picked d ρ b r i → Picked d ρ b r j → R (f (get_or r i d)) (f (get_or r j d)) ≡ true
      → some_pair R (keys_of f ρ b r) ≡ true
  pair_at R b [] i j m p p' q = absurd (not-suc-le-zero p.0)
  pair_at R b (x ∷ r) i zero m p p' q = absurd (not-suc-le-zero m)
  pair_at R b (x ∷ r) zero (suc j) m p p' q =
      ap (λ (k : Bool). some_pair R (map f (when k x (pick_from ρ (x ∷ b) r)))) p.1
      ∙ or_left (some_of (R (f x)) (keys_of f ρ (x ∷ b) r)) _ (key_at (R (f x)) (x ∷ b) r j (sooner b x r j p') q)
  pair_at R b (x ∷ r) (suc i) (suc j) m p p' q = go (ρ b x r) (pair_at R (x ∷ b) r i j (omega arith) (sooner b x r i p) (sooner b x r j p') q)
    where
      go : (k : Bool) → some_pair R (keys_of f ρ (x ∷ b) r) ≡ true → some_pair R (map f (when k x (pick_from ρ (x ∷ b) r))) ≡ true
      go true h = or_right (some_of (R (f x)) (keys_of f ρ (x ∷ b) r)) _ h
      go false h = h

  -- ---- the first record

  first_find : (b r : List X) (t : ℕ) (l : List ℕ) → keys_of f ρ b r ≡ t ∷ l
      → (j : ℕ) × Picked d ρ b r j × ((k : ℕ) → k < j → ¬ Picked d ρ b r k) × (f (get_or r j d) ≡ t)
  first_find b [] t l e = absurd (nil_cons e)
  first_find b (x ∷ r) t l e = go (ρ b x r) refl (first_find (x ∷ b) r t l) e
    where
      go : (k : Bool) → ρ b x r ≡ k
          → (keys_of f ρ (x ∷ b) r ≡ t ∷ l → (j : ℕ) × Picked d ρ (x ∷ b) r j × ((k : ℕ) → k < j → ¬ Picked d ρ (x ∷ b) r k) × (f (get_or r j d) ≡ t))
          → map f (when k x (pick_from ρ (x ∷ b) r)) ≡ t ∷ l
          → (j : ℕ) × Picked d ρ b (x ∷ r) j × ((k : ℕ) → k < j → ¬ Picked d ρ b (x ∷ r) k) × (f (get_or (x ∷ r) j d) ≡ t)
      go true h rest e = (0, (omega arith, h), (λ k m. absurd (not-suc-le-zero m)), heads e)
      go false h rest e = let s = rest e in (suc s.0, later b x r s.0 s.1, none s.0 s.2, s.3)
        where
          none : (j : ℕ) → ((k : ℕ) → k < j → ¬ Picked d ρ (x ∷ b) r k) → (k : ℕ) → k < suc j → ¬ Picked d ρ b (x ∷ r) k
          none j n zero m p = clash p.1 h
          none j n (suc k) m p = n k (omega arith) (sooner b x r k p)

  first-at : (b r : List X) (j : ℕ) → Picked d ρ b r j → ((k : ℕ) → k < j → ¬ Picked d ρ b r k) → (l : List ℕ) × (keys_of f ρ b r ≡ f (get_or r j d) ∷ l)
  first-at b [] j p none = absurd (not-suc-le-zero p.0)
  first-at b (x ∷ r) zero p none = (keys_of f ρ (x ∷ b) r, ap (λ (k : Bool). map f (when k x (pick_from ρ (x ∷ b) r))) p.1)
  first-at b (x ∷ r) (suc j) p none =
      let h : ρ b x r ≡ false = no_pick (ρ b x r) refl in
      let s = first-at (x ∷ b) r j (sooner b x r j p) (λ k m q. none (suc k) (omega arith) (later b x r k q)) in
      (s.0, ap (λ (k : Bool). map f (when k x (pick_from ρ (x ∷ b) r))) h ∙ s.1)
    where
      no_pick : (k : Bool) → ρ b x r ≡ k → k ≡ false
      no_pick false h = refl
      no_pick true h = absurd (none 0 (omega arith) (omega arith, h))

  -- ---- two neighbours

  pub step_find : (R : ℕ → ℕ → Bool) (b r : List X) → some_step R (keys_of f ρ b r) ≡ true
      → (i : ℕ) × (j : ℕ) × (i < j) × Picked d ρ b r i × Picked d ρ b r j × ((k : ℕ) → i < k → k < j → ¬ Picked d ρ b r k) × (R (f (get_or r i d)) (f (get_or r j d)) ≡ true)
  step_find R b [] e = absurd (false≢true e)
  step_find R b (x ∷ r) e = go (ρ b x r) refl
      (λ h. let s = step_find R (x ∷ b) r h in
      (suc s.0, suc s.1, omega (arith, s.2), later b x r s.0 s.3, later b x r s.1 s.4, between s.0 s.1 s.5, s.6)) e
    where
      between : (i j : ℕ) → ((k : ℕ) → i < k → k < j → ¬ Picked d ρ (x ∷ b) r k) → (k : ℕ) → suc i < k → k < suc j → ¬ Picked d ρ b (x ∷ r) k
      between i j none zero u w p = not-suc-le-zero u
      between i j none (suc k) u w p = none k (omega arith) (omega arith) (sooner b x r k p)

      after : (j : ℕ) → ((k : ℕ) → k < j → ¬ Picked d ρ (x ∷ b) r k) → (k : ℕ) → 0 < k → k < suc j → ¬ Picked d ρ b (x ∷ r) k
      after j none zero u w p = not-suc-le-zero u
      after j none (suc k) u w p = none k (omega arith) (sooner b x r k p)

      Found : Type 0
      Found = (i : ℕ) × (j : ℕ) × (i < j) × Picked d ρ b (x ∷ r) i × Picked d ρ b (x ∷ r) j × ((k : ℕ) → i < k → k < j → ¬ Picked d ρ b (x ∷ r) k) × (R (f (get_or (x ∷ r) i d)) (f (get_or (x ∷ r) j d)) ≡ true)

      by : (l : List ℕ) → keys_of f ρ (x ∷ b) r ≡ l → ρ b x r ≡ true → (some_step R (keys_of f ρ (x ∷ b) r) ≡ true → Found) → some_step R (f x ∷ l) ≡ true → Found
      by [] q h rest e = absurd (false≢true e)
      by (t ∷ l) q h rest e = or_cases (R (f x) t) (some_step R (t ∷ l)) e
          (λ u. let s = first_find (x ∷ b) r t l q in
          (0, suc s.0, omega arith, (omega arith, h), later b x r s.0 s.1, after s.0 s.2, ap (R (f x)) s.3 ∙ u))
          (λ u. rest (ap (some_step R) q ∙ u))

      go : (k : Bool) → ρ b x r ≡ k → (some_step R (keys_of f ρ (x ∷ b) r) ≡ true → Found) → some_step R (map f (when k x (pick_from ρ (x ∷ b) r))) ≡ true → Found
      go false h rest e = rest e
      go true h rest e = by (keys_of f ρ (x ∷ b) r) refl h rest e

  pub step_at : (R : ℕ → ℕ → Bool) (b r : List X) (i j : ℕ) → i < j → Picked d ρ b r i → Picked d ρ b r j → ((k : ℕ) → i < k → k < j → ¬ Picked d ρ b r k)
      → R (f (get_or r i d)) (f (get_or r j d)) ≡ true → some_step R (keys_of f ρ b r) ≡ true
  step_at R b [] i j m p p' none q = absurd (not-suc-le-zero p.0)
  step_at R b (x ∷ r) i zero m p p' none q = absurd (not-suc-le-zero m)
  step_at R b (x ∷ r) zero (suc j) m p p' none q =
      let s = first-at (x ∷ b) r j (sooner b x r j p') (λ k u e. none (suc k) (omega arith) (omega arith) (later b x r k e)) in
      ap (λ (k : Bool). some_step R (map f (when k x (pick_from ρ (x ∷ b) r)))) p.1
      ∙ ap (λ (l : List ℕ). some_step R (f x ∷ l)) s.1
      ∙ or_left (R (f x) (f (get_or r j d))) _ q
  step_at R b (x ∷ r) (suc i) (suc j) m p p' none q =
      go (ρ b x r) (step_at R (x ∷ b) r i j (omega arith) (sooner b x r i p) (sooner b x r j p')
      (λ k u w e. none (suc k) (omega arith) (omega arith) (later b x r k e)) q)
    where
      wider : (s : ℕ) (l : List ℕ) → some_step R l ≡ true → some_step R (s ∷ l) ≡ true
      wider s [] h = h
      wider s (t ∷ l) h = or_right (R s t) _ h

      go : (k : Bool) → some_step R (keys_of f ρ (x ∷ b) r) ≡ true → some_step R (map f (when k x (pick_from ρ (x ∷ b) r))) ≡ true
      go true h = wider (f x) (keys_of f ρ (x ∷ b) r) h
      go false h = h

-- ---- records turned into others

module _ {X : Type 0} where
  -- P holds of each of the list
  abbrev pub Each : (X → Type 0) → List X → Type 0
  Each P [] = Unit {0}
  Each P (x ∷ r) = P x × Each P r

  pub each_make : (d : X) (P : X → Type 0) (r : List X) → ((i : ℕ) → i < length r → P (get_or r i d)) → Each P r
  each_make d P [] h = tt
  each_make d P (x ∷ r) h = (h 0 (omega arith), each_make d P r (λ i k. h (suc i) (omega arith)))

module _ {X Y : Type 0} (G : X → Type 0) (g : X → Y) (ρ : Condition X) (σ : Condition Y)
    (turned : (b : List X) (x : X) (a : List X) → Each G b → G x → σ (map g b) (g x) (map g a) ≡ ρ b x a) where
  pub pick-map : (b r : List X) → Each G b → Each G r → pick_from σ (map g b) (map g r) ≡ map g (pick_from ρ b r)
  pick-map b [] gb gr = refl
  pick-map b (x ∷ r) gb gr =
      ap (λ (k : Bool). when k (g x) (pick_from σ (map g (x ∷ b)) (map g r))) (turned b x r gb gr.0)
      ∙ go (ρ b x r) (pick-map (x ∷ b) r (gr.0, gb) gr.1)
    where
      go : (k : Bool) → pick_from σ (map g (x ∷ b)) (map g r) ≡ map g (pick_from ρ (x ∷ b) r)
          → when k (g x) (pick_from σ (map g (x ∷ b)) (map g r)) ≡ map g (when k x (pick_from ρ (x ∷ b) r))
      go true e = λ i. g x ∷ e i
      go false e = e

module _ {X Y : Type 0} (G : X → Type 0) (g : X → Y) (P Q : X → Bool) (P' Q' : Y → Bool) (from : (x : X) → G x → P' (g x) ≡ P x) (to : (x : X) → G x → Q' (g x) ≡ Q x) where
  last-map : (b : List X) → Each G b → last_of_those (one_of P' Q') P' (map g b) ≡ last_of_those (one_of P Q) P b
  last-map [] gb = refl
  last-map (y ∷ b) gb = let p = from y gb.0 in let q = to y gb.0 in let l = last-map b gb.1 in λ i. cond (p i || q i) (p i) (l i)

  pub turn-map : (b : List X) (x : X) (a : List X) → Each G b → G x → turn P' Q' (map g b) (g x) (map g a) ≡ turn P Q b x a
  turn-map [] x a gb gx = refl
  turn-map (y ∷ b) x a gb gx = let h = to x gx in let k = to y gb.0 in let l = last-map (y ∷ b) gb in λ i. h i && (not (k i) && l i)

module _ {X Y Z : Type 0} (f : X → Y) (g : Y → Z) where
  pub map-map : (l : List X) → map g (map f l) ≡ map (λ x. g (f x)) l
  map-map [] = refl
  map-map (x ∷ l) = λ i. g (f x) ∷ map-map l i
