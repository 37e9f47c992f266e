-- WHAT THE KEPT RULE SAYS OF A READING THAT IS LEFT OUT: it has no pigment, it lies on the side of the one after it, and if a curve falls or rises there, so it does later.
use Rattle.std.specs.Prelude.{ℕ, suc, ◌<◌, ◌≡◌, refl, Bool, true, false, ◌&&◌, ◌||◌, not, cond, List, [], ◌∷◌, get_or, eqb}
use Rattle.std.proofs.Common.{arith, sym, ap, ◌∙◌, subst, true≢false, eqb-true}
use Rattle.std.proofs.lemmas.Bool.{false≢true, not-false}
use Rattle.number.proofs.laws.Boolean.{off, or_left, none_right}
use Rattle.recording.specs.Condition.{some_of}
use Rattle.recording.specs.Reading.{Reading, Curve, falls, rises, steep, crossed, last_of_those, turn, top, dip, crossing, upcrossing, a_crossing, an_upcrossing}
use Rattle.recording.proofs.laws.Turn.{Exclusive, one_of, rises_exclusive, falls_exclusive, steep_is}
use Rattle.kept.specs.Kept.{preceding, last_before, last_of_all, any_of, for_some, extremes, later_than, reasons, kept_for}
use Rattle.kept.specs.Selection.{flags_from, Includes}
use Rattle.kept.proofs.laws.Stability.{◌⊑◌, left, one-of}
use Rattle.kept.proofs.laws.Turn.{rise_is}
use Rattle.kept.proofs.laws.Kept.{last-kept, on_curve, event-kept, pigmented-kept}
use Rattle.meaning.specs.inner.Recorded.{Increasing}
use Rattle.assured.proofs.laws.Suffix.{Some}
use Rattle.assured.proofs.laws.Carried.{Quiet, Thinned}

-- one of P or Q comes later, and the next of them is not of Q: then one of P comes later
later-one : {X : Type 0} (P Q : X → Bool) (a : List X) → some_of (one_of P Q) a ≡ true → last_of_those (one_of P Q) Q a ≡ false → some_of P a ≡ true
later-one P Q [] h k = absurd (false≢true h)
later-one P Q (y ∷ a) h k = go (P y) (Q y) h k (later-one P Q a)
  where
    go : (p q : Bool) → ((p || q) || some_of (one_of P Q) a) ≡ true → cond (p || q) q (last_of_those (one_of P Q) Q a) ≡ false
        → (some_of (one_of P Q) a ≡ true → last_of_those (one_of P Q) Q a ≡ false → some_of P a ≡ true) → (p || some_of P a) ≡ true
    go true q h k rest = refl
    go false true h k rest = absurd (true≢false k)
    go false false h k rest = rest h k

-- a reading of which P holds that nothing rests on, and that is not the last of all
rests : {X : Type 0} (P Q : X → Bool) → Exclusive P Q → (b : List X) (x : X) (a : List X) → last_before (one_of P Q) (turn P Q) b x a ≡ false → last_of_all (one_of P Q) b x a ≡ false
    → P x ≡ true → some_of P a ≡ true
rests P Q excl b x a h k p =
    later-one P Q a (go (one_of P Q x) (some_of (one_of P Q) a) (or_left (P x) (Q x) p) k)
    (ap (λ (t : Bool). t && last_of_those (one_of P Q) Q a) (sym p) ∙ sym (rise_is P Q excl b x a) ∙ h)
  where
    go : (e s : Bool) → e ≡ true → (e && not s) ≡ false → s ≡ true
    go true true e h = refl
    go true false e h = absurd (true≢false h)
    go false s e h = absurd (false≢true e)

same_side : (e f : Bool) → (f && not e) ≡ false → (not f && not (not e)) ≡ false → e ≡ f
same_side true true h k = refl
same_side true false h k = absurd (true≢false k)
same_side false true h k = absurd (true≢false h)
same_side false false h k = refl

module _ (marks : List ℕ) where
  reason_kept : (i : ℕ) → get_or reasons i (λ b x a. false) ⊑ kept_for marks
  reason_kept i b x a h = left (any_of reasons) (for_some marks (λ k. extremes (later_than k))) b x a (one-of reasons i b x a h)

  module _ (b : List Reading) (x y : Reading) (l : List Reading) (f : kept_for marks b x (y ∷ l) ≡ false) (sooner : x.time < y.time) where
    no_end : (c : Curve) → last_of_all (steep c) b x (y ∷ l) ≡ false
    no_end c = off (λ h. reason_kept 10 b x (y ∷ l) (on_curve (λ c. last_of_all (steep c)) c b x (y ∷ l) h)) f

    no_rise : (c : Curve) → last_before (steep c) (top c) b x (y ∷ l) ≡ false
    no_rise c = off (λ h. reason_kept 8 b x (y ∷ l) (on_curve (λ c. last_before (steep c) (top c)) c b x (y ∷ l) h)) f

    no_fall : (c : Curve) → last_before (steep c) (dip c) b x (y ∷ l) ≡ false
    no_fall c = off (λ h. reason_kept 9 b x (y ∷ l) (on_curve (λ c. last_before (steep c) (dip c)) c b x (y ∷ l) h)) f

    quiet : Quiet x y l
    quiet = record {
      sooner = sooner;
      bare = eqb-true x.pigment 0 (not-false (eqb x.pigment 0) (off (pigmented-kept marks b x (y ∷ l)) f));
      side = same_side (crossed x) (crossed y)
          (none_right (crossing b x (y ∷ l)) (preceding crossing b x (y ∷ l)) (off (event-kept marks a_crossing b x (y ∷ l)) f))
          (none_right (upcrossing b x (y ∷ l)) (preceding upcrossing b x (y ∷ l)) (off (event-kept marks an_upcrossing b x (y ∷ l)) f));
      fall_later = λ c h. rests (falls c) (rises c) (falls_exclusive c) b x (y ∷ l) (no_fall c) (no_end c) h;
      rise_later = λ c h. rests (rises c) (falls c) (rises_exclusive c) b x (y ∷ l)
          (subst (λ (S : Reading → Bool). last_before S (top c) b x (y ∷ l) ≡ false) (steep_is c) (no_rise c))
          (subst (λ (S : Reading → Bool). last_of_all S b x (y ∷ l) ≡ false) (steep_is c) (no_end c)) h;
    }

  -- A SELECTION THAT INCLUDES THE KEPT READINGS leaves out quiet readings only
  pub thinned-from : (b : List Reading) (mask : List Bool) (l : List Reading) → Some l → Increasing l → Includes mask (flags_from (kept_for marks) b l) → Thinned mask l
  thinned-from b [] [] s u w = absurd s
  thinned-from b (m ∷ mask) [] s u w = absurd s
  thinned-from b [] (x ∷ l) s u w = absurd w
  thinned-from b (true ∷ mask) (x ∷ []) s u w = tt
  thinned-from b (false ∷ mask) (x ∷ []) s u w = absurd (false≢true (w.0 (last-kept marks b x [] refl)))
  thinned-from b (true ∷ mask) (x ∷ (y ∷ l)) s u w = thinned-from (x ∷ b) mask (y ∷ l) tt (λ i k. u (suc i) (omega arith)) w.1
  thinned-from b (false ∷ mask) (x ∷ (y ∷ l)) s u w =
      (quiet b x y l (off w.0 refl) (u 0 (omega arith)), thinned-from (x ∷ b) mask (y ∷ l) tt (λ i k. u (suc i) (omega arith)) w.1)
