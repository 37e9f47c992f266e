-- Calls whose recordings are exchanged for others that the degree call does not tell apart return and leave the same.
use Rattle.std.specs.Prelude.{ℕ, suc, ◌≡◌, refl, Bool, true, false, cond, List, [], ◌∷◌, ◌++◌, eqb, ℤ, length}
use Rattle.std.proofs.Common.{sym, ap, ◌∙◌, subst}
use Rattle.refusal.specs.Outcome.{Outcome, result, refused}
use Rattle.degree.specs.Degree.{Reach, reach_of}
use Rattle.report.specs.Report.{Naming, named, opened_by, Answer, onward, Stage, closed, under_way, add_batch, stage_after}
use Rattle.report.specs.inner.Running.{running_of, Addition, added_to}
use Rattle.report_state.specs.State.{addition_in, add_after}
use Rattle.report_state.specs.Call.{Starts, Adds}
use Rattle.report_state.specs.Calls.{Made, made_start, made_add, ReportReturned, ReportCallsMade, Exchanged}
use Rattle.report_state.proofs.laws.Tell.{same_told}
use Rattle.report_state.proofs.laws.Carried.{Carries, under-added}
use Rattle.report_state.proofs.laws.Calls.{start-onward, add_onward}

-- the degree call tells the recordings apart at no target
abbrev pub SameReach : (text held full : List ℕ) → Type 0
SameReach text held full = (g : ℤ) → reach_of held text g ≡ reach_of full text g

-- a report under way has this text
abbrev pub Asking : List ℕ → Stage → Type 0
Asking text closed = Unit {0}
Asking text (under_way n xs) = n.text ≡ text

opened_asking : (n : Naming) (o : Outcome Answer) → Asking n.text (opened_by n o)
opened_asking n (result x) = refl
opened_asking n (refused k p) = tt

onward_asking : (text : List ℕ) (n : Naming) (xs : List Reach) (o : Outcome Reach) → n.text ≡ text → Asking text (onward n xs o)
onward_asking text n xs (refused k p) e = tt
onward_asking text n xs (result x) e = by (eqb (suc (length xs)) n.count)
  where
    by : (b : Bool) → Asking text (cond b closed (under_way n (xs ++ x ∷ [])))
    by true = tt
    by false = e

stage_asking : (room : ℕ) (text : List ℕ) (s : Stage) (recording : List ℕ) → Asking text s → Asking text (stage_after room s (add_batch recording))
stage_asking room text closed recording h = tt
stage_asking room text (under_way n xs) recording h = onward_asking text n xs (reach_of recording n.text n.target) h

same_addition : (text held full b : List ℕ) (s : Stage) → Carries b s → Asking text s → SameReach text held full → addition_in b held ≡ addition_in b full
same_addition text held full b closed h a e = h held ∙ sym (h full)
same_addition text held full b (under_way n xs) u a e =
    under-added b n xs u held ∙ ap (added_to (running_of n.count xs)) (subst (λ (t : List ℕ). reach_of held t n.target ≡ reach_of full t n.target) (sym a) (e n.target))
    ∙ sym (under-added b n xs u full)

-- what was met by the one addition is met by the other
same_adds : (b held full : List ℕ) (m m' e e' d d' x x' r : ℕ) (after : List ℕ) (first second third fourth : ℕ) → m ≡ m' → e ≡ e' → d ≡ d' → x ≡ x' → addition_in b held ≡ addition_in b full
    → Adds b held m e d x r after first second third fourth → Adds b full m' e' d' x' r after first second third fourth
same_adds b held full m m' e e' d d' x x' r after first second third fourth p q s t a h =
    subst (λ (k : ℕ). Adds b full k e' d' x' r after first second third fourth) p
    (subst (λ (k : ℕ). Adds b full m k d' x' r after first second third fourth) q
    (subst (λ (k : ℕ). Adds b full m e k x' r after first second third fourth) s
    (subst (λ (k : ℕ). Adds b full m e d k r after first second third fourth) t
    (record { told = same_told m e d x _ _ _ _ _ _ _ a h.told; state = h.state ∙ ap (λ (y : Addition). add_after y b) a }))))

module _ (R : (text held full : List ℕ) → Type 0) (same : (text held full : List ℕ) → R text held full → SameReach text held full) where
  exchanged_from : (cs ds : List Made) (xs : List ReportReturned) (text b : List ℕ) (s : Stage) → Carries b s → Asking text s → Exchanged R text cs ds → ReportCallsMade b cs xs → ReportCallsMade b ds xs
  exchanged_from [] [] xs text b s h a e m = m
  exchanged_from [] (d ∷ ds) xs text b s h a e m = absurd e
  exchanged_from (c ∷ cs) [] xs text b s h a e m = absurd e
  exchanged_from (c ∷ cs) (d ∷ ds) [] text b s h a e m = absurd m
  exchanged_from (made_start n ∷ cs) (made_add full p' q' d' y' ∷ ds) (x ∷ xs) text b s h a e m = absurd e
  exchanged_from (made_add held p q d y ∷ cs) (made_start n ∷ ds) (x ∷ xs) text b s h a e m = absurd e
  exchanged_from (made_start n ∷ cs) (made_start o ∷ ds) (x ∷ xs) text b s h a e m =
      let k = start-onward n b in
      let carried : Carries x.state (opened_by n (named (length b) n)) = subst (λ (c : List ℕ). Carries c (opened_by n (named (length b) n))) (sym m.0.state) k.carries in
      (subst (λ (i : Naming). Starts i b x.returned x.state) e.0 m.0, exchanged_from cs ds xs n.text x.state (opened_by n (named (length b) n)) carried (opened_asking n (named (length b) n)) e.1 m.1)
  exchanged_from (made_add held p q d y ∷ cs) (made_add full p' q' d' y' ∷ ds) (x ∷ xs) text b s h a e m =
      let k = add_onward 0 b s held h in
      let t : Stage = stage_after 0 s (add_batch held) in
      let carried : Carries x.state t = subst (λ (c : List ℕ). Carries c t) (sym m.0.state) k.0.carries in (
        same_adds b held full p p' q q' d d' y y' _ _ _ _ _ _ e.1 e.2 e.3 e.4 (same_addition text held full b s h a (same text held full e.0)) m.0,
        exchanged_from cs ds xs text x.state t carried (stage_asking 0 text s held a) e.5 m.1,
      )

  -- THE SAME NUMBERS AND BYTES, from one list of calls as from the other
  pub exchanged_calls : (b : List ℕ) (n : Naming) (cs ds : List Made) (xs : List ReportReturned) → Exchanged R n.text cs ds → ReportCallsMade b (made_start n ∷ cs) xs → ReportCallsMade b (made_start n ∷ ds) xs
  exchanged_calls b n cs ds [] e m = absurd m
  exchanged_calls b n cs ds (x ∷ xs) e m =
      let k = start-onward n b in
      let carried : Carries x.state (opened_by n (named (length b) n)) = subst (λ (c : List ℕ). Carries c (opened_by n (named (length b) n))) (sym m.0.state) k.carries in
      (m.0, exchanged_from cs ds xs n.text x.state (opened_by n (named (length b) n)) carried (opened_asking n (named (length b) n)) e m.1)
