-- Every report that the fold gives has its mean near.
use Rattle.std.specs.Prelude.{ℕ, suc, ◌≤◌, ◌<◌, ◌≡◌, refl, Bool, true, false, cond, eqb, length}
use Rattle.std.proofs.Common.{arith, sym, subst, ⊎_elim, ltb-false}
use mathlib.Core.List.Memᴰ
use mathlib.Core.List.{List, [], ◌∷◌, ◌++◌, Memᴰ}
use Rattle.std.proofs.lemmas.Bool.{eqb-false}
use Rattle.number.proofs.laws.Boolean.{none_left, none_right}
use Rattle.number.proofs.laws.Order.{positive}
use Rattle.refusal.specs.Outcome.{Outcome, result, refused}
use Rattle.recording.proofs.laws.Outcome.{result_none, no_result}
use Rattle.degree.specs.Degree.{Reach, reach_of}
use Rattle.report.specs.Report.{Figures, figures_of, Naming, most_batches, naming_lines, Answer, taken, given, Stage, closed, under_way, ReportCall, start_report, add_batch, named, opened_by, batch_answer, onward, answered, stage_after, report_answers, Reported}
use Rattle.report.proofs.laws.Steps.{AllSmall, small_more, length_more, figures_reported}

-- a naming that was accepted is not whole yet, and its distances are those of the axis
abbrev pub Lawful : Stage → Type 0
Lawful closed = Unit {0}
Lawful (under_way n xs) = (n.count ≤ most_batches) × (length xs < n.count) × AllSmall xs

opened-lawful : (room : ℕ) (n : Naming) → Lawful (opened_by n (named room n))
opened-lawful room n = by (named room n) refl
  where
    by : (o : Outcome Answer) → named room n ≡ o → Lawful (opened_by n o)
    by (refused k p) e = tt
    by (result x) e =
        let m = (result_none (naming_lines n room) taken x e).0.0 in
        let z = eqb-false n.count 0 (none_left (eqb n.count 0) _ m) in
        (ltb-false most_batches n.count (none_right (eqb n.count 0) _ m), positive n.count z, tt)

onward-lawful : (n : Naming) (xs : List Reach) (recording : List ℕ) → Lawful (under_way n xs) → Lawful (onward n xs (reach_of recording n.text n.target))
onward-lawful n xs recording h = by (reach_of recording n.text n.target) refl
  where
    more : (x : Reach) (b : Bool) → eqb (suc (length xs)) n.count ≡ b → reach_of recording n.text n.target ≡ result x → Lawful (cond b closed (under_way n (xs ++ x ∷ [])))
    more x true t e = tt
    more x false t e =
        let l = length_more xs x in
        let k = eqb-false (suc (length xs)) n.count t in
        let m = h.1 in
        (h.0, less (suc (length xs)) (length (xs ++ x ∷ [])) n.count l m k, small_more xs recording n.text n.target x h.2 e)
      where
        less : (a b c : ℕ) → b ≡ a → a ≤ c → (a ≡ c → ⊥) → b < c
        less a b c e l k = omega arith

    by : (o : Outcome Reach) → reach_of recording n.text n.target ≡ o → Lawful (onward n xs o)
    by (refused k p) e = tt
    by (result x) e = more x (eqb (suc (length xs)) n.count) refl e

pub stage_lawful : (room : ℕ) (s : Stage) (c : ReportCall) → Lawful s → Lawful (stage_after room s c)
stage_lawful room s (start_report n) h = opened-lawful room n
stage_lawful room closed (add_batch recording) h = tt
stage_lawful room (under_way n xs) (add_batch recording) h = onward-lawful n xs recording h

taken_given : {C : Type 0} (f : Figures) → taken ≡ given f → C
taken_given f e = let z : ◌≡◌ {A = ℕ} 0 1 = cc in absurd (bad z)
  where
    bad : ◌≡◌ {A = ℕ} 0 1 → ⊥
    bad z = omega arith

same_result : (x y : Answer) → ◌≡◌ {A = Outcome Answer} (result x) (result y) → x ≡ y
same_result x y e = cc

same_given : (f g : Figures) → given f ≡ given g → f ≡ g
same_given f g e = cc

told-near : (n : Naming) (xs : List Reach) (recording : List ℕ) (f : Figures) → Lawful (under_way n xs) → batch_answer n xs (reach_of recording n.text n.target) ≡ result (given f) → Reported f
told-near n xs recording f h = by (reach_of recording n.text n.target) refl
  where
    last : (x : Reach) (b : Bool) → reach_of recording n.text n.target ≡ result x
        → cond b (result (given (figures_of (xs ++ x ∷ [])))) (result taken) ≡ result (given f) → Reported f
    last x true e q =
        let l = length_more xs x in
        let m = h.1 in
        let k = h.0 in
        subst Reported (same_given (figures_of (xs ++ x ∷ [])) f (same_result (given (figures_of (xs ++ x ∷ []))) (given f) q))
        (figures_reported (xs ++ x ∷ []) (small_more xs recording n.text n.target x h.2 e) (few (length (xs ++ x ∷ [])) (length xs) n.count l m k))
      where
        few : (a b c : ℕ) → a ≡ suc b → b < c → c ≤ most_batches → a ≤ most_batches
        few a b c e l k = omega arith
    last x false e q = taken_given f (same_result taken (given f) q)

    by : (o : Outcome Reach) → reach_of recording n.text n.target ≡ o → batch_answer n xs o ≡ result (given f) → Reported f
    by (refused k p) e q = no_result k p (given f) q
    by (result x) e q = last x (eqb (suc (length xs)) n.count) e q

answered-near : (room : ℕ) (s : Stage) (c : ReportCall) (f : Figures) → Lawful s → answered room s c ≡ result (given f) → Reported f
answered-near room s (start_report n) f h e = taken_given f (result_none (naming_lines n room) taken (given f) e).1
answered-near room closed (add_batch recording) f h e = no_result 15 0 (given f) e
answered-near room (under_way n xs) (add_batch recording) f h e = told-near n xs recording f h e

-- EVERY REPORT GIVEN, whatever calls were made, has its mean near
pub fold_near : (room : ℕ) (cs : List ReportCall) (s : Stage) → Lawful s → (f : Figures) → Memᴰ (result (given f)) (report_answers room s cs) → Reported f
fold_near room [] s h f m = absurd (Memᴰ.not-nil m)
fold_near room (c ∷ cs) s h f m =
    ⊎_elim (λ e. answered-near room s c f h (sym e)) (λ k. fold_near room cs (stage_after room s c) (stage_lawful room s c h) f k) (Memᴰ.cases_cons m)
