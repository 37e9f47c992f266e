-- What the caller is told, by the cases of what a recording led to.
use Rattle.std.specs.Prelude.{ℕ, ◌≡◌, refl, Bool, cond}
use Rattle.std.proofs.Common.{sym, ap, ◌∙◌, subst, eq-eqb, ne_eqb}
use Rattle.std.specs.Float.{binary64}
use Rattle.std.specs.Float.Ieee.{to_bits}
use Rattle.refusal.specs.Outcome.{Outcome, refused}
use Rattle.refusal.specs.Numbers.{number_of, place_of}
use Rattle.refusal.specs.declared.Refusal.{Refusal}
use Rattle.reply.specs.Reply.{packed}
use Rattle.report.specs.Report.{MeanDegree, no_mean, mean_degree, Answer}
use Rattle.report.specs.inner.Running.{Addition, further, last, answer_in, figures_in}
use Rattle.report.specs.declared.Report.{Report}
use Rattle.report_state.specs.Call.{ReportTold, mean_told, bits_after}

module _ (m e d x : ℕ) where
  module _ (r : Report) where
    pub give_none : r.empty ≡ r.taken → ReportTold (answer_in (last r)) m e d x 2 r.met r.empty r.distances x
    give_none h =
        let q : no_mean ≡ (figures_in r).mean = sym (ap (λ (b : Bool). cond b no_mean (mean_degree r.mean.mean)) (eq-eqb r.empty r.taken h)) in
        record { returned = ap mean_told q; first-place = refl; second-place = refl; third_place = refl; fourth_place = ap (λ (y : MeanDegree). bits_after y x) q }

    pub give_mean : (r.empty ≡ r.taken → ⊥) → (y : ℕ) → y ≡ to_bits binary64 r.mean.mean → ReportTold (answer_in (last r)) m e d x 1 r.met r.empty r.distances y
    give_mean h y k =
        let q : mean_degree r.mean.mean ≡ (figures_in r).mean = sym (ap (λ (b : Bool). cond b no_mean (mean_degree r.mean.mean)) (ne_eqb r.empty r.taken h)) in
        record { returned = ap mean_told q; first-place = refl; second-place = refl; third_place = refl; fourth_place = k ∙ ap (λ (y : MeanDegree). bits_after y x) q }

  -- a refusal leaves every place
  pub refusal_told : (a : Addition) (y : Refusal) (r : ℕ) → answer_in a ≡ refused (number_of y) (place_of y) → r ≡ packed (refused (number_of y) (place_of y))
      → ReportTold (answer_in a) m e d x r m e d x
  refusal_told a y r p h =
      subst (λ (o : Outcome Answer). ReportTold o m e d x r m e d x) (sym p) (record { returned = h; first-place = refl; second-place = refl; third_place = refl; fourth_place = refl })

  pub taken_told : (a : Addition) (r : Report) → a ≡ further r → ReportTold (answer_in a) m e d x 0 m e d x
  taken_told a r p = subst (λ (b : Addition). ReportTold (answer_in b) m e d x 0 m e d x) (sym p) (record { returned = refl; first-place = refl; second-place = refl; third_place = refl; fourth_place = refl })

  pub last-told : (a : Addition) (r : Report) (n m' e' d' x' : ℕ) → a ≡ last r → ReportTold (answer_in (last r)) m e d x n m' e' d' x' → ReportTold (answer_in a) m e d x n m' e' d' x'
  last-told a r n m' e' d' x' p h = subst (λ (b : Addition). ReportTold (answer_in b) m e d x n m' e' d' x') (sym p) h

  pub same_told : (a b : Addition) (n m' e' d' x' : ℕ) → a ≡ b → ReportTold (answer_in a) m e d x n m' e' d' x' → ReportTold (answer_in b) m e d x n m' e' d' x'
  same_told a b n m' e' d' x' p h = subst (λ (c : Addition). ReportTold (answer_in c) m e d x n m' e' d' x') p h
