-- The test is true exactly of the assured texts.
use Rattle.std.specs.Prelude.{ℕ, ◌≡◌, refl, true, not, ◌↔◌}
use Rattle.std.proofs.Common.{ap, ◌∙◌, inl, inr, ⊎_elim}
use mathlib.Core.List.Memᴰ
use mathlib.Core.List.{List, [], ◌∷◌, map, Memᴰ}
use Rattle.std.proofs.lemmas.Bool.{not-true}
use Rattle.number.proofs.laws.Boolean.{or_left, or_right, or_cases, and_left, and_right, and_make}
use Rattle.grammar.specs.Size.{temporal, after_times}
use Rattle.grammar.specs.Syntax.{Text}
use Rattle.meaning.specs.Alike.{mark_index, Plain}
use Rattle.marks.specs.Marks.{is_mark_index}
use Rattle.marks.proofs.laws.Marks.{marked_is, is_marked}
use Rattle.assured.specs.Assured.{lasts, Assured}
use Rattle.assured.specs.inner.Test.{all_marked, plainly, is_assured}

marked_each : (marks ks : List ℕ) → all_marked marks ks ≡ true → (k : ℕ) → Memᴰ k ks → Memᴰ k (map mark_index marks)
marked_each marks [] h k m = absurd (Memᴰ.not-nil m)
marked_each marks (j ∷ ks) h k m = ⊎_elim
    (λ (e : k ≡ j). is_marked marks k (ap (is_mark_index marks) e ∙ and_left (is_mark_index marks j) _ h))
    (λ n. marked_each marks ks (and_right (is_mark_index marks j) _ h) k n) (Memᴰ.cases_cons m)

each_marked : (marks ks : List ℕ) → ((k : ℕ) → Memᴰ k ks → Memᴰ k (map mark_index marks)) → all_marked marks ks ≡ true
each_marked marks [] h = refl
each_marked marks (j ∷ ks) h = and_make (is_mark_index marks j) (all_marked marks ks) (marked_is marks j (h j (Memᴰ.head refl))) (each_marked marks ks (λ k m. h k (Memᴰ.tail m)))

plain_test : (marks : List ℕ) (p : Text) → (plainly marks p ≡ true) ↔ Plain marks p
plain_test marks p = (
  λ h. record { propositional = not-true (temporal p) (and_left (not (temporal p)) _ h); marked = marked_each marks (after_times p) (and_right (not (temporal p)) _ h) },
  λ l. and_make (not (temporal p)) _ (ap not l.propositional) (each_marked marks (after_times p) l.marked),
)

pub assured_test : (marks : List ℕ) (p : Text) → (is_assured marks p ≡ true) ↔ Assured marks p
assured_test marks p = (
  λ h. or_cases (plainly marks p) (lasts marks p) h (λ k. inl ((plain_test marks p).0 k)) (λ k. inr k),
  ⊎_elim (λ l. or_left (plainly marks p) (lasts marks p) ((plain_test marks p).1 l)) (λ k. or_right (plainly marks p) (lasts marks p) k),
)
