-- Laws of Boolean tests, and of a test with what it decides.
use Rattle.std.specs.Prelude.{◌≡◌, Bool, true, false, not, ◌&&◌, ◌||◌, T, ◌⊎◌, ◌↔◌, ◌≢◌, refl}
use Rattle.std.proofs.Common.{sym, ◌∙◌, true≢false, inl, inr, ⊎_elim}
use Rattle.std.proofs.Math.Bool.{So}
use Rattle.std.proofs.lemmas.Bool.{false≢true}

-- ---- as equations

pub clash : {e : Bool} → e ≡ true → e ≢ false
clash h k = true≢false (sym h ∙ k)

-- false by contraposition
pub off : {e k : Bool} → (e ≡ true → k ≡ true) → k ≡ false → e ≡ false
off {e = false} h f = refl
off {e = true} h f = absurd (clash (h refl) f)

-- true, for it can't be false
pub by_test : (e : Bool) → (e ≢ false) → e ≡ true
by_test true h = refl
by_test false h = absurd (h refl)

pub same : (e f : Bool) → (e ≡ true → f ≡ true) → (f ≡ true → e ≡ true) → e ≡ f
same false false h k = refl
same true true h k = refl
same true false h k = sym (h refl)
same false true h k = k refl

pub or_left : (e f : Bool) → e ≡ true → (e || f) ≡ true
or_left true f h = refl
or_left false f h = absurd (true≢false (sym h))

pub or_right : (e f : Bool) → f ≡ true → (e || f) ≡ true
or_right true f h = refl
or_right false f h = h

pub or_cases : {C : Type 0} (e f : Bool) → (e || f) ≡ true → (e ≡ true → C) → (f ≡ true → C) → C
or_cases true f h l r = l refl
or_cases false f h l r = r h

pub or_none : {e f : Bool} → e ≡ false → f ≡ false → (e || f) ≡ false
or_none {e} {f} h k = cc

pub none_left : (e f : Bool) → (e || f) ≡ false → e ≡ false
none_left e f h = off (or_left e f) h

pub none_right : (e f : Bool) → (e || f) ≡ false → f ≡ false
none_right e f h = off (or_right e f) h

pub and_left : (e f : Bool) → (e && f) ≡ true → e ≡ true
and_left true f h = refl
and_left false f h = h

pub and_right : (e f : Bool) → (e && f) ≡ true → f ≡ true
and_right true f h = h
and_right false f h = absurd (true≢false (sym h))

pub and_make : (e f : Bool) → e ≡ true → f ≡ true → (e && f) ≡ true
and_make true f h k = k
and_make false f h k = h

pub or_pass : (e f : Bool) → e ≡ false → (e || f) ≡ f
or_pass true f h = absurd (true≢false h)
or_pass false f h = refl

pub and_true : (e : Bool) → e ≡ (e && true)
and_true true = refl
and_true false = refl

-- an implication as a test
pub imp_or : (e f : Bool) → (e ≡ true → f ≡ true) → (not e || f) ≡ true
imp_or true f h = h refl
imp_or false f h = refl

pub or_imp : (e f : Bool) → (not e || f) ≡ true → e ≡ true → f ≡ true
or_imp true f h k = h
or_imp false f h k = absurd (true≢false (sym k))

pub not_make : (e : Bool) → (e ≢ true) → not e ≡ true
not_make true h = absurd (h refl)
not_make false h = refl

-- ---- as types

pub T_of : (e : Bool) → e ≡ true → T e
T_of true h = tt
T_of false h = absurd (true≢false (sym h))

pub T-is : (e : Bool) → T e → e ≡ true
T-is true t = refl
T-is false t = absurd t

pub T_not : (e : Bool) → e ≡ false → T (not e)
T_not true h = absurd (true≢false h)
T_not false h = tt

-- ---- as equivalences

pub then : {A B C : Type 0} → A ↔ B → B ↔ C → A ↔ C
then f g = (λ a. g.0 (f.0 a), λ c. f.1 (g.1 c))

pub back : {A B : Type 0} → A ↔ B → B ↔ A
back f = (f.1, f.0)

pub either : {A B C D : Type 0} → A ↔ C → B ↔ D → (A ⊎ B) ↔ (C ⊎ D)
either f g = (⊎_elim (λ a. inl (f.0 a)) (λ b. inr (g.0 b)), ⊎_elim (λ a. inl (f.1 a)) (λ b. inr (g.1 b)))

pub both : {A B C D : Type 0} → A ↔ C → B ↔ D → (A × B) ↔ (C × D)
both f g = (λ h. (f.0 h.0, g.0 h.1), λ h. (f.1 h.0, g.1 h.1))

pub so_or : (a b : Bool) → So (a || b) ↔ (So a ⊎ So b)
so_or true b = (λ h. inl refl, λ h. refl)
so_or false b = (λ h. inr h, ⊎_elim (λ e. absurd (false≢true e)) (λ h. h))

pub so_and : (a b : Bool) → So (a && b) ↔ (So a × So b)
so_and true b = (λ h. (refl, h), λ h. h.1)
so_and false b = (λ h. absurd (false≢true h), λ h. h.0)

pub so_not : (a : Bool) → So (not a) ↔ (¬ So a)
so_not true = (λ h e. false≢true h, λ h. absurd (h refl))
so_not false = (λ h e. false≢true e, λ h. refl)

pub so_test : (b : Bool) → So b ↔ T b
so_test true = (λ h. tt, λ h. refl)
so_test false = (λ h. false≢true h, λ h. absurd h)
