-- The after-times of a text, and what it names, node by node.
use Rattle.std.specs.Prelude.{ℕ, ◌≡◌, refl, ◌⊎◌, ◌↔◌}
use Rattle.std.proofs.Common.{sym, subst, inl, inr, ⊎_elim}
use mathlib.Core.List.Memᴰ
use mathlib.Core.List.{List, [], ◌∷◌, ◌++◌, map, Memᴰ}
use Rattle.recording.specs.Reading.{B}
use Rattle.grammar.specs.Syntax.{Text, atom, listed, or, and, neg, finally, globally, next, until, weak_until, Listed, high, low, lowafter, capafter, peaks, dips, cross, crossup, dose, ampl, gaps, steps, lag}
use Rattle.grammar.specs.Size.{after_time, after_times}
use Rattle.meaning.specs.Alike.{mark_index}
use Rattle.meaning.specs.Named as named
use Rattle.meaning.specs.Named.{node_names}
use Rattle.meaning.specs.Overfull.{children, Node, itself, of_child}
use Rattle.lab.specs.Lab as lab
use Rattle.promises.specs.Conditions.{AfterTime, of_lowafter, of_capafter, Marked, TellsOfB, b_atom, b_question, LaboratoryText}

-- ---- members of two lists

in_left : {X : Type 0} {x : X} (l m : List X) → Memᴰ x l → Memᴰ x (l ++ m)
in_left [] m i = absurd (Memᴰ.not-nil i)
in_left (y ∷ l) m i = ⊎_elim (λ e. Memᴰ.head e) (λ j. Memᴰ.tail (in_left l m j)) (Memᴰ.cases_cons i)

in_right : {X : Type 0} {x : X} (l m : List X) → Memᴰ x m → Memᴰ x (l ++ m)
in_right [] m i = i
in_right (y ∷ l) m i = Memᴰ.tail (in_right l m i)

in_either : {X : Type 0} {x : X} (l m : List X) → Memᴰ x (l ++ m) → Memᴰ x l ⊎ Memᴰ x m
in_either [] m i = inr i
in_either (y ∷ l) m i = ⊎_elim (λ e. inl (Memᴰ.head e)) (λ j. ⊎_elim (λ k. inl (Memᴰ.tail k)) (λ k. inr k) (in_either l m j)) (Memᴰ.cases_cons i)

-- ---- after-times

one_time : (j k : ℕ) → Memᴰ k (j ∷ []) → k ≡ j
one_time j k i = ⊎_elim (λ e. e) (λ m. absurd (Memᴰ.not-nil m)) (Memᴰ.cases_cons i)

listed-time : (q : Listed) (k : ℕ) → Memᴰ k (after_time q) → AfterTime q k
listed-time (lowafter c j) k i = subst (AfterTime (lowafter c j)) (sym (one_time j k i)) of_lowafter
listed-time (capafter c j) k i = subst (AfterTime (capafter c j)) (sym (one_time j k i)) of_capafter
listed-time (high c) k i = absurd (Memᴰ.not-nil i)
listed-time (low c) k i = absurd (Memᴰ.not-nil i)
listed-time (peaks c) k i = absurd (Memᴰ.not-nil i)
listed-time (dips c) k i = absurd (Memᴰ.not-nil i)
listed-time cross k i = absurd (Memᴰ.not-nil i)
listed-time crossup k i = absurd (Memᴰ.not-nil i)
listed-time (dose j) k i = absurd (Memᴰ.not-nil i)
listed-time (ampl c) k i = absurd (Memᴰ.not-nil i)
listed-time (gaps c) k i = absurd (Memᴰ.not-nil i)
listed-time (steps c) k i = absurd (Memᴰ.not-nil i)
listed-time lag k i = absurd (Memᴰ.not-nil i)

time-listed : {q : Listed} {k : ℕ} → AfterTime q k → Memᴰ k (after_time q)
time-listed of_lowafter = Memᴰ.head refl
time-listed of_capafter = Memᴰ.head refl

-- k is the after-time of a node of p
abbrev TimeIn : Text → ℕ → Type 0
TimeIn p k = (q : Listed) × Node (listed q) p × AfterTime q k

below : {c p : Text} {k : ℕ} → Memᴰ c (children p) → TimeIn c k → TimeIn p k
below m t = (t.0, of_child m t.1, t.2)

time_in : (p : Text) (k : ℕ) → Memᴰ k (after_times p) → TimeIn p k
time_in (atom a) k i = absurd (Memᴰ.not-nil i)
time_in (listed q) k i = (q, itself, listed-time q k i)
time_in (or p q) k i = ⊎_elim (λ j. below (Memᴰ.head refl) (time_in p k j)) (λ j. below (Memᴰ.tail (Memᴰ.head refl)) (time_in q k j)) (in_either (after_times p) (after_times q) i)
time_in (and p q) k i = ⊎_elim (λ j. below (Memᴰ.head refl) (time_in p k j)) (λ j. below (Memᴰ.tail (Memᴰ.head refl)) (time_in q k j)) (in_either (after_times p) (after_times q) i)
time_in (neg p) k i = below (Memᴰ.head refl) (time_in p k i)
time_in (finally p) k i = below (Memᴰ.head refl) (time_in p k i)
time_in (globally p) k i = below (Memᴰ.head refl) (time_in p k i)
time_in (next p) k i = below (Memᴰ.head refl) (time_in p k i)
time_in (until p q) k i = ⊎_elim (λ j. below (Memᴰ.head refl) (time_in p k j)) (λ j. below (Memᴰ.tail (Memᴰ.head refl)) (time_in q k j)) (in_either (after_times p) (after_times q) i)
time_in (weak_until p q) k i = ⊎_elim (λ j. below (Memᴰ.head refl) (time_in p k j)) (λ j. below (Memᴰ.tail (Memᴰ.head refl)) (time_in q k j)) (in_either (after_times p) (after_times q) i)

-- the after-times of a child are its own
one_child : (p c : Text) (k : ℕ) → Memᴰ c (p ∷ []) → Memᴰ k (after_times c) → Memᴰ k (after_times p)
one_child p c k m i = ⊎_elim (λ e. subst (λ (t : Text). Memᴰ k (after_times t)) e i) (λ n. absurd (Memᴰ.not-nil n)) (Memᴰ.cases_cons m)

two-children : (p q c : Text) (k : ℕ) → Memᴰ c (p ∷ q ∷ []) → Memᴰ k (after_times c) → Memᴰ k (after_times p ++ after_times q)
two-children p q c k m i =
    ⊎_elim (λ e. in_left (after_times p) (after_times q) (subst (λ (t : Text). Memᴰ k (after_times t)) e i)) (λ n. in_right (after_times p) (after_times q) (one_child q c k n i)) (Memᴰ.cases_cons m)

child_time : (p c : Text) (k : ℕ) → Memᴰ c (children p) → Memᴰ k (after_times c) → Memᴰ k (after_times p)
child_time (atom a) c k m i = absurd (Memᴰ.not-nil m)
child_time (listed q) c k m i = absurd (Memᴰ.not-nil m)
child_time (or p q) c k m i = two-children p q c k m i
child_time (and p q) c k m i = two-children p q c k m i
child_time (neg p) c k m i = one_child p c k m i
child_time (finally p) c k m i = one_child p c k m i
child_time (globally p) c k m i = one_child p c k m i
child_time (next p) c k m i = one_child p c k m i
child_time (until p q) c k m i = two-children p q c k m i
child_time (weak_until p q) c k m i = two-children p q c k m i

node-time : {q : Listed} {k : ℕ} (p : Text) → Node (listed q) p → AfterTime q k → Memᴰ k (after_times p)
node-time p itself t = time-listed t
node-time {k = k} p (of_child {c = c} m n) t = child_time p c k m (node-time c n t)

pub marked-times : (marks : List ℕ) (p : Text) → Marked marks p ↔ ((k : ℕ) → Memᴰ k (after_times p) → Memᴰ k (map mark_index marks))
marked-times marks p = (
  λ h k i. let t = time_in p k i in h t.0 k t.1 t.2,
  λ h q k n t. h k (node-time p n t),
)

-- ---- what tells of B

tells_named : (p : Text) → TellsOfB p → Memᴰ (named.curve B) (node_names p)
tells_named p (b_atom m) = m
tells_named p (b_question m) = m

named_tells : (p : Text) → Memᴰ (named.curve B) (node_names p) → TellsOfB p
named_tells (atom a) m = b_atom m
named_tells (listed q) m = b_question m
named_tells (or p q) m = absurd (Memᴰ.not-nil m)
named_tells (and p q) m = absurd (Memᴰ.not-nil m)
named_tells (neg p) m = absurd (Memᴰ.not-nil m)
named_tells (finally p) m = absurd (Memᴰ.not-nil m)
named_tells (globally p) m = absurd (Memᴰ.not-nil m)
named_tells (next p) m = absurd (Memᴰ.not-nil m)
named_tells (until p q) m = absurd (Memᴰ.not-nil m)
named_tells (weak_until p q) m = absurd (Memᴰ.not-nil m)

pub laboratory_text : (marks : List ℕ) (p : Text) → lab.LaboratoryText marks p ↔ LaboratoryText marks p
laboratory_text marks p = (
  λ t. record { plain = t.plain.propositional; marked = (marked-times marks p).1 t.plain.marked; no_B = λ n i b. t.no_B (n, i, tells_named n b) },
  λ t. record { plain = record { propositional = t.plain; marked = (marked-times marks p).0 t.marked }; no_B = λ n. t.no_B n.0 n.1 (named_tells n.0 n.2) },
)
