-- Refusal 14 by its meaning: it meets exactly the texts that are no laboratory texts, and the pairs of tops of B.
use Rattle.std.specs.Prelude.{ℕ, ◌≡◌, Bool, not, ◌||◌, ◌↔◌}
use Rattle.std.proofs.Math.Path.{refl}
use Rattle.std.proofs.Common.{sym, ap, subst, ◌∙◌, true≢false, ⊎_elim}
use Rattle.std.proofs.Math.Bool.{true, false, So}
use Rattle.std.proofs.lemmas.Bool.{false≢true, not-true}
use mathlib.Core.List.Memᴰ
use mathlib.Core.List.{List, [], ◌∷◌, ◌++◌, map, Memᴰ}
use Rattle.number.proofs.laws.Boolean.{by_test, clash, or_left, or_right, or_cases, none_left, none_right}
use Rattle.recording.specs.Condition.{some_of}
use Rattle.recording.specs.Reading.{A, B}
use Rattle.grammar.specs.Syntax.{Listed, Text, atom, listed, or, and, neg, finally, globally, next, until, weak_until}
use Rattle.grammar.specs.Size.{temporal, after_time, after_times}
use Rattle.meaning.specs.Overfull.{Node}
use Rattle.meaning.specs.Alike.{mark_index, Plain}
use Rattle.meaning.specs.Named.{Channel, curve, additions, node_names}
use Rattle.meaning.specs.inner.Truth.{some_node}
use Rattle.meaning.proofs.laws.Alike.{plain-node}
use Rattle.meaning.proofs.laws.Overfull.{some-node}
use Rattle.marks.specs.Marks.{is_mark_index}
use Rattle.marks.proofs.laws.Marks.{marked_is, is_marked}
use Rattle.lab.specs.Lab.{LaboratoryText}
use Rattle.lab.specs.inner.Barred.{is_b, barred, not_for_laboratory}

-- ---- lists

some_member : {X : Type 0} (P : X → Bool) (l : List X) (x : X) → Memᴰ x l → P x ≡ true → some_of P l ≡ true
some_member P [] x m e = absurd (Memᴰ.not-nil m)
some_member P (y ∷ l) x m e = ⊎_elim (λ q. or_left (P y) (some_of P l) (ap P (sym q) ∙ e)) (λ k. or_right (P y) (some_of P l) (some_member P l x k e)) (Memᴰ.cases_cons m)

member_some : {X : Type 0} (P : X → Bool) (l : List X) → some_of P l ≡ true → (x : X) × Memᴰ x l × (P x ≡ true)
member_some P [] e = absurd (false≢true e)
member_some P (y ∷ l) e = or_cases (P y) (some_of P l) e (λ q. (y, Memᴰ.head refl, q)) (λ q. let r = member_some P l q in (r.0, Memᴰ.tail r.1, r.2))

-- ---- the channel that is B

is_B : (n : Channel) → is_b n ≡ true → n ≡ curve B
is_B (curve A) e = absurd (false≢true e)
is_B (curve B) e = refl
is_B additions e = absurd (false≢true e)

-- ---- a text without a barred node is a laboratory text

module _ (marks : List ℕ) where
  abbrev Clear : Text → Type 0
  Clear p = not_for_laboratory marks p ≡ false

  -- the children of a clear `|`, `&` or `!` are clear
  two_left : (p q : Text) → (some_node (barred marks) p || some_node (barred marks) q) ≡ false → Clear p
  unfolding not_for_laboratory
  two_left p q h = none_left (some_node (barred marks) p) (some_node (barred marks) q) h

  two_right : (p q : Text) → (some_node (barred marks) p || some_node (barred marks) q) ≡ false → Clear q
  unfolding not_for_laboratory
  two_right p q h = none_right (some_node (barred marks) p) (some_node (barred marks) q) h

  propositional_two : (p q : Text) → temporal p ≡ false → temporal q ≡ false → (temporal p || temporal q) ≡ false
  propositional_two p q a b = λ i. a i || b i

  clear_propositional : (p : Text) → Clear p → temporal p ≡ false
  unfolding not_for_laboratory some_node
  clear_propositional (atom k) h = refl
  clear_propositional (listed q) h = refl
  clear_propositional (or p q) h = propositional_two p q (clear_propositional p (two_left p q h)) (clear_propositional q (two_right p q h))
  clear_propositional (and p q) h = propositional_two p q (clear_propositional p (two_left p q h)) (clear_propositional q (two_right p q h))
  clear_propositional (neg p) h = clear_propositional p h
  clear_propositional (finally p) h = absurd (true≢false h)
  clear_propositional (globally p) h = absurd (true≢false h)
  clear_propositional (next p) h = absurd (true≢false h)
  clear_propositional (until p q) h = absurd (true≢false h)
  clear_propositional (weak_until p q) h = absurd (true≢false h)

  listed-marked : (q : Listed) → barred marks (listed q) ≡ false → (k : ℕ) → Memᴰ k (after_time q) → Memᴰ k (map mark_index marks)
  listed-marked q h k m = is_marked marks k (by_test (is_mark_index marks k) (λ e.
      clash (some_member (λ k. not (is_mark_index marks k)) (after_time q) k m (ap not e)) (none_right (some_of is_b (node_names (listed q))) _ h)))

  two-marked : (p q : Text) → ((k : ℕ) → Memᴰ k (after_times p) → Memᴰ k (map mark_index marks)) → ((k : ℕ) → Memᴰ k (after_times q) → Memᴰ k (map mark_index marks))
      → (k : ℕ) → Memᴰ k (after_times p ++ after_times q) → Memᴰ k (map mark_index marks)
  two-marked p q f g k m = ⊎_elim (f k) (g k) (Memᴰ.append_cases (after_times p) m)

  clear_marked : (p : Text) → Clear p → (k : ℕ) → Memᴰ k (after_times p) → Memᴰ k (map mark_index marks)
  unfolding not_for_laboratory some_node
  clear_marked (atom a) h k m = absurd (Memᴰ.not-nil m)
  clear_marked (listed q) h k m = listed-marked q h k m
  clear_marked (or p q) h k m = two-marked p q (clear_marked p (two_left p q h)) (clear_marked q (two_right p q h)) k m
  clear_marked (and p q) h k m = two-marked p q (clear_marked p (two_left p q h)) (clear_marked q (two_right p q h)) k m
  clear_marked (neg p) h k m = clear_marked p h k m
  clear_marked (finally p) h k m = absurd (true≢false h)
  clear_marked (globally p) h k m = absurd (true≢false h)
  clear_marked (next p) h k m = absurd (true≢false h)
  clear_marked (until p q) h k m = absurd (true≢false h)
  clear_marked (weak_until p q) h k m = absurd (true≢false h)

  -- a node that names B is barred
  names_barred : (q : Text) → Memᴰ (curve B) (node_names q) → barred marks q ≡ true
  names_barred (atom k) m = some_member is_b (node_names (atom k)) (curve B) m refl
  names_barred (listed l) m = or_left (some_of is_b (node_names (listed l))) _ (some_member is_b (node_names (listed l)) (curve B) m refl)
  names_barred (or p q) m = absurd (Memᴰ.not-nil m)
  names_barred (and p q) m = absurd (Memᴰ.not-nil m)
  names_barred (neg p) m = absurd (Memᴰ.not-nil m)
  names_barred (finally p) m = absurd (Memᴰ.not-nil m)
  names_barred (globally p) m = absurd (Memᴰ.not-nil m)
  names_barred (next p) m = absurd (Memᴰ.not-nil m)
  names_barred (until p q) m = absurd (Memᴰ.not-nil m)
  names_barred (weak_until p q) m = absurd (Memᴰ.not-nil m)

  pub clear_laboratory : (p : Text) → not_for_laboratory marks p ≡ false → LaboratoryText marks p
  unfolding not_for_laboratory
  clear_laboratory p h = record {
    plain = record { propositional = clear_propositional p h; marked = clear_marked p h };
    no_B = λ n. clash ((some-node (barred marks) p).1 (n.0, n.1, names_barred n.0 n.2)) h;
  }

  -- ---- a laboratory text has no barred node

  -- of a leaf: it names B, or an after-time of it is no mark
  leaf_barred : (q : Text) (p : Text) → Node q p → LaboratoryText marks p → barred marks q ≡ true → ⊥
  leaf_barred q p n t e = go q n (plain-node n t.plain) e
    where
      go : (q : Text) → Node q p → Plain marks q → barred marks q ≡ true → ⊥
      go (atom k) n h e = let b = member_some is_b (node_names (atom k)) e in t.no_B (atom k, n, subst (λ (x : Channel). Memᴰ x (node_names (atom k))) (is_B b.0 b.2) b.1)
      go (listed l) n h e = or_cases (some_of is_b (node_names (listed l))) (some_of (λ k. not (is_mark_index marks k)) (after_time l)) e
          (λ x. let b = member_some is_b (node_names (listed l)) x in t.no_B (listed l, n, subst (λ (x : Channel). Memᴰ x (node_names (listed l))) (is_B b.0 b.2) b.1))
          (λ x. let b = member_some (λ k. not (is_mark_index marks k)) (after_time l) x in
          clash (marked_is marks b.0 (h.marked b.0 b.1)) (not-true (is_mark_index marks b.0) b.2))
      go (or c d) n h e = false≢true e
      go (and c d) n h e = false≢true e
      go (neg c) n h e = false≢true e
      go (finally c) n h e = true≢false h.propositional
      go (globally c) n h e = true≢false h.propositional
      go (next c) n h e = true≢false h.propositional
      go (until c d) n h e = true≢false h.propositional
      go (weak_until c d) n h e = true≢false h.propositional

  pub laboratory_clear : (p : Text) → LaboratoryText marks p → not_for_laboratory marks p ≡ false
  unfolding not_for_laboratory
  laboratory_clear p t = by (some_node (barred marks) p) refl
    where
      by : (b : Bool) → some_node (barred marks) p ≡ b → b ≡ false
      by false e = refl
      by true e = let s = (some-node (barred marks) p).0 e in absurd (leaf_barred s.0 p s.1 t s.2)

  -- REFUSAL 14 meets exactly the texts that are no laboratory texts
  pub fourteen_text : (p : Text) → So (not_for_laboratory marks p) ↔ (¬ LaboratoryText marks p)
  fourteen_text p = (λ e t. clash e (laboratory_clear p t), λ h. by_test (not_for_laboratory marks p) (λ e. h (clear_laboratory p e)))
