-- The computed reading is the reading by the printed rules, and there is no other.
use Rattle.std.specs.Prelude.{◌↔◌, Bool, Option, Some, None, eqb}
use Rattle.std.proofs.Math.Path.{◌≡◌, refl, subst}
use Rattle.std.proofs.Common.{sym, ap, ◌∙◌, arith, lit<, length-append}
use Rattle.std.proofs.Math.Bool.{true, false}
use mathlib.Core.List.{List, [], ◌∷◌, ◌++◌}
use Prim.Native.Nat.{ℕ, zero, suc, ◌+◌, ◌*◌, ◌-◌, ◌≤◌, ◌<◌}
use Rattle.std.proofs.Math.ListN.{length, get_or-eq_default}
use borrow.Author.Tests.{eq-eqb, ne_eqb, eqb-true, lt-ltb, le-ltb}
use Rattle.recording.specs.Reading.{A, B}
use Rattle.grammar.specs.declared.Leaf.{Leaf}
use Rattle.grammar.specs.declared.Leaf.TheVariants.{Node, Open}
use Rattle.grammar.specs.Bytes.{bytes}
use Rattle.grammar.specs.Syntax.{of, T, Atom, Listed, Text, atom, listed}
use Rattle.grammar.specs.Size.{mixed}
use Rattle.grammar.specs.Grammar.{AtomWord, compared, curves as A-with-B, falling, rising, pigment_is, ListedWord, a_high, a_low, a_lowafter, a_capafter, a_peaks, a_dips, a_cross, a_crossup, a_dose, an_ampl, a_gaps, a_steps, a_lag, Level, alternation, conjunction, negation, primary, Reads, one_conjunction, bar, one_negation, ampersand, one_primary, bang, bracketed, an_F, a_G, an_X, a_U, a_W, an_atom, a_listed, ReadsWhole}
use Rattle.grammar.specs.inner.Kinds.{NOT, NEXT, FINALLY, GLOBALLY, UNTIL, WEAK-UNTIL, BRACKET}
use Rattle.grammar.specs.inner.Table.{binary_from, kinds}
use Rattle.grammar.specs.inner.Lexer.{byte, leaf_at}
use Rattle.grammar.specs.inner.Parse.{Joiner, bars, ampersands, sign, Task, chain, more, not_at, prim_at, argument, part, join_kind, node, Out, got, unread, after, pick, opened, begun, closed, parse, rank, Parsed, one, none, unmixed, at_end, parsed}
use Rattle.grammar.proofs.laws.Word.{Stands, letter_or_digit, bound, before, behind, same-word, stands_self}
use Rattle.grammar.proofs.laws.Leaf.{Run, run_then, run-byte, Held, Opening, round, single, double, leaf_held, open_held, WordEnds, Lexed, atom_lexed, listed_lexed, X-opens, F-opens, G-opens, U-opens, W-opens, round_opens}

-- the level of a chain, and of its parts
abbrev level : Joiner → Level
level bars = alternation
level ampersands = conjunction

abbrev part_level : Joiner → Level
part_level bars = conjunction
part_level ampersands = negation

read_one : (o : Joiner) {w : List ℕ} {p : Text} → Reads (part_level o) w p → Reads (level o) w p
read_one bars r = one_conjunction r
read_one ampersands r = one_negation r

read_joined : (o : Joiner) {x y : List ℕ} {p q : Text} → Reads (level o) x p → Reads (part_level o) y q → Reads (level o) (x ++ (sign o ∷ []) ++ y) (node (join_kind o) p q)
read_joined bars r q = bar r q
read_joined ampersands r q = ampersand r q

sign_above : (o : Joiner) → 0 < sign o
sign_above bars = lit< tt
sign_above ampersands = lit< tt

-- SOUNDNESS: what `parse` gives is a reading
abbrev Sound : List ℕ → Task → Out → Type 0
Sound s g unread = Unit {0}
Sound s (chain o i) (got t j) = Held s (level o) i j t
Sound s (more o t i) (got u j) = (h : ℕ) → Held s (level o) h i t → Held s (level o) h j u
Sound s (not_at i) (got t j) = Held s negation i j t
Sound s (prim_at i) (got t j) = Held s primary i j t
Sound s (argument b i) (got t j) = (k : ℕ) × (Held s alternation i k t) × (byte s k ≡ b) × (j ≡ k + 1)

module _ (s : List ℕ) where
  held_one : (o : Joiner) {i j : ℕ} {t : Text} → Held s (part_level o) i j t → Held s (level o) i j t
  held_one o h = record { spelling = h.spelling; run = h.run; reads = read_one o h.reads }

  held_joined : (o : Joiner) {h i j : ℕ} {t u : Text} → byte s i ≡ sign o → Held s (level o) h i t → Held s (part_level o) (i + 1) j u → Held s (level o) h j (node (join_kind o) t u)
  held_joined o {h} {i} {j} b x y =
      record {
        spelling = x.spelling ++ (sign o ∷ []) ++ y.spelling;
        run = run_then s (x.spelling ++ (sign o ∷ [])) y.spelling (run_then s x.spelling (sign o ∷ []) x.run (run-byte s i (sign o) (sign_above o) b)) y.run;
        reads = read_joined o x.reads y.reads;
      }

  held_bang : {i j : ℕ} {t : Text} → byte s i ≡ 33 → Held s negation (i + 1) j t → Held s negation i j (node NOT t t)
  held_bang {i} b x =
      record { spelling = bytes "!" ++ x.spelling; run = run_then s (bytes "!") x.spelling (run-byte s i 33 (lit< tt) b) x.run; reads = bang x.reads }

  held_primary : {i j : ℕ} {t : Text} → Held s primary i j t → Held s negation i j t
  held_primary h = record { spelling = h.spelling; run = h.run; reads = one_primary h.reads }

  part_sound : (o : Joiner) (i j : ℕ) (t : Text) → Sound s (part o i) (got t j) → Held s (part_level o) i j t
  part_sound bars i j t h = h
  part_sound ampersands i j t h = h

  chain_use : (o : Joiner) (i : ℕ) (t : Text) (j : ℕ) (p : Out) → Held s (level o) i j t → Sound s (more o t j) p → Sound s (chain o i) p
  chain_use o i t j (got u k) r h = h i r
  chain_use o i t j unread r h = tt

  chain_sound : (o : Joiner) (i : ℕ) (p : Out) (k : Text → ℕ → Out) → Sound s (part o i) p → ((t : Text) (j : ℕ) → Sound s (more o t j) (k t j)) → Sound s (chain o i) (after p k)
  chain_sound o i (got t j) k h m = chain_use o i t j (k t j) (held_one o (part_sound o i j t h)) (m t j)
  chain_sound o i unread k h m = tt

  more_use : (o : Joiner) (t u : Text) (i j : ℕ) (p : Out) → byte s i ≡ sign o → Held s (part_level o) (i + 1) j u → Sound s (more o (node (join_kind o) t u) j) p → Sound s (more o t i) p
  more_use o t u i j (got w k) b r h = λ a q. h a (held_joined o b q r)
  more_use o t u i j unread b r h = tt

  more_sound : (o : Joiner) (t : Text) (i : ℕ) (p : Out) (k : Text → ℕ → Out) (b : Bool) → eqb (byte s i) (sign o) ≡ b → Sound s (part o (i + 1)) p
      → ((u : Text) (j : ℕ) → Sound s (more o (node (join_kind o) t u) j) (k u j)) → Sound s (more o t i) (pick b (λ _. after p k) (λ _. got t i))
  more_sound o t i (got u j) k true e h m = more_use o t u i j (k u j) (eqb-true (byte s i) (sign o) e) (part_sound o (i + 1) j u h) (m u j)
  more_sound o t i unread k true e h m = tt
  more_sound o t i p k false e h m = λ a q. q

  not_sound : (i : ℕ) (o p : Out) (b : Bool) → eqb (byte s i) 33 ≡ b → Sound s (not_at (i + 1)) o → Sound s (prim_at i) p → Sound s (not_at i) (pick b (λ _. after o (λ t j. got (node NOT t t) j)) (λ _. p))
  not_sound i (got t j) p true e h m = held_bang (eqb-true (byte s i) 33 e) h
  not_sound i unread p true e h m = tt
  not_sound i o (got t j) false e h m = held_primary m
  not_sound i o unread false e h m = tt

  argument_sound : (b i : ℕ) (p : Out) → Sound s (chain bars i) p → Sound s (argument b i) (after p (closed s b))
  argument_sound b i (got t j) h = go (eqb (byte s j) b) refl
    where
      go : (x : Bool) → eqb (byte s j) b ≡ x → Sound s (argument b i) (pick x (λ _. got t (j + 1)) (λ _. unread))
      go true e = (j, h, eqb-true (byte s j) b e, refl)
      go false e = tt
  argument_sound b i unread h = tt

  -- an opening, its text, and the byte behind it
  closed_run : {i j e : ℕ} {t : Text} (b : ℕ) (w : List ℕ) → 0 < b → Run s i j w → (h : Sound s (argument b j) (got t e)) → Run s i e (w ++ h.1.spelling ++ (b ∷ []))
  closed_run {i} b w l a h =
      subst (λ (n : ℕ). Run s i n (w ++ h.1.spelling ++ (b ∷ []))) (sym h.3)
      (run_then s (w ++ h.1.spelling) (b ∷ []) (run_then s w h.1.spelling a h.1.run) (run-byte s h.0 b l h.2))

  round_sound : {i j : ℕ} (p : Out) → Run s i j (bytes "(") → Sound s (argument 41 j) p → Sound s (prim_at i) p
  round_sound (got t e) a h = record { spelling = bytes "(" ++ h.1.spelling ++ bytes ")"; run = closed_run 41 (bytes "(") (lit< tt) a h; reads = bracketed h.1.reads }
  round_sound unread a h = tt

  single_sound : {i j : ℕ} (k : ℕ) (w : List ℕ) (p : Out) → Run s i j w
      → ((x : List ℕ) (t : Text) → Reads alternation x t → Reads primary (w ++ x ++ bytes ")") (node k t t))
      → Sound s (argument 41 j) p → Sound s (prim_at i) (after p (λ t e. got (node k t t) e))
  single_sound k w (got t e) a r h = record { spelling = w ++ h.1.spelling ++ bytes ")"; run = closed_run 41 w (lit< tt) a h; reads = r h.1.spelling t h.1.reads }
  single_sound k w unread a r h = tt

  second_sound : {i j m : ℕ} {t : Text} (k : ℕ) (w : List ℕ) (p : Out) → Run s i j w
      → ((x y : List ℕ) (t u : Text) → Reads alternation x t → Reads alternation y u → Reads primary (w ++ x ++ bytes "," ++ y ++ bytes ")") (node k t u))
      → (h : Sound s (argument 44 j) (got t m)) → Sound s (argument 41 m) p → Sound s (prim_at i) (after p (λ u e. got (node k t u) e))
  second_sound {t = t} k w (got u e) a r h g =
      record {
        spelling = w ++ h.1.spelling ++ bytes "," ++ g.1.spelling ++ bytes ")";
        run = closed_run 41 (w ++ h.1.spelling ++ bytes ",") (lit< tt) (closed_run 44 w (lit< tt) a h) g;
        reads = r h.1.spelling g.1.spelling t u h.1.reads g.1.reads;
      }
  second_sound k w unread a r h g = tt

  double_sound : {i j : ℕ} (k : ℕ) (w : List ℕ) (p : Out) (arg : ℕ → ℕ → Out) → Run s i j w
      → ((x y : List ℕ) (t u : Text) → Reads alternation x t → Reads alternation y u → Reads primary (w ++ x ++ bytes "," ++ y ++ bytes ")") (node k t u))
      → ((b m : ℕ) → Sound s (argument b m) (arg b m)) → Sound s (argument 44 j) p
      → Sound s (prim_at i) (after p (λ t m. after (arg 41 m) (λ u e. got (node k t u) e)))
  double_sound k w (got t m) arg a r f h = second_sound k w (arg 41 m) a r h (f 41 m)
  double_sound k w unread arg a r f h = tt

  opened_sound : {i j : ℕ} (k : ℕ) (w : List ℕ) (arg : ℕ → ℕ → Out) → Opening k w → Run s i j w → ((b m : ℕ) → Sound s (argument b m) (arg b m)) → Sound s (prim_at i) (opened k arg j)
  opened_sound {j = j} k w arg round a f = round_sound (arg 41 j) a (f 41 j)
  opened_sound {j = j} k w arg (single h l n r) a f = rw (ne_eqb k BRACKET (omega arith), lt-ltb k binary_from l) (single_sound k w (arg 41 j) a r (f 41 j))
  opened_sound {j = j} k w arg (double l m n r) a f = rw (ne_eqb k BRACKET (omega arith), le-ltb k binary_from l) (double_sound k w (arg 44 j) arg a r f (f 44 j))

  prim_sound : (i : ℕ) (l : Option Leaf) (arg : ℕ → ℕ → Out) → leaf_at s i ≡ l → ((b m : ℕ) → Sound s (argument b m) (arg b m)) → Sound s (prim_at i) (begun l arg)
  prim_sound i (Some (Node r j)) arg e f = leaf_held s i j r e
  prim_sound i (Some (Open k j)) arg e f = let o = open_held s i k j e in opened_sound k o.spelling arg o.holds (record { here = o.here; upto = o.upto }) f
  prim_sound i None arg e f = tt

  sound : (f : ℕ) (g : Task) → Sound s g (parse s f g)
  unfolding parse
  sound zero g = tt
  sound (suc f) (chain o i) = chain_sound o i (parse s f (part o i)) (λ t j. parse s f (more o t j)) (sound f (part o i)) (λ t j. sound f (more o t j))
  sound (suc f) (more o t i) =
      more_sound o t i (parse s f (part o (i + 1))) (λ u j. parse s f (more o (node (join_kind o) t u) j)) (eqb (byte s i) (sign o)) refl
      (sound f (part o (i + 1))) (λ u j. sound f (more o (node (join_kind o) t u) j))
  sound (suc f) (not_at i) = not_sound i (parse s f (not_at (i + 1))) (parse s f (prim_at i)) (eqb (byte s i) 33) refl (sound f (not_at (i + 1))) (sound f (prim_at i))
  sound (suc f) (prim_at i) = prim_sound i (leaf_at s i) (λ b j. parse s f (argument b j)) refl (λ b j. sound f (argument b j))
  sound (suc f) (argument b i) = argument_sound b i (parse s f (chain bars i)) (sound f (chain bars i))

-- COMPLETENESS: with enough fuel `parse` gives each reading that the next byte does not carry on: no letter and no digit follows a primary text
abbrev Finds : List ℕ → Task → Out → Type 0
Finds s g p = (f : ℕ) → rank s g < f → parse s f g ≡ p

abbrev Complete : List ℕ → Level → ℕ → ℕ → Text → Type 0
Complete s alternation i j t = (p : Out) → WordEnds s j → (byte s j ≡ 38 → ⊥) → Finds s (more bars t j) p → Finds s (chain bars i) p
Complete s conjunction i j t = (p : Out) → WordEnds s j → Finds s (more ampersands t j) p → Finds s (chain ampersands i) p
Complete s negation i j t = WordEnds s j → Finds s (not_at i) (got t j)
Complete s primary i j t = WordEnds s j → Finds s (prim_at i) (got t j)

-- what is read is not empty
pub longer : {l : Level} {w : List ℕ} {t : Text} → Reads l w t → 0 < length w
longer (one_conjunction r) = longer r
longer (bar {x} {y} r q) = let h = longer r in let a = length-append x (bytes "|") in let b = length-append (x ++ bytes "|") y in omega arith
longer (one_negation r) = longer r
longer (ampersand {x} {y} r q) = let h = longer r in let a = length-append x (bytes "&") in let b = length-append (x ++ bytes "&") y in omega arith
longer (one_primary r) = longer r
longer (bang r) = omega arith
longer (bracketed r) = omega arith
longer (an_F r) = omega arith
longer (a_G r) = omega arith
longer (an_X r) = omega arith
longer (a_U r q) = omega arith
longer (a_W r q) = omega arith
longer (an_atom a) = atom_longer a
  where
    atom_longer : {w : List ℕ} {a : Atom} → AtomWord w a → 0 < length w
    atom_longer (compared (of A) r o) = omega arith
    atom_longer (compared (of B) r o) = omega arith
    atom_longer (compared T r o) = omega arith
    atom_longer (A-with-B r) = omega arith
    atom_longer (falling c) = omega arith
    atom_longer (rising c) = omega arith
    atom_longer (pigment_is p) = omega arith
longer (a_listed q) = listed_longer q
  where
    listed_longer : {w : List ℕ} {q : Listed} → ListedWord w q → 0 < length w
    listed_longer (a_high c) = omega arith
    listed_longer (a_low c) = omega arith
    listed_longer (a_lowafter c m) = omega arith
    listed_longer (a_capafter c m) = omega arith
    listed_longer (a_peaks c) = omega arith
    listed_longer (a_dips c) = omega arith
    listed_longer a_cross = omega arith
    listed_longer a_crossup = omega arith
    listed_longer (a_dose p) = omega arith
    listed_longer (an_ampl c) = omega arith
    listed_longer (a_gaps c) = omega arith
    listed_longer (a_steps c) = omega arith
    listed_longer a_lag = omega arith

module _ (s : List ℕ) where
  pub rank-part : (o : Joiner) (i : ℕ) → rank s (part o i) < rank s (chain o i)
  rank-part bars i = omega arith
  rank-part ampersands i = omega arith

  pub rank-low : (o : Joiner) (i : ℕ) → 5 * (length s - i) ≤ rank s (chain o i)
  rank-low bars i = omega arith
  rank-low ampersands i = omega arith

  pub rank-high : (o : Joiner) (i : ℕ) → rank s (part o i) < 5 * (length s - i) + 5
  rank-high bars i = omega arith
  rank-high ampersands i = omega arith

  stop_finds : (o : Joiner) (t : Text) (j : ℕ) → (byte s j ≡ sign o → ⊥) → Finds s (more o t j) (got t j)
  unfolding parse
  stop_finds o t j n zero h = absurd (omega arith)
  stop_finds o t j n (suc f) h = rw (ne_eqb (byte s j) (sign o) n)

  chain_finds : (o : Joiner) (i j : ℕ) (t : Text) (p : Out) → i < j → j ≤ length s → Finds s (part o i) (got t j) → Finds s (more o t j) p → Finds s (chain o i) p
  unfolding parse
  chain_finds o i j t p a b h k zero r = absurd (omega arith)
  chain_finds o i j t p a b h k (suc f) r =
      let x = rank-part o i in
      let y = rank-low o i in
      rw (h f (omega arith)) (k f (omega arith))

  more_finds : (o : Joiner) (i j : ℕ) (t u : Text) (p : Out) → i + 1 < j → j ≤ length s → byte s i ≡ sign o → Finds s (part o (i + 1)) (got u j)
      → Finds s (more o (node (join_kind o) t u) j) p → Finds s (more o t i) p
  unfolding parse
  more_finds o i j t u p a b e h k zero r = absurd (omega arith)
  more_finds o i j t u p a b e h k (suc f) r =
      let x = rank-high o (i + 1) in
      rw (eq-eqb (byte s i) (sign o) e, h f (omega arith)) (k f (omega arith))

  bang_finds : (i j : ℕ) (t : Text) → i + 1 < j → j ≤ length s → byte s i ≡ 33 → Finds s (not_at (i + 1)) (got t j) → Finds s (not_at i) (got (node NOT t t) j)
  unfolding parse
  bang_finds i j t a b e h zero r = absurd (omega arith)
  bang_finds i j t a b e h (suc f) r = rw (eq-eqb (byte s i) 33 e, h f (omega arith))

  plain_finds : (i j : ℕ) (t : Text) → (byte s i ≡ 33 → ⊥) → Finds s (prim_at i) (got t j) → Finds s (not_at i) (got t j)
  unfolding parse
  plain_finds i j t n h zero r = absurd (omega arith)
  plain_finds i j t n h (suc f) r = rw (ne_eqb (byte s i) 33 n) (h f (omega arith))

  argument_finds : (b i j : ℕ) (t : Text) → byte s j ≡ b → Finds s (chain bars i) (got t j) → Finds s (argument b i) (got t (j + 1))
  unfolding parse
  argument_finds b i j t e h zero r = absurd (omega arith)
  argument_finds b i j t e h (suc f) r = rw (h f (omega arith), eq-eqb (byte s j) b e)

  leaf_finds : (i j : ℕ) (t : Text) → Lexed s i j t → Finds s (prim_at i) (got t j)
  unfolding parse
  leaf_finds i j t l zero r = absurd (omega arith)
  leaf_finds i j t l (suc f) r = rw l.at_once (ap (λ (u : Text). got u j) l.stands_for)

  round_finds : (i j e : ℕ) (t : Text) → i < j → j ≤ length s → leaf_at s i ≡ Some (Open BRACKET j) → Finds s (argument 41 j) (got t e) → Finds s (prim_at i) (got t e)
  unfolding parse
  round_finds i j e t a b l h zero r = absurd (omega arith)
  round_finds i j e t a b l h (suc f) r = rw l (h f (omega arith))

  single_finds : (k i j e : ℕ) (t : Text) → k < binary_from → i < j → j ≤ length s → leaf_at s i ≡ Some (Open k j) → Finds s (argument 41 j) (got t e) → Finds s (prim_at i) (got (node k t t) e)
  unfolding parse
  single_finds k i j e t c a b l h zero r = absurd (omega arith)
  single_finds k i j e t c a b l h (suc f) r = rw (l, ne_eqb k BRACKET (omega arith), lt-ltb k binary_from c, h f (omega arith))

  double_finds : (k i j m e : ℕ) (t u : Text) → binary_from ≤ k → k < kinds → i < j → j ≤ m → m ≤ length s → leaf_at s i ≡ Some (Open k j)
      → Finds s (argument 44 j) (got t m) → Finds s (argument 41 m) (got u e) → Finds s (prim_at i) (got (node k t u) e)
  unfolding parse
  double_finds k i j m e t u c d a b q l h g zero r = absurd (omega arith)
  double_finds k i j m e t u c d a b q l h g (suc f) r = rw (l, ne_eqb k BRACKET (omega arith), le-ltb k binary_from c, h f (omega arith), g f (omega arith))

  -- no primary begins with `!`
  no_bang : {w : List ℕ} {t : Text} (i : ℕ) → Reads primary w t → Stands s i w → byte s i ≡ 33 → ⊥
  no_bang i (bracketed r) st e = omega (arith, st.0)
  no_bang i (an_F r) st e = omega (arith, st.0)
  no_bang i (a_G r) st e = omega (arith, st.0)
  no_bang i (an_X r) st e = omega (arith, st.0)
  no_bang i (a_U r q) st e = omega (arith, st.0)
  no_bang i (a_W r q) st e = omega (arith, st.0)
  no_bang i (an_atom a) st e = go a st
    where
      go : {w : List ℕ} {a : Atom} → AtomWord w a → Stands s i w → ⊥
      go (compared (of A) r o) st = omega (arith, st.0)
      go (compared (of B) r o) st = omega (arith, st.0)
      go (compared T r o) st = omega (arith, st.0)
      go (A-with-B r) st = omega (arith, st.0)
      go (falling c) st = omega (arith, st.0)
      go (rising c) st = omega (arith, st.0)
      go (pigment_is p) st = omega (arith, st.0)
  no_bang i (a_listed q) st e = go q st
    where
      go : {w : List ℕ} {q : Listed} → ListedWord w q → Stands s i w → ⊥
      go (a_high c) st = omega (arith, st.0)
      go (a_low c) st = omega (arith, st.0)
      go (a_lowafter c m) st = omega (arith, st.0)
      go (a_capafter c m) st = omega (arith, st.0)
      go (a_peaks c) st = omega (arith, st.0)
      go (a_dips c) st = omega (arith, st.0)
      go a_cross st = omega (arith, st.0)
      go a_crossup st = omega (arith, st.0)
      go (a_dose p) st = omega (arith, st.0)
      go (an_ampl c) st = omega (arith, st.0)
      go (a_gaps c) st = omega (arith, st.0)
      go (a_steps c) st = omega (arith, st.0)
      go a_lag st = omega (arith, st.0)

  -- a whole text before a bracket or a comma
  whole_finds : (b i j : ℕ) (t : Text) → letter_or_digit b ≡ false → (b ≡ 38 → ⊥) → (b ≡ 124 → ⊥) → byte s j ≡ b → Complete s alternation i j t → Finds s (argument b i) (got t (j + 1))
  whole_finds b i j t d n m e c =
      argument_finds b i j t e (c (got t j) (rw e d) (λ q. n (sym e ∙ q)) (stop_finds bars t j (λ q. m (sym e ∙ q))))

  single_complete : {w : List ℕ} {t : Text} (k i e : ℕ) (o : List ℕ) → k < binary_from → Reads alternation w t → (Stands s i o → leaf_at s i ≡ Some (Open k (i + length o))) → 0 < length o
      → Stands s i (o ++ w ++ bytes ")") → e ≡ i + length (o ++ w ++ bytes ")") → ((j : ℕ) → Stands s (i + length o) w → j ≡ i + length o + length w → Complete s alternation (i + length o) j t)
      → Finds s (prim_at i) (got (node k t t) e)
  single_complete {w} {t} k i e o l r opens n st q c =
      let a = length-append o w in
      let b = length-append (o ++ w) (bytes ")") in
      let s1 = before s (o ++ w) (bytes ")") i st in
      let sw = behind s o w i s1 in
      let j : ℕ = i + length o + length w in
      let close : Stands s j (bytes ")") = subst (λ (m : ℕ). Stands s m (bytes ")")) (omega arith) (behind s (o ++ w) (bytes ")") i st) in
      let g = bound s (i + length o) w sw in
      subst (λ (m : ℕ). Finds s (prim_at i) (got (node k t t) m)) (let z : j + 1 ≡ e = omega arith in z)
      (single_finds k i (i + length o) (j + 1) t l (omega arith) (omega arith) (opens (before s o w i s1))
      (whole_finds 41 (i + length o) j t refl (λ x. omega arith) (λ x. omega arith) close.0 (c j sw refl)))

  double_complete : (w x : List ℕ) (t u : Text) (k i e : ℕ) (o : List ℕ) → binary_from ≤ k → k < kinds → (Stands s i o → leaf_at s i ≡ Some (Open k (i + length o))) → 0 < length o
      → Stands s i (o ++ w ++ bytes "," ++ x ++ bytes ")") → e ≡ i + length (o ++ w ++ bytes "," ++ x ++ bytes ")")
      → ((h j : ℕ) → Stands s h w → j ≡ h + length w → Complete s alternation h j t) → ((h j : ℕ) → Stands s h x → j ≡ h + length x → Complete s alternation h j u)
      → Finds s (prim_at i) (got (node k t u) e)
  double_complete w x t u k i e o l m opens n st q c d =
      let a1 = length-append o w in
      let a2 = length-append (o ++ w) (bytes ",") in
      let a3 = length-append (o ++ w ++ bytes ",") x in
      let a4 = length-append (o ++ w ++ bytes "," ++ x) (bytes ")") in
      let s3 = before s (o ++ w ++ bytes "," ++ x) (bytes ")") i st in
      let s2 = before s (o ++ w ++ bytes ",") x i s3 in
      let s1 = before s (o ++ w) (bytes ",") i s2 in
      let h : ℕ = i + length o in
      let j : ℕ = h + length w in
      let sw = behind s o w i s1 in
      let comma : Stands s j (bytes ",") = subst (λ (y : ℕ). Stands s y (bytes ",")) (omega arith) (behind s (o ++ w) (bytes ",") i s2) in
      let sx : Stands s (j + 1) x = subst (λ (y : ℕ). Stands s y x) (omega arith) (behind s (o ++ w ++ bytes ",") x i s3) in
      let z : ℕ = j + 1 + length x in
      let close : Stands s z (bytes ")") = subst (λ (y : ℕ). Stands s y (bytes ")")) (omega arith) (behind s (o ++ w ++ bytes "," ++ x) (bytes ")") i st) in
      let g = bound s (j + 1) x sx in
      subst (λ (y : ℕ). Finds s (prim_at i) (got (node k t u) y)) (let y : z + 1 ≡ e = omega arith in y)
      (double_finds k i h (j + 1) (z + 1) t u l m (omega arith) (omega arith) (omega arith) (opens (before s o w i s1))
      (whole_finds 44 h j t refl (λ y. omega arith) (λ y. omega arith) comma.0 (c h j sw refl))
      (whole_finds 41 (j + 1) z u refl (λ y. omega arith) (λ y. omega arith) close.0 (d (j + 1) z sx refl)))

  complete : {l : Level} {w : List ℕ} {t : Text} → Reads l w t → (i e : ℕ) → Stands s i w → e ≡ i + length w → Complete s l i e t
  complete (one_conjunction {w} {p} r) i e st q =
      let h = longer r in
      let b = bound s i w st in
      let c = complete r i e st q in
      λ o d n k. chain_finds bars i e p o (omega arith) (omega arith) (c (got p e) d (stop_finds ampersands p e n)) k
  complete (bar {x} {y} {p} {q = u} r t) i e st q =
      let a = length-append x (bytes "|") in
      let b = length-append (x ++ bytes "|") y in
      let j : ℕ = i + length x in
      let s1 = before s (x ++ bytes "|") y i st in
      let sb = behind s x (bytes "|") i s1 in
      let sy : Stands s (j + 1) y = subst (λ (m : ℕ). Stands s m y) (omega arith) (behind s (x ++ bytes "|") y i st) in
      let h = longer t in
      let g = bound s (j + 1) y sy in
      let c = complete r i j (before s x (bytes "|") i s1) refl in
      let d = complete t (j + 1) e sy (omega arith) in
      λ o nd n k. c o (rw sb.0 refl) (λ z. omega (arith, sb.0)) (more_finds bars j e p u o (omega arith) (omega arith) sb.0 (d (got u e) nd (stop_finds ampersands u e n)) k)
  complete (one_negation {w} {p} r) i e st q =
      let h = longer r in
      let b = bound s i w st in
      let c = complete r i e st q in
      λ o d k. chain_finds ampersands i e p o (omega arith) (omega arith) (c d) k
  complete (ampersand {x} {y} {p} {q = u} r t) i e st q =
      let a = length-append x (bytes "&") in
      let b = length-append (x ++ bytes "&") y in
      let j : ℕ = i + length x in
      let s1 = before s (x ++ bytes "&") y i st in
      let sb = behind s x (bytes "&") i s1 in
      let sy : Stands s (j + 1) y = subst (λ (m : ℕ). Stands s m y) (omega arith) (behind s (x ++ bytes "&") y i st) in
      let h = longer t in
      let g = bound s (j + 1) y sy in
      let c = complete r i j (before s x (bytes "&") i s1) refl in
      let d = complete t (j + 1) e sy (omega arith) in
      λ o nd k. c o (rw sb.0 refl) (more_finds ampersands j e p u o (omega arith) (omega arith) sb.0 (d nd) k)
  complete (one_primary {w} {p} r) i e st q = let c = complete r i e st q in λ d. plain_finds i e p (no_bang i r st) (c d)
  complete (bang {w} {p} r) i e st q =
      let h = longer r in
      let b = bound s (i + 1) w st.1 in
      let c = complete r (i + 1) e st.1 (omega arith) in
      λ d. bang_finds i e p (omega arith) (omega arith) st.0 (c d)
  complete (bracketed {w} {p} r) i e st q =
      let b = length-append w (bytes ")") in
      let sw = before s w (bytes ")") (i + 1) st.1 in
      let close = behind s w (bytes ")") (i + 1) st.1 in
      let g = bound s (i + 1) w sw in
      let c = complete r (i + 1) (i + 1 + length w) sw refl in
      λ d. subst (λ (m : ℕ). Finds s (prim_at i) (got p m)) (let z : i + 1 + length w + 1 ≡ e = omega arith in z)
      (round_finds i (i + 1) (i + 1 + length w + 1) p (omega arith) (omega arith) (round_opens s i (before s (bytes "(") (w ++ bytes ")") i st))
      (whole_finds 41 (i + 1) (i + 1 + length w) p refl (λ x. omega arith) (λ x. omega arith) close.0 c))
  complete (an_F {w} {p} r) i e st q = λ d. single_complete {w = w} FINALLY i e (bytes "F(") (lit< tt) r (F-opens s i) (lit< tt) st q (λ j sw z. complete r (i + 2) j sw z)
  complete (a_G {w} {p} r) i e st q = λ d. single_complete {w = w} GLOBALLY i e (bytes "G(") (lit< tt) r (G-opens s i) (lit< tt) st q (λ j sw z. complete r (i + 2) j sw z)
  complete (an_X {w} {p} r) i e st q = λ d. single_complete {w = w} NEXT i e (bytes "X(") (lit< tt) r (X-opens s i) (lit< tt) st q (λ j sw z. complete r (i + 2) j sw z)
  complete (a_U {x} {y} {p} {q = u} r t) i e st q = λ d. double_complete x y p u UNTIL i e (bytes "U(") (lit< tt) (lit< tt) (U-opens s i) (lit< tt) st q (λ h j sw z. complete r h j sw z) (λ h j sw z. complete t h j sw z)
  complete (a_W {x} {y} {p} {q = u} r t) i e st q = λ d. double_complete x y p u WEAK-UNTIL i e (bytes "W(") (lit< tt) (lit< tt) (W-opens s i) (lit< tt) st q (λ h j sw z. complete r h j sw z) (λ h j sw z. complete t h j sw z)
  complete (an_atom {w} {a} x) i e st q = λ d. leaf_finds i e (atom a) (subst (λ (m : ℕ). Lexed s i m (atom a)) (sym q) (atom_lexed s i x st (rw q at d)))
  complete (a_listed {w} {q = a} x) i e st q = λ d. leaf_finds i e (listed a) (subst (λ (m : ℕ). Lexed s i m (listed a)) (sym q) (listed_lexed s i x st (rw q at d)))

  -- the computed reading is the reading by the rules
  reads_computed : (t : Text) → ReadsWhole s t → parsed s ≡ one t
  unfolding parsed
  reads_computed t r =
      let z = get_or-eq_default s 0 {n = length s} (omega arith) in
      let c = complete r.0 0 (length s) (stands_self [] s) (omega arith) in
      let e = c (got t (length s)) (rw z refl) (λ x. omega arith) (stop_finds bars t (length s) (λ x. omega arith)) (5 * length s + 5) (omega arith) in
      rw (e, eq-eqb (length s) (length s) refl, r.1)

  computed_reads : (t : Text) → parsed s ≡ one t → ReadsWhole s t
  unfolding parsed
  computed_reads t h = whole (parse s (5 * length s + 5) (chain bars 0)) (sound s (5 * length s + 5) (chain bars 0)) h
    where
      clear : (u : Text) (b : Bool) → mixed u ≡ b → Reads alternation s u → pick b (λ _. none) (λ _. one u) ≡ one t → ReadsWhole s t
      clear u true q r g = cc
      clear u false q r g = let x : u ≡ t = cc in subst (ReadsWhole s) x (r, q)

      ended : (u : Text) (j : ℕ) (b : Bool) → eqb j (length s) ≡ b → Held s alternation 0 j u → pick b (λ _. unmixed u) (λ _. none) ≡ one t → ReadsWhole s t
      ended u j true q r g =
          let w = same-word s r.spelling s 0 r.run.here (stands_self [] s) (let x = r.run.upto in let y = eqb-true j (length s) q in omega arith) in
          clear u (mixed u) refl (subst (λ (x : List ℕ). Reads alternation x u) w r.reads) g
      ended u j false q r g = cc

      whole : (p : Out) → Sound s (chain bars 0) p → at_end s p ≡ one t → ReadsWhole s t
      whole (got u j) r g = ended u j (eqb j (length s)) refl r g
      whole unread r g = cc

  -- THE READER IS SOUND AND COMPLETE for the printed rules
  pub reading_is : (t : Text) → (parsed s ≡ one t) ↔ ReadsWhole s t
  reading_is t = (computed_reads t, reads_computed t)

  -- A TEXT HAS ONE READING AT MOST
  pub unique : (t u : Text) → ReadsWhole s t → ReadsWhole s u → t ≡ u
  unique t u r q = let a = reads_computed t r in let b = reads_computed u q in cc

  -- that there is none is computed too
  pub reading_none : (parsed s ≡ none) ↔ ((t : Text) → ReadsWhole s t → ⊥)
  reading_none = (λ e t r. (let a = reads_computed t r in cc), λ n. go (parsed s) refl n)
    where
      go : (r : Parsed) → parsed s ≡ r → ((t : Text) → ReadsWhole s t → ⊥) → parsed s ≡ none
      go (one t) e n = absurd (n t (computed_reads t e))
      go none e n = e
