-- From the rows that hold a tree to the answer for the whole text.
use Rattle.refusal.specs.declared.Refusal.{Refusal}
use Rattle.std.specs.Prelude.{Result, Ok, Err}
use mathlib.Core.Path.{◌≡◌, refl, sym, ap, subst, ◌∙◌}
use mathlib.Core.Bool.{Bool, true, false}
use mathlib.Core.List.{List}
use Rattle.std.specs.Prelude.{Option, None}
use Prim.Native.Nat.{ℕ, ◌+◌, ◌*◌, ◌≤◌, ◌<◌}
use native.Mathlib.Omega.{arith}
use lib.Dec.{ltb}
use lib.ListN.{length}
use borrow.Author.Tests.{eq-eqb, ne_eqb, lt-ltb, le-ltb}
use Rattle.refusal.specs.declared.Refusal.TheVariants.{TextLength, NoReading, TextTooLarge}
use Rattle.refusal.specs.Outcome.{judged}
use Rattle.parser.specs.declared.Got.{Got}
use Rattle.grammar.specs.Syntax.{Text}
use Rattle.grammar.specs.Size.{mixed, nodes, too_deep, most_bytes, most_nodes}
use Rattle.grammar.specs.inner.Parse.{Out, got, unread, chain, bars, parse, one, none, unmixed, at_end, parsed}
use Rattle.parser.specs.inner.Rows.{Laid, got_upto, Fits, Parses}
use Rattle.text.specs.inner.Judge.{judged_text}
use Rattle.text.proofs.laws.Table.{decoded, held_falling, held-nodes}
use Rattle.text.specs.Told.{bad_length, Tabled, Told}

-- JUDGING a text whose tree is read
module _ (s T : List ℕ) (n : ℕ) (t : Text) (h : Laid T 0 n t) where
  counted : n ≡ nodes t
  counted = let x = held-nodes h in omega arith

  module _ (m : Bool) (e : m ≡ mixed t) where
    pub judge_mixed : m ≡ true → Err NoReading ≡ judged_text s t
    judge_mixed q = rw (sym e ∙ q)

    pub judge_large : m ≡ false → most_nodes < n → Err TextTooLarge ≡ judged_text s t
    judge_large q l = let x = counted in rw (sym e ∙ q, lt-ltb most_nodes (nodes t) (omega arith))

    pub judge_deep : m ≡ false → n ≤ most_nodes → (d : Bool) → d ≡ too_deep s → d ≡ true → Err TextTooLarge ≡ judged_text s t
    judge_deep q l d f g = let x = counted in rw (sym e ∙ q, le-ltb most_nodes (nodes t) (omega arith), sym f ∙ g)

    pub judge_nodes : m ≡ false → n ≤ most_nodes → (d : Bool) → d ≡ too_deep s → d ≡ false → Ok n ≡ judged_text s t
    judge_nodes q l d f g = let x = counted in rw (sym e ∙ q, le-ltb most_nodes (nodes t) (omega arith), sym f ∙ g) (ap Ok x)

-- THE WHOLE TEXT
pub told-length : (s T : List ℕ) → bad_length s ≡ true → Told s T (Err TextLength)
unfolding judged
told-length s T e = record { outcome = rw e; tabled = λ n q. (cc) }

pub told_none : (s T : List ℕ) → bad_length s ≡ false → parsed s ≡ none → Told s T (Err NoReading)
unfolding judged
told_none s T e r = record { outcome = rw (e, r); tabled = λ n q. (cc) }

module _ (s T : List ℕ) (n : ℕ) (t : Text) (h : Laid T 0 n t) (e : bad_length s ≡ false) where
  tabled_one : parsed s ≡ one t → Tabled s T n
  tabled_one r = let d = decoded h in record { reads = r ∙ ap one (sym d); rows = subst (Laid T 0 n) (sym d) h; falling = held_falling h }

  told_cases : (m l d : Bool) → mixed t ≡ m → ltb most_nodes (nodes t) ≡ l → too_deep s ≡ d → parsed s ≡ unmixed t → Told s T (judged_text s t)
  unfolding judged
  told_cases true l d p q g r =
      let x : parsed s ≡ none = r ∙ rw p in
      record { outcome = rw (e, x, p); tabled = λ k z. (let y = rw p at z in cc) }
  told_cases false true d p q g r =
      let x : parsed s ≡ one t = r ∙ rw p in
      record { outcome = rw (e, x, p, q); tabled = λ k z. (let y = rw (p, q) at z in cc) }
  told_cases false false true p q g r =
      let x : parsed s ≡ one t = r ∙ rw p in
      record { outcome = rw (e, x, p, q, g); tabled = λ k z. (let y = rw (p, q, g) at z in cc) }
  told_cases false false false p q g r =
      let x : parsed s ≡ one t = r ∙ rw p in
      record {
        outcome = rw (e, x, p, q, g);
        tabled = λ k z.
            (let y = rw (p, q, g) at z in
            let o : nodes t ≡ k = cc in
            let w = held-nodes h in
            subst (Tabled s T) (let v : n ≡ k = omega arith in v) (tabled_one x));
      }

  pub told-judged : parsed s ≡ unmixed t → Told s T (judged_text s t)
  told-judged r = told_cases (mixed t) (ltb most_nodes (nodes t)) (too_deep s) refl refl refl r

pub length_bad : (s : List ℕ) → length s ≡ 0 → bad_length s ≡ true
length_bad s e = rw (eq-eqb (length s) 0 e)

pub length_over : (s : List ℕ) → (length s ≡ 0 → ⊥) → most_bytes < length s → bad_length s ≡ true
length_over s n l = rw (ne_eqb (length s) 0 n, lt-ltb most_bytes (length s) l)

pub length_good : (s : List ℕ) → (length s ≡ 0 → ⊥) → length s ≤ most_bytes → bad_length s ≡ false
length_good s n l = rw (ne_eqb (length s) 0 n, le-ltb most_bytes (length s) l)

-- what the reader's answer from the first byte on says of the reading
module _ (s : List ℕ) {T U : List ℕ} {q : Option Got} (x : Parses s (chain bars 0) 0 0 T U q) where
  fuel : Fits U 0 q (parse s (5 * length s + 5) (chain bars 0))
  fuel = x.fits (5 * length s + 5) (omega arith)

  pub read_whole : {n e : ℕ} → q ≡ got_upto e n → e ≡ length s → (t : Text) × (Laid U 0 n t) × (parsed s ≡ unmixed t)
  unfolding parsed
  read_whole {n} {e} p l = go (parse s (5 * length s + 5) (chain bars 0)) (rw p at fuel)
    where
      go : (o : Out) → Fits U 0 (got_upto e n) o → (t : Text) × (Laid U 0 n t) × (at_end s o ≡ unmixed t)
      go (got t j) f = (t, f.1, rw (eq-eqb j (length s) (sym f.0 ∙ l)))
      go unread f = absurd f

  pub read-part : {n e : ℕ} → q ≡ got_upto e n → (e ≡ length s → ⊥) → parsed s ≡ none
  unfolding parsed
  read-part {n} {e} p l = go (parse s (5 * length s + 5) (chain bars 0)) (rw p at fuel)
    where
      go : (o : Out) → Fits U 0 (got_upto e n) o → at_end s o ≡ none
      go (got t j) f = rw (ne_eqb j (length s) (λ z. l (f.0 ∙ z)))
      go unread f = absurd f

  pub read-nothing : q ≡ None → parsed s ≡ none
  unfolding parsed
  read-nothing p = go (parse s (5 * length s + 5) (chain bars 0)) (rw p at fuel)
    where
      go : (o : Out) → Fits U 0 None o → at_end s o ≡ none
      go (got t j) f = absurd f
      go unread f = refl

  pub told-read : {n e : ℕ} → q ≡ got_upto e n → e ≡ length s → bad_length s ≡ false → (r : Result ℕ Refusal) → ((t : Text) → Laid U 0 n t → r ≡ judged_text s t) → Told s U r
  told-read {n} p l b r f = let w = read_whole p l in subst (Told s U) (sym (f w.0 w.1)) (told-judged s U n w.0 w.1 b w.2)
