-- What each way through each function of the reader comes to.
use mathlib.Core.Path.{◌≡◌, refl, sym, ap, subst, ◌∙◌}
use mathlib.Core.List.{List}
use Rattle.std.specs.Prelude.{Option, Some, None}
use Prim.Native.Nat.{ℕ, zero, suc, ◌+◌, ◌-◌, ◌≤◌, ◌<◌}
use native.Mathlib.Omega.{arith}
use lib.ListN.{length}
use borrow.Author.Tests.{eq-eqb, ne_eqb, lt-ltb, le-ltb}
use Rattle.grammar.specs.declared.Row.{Row}
use Rattle.parser.specs.declared.Got.{Got}
use Rattle.grammar.specs.declared.Leaf.{Leaf}
use Rattle.grammar.specs.declared.Leaf.TheVariants.{Node, Open}
use Rattle.grammar.specs.Syntax.{Text}
use Rattle.grammar.specs.inner.Kinds.{NOT, BRACKET}
use Rattle.grammar.specs.inner.Table.{row, unary_from, binary_from, kinds}
use Rattle.grammar.specs.inner.Lexer.{byte, leaf_at}
use Rattle.grammar.specs.inner.Parse.{Joiner, bars, ampersands, sign, chain, more, not_at, prim_at, argument, part, join_kind, row_text, node, Out, got, unread, after, closed, parse, rank}
use Rattle.parser.specs.inner.Rows.{Put, Same, Laid, leaf, unary, binary, got_upto, Room, Ahead, Onward, Within, Fits, Parses, AnswersMore, AnswersOpened}
use Rattle.parser.proofs.laws.Rows.{ahead_of, laid_stays}
use Rattle.grammar.proofs.laws.Word.{bound}
use Rattle.grammar.proofs.laws.Leaf.{Opening, round, single, double, open_held, leaf_held, leaf_low}
use Rattle.grammar.proofs.laws.Unique.{longer, rank-part, rank-low, rank-high}

-- room further on, in a table of the same length
pub room : {s T : List ℕ} {at n : ℕ} (U : List ℕ) (e m : ℕ) → Room s T at n → length U ≡ length T → e ≤ length s → m ≤ e → Room s U e m
room U e m h l a b = record { inside = a; short = h.short; count = b; rows = let x = h.rows in omega arith }

then_ahead : (size at n e m : ℕ) (r : Option Got) → at < e → n < m → m + at ≤ n + e → Onward size e m r → Ahead size at n r
then_ahead size at n e m (Some g) a b c o = (omega arith, omega arith, omega arith, omega arith)
then_ahead size at n e m None a b c o = tt

then_onward : (size at n e m : ℕ) (r : Option Got) → at ≤ e → n ≤ m → m + at ≤ n + e → Onward size e m r → Onward size at n r
then_onward size at n e m (Some g) a b c o = (omega arith, omega arith, omega arith, omega arith)
then_onward size at n e m None a b c o = tt

further_ahead : (size at n e : ℕ) (r : Option Got) → at ≤ e → Ahead size e n r → Ahead size at n r
further_ahead size at n e (Some g) a o = (omega arith, omega arith, omega arith, omega arith)
further_ahead size at n e None a o = tt

-- ROWS that stay
same_on : {T U Y : List ℕ} (n m : ℕ) → n ≤ m → Same n T U → Same m U Y → Same n T Y
same_on n m l x y = record { row-at = λ j h. y.row-at j (omega arith) ∙ x.row-at j h }

put_same : {T U : List ℕ} {r : Row} (n : ℕ) → Put T n r U → Same n T U
put_same n p = record { row-at = λ j h. p.others j (λ e. omega arith) }

-- PARTS read one after the other
then_fits : (T : List ℕ) (b e m : ℕ) (F : Out → Type 0) (p : Out) (k : Text → ℕ → Out) → Fits T b (got_upto e m) p → ((t : Text) → Laid T b m t → F (k t e)) → F (after p k)
then_fits T b e m F (got t j) k x h = subst (λ (i : ℕ). F (k t i)) x.0 (h t x.1)
then_fits T b e m F unread k x h = absurd x

then_unread : (T : List ℕ) (b : ℕ) (F : Out → Type 0) (p : Out) (k : Text → ℕ → Out) → Fits T b None p → F unread → F (after p k)
then_unread T b F (got t j) k x h = absurd x
then_unread T b F unread k x h = h

joined : (o : Joiner) → (binary_from ≤ join_kind o) × (join_kind o < kinds)
joined bars = (omega arith, omega arith)
joined ampersands = (omega arith, omega arith)

module _ {s : List ℕ} {at n e m : ℕ} {T U Y : List ℕ} {q r : Option Got} (o : Joiner) (x : Parses s (part o at) at n T U q) where
  chain_fits : q ≡ got_upto e m → AnswersMore s o e m U Y r → (f : ℕ) → rank s (chain o at) < f → Fits Y n r (parse s f (chain o at))
  unfolding parse
  chain_fits p y zero h = absurd (omega arith)
  chain_fits p y (suc f) h =
      let a = ahead_of x p in
      let b = rank-part s o at in
      let c = rank-low s o at in
      then_fits U n e m (Fits Y n r) (parse s f (part o at)) (λ t j. parse s f (more o t j)) (rw p at (x.fits f (omega arith))) (λ t g. y.fits t n g f (omega arith))

  pub chain_some : q ≡ got_upto e m → AnswersMore s o e m U Y r → Parses s (chain o at) at n T Y r
  chain_some p y =
      let a = ahead_of x p in
      record { ahead = then_ahead (length s) at n e m r a.0 a.2 a.3 y.onward; same = same_on n m (omega arith) x.same y.same; fits = chain_fits p y }

module _ {s : List ℕ} {at n : ℕ} {T U : List ℕ} {q : Option Got} (o : Joiner) (x : Parses s (part o at) at n T U q) (p : q ≡ None) where
  chain_unread : (f : ℕ) → rank s (chain o at) < f → Fits U n None (parse s f (chain o at))
  unfolding parse
  chain_unread zero h = absurd (omega arith)
  chain_unread (suc f) h =
      let b = rank-part s o at in
      then_unread U n (Fits U n None) (parse s f (part o at)) (λ t j. parse s f (more o t j)) (rw p at (x.fits f (omega arith))) tt

  pub chain_none : Parses s (chain o at) at n T U None
  chain_none = record { ahead = tt; same = x.same; fits = chain_unread }

module _ (s : List ℕ) (at n : ℕ) {e m c : ℕ} {T U Y Z : List ℕ} {q r : Option Got} (o : Joiner) (i : c ≡ byte s at) (j : c ≡ sign o) (x : Parses s (part o (at + 1)) (at + 1) n T U q)
    (p : q ≡ got_upto e m) (z : Put U m (row (join_kind o) (n - 1) (m - 1) 0) Y) (y : AnswersMore s o e (m + 1) Y Z r) where
  more-fits : (t : Text) (b : ℕ) → Laid T b n t → (f : ℕ) → rank s (more o t at) < f → Fits Z b r (parse s f (more o t at))
  unfolding parse
  more-fits t b g zero h = absurd (omega arith)
  more-fits t b g (suc f) h =
      let a = ahead_of x p in
      let d = rank-high s o (at + 1) in
      let k = joined o in
      let g1 = laid_stays n (omega arith) x.same g in
      let g2 = laid_stays m (omega arith) (put_same m z) g1 in
      rw (eq-eqb (byte s at) (sign o) (sym i ∙ j))
      (then_fits U n e m (Fits Z b r) (parse s f (part o (at + 1))) (λ u l. parse s f (more o (node (join_kind o) t u) l)) (rw p at (x.fits f (omega arith)))
      (λ u v. y.fits (node (join_kind o) t u) b (binary (join_kind o) k.0 k.1 g2 (laid_stays m (omega arith) (put_same m z) v) z.here) f (omega arith)))

  pub more_some : AnswersMore s o at n T Z r
  more_some =
      let a = ahead_of x p in
      record {
        onward = then_onward (length s) at n e (m + 1) r (omega arith) (omega arith) (omega arith) y.onward;
        same = same_on n m (omega arith) x.same (same_on m (m + 1) (omega arith) (put_same m z) y.same);
        fits = more-fits;
      }

module _ (s : List ℕ) (at n : ℕ) {c : ℕ} {T U : List ℕ} {q : Option Got} (o : Joiner) (i : c ≡ byte s at) (j : c ≡ sign o) (x : Parses s (part o (at + 1)) (at + 1) n T U q) (p : q ≡ None) (l : at < length s) where
  more-unread : (t : Text) (b : ℕ) → Laid T b n t → (f : ℕ) → rank s (more o t at) < f → Fits U b None (parse s f (more o t at))
  unfolding parse
  more-unread t b g zero h = absurd (omega arith)
  more-unread t b g (suc f) h =
      let d = rank-high s o (at + 1) in
      rw (eq-eqb (byte s at) (sign o) (sym i ∙ j))
      (then_unread U n (Fits U b None) (parse s f (part o (at + 1))) (λ u k. parse s f (more o (node (join_kind o) t u) k)) (rw p at (x.fits f (omega arith))) tt)

  pub more_none : AnswersMore s o at n T U None
  more_none = record { onward = tt; same = x.same; fits = more-unread }

module _ (s : List ℕ) (at n : ℕ) (T : List ℕ) {c : ℕ} (o : Joiner) (i : c ≡ byte s at) (j : c ≡ sign o → ⊥) (l : at ≤ length s) where
  more_here : (t : Text) (b : ℕ) → Laid T b n t → (f : ℕ) → rank s (more o t at) < f → Fits T b (got_upto at n) (parse s f (more o t at))
  unfolding parse
  more_here t b g zero h = absurd (omega arith)
  more_here t b g (suc f) h = rw (ne_eqb (byte s at) (sign o) (λ z. j (i ∙ z))) (refl, g)

  pub more_stop : AnswersMore s o at n T T (got_upto at n)
  more_stop = record { onward = (omega arith, l, omega arith, omega arith); same = record { row-at = λ k h. refl }; fits = more_here }

-- UNDER `!`
module _ (s : List ℕ) (at n : ℕ) {e m c : ℕ} {T U Y : List ℕ} {q : Option Got} (i : c ≡ byte s at) (j : c ≡ 33) (x : Parses s (not_at (at + 1)) (at + 1) n T U q)
    (p : q ≡ got_upto e m) (z : Put U m (row NOT (m - 1) 0 0) Y) where
  not_fits : (f : ℕ) → rank s (not_at at) < f → Fits Y n (got_upto e (m + 1)) (parse s f (not_at at))
  unfolding parse
  not_fits zero h = absurd (omega arith)
  not_fits (suc f) h =
      let a = ahead_of x p in
      rw (eq-eqb (byte s at) 33 (sym i ∙ j))
      (then_fits U n e m (Fits Y n (got_upto e (m + 1))) (parse s f (not_at (at + 1))) (λ t k. got (node NOT t t) k) (rw p at (x.fits f (omega arith)))
      (λ t g. (refl, unary NOT (omega arith) (omega arith) (laid_stays m (omega arith) (put_same m z) g) z.here)))

  pub not_some : Parses s (not_at at) at n T Y (got_upto e (m + 1))
  not_some =
      let a = ahead_of x p in
      record { ahead = (omega arith, omega arith, omega arith, omega arith); same = same_on n m (omega arith) x.same (put_same m z); fits = not_fits }

module _ (s : List ℕ) (at n : ℕ) {c : ℕ} {T U : List ℕ} {q : Option Got} (i : c ≡ byte s at) (j : c ≡ 33) (x : Parses s (not_at (at + 1)) (at + 1) n T U q) (p : q ≡ None) (l : at < length s) where
  not_unread : (f : ℕ) → rank s (not_at at) < f → Fits U n None (parse s f (not_at at))
  unfolding parse
  not_unread zero h = absurd (omega arith)
  not_unread (suc f) h =
      rw (eq-eqb (byte s at) 33 (sym i ∙ j))
      (then_unread U n (Fits U n None) (parse s f (not_at (at + 1))) (λ t k. got (node NOT t t) k) (rw p at (x.fits f (omega arith))) tt)

  pub not_none : Parses s (not_at at) at n T U None
  not_none = record { ahead = tt; same = x.same; fits = not_unread }

module _ (s : List ℕ) (at n : ℕ) {c : ℕ} {T U : List ℕ} {r : Option Got} (i : c ≡ byte s at) (j : c ≡ 33 → ⊥) (x : Parses s (prim_at at) at n T U r) where
  not_plain : (f : ℕ) → rank s (not_at at) < f → Fits U n r (parse s f (not_at at))
  unfolding parse
  not_plain zero h = absurd (omega arith)
  not_plain (suc f) h = rw (ne_eqb (byte s at) 33 (λ z. j (i ∙ z))) (x.fits f (omega arith))

  pub not_else : Parses s (not_at at) at n T U r
  not_else = record { ahead = x.ahead; same = x.same; fits = not_plain }

-- A WHOLE TEXT, and the byte behind it
module _ (s : List ℕ) (at n : ℕ) {e m c b : ℕ} {T U : List ℕ} {q : Option Got} (x : Parses s (chain bars at) at n T U q) (p : q ≡ got_upto e m) (i : c ≡ byte s e) where
  argument_fits : c ≡ b → (f : ℕ) → rank s (argument b at) < f → Fits U n (got_upto (e + 1) m) (parse s f (argument b at))
  unfolding parse
  argument_fits j zero h = absurd (omega arith)
  argument_fits j (suc f) h =
      then_fits U n e m (Fits U n (got_upto (e + 1) m)) (parse s f (chain bars at)) (closed s b) (rw p at (x.fits f (omega arith)))
      (λ t g. rw (eq-eqb (byte s e) b (sym i ∙ j)) (refl, g))

  argument_open : (c ≡ b → ⊥) → (f : ℕ) → rank s (argument b at) < f → Fits U n None (parse s f (argument b at))
  unfolding parse
  argument_open j zero h = absurd (omega arith)
  argument_open j (suc f) h =
      then_fits U n e m (Fits U n None) (parse s f (chain bars at)) (closed s b) (rw p at (x.fits f (omega arith)))
      (λ t g. rw (ne_eqb (byte s e) b (λ z. j (i ∙ z))) tt)

  pub argument_some : c ≡ b → e < length s → Parses s (argument b at) at n T U (got_upto (e + 1) m)
  argument_some j l =
      let a = ahead_of x p in
      record { ahead = (omega arith, omega arith, omega arith, omega arith); same = x.same; fits = argument_fits j }

  pub argument_other : (c ≡ b → ⊥) → Parses s (argument b at) at n T U None
  argument_other j = record { ahead = tt; same = x.same; fits = argument_open j }

module _ (s : List ℕ) (at n b : ℕ) {T U : List ℕ} {q : Option Got} (x : Parses s (chain bars at) at n T U q) (p : q ≡ None) where
  argument_unread : (f : ℕ) → rank s (argument b at) < f → Fits U n None (parse s f (argument b at))
  unfolding parse
  argument_unread zero h = absurd (omega arith)
  argument_unread (suc f) h = then_unread U n (Fits U n None) (parse s f (chain bars at)) (closed s b) (rw p at (x.fits f (omega arith))) tt

  pub argument_none : Parses s (argument b at) at n T U None
  argument_none = record { ahead = tt; same = x.same; fits = argument_unread }

-- BEHIND AN OPENING of one text
module _ (s : List ℕ) (k at n : ℕ) {T U : List ℕ} {q : Option Got} (l : unary_from ≤ k) (u : k < binary_from) (x : Parses s (argument 41 at) at n T U q) where
  pub unary_some : {e m : ℕ} {Y : List ℕ} → q ≡ got_upto e m → Put U m (row k (m - 1) 0 0) Y → AnswersOpened s k at n T Y (got_upto e (m + 1))
  unary_some {e} {m} {Y} p z =
      let a = ahead_of x p in
      record {
        within = (omega arith, omega arith, omega arith, omega arith);
        same = same_on n m (omega arith) x.same (put_same m z);
        fits = λ f h.
            rw (ne_eqb k BRACKET (omega arith), lt-ltb k binary_from u)
            (then_fits U n e m (Fits Y n (got_upto e (m + 1))) (parse s f (argument 41 at)) (λ t j. got (node k t t) j) (rw p at (x.fits f h))
            (λ t g. (refl, unary k l u (laid_stays m (omega arith) (put_same m z) g) z.here)));
      }

-- and of two
module _ (s : List ℕ) (k at n : ℕ) {T U : List ℕ} {q : Option Got} (l : binary_from ≤ k) (u : k < kinds) (x : Parses s (argument 44 at) at n T U q) where
  module _ {e m : ℕ} {Y : List ℕ} {r : Option Got} (p : q ≡ got_upto e m) (y : Parses s (argument 41 e) e m U Y r) where
    pub binary_some : {d w : ℕ} {Z : List ℕ} → r ≡ got_upto d w → Put Y w (row k (m - 1) (w - 1) 0) Z → AnswersOpened s k at n T Z (got_upto d (w + 1))
    binary_some {d} {w} {Z} o z =
        let a = ahead_of x p in
        let b = ahead_of y o in
        record {
          within = (omega arith, omega arith, omega arith, omega arith);
          same = same_on n m (omega arith) x.same (same_on m w (omega arith) y.same (put_same w z));
          fits = λ f h.
              rw (ne_eqb k BRACKET (omega arith), le-ltb k binary_from l)
              (then_fits U n e m (Fits Z n (got_upto d (w + 1))) (parse s f (argument 44 at)) (λ t j. after (parse s f (argument 41 j)) (λ v i. got (node k t v) i)) (rw p at (x.fits f h))
              (λ t g.
              then_fits Y m d w (Fits Z n (got_upto d (w + 1))) (parse s f (argument 41 e)) (λ v i. got (node k t v) i) (rw o at (y.fits f (omega arith)))
              (λ v c. (refl, binary k l u (laid_stays w (omega arith) (put_same w z) (laid_stays m (omega arith) y.same g)) (laid_stays w (omega arith) (put_same w z) c) z.here))));
        }

-- A PRIMARY TEXT
module _ (s : List ℕ) (i : ℕ) where
  leaf_within : (j : ℕ) (r : Row) → leaf_at s i ≡ Some (Node r j) → (i < j) × (j ≤ length s)
  leaf_within j r e =
      let h = leaf_held s i j r e in
      let l = longer h.reads in
      let b = bound s i h.spelling h.run.here in
      let u = h.run.upto in
      (omega arith, omega arith)

  open_within : (k j : ℕ) → leaf_at s i ≡ Some (Open k j) → (i < j) × (j ≤ length s)
  open_within k j e =
      let h = open_held s i k j e in
      let b = bound s i h.spelling h.here in
      let u = h.upto in
      let l = long h.holds in
      (omega arith, omega arith)
    where
      long : {k : ℕ} {w : List ℕ} → Opening k w → 0 < length w
      long round = omega arith
      long (single a b n r) = n
      long (double a b n r) = n

  -- an opening that is no bracket is of one text or of two
  pub open_unary : (k j : ℕ) → leaf_at s i ≡ Some (Open k j) → k < binary_from → unary_from ≤ k
  open_unary k j e l = go (open_held s i k j e).holds l
    where
      go : {k : ℕ} {w : List ℕ} → Opening k w → k < binary_from → unary_from ≤ k
      go round l = absurd (omega arith)
      go (single a b n r) l = a
      go (double a b n r) l = absurd (omega arith)

  pub open_binary : (k j : ℕ) → leaf_at s i ≡ Some (Open k j) → (k ≡ BRACKET → ⊥) → binary_from ≤ k → k < kinds
  open_binary k j e n l = go (open_held s i k j e).holds n l
    where
      go : {k : ℕ} {w : List ℕ} → Opening k w → (k ≡ BRACKET → ⊥) → binary_from ≤ k → k < kinds
      go round n l = absurd (n refl)
      go (single a b m r) n l = absurd (omega arith)
      go (double a b m r) n l = b

within_ahead : (size at n e : ℕ) (r : Option Got) → at < e → Within size e n r → Ahead size at n r
within_ahead size at n e (Some g) a o = (omega arith, omega arith, omega arith, omega arith)
within_ahead size at n e None a o = tt

module _ (s : List ℕ) (at n : ℕ) {l : Option Leaf} (i : l ≡ leaf_at s at) where
  pub node-ends : (e : ℕ) (r : Row) → l ≡ Some (Node r e) → (at < e) × (e ≤ length s)
  node-ends e r p = leaf_within s at e r (sym i ∙ p)

  pub opening_ends : (k e : ℕ) → l ≡ Some (Open k e) → (at < e) × (e ≤ length s)
  opening_ends k e p = open_within s at k e (sym i ∙ p)

  module _ {e : ℕ} {r : Row} {T U : List ℕ} (p : l ≡ Some (Node r e)) (z : Put T n r U) where
    leaf_fits : (f : ℕ) → rank s (prim_at at) < f → Fits U n (got_upto e (n + 1)) (parse s f (prim_at at))
    unfolding parse
    leaf_fits zero h = absurd (omega arith)
    leaf_fits (suc f) h =
        let k = leaf_low s at e r (sym i ∙ p) in
        rw (sym i ∙ p) (refl, leaf (subst (λ (y : Row). y.kind < unary_from) (sym z.here) k) (ap row_text z.here))

    pub prim_leaf : Parses s (prim_at at) at n T U (got_upto e (n + 1))
    prim_leaf =
        let a = node-ends e r p in
        record { ahead = (omega arith, omega arith, omega arith, omega arith); same = put_same n z; fits = leaf_fits }

  module _ {k e : ℕ} {r : Option Got} {T U : List ℕ} (p : l ≡ Some (Open k e)) where
    round_fits : k ≡ BRACKET → Parses s (argument 41 e) e n T U r → (f : ℕ) → rank s (prim_at at) < f → Fits U n r (parse s f (prim_at at))
    unfolding parse
    round_fits j x zero h = absurd (omega arith)
    round_fits j x (suc f) h = let a = opening_ends k e p in rw (sym i ∙ p, eq-eqb k BRACKET j) (x.fits f (omega arith))

    pub prim_round : k ≡ BRACKET → Parses s (argument 41 e) e n T U r → Parses s (prim_at at) at n T U r
    prim_round j x =
        let a = opening_ends k e p in
        record { ahead = further_ahead (length s) at n e r (omega arith) x.ahead; same = x.same; fits = round_fits j x }

    opened-fits : AnswersOpened s k e n T U r → (f : ℕ) → rank s (prim_at at) < f → Fits U n r (parse s f (prim_at at))
    unfolding parse
    opened-fits x zero h = absurd (omega arith)
    opened-fits x (suc f) h = let a = opening_ends k e p in rw (sym i ∙ p) (x.fits f (omega arith))

    pub prim_opened : AnswersOpened s k e n T U r → Parses s (prim_at at) at n T U r
    prim_opened x =
        let a = opening_ends k e p in
        record { ahead = within_ahead (length s) at n e r a.0 x.within; same = x.same; fits = opened-fits x }

  module _ (T : List ℕ) (p : l ≡ None) where
    nothing-fits : (f : ℕ) → rank s (prim_at at) < f → Fits T n None (parse s f (prim_at at))
    unfolding parse
    nothing-fits zero h = absurd (omega arith)
    nothing-fits (suc f) h = rw (sym i ∙ p) tt

    pub prim_none : Parses s (prim_at at) at n T T None
    prim_none = record { ahead = tt; same = record { row-at = λ k h. refl }; fits = nothing-fits }
