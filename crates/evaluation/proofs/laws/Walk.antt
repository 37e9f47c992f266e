-- The walk from the last record to the first.
use Rattle.std.specs.Prelude.{ℕ, suc, ◌+◌, ◌-◌, ◌<◌, ◌≤◌, ◌≡◌, Bool, true, false, List, length}
use Rattle.std.specs.Prelude.{Result, Ok}
use Rattle.std.specs.Result.{is_err}
use Rattle.runs.specs.declared.TooManyRuns.{TooManyRuns}
use Rattle.std.proofs.Common.{arith, eq-or-lt_of_le, sym, subst, ◌∙◌, ⊎_elim}
use Rattle.std.proofs.Math.Path.{ap}
use Rattle.std.proofs.lemmas.Bool.{false≢true}
use Rattle.std.proofs.Math.Bool.{cond}
use Rattle.runs.specs.Set.{member, Valid, Holds}
use Rattle.runs.proofs.laws.Set.{holds_ext}
use Rattle.grammar.specs.Syntax.{Text}
use Rattle.grammar.specs.Size.{temporal}
use Rattle.parser.specs.inner.Rows.{Laid}
use Rattle.parser.proofs.laws.Rows.{laid_above}
use Rattle.meaning.specs.inner.Coded.{Coded, coded}
use Rattle.meaning.specs.inner.Truth.{val, over_at, some_below, refused8, last_coded}
use Rattle.meaning.proofs.laws.Overfull.{below_at, below_none}
use Rattle.evaluation.specs.inner.Slots.{slot, Sized}
use Rattle.evaluation.specs.inner.Evaluate.{Stand, Fit, Evaluable, NodePromise}
use Rattle.evaluation.specs.inner.Evaluation.{text_of, Asking, Evaluates}
use Rattle.evaluation.proofs.laws.Stand.{stand_root}

-- the same set, by equal words
pub holds_same : {a b : List ℕ} (words : List ℕ) → a ≡ b → Holds (member a) words → Holds (member b) words
holds_same words e w = subst (λ (l : List ℕ). Holds (member l) words) e w

-- the sets of the text at record i
abbrev pub Sets : List ℕ → ℕ → List ℕ → ℕ → List ℕ → List ℕ → Type 0
Sets table count rec i own other = (laid : Laid table 0 count (text_of table count)) → Stand (coded rec) i laid own other

-- the records from i on are done: the root's set of record i lies in a where flip is set, else in b
pub record Walked (table : List ℕ) (count : ℕ) (rec : List ℕ) (i : ℕ) (a b : List ℕ) (flip : Bool) : Type 0 where
  pub end : i ≤ length (coded rec)
  pub size_a : Sized a
  pub size_b : Sized b
  pub in_a : flip ≡ true → i < length (coded rec) → Sets table count rec i a b
  pub in_b : flip ≡ false → i < length (coded rec) → Sets table count rec i b a
  pub small : (j : ℕ) → i ≤ j → j < length (coded rec) → over_at (coded rec) (text_of table count) j ≡ false

module _ (table : List ℕ) (count : ℕ) (rec : List ℕ) (asking : Asking table count rec) where
  abbrev r : List Coded
  r = coded rec

  abbrev text : Text
  text = text_of table count

  some : 0 < count
  some = laid_above asking.laid

  root_is : count ≡ count - 1 + 1
  root_is = omega (arith, some)

  -- the text can be evaluated at record i
  fit_at : (i : ℕ) (own other : List ℕ) (laid : Laid table 0 count text) → i < length r → Sized own → Sized other
      → (i < last_coded r → temporal text ≡ true → Stand r (suc i) laid other own) → Fit rec i laid own other
  fit_at i own other laid h so st ready =
      record {
        rows = asking.rows;
        few = asking.few;
        own_sized = so;
        other_sized = st;
        accepted = asking.accepted;
        index = h;
        few_tops = asking.few_tops;
        ready = ready;
      }

  node_at : (i : ℕ) (own other : List ℕ) → i < length r → Sized own → Sized other
      → (i < last_coded r → temporal text ≡ true → Sets table count rec (suc i) other own) → Evaluable table rec i (count - 1) own other
  node_at i own other h so st ready =
      record {
        base = 0;
        end = count;
        text = text;
        laid = asking.laid;
        root = root_is;
        fit = fit_at i own other asking.laid h so st (λ j t. ready j t asking.laid);
      }

  -- the root's set is handed out
  abbrev Root : ℕ → List ℕ → Type 0
  Root i sets = Holds (λ v. val r v text i) (slot sets (count - 1))

  root_of : (i : ℕ) (own other : List ℕ) → Sets table count rec i own other → Root i own
  root_of i own other s = stand_root r i asking.laid own other (s asking.laid)

  handed : (sets words : List ℕ) → Root 0 sets → Holds (member (slot sets (count - 1))) words → refused8 r text ≡ false → Evaluates r text words (Ok (tt {0}))
  handed sets words h w e =
      record { flag = sym e; holds = λ z. holds_ext (member (slot sets (count - 1))) (λ v. val r v text 0) words h.members w }

  -- what an evaluation of the root leaves
  module _ (i : ℕ) (own other own' other' : List ℕ) (h : i < length r) (so : Sized own) (st : Sized other)
      (ready : i < last_coded r → temporal text ≡ true → Sets table count rec (suc i) other own) (over : Result (Unit {0}) TooManyRuns)
      (o : NodePromise table rec i (count - 1) own other own' other' over) where
    sets-of : is_err over ≡ false → Sets table count rec i own' other'
    sets-of z laid = ((o 0 count text laid root_is (fit_at i own other laid h so st (λ j t. ready j t laid))).good z).stand

    small_of : is_err over ≡ false → over_at r text i ≡ false
    small_of z = ((o 0 count text asking.laid root_is (fit_at i own other asking.laid h so st (λ j t. ready j t asking.laid))).good z).small

    large_of : is_err over ≡ true → over_at r text i ≡ true
    large_of z = (o 0 count text asking.laid root_is (fit_at i own other asking.laid h so st (λ j t. ready j t asking.laid))).bad z

  -- ---- a text without F, G, X, U and W: the first record alone

  module _ (flat : temporal text ≡ false) where
    none_ahead : {A : Type 0} → temporal text ≡ true → A
    none_ahead t = absurd (false≢true (sym flat ∙ t))

    flat_eight : refused8 r text ≡ over_at r text 0
    unfolding refused8
    flat_eight = ap (λ (b : Bool). cond b (some_below (over_at r text) (length r)) (over_at r text 0)) flat

    pub flat_node : (own other : List ℕ) → Sized own → Sized other → Evaluable table rec 0 (count - 1) own other
    flat_node own other so st = node_at 0 own other asking.record_there so st (λ j t. none_ahead t)

    module _ (own other own' other' : List ℕ) (so : Sized own) (st : Sized other) (over : Result (Unit {0}) TooManyRuns) (o : NodePromise table rec 0 (count - 1) own other own' other' over) where
      pub flat_over : (out : List ℕ) → is_err over ≡ true → (res : Result (Unit {0}) TooManyRuns) → is_err res ≡ true → Evaluates r text out res
      flat_over out e res q =
          record {
            flag = q ∙ sym (flat_eight ∙ large_of 0 own other own' other' asking.record_there so st (λ j t. none_ahead t) over o e);
            holds = λ z. absurd (false≢true (sym z ∙ q));
          }

      flat_root : is_err over ≡ false → Root 0 own'
      flat_root e = root_of 0 own' other' (sets-of 0 own other own' other' asking.record_there so st (λ j t. none_ahead t) over o e)

      pub flat_valid : is_err over ≡ false → Valid (slot own' (count - 1))
      flat_valid e = (flat_root e).valid

      pub flat_done : (out : List ℕ) → is_err over ≡ false → Holds (member (slot own' (count - 1))) out → Evaluates r text out (Ok (tt {0}))
      flat_done out e w =
          handed own' out (flat_root e) w (flat_eight ∙ small_of 0 own other own' other' asking.record_there so st (λ j t. none_ahead t) over o e)

  -- ---- a text with F, G, X, U or W: all records, from the last on

  eight_ahead : temporal text ≡ true → refused8 r text ≡ some_below (over_at r text) (length r)
  unfolding refused8
  eight_ahead t = ap (λ (b : Bool). cond b (some_below (over_at r text) (length r)) (over_at r text 0)) t

  pub walk_start : (n : ℕ) (a b : List ℕ) → n ≡ length r → Sized a → Sized b → Walked table count rec n a b false
  walk_start n a b e sa sb =
      record {
        end = omega arith;
        size_a = sa;
        size_b = sb;
        in_a = λ f. absurd (false≢true f);
        in_b = λ f h. absurd (omega arith);
        small = λ j l h. absurd (omega arith);
      }

  small_more : (i : ℕ) → 0 < i → over_at r text (i - 1) ≡ false → ((j : ℕ) → i ≤ j → j < length r → over_at r text j ≡ false)
      → (j : ℕ) → i - 1 ≤ j → j < length r → over_at r text j ≡ false
  small_more i p s f j l h = ⊎_elim (λ e. subst (λ (k : ℕ). over_at r text k ≡ false) e s) (λ k. f j (omega arith) h) (eq-or-lt_of_le l)

  module _ (i : ℕ) (a b : List ℕ) (flip : Bool) (w : Walked table count rec i a b flip) (p : 0 < i) where
    inside : i - 1 < length r
    inside = omega (arith, w.end)

    ready_a : flip ≡ true → i - 1 < last_coded r → temporal text ≡ true → Sets table count rec (suc (i - 1)) a b
    ready_a e h t = let x : i ≡ suc (i - 1) = omega arith in subst (λ (j : ℕ). Sets table count rec j a b) x (w.in_a e (omega arith))

    ready_b : flip ≡ false → i - 1 < last_coded r → temporal text ≡ true → Sets table count rec (suc (i - 1)) b a
    ready_b e h t = let x : i ≡ suc (i - 1) = omega arith in subst (λ (j : ℕ). Sets table count rec j b a) x (w.in_b e (omega arith))

    pub into_b : flip ≡ true → Evaluable table rec (i - 1) (count - 1) b a
    into_b e = node_at (i - 1) b a inside w.size_b w.size_a (ready_a e)

    pub into_a : flip ≡ false → Evaluable table rec (i - 1) (count - 1) a b
    into_a e = node_at (i - 1) a b inside w.size_a w.size_b (ready_b e)

    module _ (a' b' : List ℕ) (over : Result (Unit {0}) TooManyRuns) where
      pub walked_b : flip ≡ true → NodePromise table rec (i - 1) (count - 1) b a b' a' over → length a' ≡ length a → length b' ≡ length b → is_err over ≡ false
          → Walked table count rec (i - 1) a' b' false
      walked_b e o ea eb z =
          record {
            end = omega (arith, w.end);
            size_a = ea ∙ w.size_a;
            size_b = eb ∙ w.size_b;
            in_a = λ f. absurd (false≢true f);
            in_b = λ f h. sets-of (i - 1) b a b' a' inside w.size_b w.size_a (ready_a e) over o z;
            small = small_more i p (small_of (i - 1) b a b' a' inside w.size_b w.size_a (ready_a e) over o z) w.small;
          }

      pub walked_a : flip ≡ false → NodePromise table rec (i - 1) (count - 1) a b a' b' over → length a' ≡ length a → length b' ≡ length b → is_err over ≡ false
          → Walked table count rec (i - 1) a' b' true
      walked_a e o ea eb z =
          record {
            end = omega (arith, w.end);
            size_a = ea ∙ w.size_a;
            size_b = eb ∙ w.size_b;
            in_a = λ f h. sets-of (i - 1) a b a' b' inside w.size_a w.size_b (ready_b e) over o z;
            in_b = λ f. absurd (false≢true (sym f));
            small = small_more i p (small_of (i - 1) a b a' b' inside w.size_a w.size_b (ready_b e) over o z) w.small;
          }

      module _ (ahead : temporal text ≡ true) (out : List ℕ) where
        large-eight : over_at r text (i - 1) ≡ true → (res : Result (Unit {0}) TooManyRuns) → is_err res ≡ true → Evaluates r text out res
        large-eight e res q =
            record { flag = q ∙ sym (eight_ahead ahead ∙ below_at (over_at r text) (length r) (i - 1) inside e); holds = λ z. absurd (false≢true (sym z ∙ q)) }

        pub over_b : flip ≡ true → NodePromise table rec (i - 1) (count - 1) b a b' a' over → is_err over ≡ true → (res : Result (Unit {0}) TooManyRuns) → is_err res ≡ true → Evaluates r text out res
        over_b e o z = large-eight (large_of (i - 1) b a b' a' inside w.size_b w.size_a (ready_a e) over o z)

        pub over_a : flip ≡ false → NodePromise table rec (i - 1) (count - 1) a b a' b' over → is_err over ≡ true → (res : Result (Unit {0}) TooManyRuns) → is_err res ≡ true → Evaluates r text out res
        over_a e o z = large-eight (large_of (i - 1) a b a' b' inside w.size_a w.size_b (ready_b e) over o z)

  -- the walk is over
  module _ (a b : List ℕ) (flip : Bool) (w : Walked table count rec 0 a b flip) where
    none_over : temporal text ≡ true → refused8 r text ≡ false
    none_over ahead = eight_ahead ahead ∙ below_none (over_at r text) (length r) (λ j h. w.small j (omega arith) h)

    root_a : flip ≡ true → Root 0 a
    root_a e = root_of 0 a b (w.in_a e asking.record_there)

    root_b : flip ≡ false → Root 0 b
    root_b e = root_of 0 b a (w.in_b e asking.record_there)

    pub valid_a : flip ≡ true → Valid (slot a (count - 1))
    valid_a e = (root_a e).valid

    pub valid_b : flip ≡ false → Valid (slot b (count - 1))
    valid_b e = (root_b e).valid

    module _ (ahead : temporal text ≡ true) (out : List ℕ) where
      pub done_a : flip ≡ true → Holds (member (slot a (count - 1))) out → Evaluates r text out (Ok (tt {0}))
      done_a e h = handed a out (root_a e) h (none_over ahead)

      pub done_b : flip ≡ false → Holds (member (slot b (count - 1))) out → Evaluates r text out (Ok (tt {0}))
      done_b e h = handed b out (root_b e) h (none_over ahead)
