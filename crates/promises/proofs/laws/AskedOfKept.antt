-- What demand 3 asks of a text can be met: under the mark 40 each listed question may be asked of kept readings, and so may `|`, `&` and `!` of them.
use Rattle.std.specs.Prelude.{ℕ, ◌≡◌, refl, Bool, true, false, ◌&&◌, ◌||◌, not, eqb}
use Rattle.std.proofs.Common.{sym, ap, subst, ◌∙◌, true≢false, ⊎_elim, eqb-true, eq-eqb}
use Rattle.std.proofs.lemmas.Bool.{false≢true, not-true}
use mathlib.Core.List.Memᴰ
use mathlib.Core.List.{List, [], ◌∷◌, map, Memᴰ}
use Rattle.number.proofs.laws.Boolean.{and_left, and_right}
use Rattle.grammar.specs.Bytes.{bytes}
use Rattle.grammar.specs.inner.Lexer.{unsigned_at, number_at, pigment_at, pigment_leaf_at, operand_at, comparison_at, timed_at, arguments_at, named_at, headed_at, leaf_at}
use Rattle.grammar.specs.inner.Parse.{parse, parsed}
use Rattle.grammar.specs.Size.{after_times}
use Rattle.meaning.specs.Alike.{mark_index}
use Rattle.question.specs.Question.{read}
use Rattle.question.proofs.laws.Lines.{reads_read}
use Rattle.thin.proofs.laws.R1Calls.{mark40}
use Rattle.marks.specs.Marks.{marks_of}
use Rattle.promises.specs.KeptAsFull.{AskedOfKept}
use Rattle.promises.proofs.laws.Nodes.{marked-times}

-- a test for it, which is computed

abbrev among : ℕ → List ℕ → Bool
among b [] = false
among b (x ∷ l) = eqb b x || among b l

abbrev none_among : List ℕ → List ℕ → Bool
none_among [] l = true
none_among (b ∷ w) l = not (among b l) && none_among w l

abbrev all_among : List ℕ → List ℕ → Bool
all_among [] l = true
all_among (b ∷ w) l = among b l && all_among w l

abbrev may_be_asked : (marks text : List ℕ) → Bool
may_be_asked marks text = none_among text (bytes "FGXUW") && all_among (after_times (read text)) (map mark_index (marks_of marks))

member-among : (b : ℕ) (l : List ℕ) → Memᴰ b l → among b l ≡ true
member-among b [] m = absurd (Memᴰ.not-nil m)
member-among b (x ∷ l) m = ⊎_elim (λ (e : b ≡ x). ap (λ (t : Bool). t || among b l) (eq-eqb b x e))
    (λ i. on_right (eqb b x) (member-among b l i)) (Memᴰ.cases_cons m)
  where
    on_right : (t : Bool) → among b l ≡ true → (t || among b l) ≡ true
    on_right true e = refl
    on_right false e = e

among-member : (b : ℕ) (l : List ℕ) → among b l ≡ true → Memᴰ b l
among-member b [] e = absurd (false≢true e)
among-member b (x ∷ l) e = by (eqb b x) refl e (among-member b l)
  where
    by : (t : Bool) → eqb b x ≡ t → (t || among b l) ≡ true → (among b l ≡ true → Memᴰ b l) → Memᴰ b (x ∷ l)
    by true h e rest = Memᴰ.head (eqb-true b x h)
    by false h e rest = Memᴰ.tail (rest e)

none-among : (w l : List ℕ) → none_among w l ≡ true → (b : ℕ) → Memᴰ b l → ¬ Memᴰ b w
none-among [] l e b m i = Memᴰ.not-nil i
none-among (x ∷ w) l e b m i = ⊎_elim
    (λ (h : b ≡ x). true≢false (sym (subst (λ (y : ℕ). among y l ≡ true) h (member-among b l m)) ∙ not-true _ (and_left (not (among x l)) (none_among w l) e)))
    (λ h. none-among w l (and_right (not (among x l)) (none_among w l) e) b m h) (Memᴰ.cases_cons i)

all-among : (w l : List ℕ) → all_among w l ≡ true → (b : ℕ) → Memᴰ b w → Memᴰ b l
all-among [] l e b i = absurd (Memᴰ.not-nil i)
all-among (x ∷ w) l e b i = ⊎_elim
    (λ (h : b ≡ x). among-member b l (subst (λ (y : ℕ). among y l ≡ true) (sym h) (and_left (among x l) (all_among w l) e)))
    (λ h. all-among w l (and_right (among x l) (all_among w l) e) b h) (Memᴰ.cases_cons i)

asked_may : (marks text : List ℕ) → may_be_asked marks text ≡ true → AskedOfKept marks text
asked_may marks text e =
    let ks : List ℕ = map mark_index (marks_of marks) in
    record {
      none_written = none-among text (bytes "FGXUW") (and_left (none_among text (bytes "FGXUW")) (all_among (after_times (read text)) ks) e);
      marked = λ t r. (marked-times (marks_of marks) t).1 (subst (λ p. (k : ℕ) → Memᴰ k (after_times p) → Memᴰ k ks) (reads_read text t r)
          (all-among (after_times (read text)) ks (and_right (none_among text (bytes "FGXUW")) (all_among (after_times (read text)) ks) e)));
    }

-- the listed questions, and texts made of them
abbrev pub asked_texts : List (List ℕ)
asked_texts =
    bytes "high(A)"
    ∷ bytes "low(A)"
    ∷ bytes "lowafter(A,40)"
    ∷ bytes "capafter(A,40)"
    ∷ bytes "peaks(A)"
    ∷ bytes "dips(A)"
    ∷ bytes "cross"
    ∷ bytes "crossup"
    ∷ bytes "dose(3)"
    ∷ bytes "ampl(A)"
    ∷ bytes "gaps(A)"
    ∷ bytes "steps(A)"
    ∷ bytes "lag"
    ∷ bytes "high(A)|low(B)"
    ∷ bytes "cross&peaks(B)"
    ∷ bytes "crossup|dips(B)"
    ∷ bytes "dose(3)|!P=3"
    ∷ bytes "!lowafter(B,40)"
    ∷ []

abbrev pub AllAsked : (marks : List ℕ) → List (List ℕ) → Type 0
AllAsked marks [] = Unit {0}
AllAsked marks (text ∷ texts) = AskedOfKept marks text × AllAsked marks texts

abbrev all_asked : (marks : List ℕ) → List (List ℕ) → Bool
all_asked marks [] = true
all_asked marks (text ∷ texts) = may_be_asked marks text && all_asked marks texts

all-asked : (marks : List ℕ) (texts : List (List ℕ)) → all_asked marks texts ≡ true → AllAsked marks texts
all-asked marks [] e = tt
all-asked marks (text ∷ texts) e = (
  asked_may marks text (and_left (may_be_asked marks text) (all_asked marks texts) e),
  all-asked marks texts (and_right (may_be_asked marks text) (all_asked marks texts) e),
)

pub asked_of_kept : AllAsked mark40 asked_texts
unfolding marks_of parsed parse unsigned_at number_at pigment_at pigment_leaf_at operand_at comparison_at timed_at arguments_at named_at headed_at leaf_at
asked_of_kept = all-asked mark40 asked_texts refl
