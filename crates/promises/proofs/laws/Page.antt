-- THE PAGE HOLDS: of what it calls right there is one, and it is what is computed.
use Rattle.std.specs.Prelude.{ℕ, ◌-◌, ◌≤◌, ◌<◌, ◌≡◌, refl, ◌⊎◌, List, [], ◌∷◌, ℤ, pos, negsuc, length, ◌≤ℤ◌}
use Rattle.std.proofs.Common.{arith, sym, ap, ap₂, subst, ◌∙◌, inl, inr, leb→le}
use Rattle.std.specs.Float.{binary64}
use Rattle.std.specs.Float.Ieee.{to_bits}
use Rattle.number.specs.Axis.{axis, whole}
use Rattle.number.specs.Words.{bits, words_bytes}
use Rattle.refusal.specs.Outcome.{Outcome, result, refused}
use Rattle.recording.specs.Reading.{Reading, Curve, A, B, top, curve_of}
use Rattle.recording.specs.Condition.{pick}
use Rattle.number.proofs.laws.Boolean.{clash}
use Rattle.number.proofs.laws.Order.{less_or_not}
use Rattle.recording.specs.Recording.{records, readings}
use Rattle.meaning.specs.Meaning.{Holds}
use Rattle.grammar.specs.Syntax.{Text, Listed, listed}
use Rattle.grammar.specs.Grammar.{ReadsWhole}
use Rattle.question.proofs.laws.Lines.{reads_read}
use Rattle.binary64.specs.Degree.{distance_of, degree_of}
use Rattle.degree.specs.Nearest.{Member, Distance}
use Rattle.pair.specs.Pair.{time_at, Fits, Foremost}
use Rattle.band.specs.Band.{Certain, Possible}
use Rattle.sheet.specs.Sheet.{sheet_of}
use Rattle.sheet.specs.Finding.{broken_at}
use Rattle.sheet.proofs.laws.Finding.{true_one}
use Rattle.entry.specs.Entry.{Greatest, Least}
use Rattle.reply.specs.Reply.{number_in, low_in}
use Rattle.marks.specs.Marks.{marks_of}
use Rattle.assured.specs.Assured.{Assured}
use Rattle.promises.specs.MaximalRuns.{Interval, MaximalRuns, runs_bytes}
use Rattle.promises.proofs.laws.MaximalRuns.{one_runs, index_le}
use Rattle.promises.specs.Conditions.{FirstBroken, TableLine, FirstMet}
use Rattle.promises.proofs.laws.Conditions.{first-met}
use Rattle.promises.proofs.laws.Found.{one_list}
use Rattle.promises.specs.Page.{Call, question, degree, pair, thin, band, order, entry, find, lab_question, lab_degree, lab_pair, assured, version, Place, put, Effect, effect, writing, Leaves, behind, is_put, is_unchanged, Returns, refusals, AtIndex, IsAnswer, the_set, met, short, no-value, first-pair, no_pair, the_kept, two-sets, all-met, broken, the_entry, the_found, lab-question, lab-degree, lab-pair, is-assured, not_assured, the_version, Right, answers, refuses, Complete, Page}
use Rattle.promises.proofs.laws.Computed.{of_finding, of_runs, computed, right_computed}

-- ---- nothing else is right

-- a line effect one place
abbrev pub Single : List TableLine → Type 0
Single [] = Unit {0}
Single (w ∷ ws) = ((p q : ℕ) → w.Met p → w.Met q → p ≡ q) × Single ws

pub same_refusal : (ws : List TableLine) → Single ws → (n p m q : ℕ) → FirstMet ws n p → FirstMet ws m q → (n ≡ m) × (p ≡ q)
same_refusal [] s n p m q f h = absurd f
same_refusal (w ∷ ws) s n p m q (inl f) (inl h) = (f.0 ∙ sym h.0, s.0 p q f.1 h.1)
same_refusal (w ∷ ws) s n p m q (inl f) (inr h) = absurd (h.0 p f.1)
same_refusal (w ∷ ws) s n p m q (inr f) (inl h) = absurd (f.0 q h.1)
same_refusal (w ∷ ws) s n p m q (inr f) (inr h) = same_refusal ws s.1 n p m q f.1 h.1

pub at_0 : {P : Type 0} (p q : ℕ) → (p ≡ 0) × P → (q ≡ 0) × P → p ≡ q
at_0 p q a b = a.0 ∙ sym b.0

pub first_broken : (g : List ℕ) (p q : ℕ) → FirstBroken (records g) p → FirstBroken (records g) q → p ≡ q
first_broken g p q a b = by (less_or_not p q) (less_or_not q p)
  where
    by : (p < q) ⊎ (q ≤ p) → (q < p) ⊎ (p ≤ q) → p ≡ q
    by (inl h) k = absurd (clash (b.first p h) a.broken)
    by (inr h) (inl k) = absurd (clash (a.first q k) b.broken)
    by (inr h) (inr k) = omega arith

singles : (c : Call) (g : List ℕ) (room : ℕ) → Single (refusals c g room)
singles (question text) g room = (at_0, (at_0, (first_broken g, (at_0, (at_0, (at_0, (at_0, (at_0, (at_0, (at_0, tt))))))))))
singles (degree text target) g room = (at_0, (at_0, (first_broken g, (at_0, (at_0, (at_0, (at_0, (at_0, (at_0, (at_0, tt))))))))))
singles (pair curve target) g room = (at_0, (at_0, (first_broken g, (at_0, (at_0, (at_0, tt))))))
singles (thin marks) g room = (at_0, (at_0, (first_broken g, (at_0, (at_0, tt)))))
singles (band text e) g room = (at_0, (at_0, (first_broken g, (at_0, (at_0, (at_0, (at_0, (at_0, (at_0, tt)))))))))
singles (order sheet) g room = (at_0, (at_0, (first_broken g, (at_0, (at_0, tt)))))
singles entry g room = (at_0, (at_0, (first_broken g, (at_0, (at_0, tt)))))
singles (find curve level) g room = (at_0, (at_0, (at_0, tt)))
singles (lab_question marks text) g room = (at_0, (at_0, (first_broken g, (at_0, (at_0, (at_0, (at_0, (at_0, (at_0, (at_0, (at_0, (at_0, tt))))))))))))
singles (lab_degree marks text target) g room = (at_0, (at_0, (first_broken g, (at_0, (at_0, (at_0, (at_0, (at_0, (at_0, (at_0, (at_0, (at_0, tt))))))))))))
singles (lab_pair curve target) g room = (at_0, (at_0, (first_broken g, (at_0, (at_0, (at_0, (at_0, tt)))))))
singles (assured marks) g room = (at_0, (at_0, (at_0, (at_0, tt))))
singles version g room = tt

-- an entry
abbrev eight : List Reading → (x y z u : ℤ) → Effect
eight r x y z u = writing (words_bytes (time_at r 0 ∷ time_at r (length r - 1) ∷ bits x ∷ bits y ∷ bits z ∷ bits u ∷ length (pick (top A) r) ∷ length (pick (top B) r) ∷ []))

pub one_index : (v w : ℕ) → whole v ≡ whole w → v ≡ w
one_index v w e = le_antisym' ((index_le v w).1 (subst (λ (z : ℤ). whole v ≤ℤ z) e ((index_le v v).0 (omega arith)))) ((index_le w v).1 (subst (λ (z : ℤ). whole w ≤ℤ z) (sym e) ((index_le w w).0 (omega arith))))
  where
    le_antisym' : v ≤ w → w ≤ v → v ≡ w
    le_antisym' a b = omega arith

pub same_text : (text : List ℕ) (t u : Text) → ReadsWhole text t → ReadsWhole text u → t ≡ u
same_text text t u r q = sym (reads_read text t r) ∙ reads_read text u q

-- at one index, two readings of one text
module _ (text g : List ℕ) (target : ℤ) (t t' : Text) (v v' : ℕ) (e : AtIndex v target) (e' : AtIndex v' target) (r : ReadsWhole text t) (r' : ReadsWhole text t') where
  there : v ≡ v'
  there = one_index v v' (e.1 ∙ sym e'.1)

  member_too : Member (readings g) t v → Member (readings g) t' v'
  member_too m = subst (λ (x : Text). Member (readings g) x v') (same_text text t t' r r') (subst (Member (readings g) t) there m)

  distance_too : {d : ℕ} → Distance (readings g) t v d → Distance (readings g) t' v' d
  distance_too {d} m = subst (λ (x : Text). Distance (readings g) x v' d) (same_text text t t' r r') (subst (λ (x : ℕ). Distance (readings g) t x d) there m)

pub one-distance : (rs : List Reading) (t : Text) (v d d' : ℕ) → Distance rs t v d → Distance rs t v d' → d ≡ d'
one-distance rs t v d d' a b =
    let x = a.least b.nearest b.on-axis b.member in
    let y = b.least a.nearest a.on-axis a.member in
    let h = a.there in
    let k = b.there in
    omega arith

-- a member of the axis has no distance but 0
near_none : (rs : List Reading) (t : Text) (v d : ℕ) → v < axis → Member rs t v → Distance rs t v d → 0 < d → ⊥
near_none rs t v d h m far k = let l = far.least v h m in omega arith

one_pair : (rs : List Reading) (c : Curve) (target : ℤ) (i j i' j' : ℕ) → Fits rs c target i j → Foremost rs c target (time_at rs i) (time_at rs j) → Fits rs c target i' j'
    → Foremost rs c target (time_at rs i') (time_at rs j') → (time_at rs i ≡ time_at rs i') × (time_at rs j ≡ time_at rs j')
one_pair rs c target i j i' j' f m f' m' = by (time_at rs i) (time_at rs i') (time_at rs j) (time_at rs j') (m i' j' f') (m' i j f)
  where
    by : (t t' u u' : ℕ) → (t < t') ⊎ ((t ≡ t') × (u ≤ u')) → (t' < t) ⊎ ((t' ≡ t) × (u' ≤ u)) → (t ≡ t') × (u ≡ u')
    by t t' u u' (inl h) (inl k) = absurd (omega arith)
    by t t' u u' (inl h) (inr k) = let e = k.0 in absurd (omega arith)
    by t t' u u' (inr h) (inl k) = let e = h.0 in absurd (omega arith)
    by t t' u u' (inr h) (inr k) = let a = h.1 in let b = k.1 in (h.0, omega arith)

one_set : (text g : List ℕ) (t t' : Text) (rs rs' : List Interval) → ReadsWhole text t → ReadsWhole text t' → MaximalRuns (λ z. Holds (readings g) z t 0) rs → MaximalRuns (λ z. Holds (readings g) z t' 0) rs' → rs ≡ rs'
one_set text g t t' rs rs' r r' s s' = one_runs (subst (λ (x : Text). MaximalRuns (λ z. Holds (readings g) z x 0) rs) (same_text text t t' r r') s) s'

same_listed : (q q' : Listed) → listed q ≡ listed q' → q ≡ q'
same_listed q q' e = cc

le_antisymmetric : (x y : ℤ) → x ≤ℤ y → y ≤ℤ x → x ≡ y
le_antisymmetric (pos m) (pos n) h k = let a = leb→le m n h.le in let b = leb→le n m k.le in let e : m ≡ n = omega arith in ap pos e
le_antisymmetric (pos m) (negsuc n) h k = absurd h.le
le_antisymmetric (negsuc m) (pos n) h k = absurd k.le
le_antisymmetric (negsuc m) (negsuc n) h k = let a = leb→le n m h.le in let b = leb→le m n k.le in let e : m ≡ n = omega arith in ap negsuc e

one_greatest : (c : Curve) (r : List Reading) (x y : ℤ) → Greatest c r x → Greatest c r y → x ≡ y
one_greatest c r x y a b = le_antisymmetric x y (subst (λ (z : ℤ). z ≤ℤ y) a.reached.2 (b.none_beyond a.reached.0 a.reached.1)) (subst (λ (z : ℤ). z ≤ℤ x) b.reached.2 (a.none_beyond b.reached.0 b.reached.1))

one-least : (c : Curve) (r : List Reading) (x y : ℤ) → Least c r x → Least c r y → x ≡ y
one-least c r x y a b = le_antisymmetric x y (subst (λ (z : ℤ). x ≤ℤ z) b.reached.2 (a.none_beyond b.reached.0 b.reached.1)) (subst (λ (z : ℤ). y ≤ℤ z) a.reached.2 (b.none_beyond a.reached.0 a.reached.1))

same_entry : (r : List Reading) (x x' y y' z z' u u' : ℤ) → x ≡ x' → y ≡ y' → z ≡ z' → u ≡ u'
    → eight r x y z u ≡ eight r x' y' z' u'
same_entry r x x' y y' z z' u u' a b c d = λ i. eight r (a i) (b i) (c i) (d i)

-- by recursion on the first: the bytes stand before the call, since the call changes on the way
same_effect : {g : List ℕ} {c : Call} {a a' : Effect} → IsAnswer g c a → IsAnswer g c a' → a ≡ a'
same_effect {g = g} (the_set {text = text} {t = t} rs r s) (the_set {t = t'} rs' r' s') = ap (λ (x : List Interval). writing (runs_bytes x)) (one_set text g t t' rs rs' r r' s s')
same_effect (met v e r m) (met v' e' r' m') = refl
same_effect {g = g} (met {text = text} {target = target} {t = t} v e r m) (short {t = t'} v' d' e' r' k' m') =
    absurd (near_none (readings g) t' v' d' e'.0 (member_too text g target t t' v v' e e' r r' m) m' k')
same_effect {g = g} (met {text = text} {target = target} {t = t} v e r m) (no-value {t = t'} r' m') = absurd (m' v e.0 (member_too text g target t t' v v e e r r' m))
same_effect {g = g} (short {text = text} {target = target} {t = t} v d e r k m) (met {t = t'} v' e' r' m') =
    absurd (near_none (readings g) t v d e.0 (member_too text g target t' t v' v e' e r' r m') m k)
same_effect {g = g} (short {text = text} {target = target} {t = t} v d e r k m) (short {t = t'} v' d' e' r' k' m') =
    ap (λ (d : ℕ). effect 1 (put (to_bits binary64 (distance_of d)) ∷ put (to_bits binary64 (degree_of d)) ∷ [])) (one-distance (readings g) t' v' d d' (distance_too text g target t t' v v' e e' r r' m) m')
same_effect {g = g} (short {text = text} {target = target} {t = t} v d e r k m) (no-value {t = t'} r' m') =
    absurd (m' m.nearest m.on-axis (subst (λ (x : Text). Member (readings g) x m.nearest) (same_text text t t' r r') m.member))
same_effect {g = g} (no-value {text = text} {target = target} {t = t} r m) (met {t = t'} v' e' r' m') = absurd (m v' e'.0 (member_too text g target t' t v' v' e' e' r' r m'))
same_effect {g = g} (no-value {text = text} {t = t} r m) (short {t = t'} v' d' e' r' k' m') =
    absurd (m m'.nearest m'.on-axis (subst (λ (x : Text). Member (readings g) x m'.nearest) (same_text text t' t r' r) m'.member))
same_effect (no-value r m) (no-value r' m') = refl
same_effect {g = g} (first-pair {curve = c} {target = target} i j f m) (first-pair i' j' f' m') =
    let e = one_pair (readings g) (curve_of c) target i j i' j' f m f' m' in
    ap₂ (λ (t u : ℕ). effect 1 (put t ∷ put u ∷ [])) e.0 e.1
same_effect (first-pair i j f m) (no_pair n) = absurd (n i j f)
same_effect (no_pair n) (first-pair i' j' f' m') = absurd (n i' j' f')
same_effect (no_pair n) (no_pair n') = refl
same_effect the_kept the_kept = refl
same_effect {g = g} (two-sets {text = text} {e = e} q c p r m n a b) (two-sets q' c' p' r' m' n' a' b') =
    let h : q' ≡ q = same_listed q' q (same_text text (listed q') (listed q) r' r) in
    ap₂ of_runs (one_runs m (subst (λ (x : Listed). MaximalRuns (Certain x e (readings g)) c') h m')) (one_runs n (subst (λ (x : Listed). MaximalRuns (Possible x e (readings g)) p') h n'))
same_effect (all-met n) (all-met n') = refl
same_effect (all-met n) (broken t k i b) = absurd (n i k b.breaks)
same_effect (broken t k i b) (all-met n) = absurd (n i k b.breaks)
same_effect {g = g} (broken {sheet = sheet} t k i b) (broken t' k' i' b') = ap of_finding (true_one (readings g) (sheet_of sheet) (broken_at t k) (broken_at t' k') (i, b) (i', b'))
same_effect {g = g} (the_entry u d m n) (the_entry u' d' m' n') =
    same_entry (readings g) (u A) (u' A) (d A) (d' A) (u B) (u' B) (d B) (d' B) (one_greatest A (readings g) (u A) (u' A) (m A) (m' A)) (one-least A (readings g) (d A) (d' A) (n A) (n' A))
    (one_greatest B (readings g) (u B) (u' B) (m B) (m' B)) (one-least B (readings g) (d B) (d' B) (n B) (n' B))
same_effect (the_found ns e) (the_found ns' e') = ap (λ (l : List ℕ). writing (words_bytes l)) (one_list e e')
same_effect (lab-question h) (lab-question h') = same_effect h h'
same_effect (lab-degree h) (lab-degree h') = same_effect h h'
same_effect (lab-pair h) (lab-pair h') = same_effect h h'
same_effect (is-assured r a) (is-assured r' a') = refl
same_effect {g = g} (is-assured {marks = marks} {t = t} r a) (not_assured {t = t'} r' n) = absurd (n (subst (Assured (marks_of marks)) (same_text g t t' r r') a))
same_effect {g = g} (not_assured {marks = marks} {t = t} r n) (is-assured {t = t'} r' a) = absurd (n (subst (Assured (marks_of marks)) (same_text g t' t r' r) a))
same_effect (not_assured r n) (not_assured r' n') = refl
same_effect the_version the_version = refl

pub one_answer : {c : Call} {g : List ℕ} {a a' : Effect} → IsAnswer g c a → IsAnswer g c a' → a ≡ a'
one_answer a b = same_effect a b

pub one-outcome : {c : Call} {g : List ℕ} {room : ℕ} {o o' : Outcome Effect} → Right c g room o → Right c g room o' → o ≡ o'
one-outcome (answers n a) (answers n' a') = ap result (one_answer a a')
one-outcome {c} {g} {room} (answers n a) (refuses {n = k} {p = p} f) = absurd (first-met (refusals c g room) k p f n)
one-outcome {c} {g} {room} (refuses {n = k} {p = p} f) (answers n a) = absurd (first-met (refusals c g room) k p f n)
one-outcome {c} {g} {room} (refuses {n = n} {p = p} f) (refuses {n = m} {p = q} h) = let e = same_refusal (refusals c g room) (singles c g room) n p m q f h in ap₂ refused e.0 e.1

-- and what is returned and left is fixed
same_number : (r r' : ℕ) → number_in r ≡ number_in r' → low_in r ≡ low_in r' → r ≡ r'
same_number r r' e f = omega arith

one_memory : {ps : List Place} {old new new' : List ℕ} → Leaves ps old new → Leaves ps old new' → new ≡ new'
one_memory behind behind = refl
one_memory (is_put {x = x} l) (is_put m) = ap (λ (s : List ℕ). x ∷ s) (one_memory l m)
one_memory (is_unchanged {y = y} l) (is_unchanged m) = ap (λ (s : List ℕ). y ∷ s) (one_memory l m)

one_told : (o : Outcome Effect) (before : List ℕ) (r r' : ℕ) (after after' : List ℕ) → Returns o before r after → Returns o before r' after' → (r ≡ r') × (after ≡ after')
one_told (result a) before r r' after after' t t' = (same_number r r' (t.0 ∙ sym t'.0) (t.1 ∙ sym t'.1), one_memory t.2 t'.2)
one_told (refused n p) before r r' after after' t t' = (same_number r r' (t.0 ∙ sym t'.0) (t.1 ∙ sym t'.1), t.2 ∙ sym t'.2)

one_complete : {c : Call} {g before : List ℕ} {r r' : ℕ} {after after' : List ℕ} → Complete c g before r after → Complete c g before r' after' → (r ≡ r') × (after ≡ after')
one_complete {before = before} {r} {r'} {after} {after'} a b =
    one_told b.outcome before r r' after after' (subst (λ (o : Outcome Effect). Returns o before r after) (one-outcome a.right b.right) a.returns) b.returns

-- so what is right is what is computed
pub is_computed : {c : Call} {g : List ℕ} {room : ℕ} {o : Outcome Effect} → Right c g room o → o ≡ computed c g room
is_computed {c} {g} {room} h = one-outcome h (right_computed c g room)

pub same_right : (c : Call) (g g' : List ℕ) (room : ℕ) {o : Outcome Effect} → computed c g room ≡ computed c g' room → Right c g room o → Right c g' room o
same_right c g g' room {o} e h = subst (Right c g' room) (sym (is_computed h ∙ e)) (right_computed c g' room)

-- ---- THE PAGE
pub page : Page
page = record {
  an_outcome = λ c g room. (computed c g room, right_computed c g room);
  nothing_else = one-outcome;
  determined = one_complete;
  one-reading = same_text;
}
