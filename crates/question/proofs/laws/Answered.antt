-- The answered set, or 9 or 8, from what the search for tops and the evaluation promise.
use Rattle.std.specs.Prelude.{ℕ, ◌-◌, ◌<◌, refl, ◌≡◌, List, [], ◌∷◌, Bool, true, false, length, Result, Ok, Err, ⊤}
use Rattle.std.proofs.Common.{arith, subst, sym, ap, ◌∙◌}
use Rattle.std.proofs.lemmas.Bool.{false≢true}
use Rattle.refusal.specs.Outcome.{Outcome, refused, judged, line}
use Rattle.refusal.specs.Numbers.{number_of, place_of}
use Rattle.refusal.specs.declared.Refusal.{Refusal}
use Rattle.refusal.specs.declared.Refusal.TheVariants.{TooManyTops, TooManyRuns}
use Rattle.recording.specs.Recording.{Accepted}
use Rattle.recording.proofs.laws.Outcome.{judged-first, judged_skip}
use Rattle.runs.specs.Set.{Holds, Makes}
use Rattle.grammar.specs.Syntax.{Text, atom, listed, or, and, neg, finally, globally, next, until, weak_until}
use Rattle.grammar.specs.declared.Row.{Row}
use Rattle.grammar.specs.inner.Kinds.{NOT, GAPS}
use Rattle.grammar.specs.inner.Table.{row_at}
use Rattle.meaning.specs.inner.Coded.{Coded, coded}
use Rattle.meaning.specs.inner.Truth.{val, refused8, refused9, some_node, asks_too_many, of_listed}
use Rattle.leaves.specs.inner.Leaf.{leaf_of, Asked}
use Rattle.leaves.specs.inner.Differing.{Differs}
use Rattle.leaves.specs.declared.TooMany.{TooMany}
use Rattle.leaves.specs.declared.TooMany.TheVariants.{Tops, Runs}
use Rattle.runs.specs.declared.TooManyRuns.{TooManyRuns as Overfull}
use Rattle.evaluation.specs.inner.Evaluation.{text_of, Asking, Evaluates}
use Rattle.evaluation.proofs.laws.Alone.{alone_evaluates}
use Rattle.evaluation.proofs.laws.Leaf.{is_leaf, row_leaf}
use Rattle.question.specs.Question.{set_lines}
use Rattle.question.specs.inner.Answered.{Answerable, verdict_of, Gives}
use Rattle.question.proofs.laws.Limit.{asks_leaf, leaf_none}

-- a refusal as an outcome
abbrev told : Refusal → Outcome (Unit {0})
told z = refused (number_of z) (place_of z)

bad : ◌≡◌ {A = ℕ} 0 1 → ⊥
bad z = omega arith

refused_fine : {C : Type 0} (x : Refusal) → ◌≡◌ {A = Result ⊤ Refusal} (Err x) (Ok tt) → C
refused_fine x e = let z : ◌≡◌ {A = ℕ} 0 1 = cc in absurd (bad z)

same_refusal : (x y : Refusal) → ◌≡◌ {A = Result ⊤ Refusal} (Err x) (Err y) → x ≡ y
same_refusal x y e = cc

module _ (bytes : List ℕ) (p : Text) (words : List ℕ) where
  -- refused by x, as the lines have it
  gives_refused : (x : Refusal) → judged {R = Unit {0}} (set_lines bytes p) tt ≡ refused (number_of x) (place_of x) → Gives bytes p words (Err x)
  gives_refused x e =
      record {
        refusal = λ y q. e ∙ ap told (same_refusal x y q);
        none = λ q. refused_fine x q;
        set = λ q. refused_fine x q;
      }

  pub gives_nine : refused9 (coded bytes) p ≡ true → Gives bytes p words (Err TooManyTops)
  gives_nine e = gives_refused TooManyTops (judged-first (line 9 (refused9 (coded bytes) p)) (line 8 (refused8 (coded bytes) p) ∷ []) tt e)

  module _ (nine : refused9 (coded bytes) p ≡ false) where
    pub gives_eight : refused8 (coded bytes) p ≡ true → Gives bytes p words (Err TooManyRuns)
    gives_eight e =
        gives_refused TooManyRuns
        (judged_skip [] (line 9 (refused9 (coded bytes) p)) (line 8 (refused8 (coded bytes) p) ∷ []) tt nine ∙ judged-first (line 8 (refused8 (coded bytes) p)) [] tt e)

    pub gives_set : refused8 (coded bytes) p ≡ false → Holds (λ n. val (coded bytes) n p 0) words → Gives bytes p words (Ok tt)
    gives_set eight h =
        record { refusal = λ y q. refused_fine y (sym q); none = λ q. (nine, (eight, tt)); set = λ q. h }

module _ (table : List ℕ) (count : ℕ) (bytes : List ℕ) (ready : Answerable table count bytes) where
  pub asking : refused9 (coded bytes) (text_of table count) ≡ false → Asking table count bytes
  asking nine =
      record {
        laid = ready.holds;
        rows = ready.rows;
        few = ready.few;
        accepted = ready.accepted;
        record_there = ready.record_there;
        few_tops = nine;
      }

  -- a text that is one question on differences between tops
  module _ (root : Row) (is-root : root ≡ row_at table (count - 1)) (leaf : root.kind < NOT) (words : List ℕ) where
    abbrev asked : Bool
    asked = of_listed (asks_too_many (coded bytes)) (leaf_of root)

    nine_is : (x : Bool) → asked ≡ x → refused9 (coded bytes) (text_of table count) ≡ x
    nine_is x e =
        let some = ready.some in
        sym (asks_leaf table count bytes ready.falling (count - 1) (omega arith) root is-root leaf x (sym e))

    evaluates : asked ≡ false → (r : Result ⊤ Overfull) → Makes (λ v. val (coded bytes) v (leaf_of root) 0) words r → Evaluates (coded bytes) (text_of table count) words r
    evaluates few r m = alone_evaluates table count bytes (asking (nine_is false few)) root is-root leaf words r m

    gives_found : (d : Result ⊤ TooMany) → Differs asked (λ v. val (coded bytes) v (leaf_of root) 0) words d → Gives bytes (text_of table count) words (verdict_of d)
    gives_found (Err Tops) h = gives_nine bytes (text_of table count) words (nine_is true h)
    gives_found (Err Runs) h = gives_eight bytes (text_of table count) words (nine_is false h.0) (sym (evaluates h.0 (Err h.1.0) h.1.1).flag)
    gives_found (Ok x) h =
        let e = evaluates h.0 (Ok x) h.1 in
        gives_set bytes (text_of table count) words (nine_is false h.0) (sym e.flag) (e.holds refl)

    pub gives_alone : (d : Result ⊤ TooMany) → Differs asked (λ v. val (coded bytes) v (leaf_of root) 0) words d → (v : Result ⊤ Refusal) → v ≡ verdict_of d → Gives bytes (text_of table count) words v
    gives_alone d h v e = subst (Gives bytes (text_of table count) words) (sym e) (gives_found d h)

-- a leaf asks what its own question asks
leaf_nine : (r : List Coded) (p : Text) → is_leaf p ≡ true → refused9 r p ≡ of_listed (asks_too_many r) p
unfolding refused9 some_node
leaf_nine r (atom a) h = refl
leaf_nine r (listed q) h = refl
leaf_nine r (or p q) h = absurd (false≢true h)
leaf_nine r (and p q) h = absurd (false≢true h)
leaf_nine r (neg p) h = absurd (false≢true h)
leaf_nine r (finally p) h = absurd (false≢true h)
leaf_nine r (globally p) h = absurd (false≢true h)
leaf_nine r (next p) h = absurd (false≢true h)
leaf_nine r (until p q) h = absurd (false≢true h)
leaf_nine r (weak_until p q) h = absurd (false≢true h)

-- a leaf that takes no differences can be asked
pub leaf_asked : (bytes : List ℕ) (root : Row) → Accepted bytes → 0 < length (coded bytes) → root.kind < NOT → root.kind < GAPS → Asked bytes 0 root
leaf_asked bytes root a some leaf below =
    record {
      accepted = a;
      index = some;
      leaf = leaf;
      few_tops = leaf_nine (coded bytes) (leaf_of root) (row_leaf root) ∙ leaf_none (coded bytes) root.first root.second root.number root.kind below;
    }
