-- The call from its parts: 5, 6 and 7 of the text that is read, then 11, then the verdict.
use Rattle.std.specs.Prelude.{ℕ, ◌-◌, ◌*◌, ◌≤◌, ◌<◌, ◌≡◌, refl, Bool, true, false, List, [], ◌∷◌, length, Result, Ok, Err}
use Rattle.std.proofs.Common.{arith, subst, ◌∙◌}
use Rattle.std.proofs.Math.Path.{sym, ap}
use Rattle.refusal.specs.Outcome.{Outcome, result, refused, judged, reported}
use Rattle.refusal.specs.Numbers.{number_of, place_of}
use Rattle.refusal.specs.declared.Refusal.{Refusal}
use Rattle.refusal.specs.declared.Refusal.TheVariants.{BadMarks}
use Rattle.recording.proofs.laws.Outcome.{judged_pass, judged_none, judged-first, result_none, refusal_stands}
use Rattle.reply.specs.Reply.{InHalf}
use Rattle.reply.proofs.laws.Place.{plain-place}
use Rattle.grammar.specs.Size.{most_bytes}
use Rattle.grammar.specs.Syntax.{Text}
use Rattle.grammar.specs.inner.Parse.{parsed}
use Rattle.grammar.specs.inner.Table.{tree_at, Falling}
use Rattle.text.specs.Told.{text_lines, nodes_of, Told}
use Rattle.text.proofs.laws.Told.{none_meets, some-node, few}
use Rattle.marks.specs.Marks.{marks_of, marks_line}
use Rattle.question.specs.Question.{the_text, read}
use Rattle.assured.specs.Call.{told, assured_lines, assured_of}
use Rattle.assured.specs.declared.traits.Traits.{Traits}
use Rattle.assured.specs.inner.Test.{is_assured}
use Rattle.assured.specs.inner.Traits.{traits, assured_by}
use Rattle.assured.specs.inner.Verdict.{verdict_of, Judges}
use Rattle.assured.proofs.laws.Traits.{assured_traits}

-- ---- 11, and the verdict

module _ (table : List ℕ) (n : ℕ) (marks : List ℕ) (b : Bool) (e : b ≡ (marks_line marks).meets) where
  pub judge_refused : b ≡ true → Judges table n marks (Err BadMarks)
  judge_refused h = sym (judged-first (marks_line marks) [] _ (sym e ∙ h))

  pub judge_told : b ≡ false → (t : Traits) → t ≡ traits (marks_of marks) (tree_at table (n - 1)) → (r : Bool) → r ≡ assured_by t → Judges table n marks (Ok r)
  judge_told h t f r g =
      ap (λ (a : Bool). result (told a)) (g ∙ ap assured_by f ∙ assured_traits (marks_of marks) (tree_at table (n - 1)))
      ∙ sym (judged_none (marks_line marks ∷ []) _ (sym e ∙ h, tt))

-- ---- the text that is read

module _ (text table : List ℕ) (q : Result ℕ Refusal) (h : Told text table q) where
  pub call_refused : (marks : List ℕ) (x : Refusal) → q ≡ Err x → verdict_of (Err x) ≡ assured_of text marks
  unfolding assured_of
  call_refused marks x e =
      sym (refusal_stands (text_lines text) (marks_line marks ∷ []) (nodes_of (parsed text)) _ (number_of x) (place_of x) (sym h.outcome ∙ ap reported e))

  module _ (n : ℕ) (e : q ≡ Ok n) where
    was_read : Told text table (Ok n)
    was_read = subst (Told text table) e h

    pub call_ready : 4 * most_bytes ≤ length table → Falling table n × (4 * n ≤ length table) × (0 < n)
    call_ready l = let m = few text table n was_read in ((h.tabled n e).falling, omega arith, some-node text table n was_read)

    pub call_judged : (marks : List ℕ) (v : Result Bool Refusal) → Judges table n marks v → verdict_of v ≡ assured_of text marks
    unfolding assured_of
    call_judged marks v j =
        let same : tree_at table (n - 1) ≡ read text = ap the_text (sym (h.tabled n e).reads) in
        j ∙ ap (λ (t : Text). judged (marks_line marks ∷ []) (told (is_assured (marks_of marks) t))) same
        ∙ sym (judged_pass (text_lines text) (marks_line marks ∷ []) _ (none_meets text table n was_read))

-- ---- what is returned

-- 1, 0 or a place, which is 0, fits in the low half
pub assured_in_half : (text marks : List ℕ) → InHalf (assured_of text marks)
unfolding assured_of
assured_in_half text marks = go (assured_of text marks) refl
  where
    yes : Bool
    yes = is_assured (marks_of marks) (read text)

    least : (b : Bool) (n : ℕ) → told b ≡ n → n ≤ 1
    least true n e = omega arith
    least false n e = omega arith

    go : (o : Outcome ℕ) → assured_of text marks ≡ o → InHalf o
    go (result n) e = omega (arith, least yes n (result_none (assured_lines text marks) (told yes) n e).1)
    go (refused n p) e = omega (arith, plain-place (assured_lines text marks) (told yes) n p (refl, (refl, (refl, (refl, tt)))) e)
