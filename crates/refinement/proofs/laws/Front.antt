-- The bytes of a state with others, t, behind them: every call answers as without those, and leaves them.
use Prim.Native.Nat.{ℕ, zero, suc, ◌+◌, ◌*◌, ◌/◌, ◌≤◌}
use Rattle.std.proofs.Common.{arith, ◌∙◌, length-append, ltb-true, ltb-false}
use Rattle.std.specs.Prelude.{◌≡◌, Bool, ◌||◌, ◌&&◌, ltb, eqb}
use Rattle.std.proofs.Math.Path.{refl, sym, ap, ap₂}
use Rattle.std.proofs.Math.Bool.{true, false, not, cond}
use mathlib.Core.List.{List, [], ◌∷◌, ◌++◌}
use Rattle.std.proofs.Math.Dec.{leb}
use Rattle.std.proofs.Math.ListN.{length}
use Rattle.std.proofs.lemmas.Bool.{not-false}
use Rattle.number.specs.Words.{word, word_bytes}
use Rattle.number.proofs.laws.Boolean.{none_left, none_right}
use Rattle.refusal.specs.Outcome.{Outcome, result, refused, Line, line, judged, NoneMeets}
use Rattle.recording.specs.Recording.{records, lawful, first_bad, most_records}
use Rattle.marks.specs.Marks.{marks_of, marks_line}
use Rattle.thin.specs.Thin.{kept_bytes}
use Rattle.copying.specs.Put.{part, put}
use Rattle.copying.proofs.laws.Put.{length_part, length-put}
use Rattle.copying.proofs.laws.Within.{part-within, word-within, put-within}
use Rattle.live_state.specs.Limits.{most_moments, most_held}
use Rattle.live_state.specs.State.{signature, live_bytes, most_mark_bytes, run_at, head_of, no_run, marks_in, read_count, held_count, held_in, run_in, run_stands, bad_marks_in, no_state, cleared, started, ended}
use Rattle.live_state.proofs.laws.State.{is_state, stands_few, fine_length, bad_marks_by, ended_by}
use Rattle.live.specs.History.{bad_name, told}
use Rattle.live.specs.Call.{kept_with, add_lines, grow_lines, holding, add_of, save_of, restore_of, start_of, state_after, start_after}
use Rattle.live.proofs.laws.Step.{start_by, good_name}

-- a result with t behind it
abbrev pub followed : (t : List ℕ) → Outcome (List ℕ) → Outcome (List ℕ)
followed t (result s) = result (s ++ t)
followed t (refused n p) = refused n p

-- what a step with this outcome tells, and what it leaves
pub told-followed : (t : List ℕ) (o : Outcome (List ℕ)) → told (followed t o) ≡ told o
told-followed t (result s) = refl
told-followed t (refused n p) = refl

pub after-followed : (s t : List ℕ) (o : Outcome (List ℕ)) → state_after (followed t o) (s ++ t) ≡ state_after o s ++ t
after-followed s t (result u) = refl
after-followed s t (refused n p) = refl

-- the same lines judge both
judged-followed : (t : List ℕ) (ls : List Line) (x y : List ℕ) → (NoneMeets ls → y ≡ x ++ t) → judged ls y ≡ followed t (judged ls x)
unfolding judged
judged-followed t [] x y f = ap result (f tt)
judged-followed t (l ∷ ls) x y f = by l.meets (λ e. judged-followed t ls x y (λ n. f (e, n)))
  where
    by : (b : Bool) → (b ≡ false → judged ls y ≡ followed t (judged ls x))
        → cond b (refused l.number l.place) (judged ls y) ≡ followed t (cond b (refused l.number l.place) (judged ls x))
    by true g = refl
    by false g = g refl

-- a line by itself, and behind it lines that are the same where it is not met
guarded : (t : List ℕ) (n : ℕ) (a b : Bool) → a ≡ b → (ls ms : List Line) (x y : List ℕ) → (b ≡ false → (ls ≡ ms) × (NoneMeets ms → y ≡ x ++ t))
    → judged (line n a ∷ ls) y ≡ followed t (judged (line n b ∷ ms) x)
unfolding judged
guarded t n a true e ls ms x y f = ap (λ (c : Bool). cond c (refused n 0) (judged ls y)) e
guarded t n a false e ls ms x y f =
    ap (λ (c : Bool). cond c (refused n 0) (judged ls y)) e ∙ ap (λ (k : List Line). judged k y) (f refl).0 ∙ judged-followed t ms x y (f refl).1

module _ (s t : List ℕ) (long : length s ≡ live_bytes) where
  count-front : (j : ℕ) → j ≤ most_moments → read_count (s ++ t) j ≡ read_count s j
  count-front j h = word-within s t (run_at j) (omega arith)

  held-front : (j : ℕ) → j ≤ most_moments → held_count (s ++ t) j ≡ held_count s j
  held-front j h = word-within s t (run_at j + 4) (omega arith)

  stands_front : (j : ℕ) → j ≤ most_moments → run_stands (s ++ t) j ≡ run_stands s j
  unfolding run_stands
  stands_front j h = ap₂ (λ (n m : ℕ). leb n most_records && leb m most_held) (count-front j h) (held-front j h)

  marks_front : word s 4 ≤ most_mark_bytes → marks_in (s ++ t) ≡ marks_in s
  marks_front h =
      ap (λ (n : ℕ). part 16 n (s ++ t)) (word-within s t 4 (omega arith)) ∙ part-within s t 16 (word s 4) (omega arith)

  bad_marks_front : bad_marks_in (s ++ t) ≡ bad_marks_in s
  bad_marks_front = by (ltb most_mark_bytes (word s 4)) refl
    where
      first : ltb most_mark_bytes (word (s ++ t) 4) ≡ ltb most_mark_bytes (word s 4)
      first = ap (ltb most_mark_bytes) (word-within s t 4 (omega arith))

      by : (b : Bool) → ltb most_mark_bytes (word s 4) ≡ b → bad_marks_in (s ++ t) ≡ bad_marks_in s
      by true e =
          bad_marks_by (s ++ t) true (marks_line (marks_in (s ++ t))).meets (first ∙ e) refl ∙ sym (bad_marks_by s true (marks_line (marks_in s)).meets e refl)
      by false e =
          bad_marks_by (s ++ t) false (marks_line (marks_in s)).meets (first ∙ e) (ap (λ (m : List ℕ). (marks_line m).meets) (marks_front (ltb-false most_mark_bytes (word s 4) e)))
          ∙ sym (bad_marks_by s false (marks_line (marks_in s)).meets e refl)

  longer : ltb (length (s ++ t)) live_bytes ≡ ltb (length s) live_bytes
  longer = by (ltb (length (s ++ t)) live_bytes) (ltb (length s) live_bytes) refl refl
    where
      l : length (s ++ t) ≡ length s + length t
      l = length-append s t

      by : (a b : Bool) → ltb (length (s ++ t)) live_bytes ≡ a → ltb (length s) live_bytes ≡ b → ltb (length (s ++ t)) live_bytes ≡ ltb (length s) live_bytes
      by true b ea eb = let k = l in absurd (omega (arith, ltb-true (length (s ++ t)) live_bytes ea))
      by false true ea eb = absurd (omega (arith, ltb-true (length s) live_bytes eb))
      by false false ea eb = ea ∙ sym eb

  pub no_state_front : no_state (s ++ t) ≡ no_state s
  unfolding no_state
  no_state_front =
      λ i. longer i || (not (eqb (word-within s t 0 (omega arith) i) signature) || (bad_marks_front i || not (stands_front 0 (omega arith) i)))

  pub held_in_front : no_state s ≡ false → held_in (s ++ t) 0 ≡ held_in s 0
  held_in_front fine =
      let few = (is_state s fine).few.held in
      ap (λ (n : ℕ). part (run_at 0 + 16) (16 * n) (s ++ t)) (held-front 0 (omega arith)) ∙ part-within s t (run_at 0 + 16) (16 * held_count s 0) (omega arith)

  run-front : (j : ℕ) → j ≤ most_moments → held_count s j ≤ most_held → run_in (s ++ t) j ≡ run_in s j
  run-front j h few =
      ap (λ (n : ℕ). part (run_at j) (16 + 16 * n) (s ++ t)) (held-front j h) ∙ part-within s t (run_at j) (16 + 16 * held_count s j) (omega arith)

  -- a reading
  lines-front : (x : List ℕ) → no_state s ≡ false → add_lines (s ++ t) x ≡ add_lines s x
  lines-front x fine =
      let st = is_state s fine in
      λ i. line 11 (no_state_front i) ∷ line 1 (not (eqb (length x) 16)) ∷ line 2 (ltb most_records (count-front 0 (omega arith) i + 1))
      ∷ line 11 (ltb (first_bad (records (held_in_front fine i ++ x))) (held-front 0 (omega arith) i))
      ∷ record { number = 3; place = count-front 0 (omega arith) i; meets = not (lawful (records (held_in_front fine i ++ x)) (held-front 0 (omega arith) i)) }
      ∷ line 19 (ltb (16 * most_held) (length (kept_bytes (marks_of (marks_front st.short_marks i)) (held_in_front fine i ++ x)))) ∷ []

  kept-front : (x : List ℕ) → no_state s ≡ false → kept_with (s ++ t) x ≡ kept_with s x
  kept-front x fine =
      let st = is_state s fine in
      λ i. kept_bytes (marks_of (marks_front st.short_marks i)) (held_in_front fine i ++ x)

  holding-front : (k : List ℕ) → length k ≤ 16 * most_held → holding (s ++ t) k ≡ holding s k ++ t
  holding-front k h =
      let l = length-append (head_of (read_count s 0 + 1) (length k / 16)) k in
      ap (λ (n : ℕ). put (run_at 0) (head_of (n + 1) (length k / 16) ++ k) (s ++ t)) (count-front 0 (omega arith))
      ∙ put-within s t (run_at 0) (head_of (read_count s 0 + 1) (length k / 16) ++ k) (omega arith)

  pub add_front : (x : List ℕ) → add_of (s ++ t) x ≡ followed t (add_of s x)
  unfolding add_of
  add_front x =
      guarded t 11 (no_state (s ++ t)) (no_state s) no_state_front
      (line 1 (not (eqb (length x) 16)) ∷ line 2 (ltb most_records (read_count (s ++ t) 0 + 1)) ∷ grow_lines (s ++ t) x)
      (line 1 (not (eqb (length x) 16)) ∷ line 2 (ltb most_records (read_count s 0 + 1)) ∷ grow_lines s x)
      (holding s (kept_with s x)) (holding (s ++ t) (kept_with (s ++ t) x))
      (λ fine. (
        ap tail (lines-front x fine),
        λ n. ap (holding (s ++ t)) (kept-front x fine) ∙ holding-front (kept_with s x) (ltb-false (16 * most_held) (length (kept_with s x)) n.1.1.1.1.0),
      ))
    where
      tail : List Line → List Line
      tail [] = []
      tail (l ∷ ls) = ls

  -- moments
  pub save_front : (name : ℕ) → save_of (s ++ t) name ≡ followed t (save_of s name)
  unfolding save_of
  save_front name =
      guarded t 11 (no_state (s ++ t)) (no_state s) no_state_front (line 18 (bad_name name) ∷ []) (line 18 (bad_name name) ∷ [])
      (put (run_at name) (run_in s 0) s) (put (run_at name) (run_in (s ++ t) 0) (s ++ t)) (λ fine. (refl, λ n. placed fine n.0))
    where
      placed : no_state s ≡ false → bad_name name ≡ false → put (run_at name) (run_in (s ++ t) 0) (s ++ t) ≡ put (run_at name) (run_in s 0) s ++ t
      placed fine good =
          let few = (is_state s fine).few.held in
          let g = (good_name name good).1 in
          let l = length_part (run_at 0) (16 + 16 * held_count s 0) s (omega arith) in
          ap (λ (x : List ℕ). put (run_at name) x (s ++ t)) (run-front 0 (omega arith) few) ∙ put-within s t (run_at name) (run_in s 0) (omega arith)

  pub restore_front : (name : ℕ) → restore_of (s ++ t) name ≡ followed t (restore_of s name)
  unfolding restore_of
  restore_front name =
      guarded t 11 (no_state (s ++ t)) (no_state s) no_state_front (line 18 (bad_name name || not (run_stands (s ++ t) name)) ∷ [])
      (line 18 (bad_name name || not (run_stands s name)) ∷ []) (put (run_at 0) (run_in s name) s) (put (run_at 0) (run_in (s ++ t) name) (s ++ t))
      (λ fine. (ap (λ (b : Bool). line 18 b ∷ []) (named (bad_name name) refl), λ n. placed n.0))
    where
      named : (b : Bool) → bad_name name ≡ b → (bad_name name || not (run_stands (s ++ t) name)) ≡ (bad_name name || not (run_stands s name))
      named true e = ap (λ (b : Bool). b || not (run_stands (s ++ t) name)) e ∙ sym (ap (λ (b : Bool). b || not (run_stands s name)) e)
      named false e = ap (λ (b : Bool). bad_name name || not b) (stands_front name (good_name name e).1)

      placed : (bad_name name || not (run_stands s name)) ≡ false → put (run_at 0) (run_in (s ++ t) name) (s ++ t) ≡ put (run_at 0) (run_in s name) s ++ t
      placed fine =
          let g = (good_name name (none_left (bad_name name) (not (run_stands s name)) fine)).1 in
          let few = (stands_few s name (not-false (run_stands s name) (none_right (bad_name name) (not (run_stands s name)) fine))).held in
          let l = length_part (run_at name) (16 + 16 * held_count s name) s (omega arith) in
          ap (λ (x : List ℕ). put (run_at 0) x (s ++ t)) (run-front name g few) ∙ put-within s t (run_at 0) (run_in s name) (omega arith)

  -- the start
  cleared-front : (k : ℕ) (u : List ℕ) → k ≤ most_moments → length u ≡ live_bytes → (cleared k (u ++ t) ≡ cleared k u ++ t) × (length (cleared k u) ≡ live_bytes)
  unfolding cleared
  cleared-front zero u h l = (refl, l)
  cleared-front (suc k) u h l =
      let r = cleared-front k u (omega arith) l in
      let m = r.1 in (
        ap (put (run_at (suc k)) (head_of no_run 0)) r.0 ∙ put-within (cleared k u) t (run_at (suc k)) (head_of no_run 0) (omega arith),
        length-put (run_at (suc k)) (head_of no_run 0) (cleared k u) (omega arith) ∙ m,
      )

  started-front : (marks : List ℕ) → (marks_line marks).meets ≡ false → started marks (s ++ t) ≡ started marks s ++ t
  unfolding started
  started-front marks fine =
      let m = fine_length marks fine in
      let s1 : List ℕ = put 0 (word_bytes signature) s in
      let s2 : List ℕ = put 4 (word_bytes (length marks)) s1 in
      let s3 : List ℕ = put 16 marks s2 in
      let s4 : List ℕ = put (run_at 0) (head_of 0 0) s3 in
      let l1 : length s1 ≡ live_bytes = length-put 0 (word_bytes signature) s (omega arith) ∙ long in
      let l2 : length s2 ≡ live_bytes = length-put 4 (word_bytes (length marks)) s1 (omega arith) ∙ l1 in
      let l3 : length s3 ≡ live_bytes = length-put 16 marks s2 (omega arith) ∙ l2 in
      let l4 : length s4 ≡ live_bytes = length-put (run_at 0) (head_of 0 0) s3 (omega arith) ∙ l3 in
      let e1 : put 0 (word_bytes signature) (s ++ t) ≡ s1 ++ t = put-within s t 0 (word_bytes signature) (omega arith) in
      let e2 : put 4 (word_bytes (length marks)) (s1 ++ t) ≡ s2 ++ t = put-within s1 t 4 (word_bytes (length marks)) (omega arith) in
      let e3 : put 16 marks (s2 ++ t) ≡ s3 ++ t = put-within s2 t 16 marks (omega arith) in
      let e4 : put (run_at 0) (head_of 0 0) (s3 ++ t) ≡ s4 ++ t = put-within s3 t (run_at 0) (head_of 0 0) (omega arith) in
      ap (λ (u : List ℕ). cleared most_moments (put (run_at 0) (head_of 0 0) (put 16 marks (put 4 (word_bytes (length marks)) u)))) e1
      ∙ ap (λ (u : List ℕ). cleared most_moments (put (run_at 0) (head_of 0 0) (put 16 marks u))) e2
      ∙ ap (λ (u : List ℕ). cleared most_moments (put (run_at 0) (head_of 0 0) u)) e3 ∙ ap (cleared most_moments) e4
      ∙ (cleared-front most_moments s4 (omega arith) l4).0

  ended-front : ended (s ++ t) ≡ ended s ++ t
  ended-front = by (no_state s) refl
    where
      by : (b : Bool) → no_state s ≡ b → ended (s ++ t) ≡ ended s ++ t
      by true e = ended_by (s ++ t) true (no_state_front ∙ e) ∙ ap (λ (u : List ℕ). u ++ t) (sym (ended_by s true e))
      by false e =
          ended_by (s ++ t) false (no_state_front ∙ e) ∙ put-within s t 0 (word_bytes 0) (omega arith) ∙ ap (λ (u : List ℕ). u ++ t) (sym (ended_by s false e))

  pub start-front : (marks : List ℕ) → (told (start_of marks (s ++ t)) ≡ told (start_of marks s)) × (start_after marks (s ++ t) ≡ start_after marks s ++ t)
  start-front marks = by (marks_line marks).meets (ltb (length s) live_bytes) refl refl
    where
      by : (a b : Bool) → (marks_line marks).meets ≡ a → ltb (length s) live_bytes ≡ b
          → (told (start_of marks (s ++ t)) ≡ told (start_of marks s)) × (start_after marks (s ++ t) ≡ start_after marks s ++ t)
      by true b ea eb =
          let x = start_by (s ++ t) marks true b ea (longer ∙ eb) in
          let y = start_by s marks true b ea eb in
          (ap told (x.0 ∙ sym y.0), x.1 ∙ ended-front ∙ ap (λ (u : List ℕ). u ++ t) (sym y.1))
      by false true ea eb =
          let x = start_by (s ++ t) marks false true ea (longer ∙ eb) in
          let y = start_by s marks false true ea eb in
          (ap told (x.0 ∙ sym y.0), x.1 ∙ ap (λ (u : List ℕ). u ++ t) (sym y.1))
      by false false ea eb =
          let x = start_by (s ++ t) marks false false ea (longer ∙ eb) in
          let y = start_by s marks false false ea eb in
          (ap told x.0 ∙ sym (ap told y.0), x.1 ∙ started-front marks ea ∙ ap (λ (u : List ℕ). u ++ t) (sym y.1))

  -- a line by itself, and what is read out where it is not met
  pub read-front : {R : Type 0} (lines : List ℕ → List Line) (f : List ℕ → R)
      → judged (line 11 (no_state (s ++ t)) ∷ lines (held_in (s ++ t) 0)) (f (held_in (s ++ t) 0)) ≡ judged (line 11 (no_state s) ∷ lines (held_in s 0)) (f (held_in s 0))
  unfolding judged
  read-front {R} lines f = ap (λ (b : Bool). cond b (refused 11 0) (rest (s ++ t))) no_state_front ∙ by (no_state s) refl
    where
      rest : List ℕ → Outcome R
      rest u = judged (lines (held_in u 0)) (f (held_in u 0))

      by : (b : Bool) → no_state s ≡ b → cond (no_state s) (refused 11 0) (rest (s ++ t)) ≡ cond (no_state s) (refused 11 0) (rest s)
      by true e = ap (λ (b : Bool). cond b (refused 11 0) (rest (s ++ t))) e ∙ sym (ap (λ (b : Bool). cond b (refused 11 0) (rest s)) e)
      by false e = ap (λ (h : List ℕ). cond (no_state s) (refused 11 0) (judged (lines h) (f h))) (held_in_front e)
