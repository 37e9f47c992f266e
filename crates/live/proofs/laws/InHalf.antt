-- What a call of a live run answers can be read off the number that it returns: it fits in the low half, and the number of a refusal is not 0.
use Rattle.std.specs.Prelude.{ℕ, ◌+◌, ◌*◌, ◌<◌, ◌≡◌, refl, Bool, true, false, cond, not, ◌||◌, List, [], ◌∷◌, ◌++◌, length, ltb, eqb}
use Rattle.std.proofs.Common.{arith, sym, ap, subst, ltb-false}
use Rattle.refusal.specs.Outcome.{Outcome, result, refused, Line, line, judged}
use Rattle.recording.specs.Recording.{records, lawful, first_bad, most_records}
use Rattle.recording.specs.Output.{counted, output_line}
use Rattle.recording.proofs.laws.Outcome.{result_none}
use Rattle.marks.specs.Marks.{marks_line}
use Rattle.reply.specs.Reply.{half, InHalf}
use Rattle.reply.proofs.laws.Place.{plain-place}
use Rattle.reply.proofs.laws.Unpacked.{Numbered}
use Rattle.copying.specs.Put.{put}
use Rattle.live_state.specs.Limits.{most_held}
use Rattle.live_state.specs.State.{live_bytes, run_at, read_count, held_count, held_in, run_in, run_stands, no_state, started}
use Rattle.live_state.proofs.laws.State.{is_state}
use Rattle.live.specs.History.{Step, add, save, restore, bad_name, told}
use Rattle.live.specs.Call.{kept_with, grow_lines, add_lines, holding, add_of, save_of, restore_of, start_of, held_of, step_of}
use Rattle.live.proofs.laws.Step.{add_by}
use Rattle.live.proofs.laws.Thinned.{held-length}

-- a reading's place is an index of the run
grow_in_half : (s x : List ℕ) → read_count s 0 < half → InHalf (told (judged (grow_lines s x) (holding s (kept_with s x))))
unfolding judged
grow_in_half s x h =
    at (ltb (first_bad (records (held_in s 0 ++ x))) (held_count s 0)) (not (lawful (records (held_in s 0 ++ x)) (held_count s 0))) (ltb (16 * most_held) (length (kept_with s x)))
  where
    at : (a b c : Bool) → InHalf (told (cond a (refused 11 0) (cond b (refused 3 (read_count s 0)) (cond c (refused 19 0) (result (holding s (kept_with s x)))))))
    at true b c = omega arith
    at false true c = h
    at false false true = omega arith
    at false false false = omega arith

pub add_in_half : (s x : List ℕ) → InHalf (told (add_of s x))
add_in_half s x = by (no_state s) (eqb (length x) 16) (ltb most_records (read_count s 0 + 1)) refl refl refl
  where
    by : (a b c : Bool) → no_state s ≡ a → eqb (length x) 16 ≡ b → ltb most_records (read_count s 0 + 1) ≡ c → InHalf (told (add_of s x))
    by a b c ea eb ec = subst (λ (o : Outcome (List ℕ)). InHalf (told o)) (sym (add_by s x a b c ea eb ec)) (at a b c ec)
      where
        at : (a b c : Bool) → ltb most_records (read_count s 0 + 1) ≡ c
            → InHalf (told (cond a (refused 11 0) (cond (not b) (refused 1 0) (cond c (refused 2 0) (judged (grow_lines s x) (holding s (kept_with s x)))))))
        at true b c e = omega arith
        at false false c e = omega arith
        at false true true e = omega arith
        at false true false e =
            let f = ltb-false most_records (read_count s 0 + 1) e in
            grow_in_half s x (omega arith)

-- the other steps have no place
pub save_in_half : (s : List ℕ) (name : ℕ) → InHalf (told (save_of s name))
unfolding save_of
save_in_half s name = go (save_of s name) refl
  where
    go : (o : Outcome (List ℕ)) → save_of s name ≡ o → InHalf (told o)
    go (result r) e = omega arith
    go (refused n p) e = let z = plain-place _ (put (run_at name) (run_in s 0) s) n p (refl, (refl, tt)) e in omega arith

pub restore_in_half : (s : List ℕ) (name : ℕ) → InHalf (told (restore_of s name))
unfolding restore_of
restore_in_half s name = go (restore_of s name) refl
  where
    go : (o : Outcome (List ℕ)) → restore_of s name ≡ o → InHalf (told o)
    go (result r) e = omega arith
    go (refused n p) e = let z = plain-place _ (put (run_at 0) (run_in s name) s) n p (refl, (refl, tt)) e in omega arith

pub start_in_half : (marks s : List ℕ) → InHalf (told (start_of marks s))
unfolding start_of
start_in_half marks s = go (start_of marks s) refl
  where
    go : (o : Outcome (List ℕ)) → start_of marks s ≡ o → InHalf (told o)
    go (result r) e = omega arith
    go (refused n p) e = let z = plain-place _ (started marks s) n p (refl, (refl, tt)) e in omega arith

-- the bytes of the readings held
pub held_in_half : (s : List ℕ) (room : ℕ) → InHalf (counted (held_of s room))
unfolding held_of
held_in_half s room = go (held_of s room) refl
  where
    go : (o : Outcome (List ℕ)) → held_of s room ≡ o → InHalf (counted o)
    go (refused n p) e = let z = plain-place _ (held_in s 0) n p (refl, (refl, tt)) e in omega arith
    go (result r) e =
        let k = result_none _ (held_in s 0) r e in
        let st = is_state s k.0.0 in
        let l = held-length s st in
        let f = st.few.held in
        let m = ap length k.1 in
        omega arith

pub step_in_half : (s : List ℕ) (t : Step) → InHalf (told (step_of s t))
step_in_half s (add x) = add_in_half s x
step_in_half s (save name) = save_in_half s name
step_in_half s (restore name) = restore_in_half s name

-- ---- the number of a refusal is not 0

AllNumbered : List Line → Type 0
AllNumbered [] = Unit {0}
AllNumbered (l ∷ ls) = (0 < l.number) × AllNumbered ls

judged-numbered : {R : Type 0} (ls : List Line) (r : R) → AllNumbered ls → Numbered (told (judged ls r))
unfolding judged AllNumbered
judged-numbered [] r a = tt
judged-numbered {R} (l ∷ ls) r a = go l.meets (judged-numbered ls r a.1)
  where
    go : (b : Bool) → Numbered (told (judged ls r)) → Numbered (told (cond b (refused l.number l.place) (judged ls r)))
    go true n = a.0
    go false n = n

pub step_numbered : (s : List ℕ) (t : Step) → Numbered (told (step_of s t))
unfolding add_of save_of restore_of AllNumbered
step_numbered s (add x) =
    judged-numbered (add_lines s x) (holding s (kept_with s x)) (omega arith, (omega arith, (omega arith, (omega arith, (omega arith, (omega arith, tt))))))
step_numbered s (save name) = judged-numbered (line 11 (no_state s) ∷ line 18 (bad_name name) ∷ []) (put (run_at name) (run_in s 0) s) (omega arith, (omega arith, tt))
step_numbered s (restore name) =
    judged-numbered (line 11 (no_state s) ∷ line 18 (bad_name name || not (run_stands s name)) ∷ []) (put (run_at 0) (run_in s name) s) (omega arith, (omega arith, tt))

pub start-numbered : (marks s : List ℕ) → Numbered (told (start_of marks s))
unfolding start_of AllNumbered
start-numbered marks s = judged-numbered (marks_line marks ∷ line 10 (ltb (length s) live_bytes) ∷ []) (started marks s) (omega arith, (omega arith, tt))

pub held-numbered : (s : List ℕ) (room : ℕ) → Numbered (counted (held_of s room))
unfolding held_of AllNumbered
held-numbered s room =
    counted-numbered (judged (line 11 (no_state s) ∷ output_line room (held_in s 0) ∷ []) (held_in s 0))
    (judged-numbered (line 11 (no_state s) ∷ output_line room (held_in s 0) ∷ []) (held_in s 0) (omega arith, (omega arith, tt)))
  where
    counted-numbered : (o : Outcome (List ℕ)) → Numbered (told o) → Numbered (counted o)
    counted-numbered (result b) n = tt
    counted-numbered (refused k p) n = n
