-- A recording whose byte 14 is zero throughout is taken as it was before there were pigments (`as_before`).
use Prim.Native.Nat.{ℕ, suc, ◌/◌, ◌%◌, ◌<◌}
use Rattle.std.proofs.Common.{arith, sym, ◌∙◌, subst, ⊎_elim}
use Rattle.std.proofs.Math.Decide.{dec_lt}
use Rattle.std.specs.Prelude.{◌≡◌, Bool, ◌&&◌, eqb, ltb, length, get_or}
use Rattle.std.proofs.Math.Path.{ap, ap₂, fun_ext}
use Rattle.std.proofs.Math.Bool.{not}
use mathlib.Core.List.Memᴰ
use mathlib.Core.List.{List, [], ◌∷◌, ◌++◌, Memᴰ}
use Rattle.std.proofs.Math.ListN.{get_or-eq_default}
use Rattle.number.specs.Least.{least}
use Rattle.refusal.specs.Outcome.{Line, line, judged}
use Rattle.recording.specs.Reading.{Reading}
use Rattle.recording.specs.Recording.{Raw, records, readings, later, lawful, first_bad, most_records, recording_lines}
use Rattle.recording.specs.Output.{output_line}
use Rattle.recording.proofs.laws.Record.{length-records, get_d_chunks, byte_of}
use Rattle.recording.proofs.laws.Pigment.{Each, NoAdditions, ZeroPigments, zero_fits, no_additions}
use Rattle.kept.proofs.laws.Unpigmented.{limit_unpigmented}
use Rattle.marks.specs.Marks.{marks_of, marks_line}
use Rattle.thin.specs.Thin.{thin_of}
use Rattle.thin.proofs.laws.KeptBytes.{old_kept_bytes}
use Rattle.promises.specs.Lines.{Old}
use Rattle.promises.specs.inner.OldRecordings.{first_bad_before, lines_before, thin_before, AsBefore}

-- by index and from record to record

each_index : (Q : Raw → Type 0) (xs : List Raw) → ((i : ℕ) → i < length xs → Q (get_or xs i [])) → Each Q xs
each_index Q [] h = tt
each_index Q (x ∷ xs) h = (h 0 (omega arith), each_index Q xs (λ i k. h (suc i) (omega arith)))

each_member : (Q : Reading → Type 0) (r : List Reading) → Each Q r → (x : Reading) → Memᴰ x r → Q x
each_member Q [] a x m = absurd (Memᴰ.not-nil m)
each_member Q (y ∷ r) a x m = ⊎_elim (λ e. subst Q (sym e) a.0) (each_member Q r a.1 x) (Memᴰ.cases_cons m)

module _ (recording : List ℕ) (old : Old recording) where
  zero_at : (i : ℕ) → i < length (records recording) → get_or (get_or (records recording) i []) 14 0 ≡ 0
  zero_at i h =
      let l = length-records recording in
      let k : i < length recording / 16 = omega arith in
      ap (λ (x : Raw). get_or x 14 0) (get_d_chunks (length recording / 16) recording i k) ∙ byte_of recording i 14 (omega arith) ∙ old i k

  zero_anywhere : (i : ℕ) → get_or (get_or (records recording) i []) 14 0 ≡ 0
  zero_anywhere i = by (dec_lt i (length (records recording)))
    where
      by : Dec (i < length (records recording)) → get_or (get_or (records recording) i []) 14 0 ≡ 0
      by (yes h) = zero_at i h
      by (no h) = ap (λ (x : Raw). get_or x 14 0) (get_or-eq_default (records recording) [] (omega arith))

  zeros : ZeroPigments (records recording)
  zeros = each_index (λ x. get_or x 14 0 ≡ 0) (records recording) zero_at

  none_added : NoAdditions (readings recording)
  none_added = no_additions (records recording) zeros

  -- the first record out of its rules is the same
  same_first : first_bad (records recording) ≡ first_bad_before (records recording)
  unfolding first_bad lawful
  same_first = ap (λ (f : ℕ → Bool). least f (length (records recording)))
      (fun_ext (λ i. ap (λ (fits : Bool). not (fits && later (records recording) i)) (zero_fits (get_or (records recording) i []) (zero_anywhere i))))

  same_lines : recording_lines recording ≡ lines_before recording
  same_lines = ap (λ (i : ℕ). line 1 (not (eqb (length recording % 16) 0)) ∷ line 2 (ltb most_records (length recording / 16))
      ∷ record { number = 3; place = i; meets = ltb i (length (records recording)) } ∷ []) same_first

  same_thinned : (marks : List ℕ) (room : ℕ) → thin_of recording marks room ≡ thin_before recording marks room
  unfolding thin_of
  same_thinned marks room = ap₂ (λ (ls : List Line) (kept : List ℕ). judged (ls ++ marks_line marks ∷ output_line room kept ∷ []) kept) same_lines
      (old_kept_bytes (marks_of marks) recording zeros)

  pub none_old : (x : Reading) → Memᴰ x (readings recording) → x.pigment ≡ 0
  none_old = each_member (λ x. x.pigment ≡ 0) (readings recording) none_added

  -- OLD RECORDINGS ARE TAKEN AS BEFORE
  pub as_before : AsBefore recording
  as_before = record {
    lines = same_lines;
    thinned = same_thinned;
    limit = λ marks. limit_unpigmented marks (readings recording) none_added;
  }
