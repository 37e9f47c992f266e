-- The replies, by what an operation made.
use Rattle.std.proofs.Common.{◌≡◌, ℕ, ◌*◌, ◌<◌, ◌≤◌, Bool, true, false, cond, not, ◌&&◌, ◌||◌, eqb, ltb, List, ◌++◌, length, drop, sym, refl, ap, ◌∙◌, subst, ap₂, arith, ltb-false, le-ltb, lt-ltb, eq-eqb, ne_eqb, le-leb}
use borrow.Author.Tests.{lt-leb}
use Rattle.number.specs.Axis.{axis}
use Rattle.runs.specs.Runs.{most_runs, run_count, set_bytes}
use Rattle.runs.specs.Distance.{distance}
use Rattle.std.specs.Option.{unwrap_or}
use Rattle.runs.proofs.laws.Distance.{distance_ext, at_distance, nothing-distance}
use Rattle.runs.specs.Set.{member, Makes, nearest_of}
use Rattle.join.specs.inner.Join.{Joins}
use Rattle.std.specs.Result.{is_err}
use Rattle.std.specs.Prelude.{Result, Ok, Option, Some, None}
use Rattle.runs.specs.declared.TooManyRuns.{TooManyRuns}
use Rattle.runs.proofs.laws.Runs.{run_count_ext, set_bytes_ext}
use Rattle.runs.proofs.laws.Set.{makes_ext}
use Rattle.runset_c.specs.Bytes.{chosen, asked, set_of, unfit, unfit_any, reply_of, output_of, member_reply, distance_reply, stores_reply}
use Rattle.runset_c.specs.Promises.{Loaded, Delivered}

-- ---- the operation that is chosen

module _ (op : ℕ) (f g h : ℕ → Bool) (v : ℕ) where
  pub chosen_or : op ≡ 0 → (f v || g v) ≡ chosen op f g h v
  unfolding chosen
  chosen_or e = sym (ap (λ (b : Bool). cond b (f v || g v) (cond (eqb op 1) (f v && g v) (cond (eqb op 2) (not (f v)) (f v || (g v && h v))))) (eq-eqb op 0 e))

  pub chosen_and : op ≡ 1 → (f v && g v) ≡ chosen op f g h v
  unfolding chosen
  chosen_and e =
      sym (ap₂ (λ (a b : Bool). cond a (f v || g v) (cond b (f v && g v) (cond (eqb op 2) (not (f v)) (f v || (g v && h v))))) (ne_eqb op 0 (λ z. omega arith)) (eq-eqb op 1 e))

  pub chosen_not : op ≡ 2 → not (f v) ≡ chosen op f g h v
  unfolding chosen
  chosen_not e =
      sym (ap₂ (λ (a b : Bool). cond a (f v || g v) (cond b (f v && g v) (cond (eqb op 2) (not (f v)) (f v || (g v && h v))))) (ne_eqb op 0 (λ z. omega arith)) (ne_eqb op 1 (λ z. omega arith))
      ∙ ap (λ (b : Bool). cond b (not (f v)) (f v || (g v && h v))) (eq-eqb op 2 e))

  pub chosen_else : (op ≡ 0 → ⊥) → (op ≡ 1 → ⊥) → (op ≡ 2 → ⊥) → (f v || (g v && h v)) ≡ chosen op f g h v
  unfolding chosen
  chosen_else a b c =
      sym (ap₂ (λ (a b : Bool). cond a (f v || g v) (cond b (f v && g v) (cond (eqb op 2) (not (f v)) (f v || (g v && h v))))) (ne_eqb op 0 a) (ne_eqb op 1 b)
      ∙ ap (λ (b : Bool). cond b (not (f v)) (f v || (g v && h v))) (ne_eqb op 2 c))

pub chosen_ext : (op : ℕ) (f g h f' g' h' : ℕ → Bool) (v : ℕ) → f v ≡ f' v → g v ≡ g' v → h v ≡ h' v → chosen op f g h v ≡ chosen op f' g' h' v
unfolding chosen
chosen_ext op f g h f' g' h' v p q r =
    ap₂ (λ (x y : Bool). cond (eqb op 0) (x || y) (cond (eqb op 1) (x && y) (cond (eqb op 2) (not x) (x || (y && h v))))) p q
    ∙ ap (λ (z : Bool). cond (eqb op 0) (f' v || g' v) (cond (eqb op 1) (f' v && g' v) (cond (eqb op 2) (not (f' v)) (f' v || (g' v && z))))) r

-- ---- what is delivered

module _ (f : ℕ → Bool) (words : List ℕ) (made : Result (Unit {0}) TooManyRuns) (k : Makes f words made) where
  reply_over : (room : ℕ) → is_err made ≡ true → reply_of false f room ≡ 4294967294
  unfolding reply_of
  reply_over room o = ap (λ (b : Bool). cond b 4294967294 (cond (ltb room (8 * run_count f)) 4294967293 (run_count f))) (sym k.flag ∙ o)

  no_over : (room : ℕ) → is_err made ≡ false → reply_of false f room ≡ cond (ltb room (8 * run_count f)) 4294967293 (run_count f)
  unfolding reply_of
  no_over room o = ap (λ (b : Bool). cond b 4294967294 (cond (ltb room (8 * run_count f)) 4294967293 (run_count f))) (sym k.flag ∙ o)

  same_count : is_err made ≡ false → run_count (member words) ≡ run_count f
  same_count o = run_count_ext (member words) f (k.holds o).members

  reply_short : (room n : ℕ) → is_err made ≡ false → n ≡ run_count (member words) → room < 8 * n → reply_of false f room ≡ 4294967293
  reply_short room n o e h =
      no_over room o ∙ ap (λ (b : Bool). cond b 4294967293 (run_count f)) (lt-ltb room (8 * run_count f) (let q : n ≡ run_count f = e ∙ same_count o in omega arith))

  reply_count : (room n : ℕ) → is_err made ≡ false → n ≡ run_count (member words) → 8 * n ≤ room → reply_of false f room ≡ n
  reply_count room n o e h =
      let q : n ≡ run_count f = e ∙ same_count o in
      no_over room o ∙ ap (λ (b : Bool). cond b 4294967293 (run_count f)) (le-ltb room (8 * run_count f) (omega arith)) ∙ sym q

  few_runs : is_err made ≡ false → run_count f ≤ most_runs
  few_runs o = ltb-false most_runs (run_count f) (sym k.flag ∙ o)

pub untouched : (refused : Bool) (f : ℕ → Bool) (before : List ℕ) (r : ℕ) → reply_of refused f (length before) ≡ r → 4294967293 ≤ r → before ≡ output_of refused f before
unfolding output_of
untouched refused f before r e h =
    sym (ap (λ (b : Bool). cond b (set_bytes f ++ drop (length (set_bytes f)) before) before) (ap (λ (n : ℕ). ltb n 4294967293) e ∙ le-ltb r 4294967293 h))

put : (f : ℕ → Bool) (before : List ℕ) (r : ℕ) → reply_of false f (length before) ≡ r → r < 4294967293 → set_bytes f ++ drop (length (set_bytes f)) before ≡ output_of false f before
unfolding output_of
put f before r e h =
    sym (ap (λ (b : Bool). cond b (set_bytes f ++ drop (length (set_bytes f)) before) before) (ap (λ (n : ℕ). ltb n 4294967293) e ∙ lt-ltb r 4294967293 h))

pub delivered_over : (words : List ℕ) (made : Result (Unit {0}) TooManyRuns) (out : List ℕ) → is_err made ≡ true → Delivered words made out out 4294967294
delivered_over words made out o =
    record {
      reply = λ f k. sym (reply_over f words made k (length out) o);
      output = λ f k. untouched false f out 4294967294 (reply_over f words made k (length out) o) (omega arith);
    }

pub delivered_short : (words : List ℕ) (made : Result (Unit {0}) TooManyRuns) (out : List ℕ) (n : ℕ) → is_err made ≡ false → n ≡ run_count (member words) → length out < 8 * n → Delivered words made out out 4294967293
delivered_short words made out n o e h =
    record {
      reply = λ f k. sym (reply_short f words made k (length out) n o e h);
      output = λ f k. untouched false f out 4294967293 (reply_short f words made k (length out) n o e h) (omega arith);
    }

pub delivered_set : (words : List ℕ) (made : Result (Unit {0}) TooManyRuns) (before after : List ℕ) (n : ℕ) → is_err made ≡ false → n ≡ run_count (member words) → 8 * n ≤ length before
    → after ≡ set_bytes (member words) ++ drop (length (set_bytes (member words))) before → Delivered words made before after n
delivered_set words made before after n o e h w =
    record {
      reply = λ f k. sym (reply_count f words made k (length before) n o e h);
      output = λ f k.
          w ∙ ap (λ (l : List ℕ). l ++ drop (length l) before) (set_bytes_ext (member words) f (k.holds o).members)
          ∙ put f before n (reply_count f words made k (length before) n o e h) (let q : n ≡ run_count f = e ∙ same_count f words made k o in omega (arith, few_runs f words made k o));
    }

-- ---- bytes that are refused

pub refused_reply : (refused : Bool) (f : ℕ → Bool) (room : ℕ) → refused ≡ true → reply_of refused f room ≡ 4294967295
unfolding reply_of
refused_reply refused f room e =
    ap (λ (b : Bool). cond b 4294967295 (cond (ltb most_runs (run_count f)) 4294967294 (cond (ltb room (8 * run_count f)) 4294967293 (run_count f)))) e

pub refused_both : (refused : Bool) (f : ℕ → Bool) (out : List ℕ) → refused ≡ true → (4294967295 ≡ reply_of refused f (length out)) × (out ≡ output_of refused f out)
refused_both refused f out e = (sym (refused_reply refused f (length out) e), untouched refused f out 4294967295 (refused_reply refused f (length out) e) (omega arith))

-- ---- all three sets are there

-- bytes that were not refused
pub fine : (bytes words : List ℕ) (over : Bool) → Loaded bytes words over → over ≡ false → Loaded bytes words false
fine bytes words over l o = subst (Loaded bytes words) o l

pub asked_is : (op : ℕ) (a b c : List ℕ) (p q r : List ℕ) → Loaded a p false → Loaded b q false → Loaded c r false
    → (v : ℕ) → v < axis → chosen op (member p) (member q) (member r) v ≡ asked op a b c v
asked_is op a b c p q r lp lq lr v h =
    chosen_ext op (member p) (member q) (member r) (set_of a) (set_of b) (set_of c) v ((lp.holds refl).members v h) ((lq.holds refl).members v h) ((lr.holds refl).members v h)

pub made-asked : (op : ℕ) (a b c : List ℕ) (p q r words : List ℕ) (made : Result (Unit {0}) TooManyRuns) → Loaded a p false → Loaded b q false → Loaded c r false
    → Makes (chosen op (member p) (member q) (member r)) words made → Makes (asked op a b c) words made
made-asked op a b c p q r words made lp lq lr k =
    makes_ext (chosen op (member p) (member q) (member r)) (asked op a b c) words made (asked_is op a b c p q r lp lq lr) k

-- one of three that is refused
pub first_refused : (x y z : Bool) → x ≡ true → (x || (y || z)) ≡ true
first_refused x y z e = ap (λ (b : Bool). b || (y || z)) e

pub second_refused : (x y z : Bool) → y ≡ true → (x || (y || z)) ≡ true
second_refused true y z e = refl
second_refused false y z e = ap (λ (b : Bool). b || z) e

pub third_refused : (x y z : Bool) → z ≡ true → (x || (y || z)) ≡ true
third_refused true y z e = refl
third_refused false true z e = refl
third_refused false false z e = e

pub none_refused : (a b c : List ℕ) (p q r : List ℕ) → Loaded a p false → Loaded b q false → Loaded c r false → unfit_any a b c ≡ false
none_refused a b c p q r lp lq lr =
    ap₂ (λ (x y : Bool). x || (y || unfit c)) (sym lp.flag) (sym lq.flag) ∙ sym lr.flag

pub all_delivered : (refused : Bool) (f : ℕ → Bool) (words : List ℕ) (made : Result (Unit {0}) TooManyRuns) (before after : List ℕ) (n : ℕ) → refused ≡ false → Makes f words made → Delivered words made before after n
    → (n ≡ reply_of refused f (length before)) × (after ≡ output_of refused f before)
all_delivered refused f words made before after n e k d =
    (d.reply f k ∙ ap (λ (b : Bool). reply_of b f (length before)) (sym e), d.output f k ∙ ap (λ (b : Bool). output_of b f before) (sym e))

-- ---- one set and a number

module _ (a p : List ℕ) (over : Bool) (l : Loaded a p over) (v : ℕ) where
  refused_is : (b : Bool) → over ≡ b → unfit a ≡ b
  refused_is b o = sym l.flag ∙ o

  pub member_refused : over ≡ true → 2 ≡ member_reply (unfit a) (set_of a) v
  member_refused o = sym (ap (λ (b : Bool). member_reply b (set_of a) v) (refused_is true o))

  pub member_off : over ≡ false → axis ≤ v → 3 ≡ member_reply (unfit a) (set_of a) v
  member_off o h = sym (ap₂ (λ (b c : Bool). cond b 2 (cond c 3 (cond (set_of a v) 1 0))) (refused_is false o) (le-leb axis v h))

  pub member_said : over ≡ false → v < axis → (b : Bool) → b ≡ member p v → cond b 1 0 ≡ member_reply (unfit a) (set_of a) v
  member_said o h b e =
      ap (λ (x : Bool). cond x 1 0) (e ∙ (l.holds o).members v h)
      ∙ sym (ap₂ (λ (b c : Bool). cond b 2 (cond c 3 (cond (set_of a v) 1 0))) (refused_is false o) (lt-leb axis v h))

  pub distance_refused : over ≡ true → 4294967295 ≡ distance_reply (unfit a) (set_of a) v
  distance_refused o = sym (ap (λ (b : Bool). distance_reply b (set_of a) v) (refused_is true o))

  pub distance_off : over ≡ false → axis ≤ v → 4294967294 ≡ distance_reply (unfit a) (set_of a) v
  distance_off o h = sym (ap₂ (λ (b c : Bool). cond b 4294967295 (cond c 4294967294 (distance (set_of a) v))) (refused_is false o) (le-leb axis v h))

  pub distance_said : over ≡ false → v < axis → (d : ℕ) → d ≡ distance (member p) v → d ≡ distance_reply (unfit a) (set_of a) v
  distance_said o h d e =
      e ∙ distance_ext (member p) (set_of a) v h (l.holds o).members
      ∙ sym (ap₂ (λ (b c : Bool). cond b 4294967295 (cond c 4294967294 (distance (set_of a) v))) (refused_is false o) (lt-leb axis v h))

-- the distance of the answer, or the size of the axis
pub distance_or : (f : ℕ → Bool) (v d : ℕ) (r : Option ℕ) → r ≡ nearest_of f v → d ≡ unwrap_or r axis → d ≡ distance f v
distance_or f v d (Some e) p q = q ∙ at_distance f v e p
distance_or f v d None p q = q ∙ sym (nothing-distance f v p)

-- ---- how many runs are stored

pub stores_refused : (refused : Bool) (f : ℕ → Bool) → refused ≡ true → 4294967295 ≡ stores_reply refused f
unfolding stores_reply
stores_refused refused f e = sym (ap (λ (b : Bool). cond b 4294967295 (cond (ltb most_runs (run_count f)) 4294967294 (run_count f))) e)

module _ (a b p q words : List ℕ) (r : Result ℕ TooManyRuns) (lp : Loaded a p false) (lq : Loaded b q false) (j : Joins (λ v. member p v || member q v) words r) where
  abbrev either : ℕ → Bool
  either v = set_of a v || set_of b v

  both_fit : (unfit a || unfit b) ≡ false
  both_fit = ap₂ ◌||◌ (sym lp.flag) (sym lq.flag)

  same_runs : run_count (λ v. member p v || member q v) ≡ run_count either
  same_runs = run_count_ext _ either (λ v h. ap₂ ◌||◌ ((lp.holds refl).members v h) ((lq.holds refl).members v h))

  told : (over : Bool) → is_err r ≡ over → stores_reply (unfit a || unfit b) either ≡ cond over 4294967294 (run_count either)
  unfolding stores_reply
  told over o =
      ap₂ (λ (x y : Bool). cond x 4294967295 (cond y 4294967294 (run_count either))) both_fit (sym (ap (ltb most_runs) same_runs) ∙ sym j.makes.flag ∙ o)

  pub stores_over : is_err r ≡ true → 4294967294 ≡ stores_reply (unfit a || unfit b) either
  stores_over o = sym (told true o)

module _ (a b p q words : List ℕ) (n : ℕ) (lp : Loaded a p false) (lq : Loaded b q false) (j : Joins (λ v. member p v || member q v) words (Ok n)) where
  pub stores_said : n ≡ stores_reply (unfit a || unfit b) (either a b p q words (Ok n) lp lq j)
  stores_said = j.stores ∙ same_runs a b p q words (Ok n) lp lq j ∙ sym (told a b p q words (Ok n) lp lq j false refl)

  pub stores_few : n ≤ most_runs
  stores_few = omega (arith, j.stores, ltb-false most_runs (run_count (λ v. member p v || member q v)) (sym j.makes.flag))
