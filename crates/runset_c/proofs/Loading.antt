-- A set read from bytes, run by run.
use Rattle.std.proofs.Common.{◌≡◌, ℕ, zero, suc, ◌+◌, ◌-◌, ◌*◌, ◌/◌, ◌<◌, ◌≤◌, min, Bool, true, false, cond, ◌&&◌, ◌||◌, ltb, leb, List, length, sym, refl, ap, ◌∙◌, ap₂, true≢false, add-one, arith, le-ltb, lt-ltb, le-leb}
use borrow.Author.Tests.{lt-leb}
use Rattle.number.specs.Axis.{axis}
use Rattle.number.specs.Words.{word, offset_binary}
use Rattle.runs.specs.Runs.{most_runs, run_count}
use Rattle.std.specs.Result.{is_err}
use Rattle.std.specs.Prelude.{Result, Ok, Err}
use Rattle.runs.specs.declared.TooManyRuns.{TooManyRuns}
use Rattle.runs.specs.Set.{member, Holds, Makes}
use Rattle.runs.proofs.laws.Runs.{run_count_ext}
use Rattle.runs.proofs.laws.Set.{holds_ext, makes_ext}
use Rattle.runset_c.specs.Bytes.{index_at, in_runs, unfit_runs, set_of}
use Rattle.runset_c.specs.Promises.{Extended, Loaded}

-- ---- an index

module _ (bytes : List ℕ) (at t : ℕ) (e : t ≡ offset_binary (word bytes at)) where
  pub index_below : t < 147483648 → axis ≡ index_at bytes at
  unfolding index_at
  index_below h = sym (ap (λ (b : Bool). cond b axis (min (offset_binary (word bytes at) - 147483648) axis)) (lt-ltb (offset_binary (word bytes at)) 147483648 (omega arith)))

  pub index-from : 147483648 ≤ t → min (t - 147483648) axis ≡ index_at bytes at
  unfolding index_at
  index-from h = ap (λ (k : ℕ). min (k - 147483648) axis) e ∙ sym (ap (λ (b : Bool). cond b axis (min (offset_binary (word bytes at) - 147483648) axis)) (le-ltb (offset_binary (word bytes at)) 147483648 (omega arith)))

-- ---- one more run

pub extended : (s t words : List ℕ) (low high : ℕ) (made : Result (Unit {0}) TooManyRuns) → high < axis → Holds (λ v. leb low v && leb v high) t
    → Makes (λ v. member s v || member t v) words made → Extended s low high words (is_err made)
extended s t words low high made h r k =
    let e = makes_ext (λ v. member s v || member t v) (λ v. member s v || (leb low v && leb v high)) words made (λ v g. ap (λ (b : Bool). member s v || b) (r.members v g)) k in
    record {
      flag = e.flag ∙ sym (ap (λ (b : Bool). b || ltb most_runs (run_count (λ v. member s v || (leb low v && leb v high)))) (lt-leb axis high h));
      holds = e.holds;
    }

-- too many runs, whatever the words are then
pub extended_over : (s t next words : List ℕ) (low high : ℕ) {x : TooManyRuns} → high < axis → Holds (λ v. leb low v && leb v high) t
    → Makes {A = Unit {0}} (λ v. member s v || member t v) next (Err x) → Extended s low high words true
extended_over s t next words low high h r k =
    record { flag = (extended s t next low high _ h r k).flag; holds = λ z. absurd (true≢false z) }

-- the set is copied
pub extended_copy : (s t next words : List ℕ) (low high : ℕ) → high < axis → Holds (λ v. leb low v && leb v high) t
    → Makes (λ v. member s v || member t v) next (Ok (tt {0})) → Holds (member next) words → Extended s low high words false
extended_copy s t next words low high h r k c =
    let e = extended s t next low high _ h r k in
    record { flag = e.flag; holds = λ z. holds_ext (member next) (λ v. member s v || (leb low v && leb v high)) words (e.holds refl).members c }

pub off-axis : (s words : List ℕ) (low high : ℕ) → axis ≤ high → Extended s low high words true
off-axis s words low high h =
    record {
      flag = sym (ap (λ (b : Bool). b || ltb most_runs (run_count (λ v. member s v || (leb low v && leb v high)))) (le-leb axis high h));
      holds = λ z. absurd (true≢false z);
    }

-- ---- the first runs

pub no_runs : (bytes s : List ℕ) → Holds (λ v. false) s → (unfit_runs bytes 0 ≡ false) × Holds (in_runs bytes 0) s
unfolding unfit_runs in_runs
no_runs bytes s r = (refl, record { valid = r.valid; members = r.members })

module _ (bytes : List ℕ) (k low high : ℕ) (s words : List ℕ) (over : Bool) (fit : unfit_runs bytes k ≡ false) (r : Holds (in_runs bytes k) s)
    (el : low ≡ index_at bytes (8 * k)) (eh : high ≡ index_at bytes (8 * k + 4)) (x : Extended s low high words over) where
  joined : (v : ℕ) → v < axis → (member s v || (leb low v && leb v high)) ≡ in_runs bytes (k + 1) v
  unfolding in_runs
  joined v h =
      ap₂ (λ (a b : ℕ). member s v || (leb a v && leb v b)) el eh ∙ ap (λ (b : Bool). b || (leb (index_at bytes (8 * k)) v && leb v (index_at bytes (8 * k + 4)))) (r.members v h)
      ∙ ap (λ (n : ℕ). in_runs bytes n v) (sym (add-one k))

  pub next-over : over ≡ unfit_runs bytes (k + 1)
  unfolding unfit_runs
  next-over =
      x.flag
      ∙ ap₂ (λ (a : ℕ) (b : ℕ). leb axis a || ltb most_runs b) eh
      (run_count_ext (λ v. member s v || (leb low v && leb v high)) (in_runs bytes (k + 1)) joined ∙ ap (λ (n : ℕ). run_count (in_runs bytes n)) (add-one k))
      ∙ sym (ap (unfit_runs bytes) (add-one k) ∙ ap (λ (b : Bool). b || (leb axis (index_at bytes (8 * k + 4)) || ltb most_runs (run_count (in_runs bytes (suc k))))) fit)

  pub next_runs : over ≡ false → Holds (in_runs bytes (k + 1)) words
  next_runs o = holds_ext (λ v. member s v || (leb low v && leb v high)) (in_runs bytes (k + 1)) words joined (x.holds o)

-- unfit once, unfit for good
stays : (bytes : List ℕ) (k d : ℕ) → unfit_runs bytes k ≡ true → unfit_runs bytes (k + d) ≡ true
unfolding unfit_runs
stays bytes k zero e = let q : k + 0 ≡ k = omega arith in ap (unfit_runs bytes) q ∙ e
stays bytes k (suc d) e =
    let q : k + suc d ≡ suc (k + d) = omega arith in
    ap (unfit_runs bytes) q ∙ ap (λ (b : Bool). b || (leb axis (index_at bytes (8 * (k + d) + 4)) || ltb most_runs (run_count (in_runs bytes (suc (k + d)))))) (stays bytes k d e)

pub loaded_over : (bytes : List ℕ) (k : ℕ) (words : List ℕ) → k ≤ length bytes / 8 → true ≡ unfit_runs bytes k → Loaded bytes words true
loaded_over bytes k words h e =
    let q : k + (length bytes / 8 - k) ≡ length bytes / 8 = omega arith in
    record {
      flag = sym (ap (unfit_runs bytes) (sym q) ∙ stays bytes k (length bytes / 8 - k) (sym e));
      holds = λ z. absurd (true≢false z);
    }

pub loaded_all : (bytes : List ℕ) (k : ℕ) (words : List ℕ) → k ≡ length bytes / 8 → unfit_runs bytes k ≡ false → Holds (in_runs bytes k) words
    → Loaded bytes words false
loaded_all bytes k words q u r =
    record {
      flag = sym (ap (unfit_runs bytes) (sym q) ∙ u);
      holds = λ z. holds_ext (in_runs bytes k) (set_of bytes) words (λ v h. ap (λ (n : ℕ). in_runs bytes n v) q) r;
    }
