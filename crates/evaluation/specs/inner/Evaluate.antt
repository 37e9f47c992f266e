-- What an evaluation asks and leaves: the sets of a node, and of the nodes under it, at one record. Two tables have a slot to each node. A node's set lies in one of
-- them, its children's sets in the other; its own set at the next record lies in the other too, for there the two tables have changed places.
use Rattle.std.specs.Prelude.{ℕ, suc, ◌+◌, ◌*◌, ◌<◌, ◌≤◌, ◌≡◌, true, false, List, length, Result}
use Rattle.std.specs.Result.{is_err}
use Rattle.runs.specs.declared.TooManyRuns.{TooManyRuns}
use Rattle.recording.specs.Recording.{Accepted}
use Rattle.runs.specs.Set.{Holds}
use Rattle.grammar.specs.Syntax.{Text}
use Rattle.grammar.specs.Size.{temporal, most_nodes}
use Rattle.grammar.specs.inner.Table.{row_at, unary_from}
use Rattle.grammar.specs.inner.Parse.{node}
use Rattle.parser.specs.inner.Rows.{Laid, leaf, unary, binary}
use Rattle.meaning.specs.inner.Coded.{Coded, coded}
use Rattle.meaning.specs.inner.Truth.{val, over_at, refused9, last_coded}
use Rattle.evaluation.specs.inner.Slots.{slot, Sized}

-- the slot of node n holds the set of the text t at record i
abbrev pub SlotHolds : List Coded → ℕ → Text → ℕ → List ℕ → Type 0
SlotHolds r i t n sets = Holds (λ v. val r v t i) (slot sets n)

-- the sets of the nodes of a text at record i: the root's in `own`, its children's in `other`, and so on by turns
unfoldable pub Stand : {table : List ℕ} {b m : ℕ} {t : Text} → List Coded → ℕ → Laid table b m t → List ℕ → List ℕ → Type 0
Stand r i (leaf {b} {t} l e) own other = SlotHolds r i t b own
Stand r i (unary {b} {m} {p} k l h child e) own other = SlotHolds r i (node k p p) m own × Stand r i child other own
Stand r i (binary {b} {m} {n} {p} {q} k l h first second e) own other =
    SlotHolds r i (node k p q) n own × Stand r i first other own × Stand r i second other own

-- what an evaluation of a text at record i asks of the recording and of the tables
pub record Fit {table : List ℕ} {b m : ℕ} {t : Text} (rec : List ℕ) (i : ℕ) (laid : Laid table b m t) (own other : List ℕ) : Type 0 where
  pub rows : 4 * m ≤ length table
  pub few : m ≤ most_nodes
  pub own_sized : Sized own
  pub other_sized : Sized other
  pub accepted : Accepted rec
  pub index : i < length (coded rec)
  pub few_tops : refused9 (coded rec) t ≡ false
  pub ready : i < last_coded (coded rec) → temporal t ≡ true → Stand (coded rec) (suc i) laid other own

-- node n is the root of a text that is laid in rows, and it can be evaluated
pub record Evaluable (table rec : List ℕ) (i n : ℕ) (own other : List ℕ) : Type 0 where
  pub base : ℕ
  pub end : ℕ
  pub text : Text
  pub laid : Laid table base end text
  pub root : end ≡ n + 1
  pub fit : Fit rec i laid own other

-- node n is no leaf
abbrev pub HasChild : List ℕ → ℕ → Type 0
HasChild table n = unary_from ≤ (row_at table n).kind

-- what is left where nothing has too many runs: the sets of the text; every slot of another node, and the root's in `other`, is as it was
pub record Evaluated {table : List ℕ} {b m : ℕ} {t : Text} (r : List Coded) (i : ℕ) (laid : Laid table b m t) (own other own' other' : List ℕ) : Type 0 where
  pub stand : Stand r i laid own' other'
  pub small : over_at r t i ≡ false
  pub own_kept : (k : ℕ) → (b ≤ k → m ≤ k) → slot own' k ≡ slot own k
  pub other-kept : (k : ℕ) → (b ≤ k → m ≤ k + 1) → slot other' k ≡ slot other k

pub record NodeOutcome {table : List ℕ} {b m : ℕ} {t : Text} (r : List Coded) (i : ℕ) (laid : Laid table b m t) (own other own' other' : List ℕ) (over : Result (Unit {0}) TooManyRuns) : Type 0 where
  pub good : is_err over ≡ false → Evaluated r i laid own other own' other'
  pub bad : is_err over ≡ true → over_at r t i ≡ true

-- WHAT THE EVALUATION OF NODE n PROMISES
abbrev pub NodePromise : List ℕ → List ℕ → ℕ → ℕ → List ℕ → List ℕ → List ℕ → List ℕ → Result (Unit {0}) TooManyRuns → Type 0
NodePromise table rec i n own other own' other' over =
    (b m : ℕ) (t : Text) (laid : Laid table b m t) → m ≡ n + 1 → Fit rec i laid own other → NodeOutcome (coded rec) i laid own other own' other' over
