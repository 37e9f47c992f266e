-- What the reader promises, call by call: how far it reads, and which rows of the table hold what it read.
use Rattle.std.specs.Prelude.{ℕ, Option, Some, None, ◌+◌, ◌-◌, ◌*◌, ◌≤◌, ◌<◌, ◌≡◌, List, length}
use Rattle.grammar.specs.declared.Row.{Row}
use Rattle.parser.specs.declared.Got.{Got}
use Rattle.grammar.specs.Syntax.{Text}
use Rattle.grammar.specs.Size.{most_bytes}
use Rattle.grammar.specs.inner.Table.{row, row_at, unary_from, binary_from, kinds}
use Rattle.grammar.specs.inner.Parse.{Joiner, Task, more, argument, row_text, node, Out, got, unread, opened, parse, rank}

-- row n is r, and every other row is as before
pub record Put (before : List ℕ) (n : ℕ) (r : Row) (now : List ℕ) : Type 0 where
  pub here : row_at now n ≡ r
  pub others : (m : ℕ) → (m ≡ n → ⊥) → row_at now m ≡ row_at before m

-- the rows below n are the same
pub record Same (n : ℕ) (before now : List ℕ) : Type 0 where
  pub row-at : (m : ℕ) → m < n → row_at now m ≡ row_at before m

-- the rows from b up to m hold the tree, the root last
pub data Laid (table : List ℕ) : ℕ → ℕ → Text → Type 0 where
  leaf : {b : ℕ} {t : Text} → (row_at table b).kind < unary_from → row_text (row_at table b) ≡ t → Laid table b (b + 1) t
  unary : {b m : ℕ} {p : Text} (k : ℕ) → unary_from ≤ k → k < binary_from → Laid table b m p → row_at table m ≡ row k (m - 1) 0 0 → Laid table b (m + 1) (node k p p)
  binary : {b m n : ℕ} {p q : Text} (k : ℕ) → binary_from ≤ k → k < kinds → Laid table b m p → Laid table m n q → row_at table n ≡ row k (m - 1) (n - 1) 0 → Laid table b (n + 1) (node k p q)

-- at `at`, with n rows made, each node that the text can still have has a row
pub record Room (s table : List ℕ) (at n : ℕ) : Type 0 where
  pub inside : at ≤ length s
  pub short : length s ≤ most_bytes
  pub count : n ≤ at
  pub rows : 4 * length s ≤ length table

-- reading stopped at e, with m rows made
abbrev pub got_upto : ℕ → ℕ → Option Got
got_upto e m = Some (record { end = e; nodes = m })

-- reading stops behind `at` and within the text, with a row made, and no more rows than bytes read
abbrev pub Ahead : ℕ → ℕ → ℕ → Option Got → Type 0
Ahead size at n (Some g) = (at < g.end) × (g.end ≤ size) × (n < g.nodes) × (g.nodes + at ≤ n + g.end)
Ahead size at n None = Unit {0}

-- the same, where it may stop at once
abbrev pub Onward : ℕ → ℕ → ℕ → Option Got → Type 0
Onward size at n (Some g) = (at ≤ g.end) × (g.end ≤ size) × (n ≤ g.nodes) × (g.nodes + at ≤ n + g.end)
Onward size at n None = Unit {0}

-- the same, behind an opening, which is no node before the texts that it holds
abbrev pub Within : ℕ → ℕ → ℕ → Option Got → Type 0
Within size at n (Some g) = (at < g.end) × (g.end ≤ size) × (n < g.nodes) × (g.nodes + at ≤ n + g.end + 1)
Within size at n None = Unit {0}

-- the answer is the computed one, and its tree stands in the rows from b on
abbrev pub Fits : List ℕ → ℕ → Option Got → Out → Type 0
Fits table b (Some g) (got t j) = (g.end ≡ j) × Laid table b g.nodes t
Fits table b (Some g) unread = ⊥
Fits table b None (got t j) = ⊥
Fits table b None unread = Unit {0}

-- what reading the task from `at` answers, with n rows made
pub record Parses (s : List ℕ) (g : Task) (at n : ℕ) (before now : List ℕ) (r : Option Got) : Type 0 where
  pub ahead : Ahead (length s) at n r
  pub same : Same n before now
  pub fits : (f : ℕ) → rank s g < f → Fits now n r (parse s f g)

-- the same of the rest of a chain, whose tree so far stands in the rows from b on
pub record AnswersMore (s : List ℕ) (o : Joiner) (at n : ℕ) (before now : List ℕ) (r : Option Got) : Type 0 where
  pub onward : Onward (length s) at n r
  pub same : Same n before now
  pub fits : (t : Text) (b : ℕ) → Laid before b n t → (f : ℕ) → rank s (more o t at) < f → Fits now b r (parse s f (more o t at))

-- the same of what stands behind an opening of kind k
pub record AnswersOpened (s : List ℕ) (k at n : ℕ) (before now : List ℕ) (r : Option Got) : Type 0 where
  pub within : Within (length s) at n r
  pub same : Same n before now
  pub fits : (f : ℕ) → rank s (argument 41 at) < f → Fits now n r (opened k (λ b j. parse s f (argument b j)) at)
