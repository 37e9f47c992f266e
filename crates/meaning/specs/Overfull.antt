-- Document 01, the table of refusals, numbers 8 and 9: when a text is refused on a recording.
use Rattle.std.specs.Prelude.{ℕ, ◌<◌, ◌≡◌, Bool, true, false, ◌↔◌, length}
use mathlib.Core.List.{List, [], ◌∷◌, Memᴰ}
use Rattle.number.specs.Axis.{axis, whole}
use Rattle.runs.specs.Runs.{run_count, most_runs}
use Rattle.recording.specs.Condition.{pick}
use Rattle.recording.specs.Reading.{Reading, Curve, top}
use Rattle.tops.specs.Tops.{most_tops}
use Rattle.grammar.specs.Size.{temporal}
use Rattle.grammar.specs.Syntax.{Listed, gaps, steps, lag, Text, atom, listed, or, and, neg, finally, globally, next, until, weak_until}
use Rattle.meaning.specs.Meaning.{Holds}

-- the nodes directly below a node
abbrev pub children : Text → List Text
children (atom k) = []
children (listed q) = []
children (or p q) = p ∷ q ∷ []
children (and p q) = p ∷ q ∷ []
children (neg p) = p ∷ []
children (finally p) = p ∷ []
children (globally p) = p ∷ []
children (next p) = p ∷ []
children (until p q) = p ∷ q ∷ []
children (weak_until p q) = p ∷ q ∷ []

-- a node of p: p itself, or a node of one of its children
pub data Node : Text → Text → Type 0 where
  itself : {p : Text} → Node p p
  of_child : {q p c : Text} → Memᴰ c (children p) → Node q c → Node q p

-- f is the set of p at record i: the numbers of the axis with which p holds there
abbrev pub IsSet : (ℕ → Bool) → List Reading → Text → ℕ → Type 0
IsSet f r p i = (n : ℕ) → n < axis → (f n ≡ true) ↔ Holds r (whole n) p i

-- REFUSAL 8: some node's set at some record (without F, G, X, U, W: the first) has over 256 runs
pub record Overfull (r : List Reading) (p : Text) : Type 0 where
  pub node : Text
  pub of_text : Node node p
  pub at : ℕ
  pub inside : at < length r
  pub first : temporal p ≡ false → at ≡ 0
  pub set : ℕ → Bool
  pub is-set : IsSet set r node at
  pub many : most_runs < run_count set

-- the question takes differences between tops of the curve
pub data Differences : Listed → Curve → Type 0 where
  of_gaps : {c : Curve} → Differences (gaps c) c
  of_steps : {c : Curve} → Differences (steps c) c
  of_lag : {c : Curve} → Differences lag c

-- REFUSAL 9: `gaps`, `steps` or `lag` over a curve with more than 256 tops
pub record TooManyTops (r : List Reading) (p : Text) : Type 0 where
  pub question : Listed
  pub of_text : Node (listed question) p
  pub curve : Curve
  pub over : Differences question curve
  pub many : most_tops < length (pick (top curve) r)
