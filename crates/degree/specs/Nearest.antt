-- Document 01, "Degree and pair": what a value says of a recording. Numbers of the axis are given by their indices.
use Rattle.std.specs.Prelude.{ℕ, ◌≤◌, ◌<◌, ◌≡◌, List}
use Rattle.number.specs.Axis.{axis, whole}
use Rattle.recording.specs.Reading.{Reading}
use Rattle.recording.specs.Recording.{readings}
use Rattle.grammar.specs.Syntax.{Text}
use Rattle.grammar.specs.Grammar.{ReadsWhole}
use Rattle.meaning.specs.Meaning.{Holds}
use Rattle.binary64.specs.Apart.{apart}
use Rattle.binary64.specs.Degree.{distance_of, degree_of}
use Rattle.degree.specs.Degree.{Value, met, short, no_value}

module _ (r : List Reading) (p : Text) where
  -- the text is true at the first record with the number put in
  abbrev pub Member : ℕ → Type 0
  Member n = Holds r (whole n) p 0

  -- d is the least |v − w| over the members w
  pub record Distance (v d : ℕ) : Type 0 where
    pub nearest : ℕ
    pub on-axis : nearest < axis
    pub member : Member nearest
    pub there : apart v nearest ≡ d
    pub least : (w : ℕ) → w < axis → Member w → d ≤ apart v w

  -- met: the target is a member; short: no member is nearer than the distance d, which is not 0, and the floats are d and its degree; no value at all: there
  -- is no member
  abbrev pub TrueOf : ℕ → Value → Type 0
  TrueOf v met = Member v
  TrueOf v (short x k) = (d : ℕ) × (0 < d) × Distance v d × (x ≡ distance_of d) × (k ≡ degree_of d)
  TrueOf v no_value = (w : ℕ) → w < axis → Member w → ⊥

-- DEMAND 2, of a value x that the degree call gives for the number at index v: the text has a reading under the printed rules, and no other, and x says
-- so of that reading
pub record Near (bytes text : List ℕ) (v : ℕ) (x : Value) : Type 0 where
  pub tree : Text
  pub reads : ReadsWhole text tree
  pub only : (t : Text) → ReadsWhole text t → t ≡ tree
  pub says : TrueOf (readings bytes) tree v x
