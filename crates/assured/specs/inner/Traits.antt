-- What code holds of a node to judge a text, found from what it holds of its children: each notion of Assured as a Bool. That these are those of Assured is `traits_are` (laws/Traits).
use Rattle.std.specs.Prelude.{ℕ, Bool, true, false, cond, ◌&&◌, ◌||◌, not, List, eqb, leb}
use Rattle.grammar.specs.Classes.{within}
use Rattle.grammar.specs.Size.{after_time}
use Rattle.grammar.specs.Syntax.{Atom, Text, atom, listed, or, and, neg, finally, globally, next, until, weak_until}
use Rattle.grammar.specs.declared.Row.{Row}
use Rattle.grammar.specs.inner.Kinds.{COMPARE-V, COMPARE, A-TO-B, FALL, RISE, PIGMENT, NOT, NEXT, FINALLY, OR, AND}
use Rattle.grammar.specs.inner.Table.{field_of, relation_of}
use Rattle.marks.specs.Marks.{is_mark_index}
use Rattle.assured.specs.Assured.{is_pigment, of_side, is_side, of_curve, of_time, is_time, is_slope, is_eq, is_bound, is_gt, is_after, writes_v}
use Rattle.assured.specs.inner.Test.{all_marked}
use Rattle.assured.specs.declared.traits.Kind.{Kind}
use Rattle.assured.specs.declared.traits.Traits.{Traits}

-- ---- leaves

-- the kind of an atom
abbrev pub kind : List ℕ → Atom → Kind
kind marks a = record {
  pigment = is_pigment a;
  side = is_side a;
  up = is_time true a;
  down = is_time false a;
  slope = is_slope a;
  bound = is_bound a;
  after = is_after marks a;
  named = writes_v a;
}

-- the same from its row
abbrev pub kind_of : List ℕ → Row → Kind
kind_of marks r = record {
  pigment = eqb r.kind PIGMENT;
  side = eqb r.kind A-TO-B && of_side (relation_of r.second);
  up = leb r.kind COMPARE && (not (of_curve (field_of r.first)) && of_time (relation_of r.second) true);
  down = leb r.kind COMPARE && (not (of_curve (field_of r.first)) && of_time (relation_of r.second) false);
  slope = within FALL RISE r.kind;
  bound = leb r.kind COMPARE && (of_curve (field_of r.first) && not (is_eq (relation_of r.second)));
  after = eqb r.kind COMPARE && (not (of_curve (field_of r.first)) && (is_gt (relation_of r.second) && is_mark_index marks r.number));
  named = eqb r.kind COMPARE-V;
}

abbrev pub atom_traits : Kind → Traits
atom_traits k = record {
  temporal = false;
  marked = true;
  fixed_true = false;
  fixed_false = k.pigment;
  drifts_true = k.side || (k.pigment || k.up);
  drifts_false = k.side || k.down;
  steady = true;
  even = true;
  nameless = not k.named;
  slope = k.slope;
  not_slope = false;
  bound = k.bound;
  after = k.after;
  not_after = false;
  atomic = true;
  somewhere = k.bound;
  throughout = k.bound;
  firstly = true;
}

-- a listed question, whose after-time is marked, or not
abbrev pub listed_traits : Bool → Traits
listed_traits m = record {
  temporal = false;
  marked = m;
  fixed_true = false;
  fixed_false = false;
  drifts_true = false;
  drifts_false = false;
  steady = false;
  even = false;
  nameless = false;
  slope = false;
  not_slope = false;
  bound = false;
  after = false;
  not_after = false;
  atomic = false;
  somewhere = false;
  throughout = false;
  firstly = false;
}

-- ---- operators

-- `|` and `&`, fixed to true (on) or to false (off)
abbrev pub connected : Traits → Traits → (on off somewhere throughout : Bool) → Traits
connected p q on off s t = record {
  temporal = p.temporal || q.temporal;
  marked = p.marked && q.marked;
  fixed_true = on;
  fixed_false = off;
  drifts_true = p.drifts_true && q.drifts_true || off;
  drifts_false = p.drifts_false && q.drifts_false || on;
  steady = p.steady && q.steady;
  even = (not (p.temporal || q.temporal) || ((p.drifts_true && q.drifts_true || off) && (p.drifts_false && q.drifts_false || on) || (on || off))) && (p.even && q.even);
  nameless = p.nameless && q.nameless;
  slope = false;
  not_slope = false;
  bound = false;
  after = false;
  not_after = false;
  atomic = false;
  somewhere = s;
  throughout = t;
  firstly = p.firstly && q.firstly;
}

abbrev pub or_traits : Traits → Traits → Traits
or_traits p q = connected p q (p.fixed_true || q.fixed_true) (p.fixed_false && q.fixed_false) false (p.not_after && q.bound)

abbrev pub and_traits : Traits → Traits → Traits
and_traits p q = connected p q (p.fixed_true && q.fixed_true) (p.fixed_false || q.fixed_false) (p.after && q.bound) false

abbrev pub neg_traits : Traits → Traits
neg_traits p = record {
  temporal = p.temporal;
  marked = p.marked;
  fixed_true = p.fixed_false;
  fixed_false = p.fixed_true;
  drifts_true = p.drifts_false;
  drifts_false = p.drifts_true;
  steady = p.steady;
  even = (not p.temporal || (p.drifts_false && p.drifts_true || (p.fixed_false || p.fixed_true))) && p.even;
  nameless = p.nameless;
  slope = false;
  not_slope = p.slope;
  bound = false;
  after = false;
  not_after = p.after;
  atomic = false;
  somewhere = false;
  throughout = false;
  firstly = p.firstly;
}

-- F, G, X, U and W
abbrev pub temporal_traits : (drifts marked steady even nameless somewhere firstly : Bool) → Traits
temporal_traits d m s e n w f = record {
  temporal = true;
  marked = m;
  fixed_true = false;
  fixed_false = false;
  drifts_true = d;
  drifts_false = d;
  steady = s;
  even = e;
  nameless = n;
  slope = false;
  not_slope = false;
  bound = false;
  after = false;
  not_after = false;
  atomic = false;
  somewhere = w;
  throughout = false;
  firstly = f || s && n;
}

abbrev pub finally_traits : Traits → Traits
finally_traits p = temporal_traits true p.marked (p.steady && p.drifts_true || p.slope) p.even p.nameless false p.somewhere

abbrev pub globally_traits : Traits → Traits
globally_traits p = temporal_traits true p.marked (p.steady && p.drifts_false || p.not_slope) p.even p.nameless p.atomic p.throughout

abbrev pub next_traits : Traits → Traits
next_traits p = temporal_traits false p.marked (p.steady && (p.drifts_true && p.drifts_false)) p.even p.nameless false false

abbrev pub until_traits : Traits → Traits → Traits
until_traits p q = temporal_traits true (p.marked && q.marked)
    ((p.steady && q.steady) && (q.drifts_true && (p.fixed_true || p.drifts_false && q.drifts_false)))
    (p.even && q.even) (p.nameless && q.nameless) false false

-- by the kind of the node
abbrev pub unary_traits : ℕ → Traits → Traits
unary_traits k p = cond (eqb k NOT) (neg_traits p) (cond (eqb k NEXT) (next_traits p) (cond (eqb k FINALLY) (finally_traits p) (globally_traits p)))

abbrev pub binary_traits : ℕ → Traits → Traits → Traits
binary_traits k p q = cond (eqb k OR) (or_traits p q) (cond (eqb k AND) (and_traits p q) (until_traits p q))

-- ---- THE TRAITS OF A TEXT

abbrev pub traits : List ℕ → Text → Traits
traits marks (atom a) = atom_traits (kind marks a)
traits marks (listed q) = listed_traits (all_marked marks (after_time q))
traits marks (or p q) = or_traits (traits marks p) (traits marks q)
traits marks (and p q) = and_traits (traits marks p) (traits marks q)
traits marks (neg p) = neg_traits (traits marks p)
traits marks (finally p) = finally_traits (traits marks p)
traits marks (globally p) = globally_traits (traits marks p)
traits marks (next p) = next_traits (traits marks p)
traits marks (until p q) = until_traits (traits marks p) (traits marks q)
traits marks (weak_until p q) = until_traits (traits marks p) (traits marks q)

-- a text with these traits is assured
abbrev pub assured_by : Traits → Bool
assured_by t = not t.temporal && t.marked || (t.steady && t.even || t.firstly)
