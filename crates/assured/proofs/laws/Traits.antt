-- The traits of a text are what Assured says of it; and those of a node come from its row and from those of its children.
use Rattle.std.specs.Prelude.{ℕ, ◌≡◌, refl, Bool, true, false, ◌&&◌, List, [], ◌∷◌, ◌++◌}
use Rattle.std.proofs.Common.{ap, ap₂, ◌∙◌}
use Rattle.grammar.specs.Size.{temporal, after_times}
use Rattle.grammar.specs.Syntax.{Text, atom, listed, or, and, neg, finally, globally, next, until, weak_until}
use Rattle.marks.specs.Marks.{is_mark_index}
use Rattle.assured.specs.Assured.{is_slope, is_bound, is_after, of_atom, of_not, fixed, drifts, steady, even, nameless, somewhere, throughout, firstly}
use Rattle.assured.specs.declared.traits.Traits.{Traits}
use Rattle.assured.specs.inner.Test.{all_marked, is_assured}
use Rattle.assured.specs.inner.Traits.{or_traits, and_traits, neg_traits, finally_traits, globally_traits, next_traits, until_traits, traits, assured_by}

-- ---- what Assured says of a text, the after-times apart

abbrev described : List ℕ → Bool → Text → Traits
described marks m p = record {
  temporal = temporal p;
  marked = m;
  fixed_true = fixed true p;
  fixed_false = fixed false p;
  drifts_true = drifts true p;
  drifts_false = drifts false p;
  steady = steady p;
  even = even p;
  nameless = nameless p;
  slope = of_atom is_slope p;
  not_slope = of_not is_slope p;
  bound = of_atom is_bound p;
  after = of_atom (is_after marks) p;
  not_after = of_not (is_after marks) p;
  atomic = of_atom (λ a. true) p;
  somewhere = somewhere marks p;
  throughout = throughout marks p;
  firstly = firstly marks p;
}

abbrev whole : List ℕ → Text → Traits
whole marks p = described marks (all_marked marks (after_times p)) p

all_both : (marks ks js : List ℕ) → (all_marked marks ks && all_marked marks js) ≡ all_marked marks (ks ++ js)
all_both marks [] js = refl
all_both marks (k ∷ ks) js = assoc (is_mark_index marks k) (all_marked marks ks) (all_marked marks js) ∙ ap (λ (b : Bool). is_mark_index marks k && b) (all_both marks ks js)
  where
    assoc : (a b c : Bool) → ((a && b) && c) ≡ (a && (b && c))
    assoc true b c = refl
    assoc false b c = refl

-- of two parts
two : (marks : List ℕ) (t p q : Text) (op : Traits → Traits → Traits) → traits marks p ≡ whole marks p → traits marks q ≡ whole marks q
    → op (whole marks p) (whole marks q) ≡ described marks (all_marked marks (after_times p) && all_marked marks (after_times q)) t
    → op (traits marks p) (traits marks q) ≡ described marks (all_marked marks (after_times p ++ after_times q)) t
two marks t p q op f g e = ap₂ op f g ∙ e ∙ ap (λ (m : Bool). described marks m t) (all_both marks (after_times p) (after_times q))

traits_are : (marks : List ℕ) (p : Text) → traits marks p ≡ whole marks p
traits_are marks (atom a) = refl
traits_are marks (listed q) = refl
traits_are marks (or p q) = two marks (or p q) p q or_traits (traits_are marks p) (traits_are marks q) refl
traits_are marks (and p q) = two marks (and p q) p q and_traits (traits_are marks p) (traits_are marks q) refl
traits_are marks (neg p) = ap neg_traits (traits_are marks p)
traits_are marks (finally p) = ap finally_traits (traits_are marks p)
traits_are marks (globally p) = ap globally_traits (traits_are marks p)
traits_are marks (next p) = ap next_traits (traits_are marks p)
traits_are marks (until p q) = two marks (until p q) p q until_traits (traits_are marks p) (traits_are marks q) refl
traits_are marks (weak_until p q) = two marks (weak_until p q) p q until_traits (traits_are marks p) (traits_are marks q) refl

-- THE TEST BY THE TRAITS
pub assured_traits : (marks : List ℕ) (p : Text) → assured_by (traits marks p) ≡ is_assured marks p
assured_traits marks p = ap assured_by (traits_are marks p)
