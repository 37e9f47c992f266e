-- From the row of a leaf to its text.
use Rattle.std.specs.Prelude.{◌≡◌, ℕ, suc, ◌<◌, ◌≤◌, List, ◌≢◌, slice_index_or, refl}
use Rattle.std.proofs.Common.{arith, sym, ap, subst}
use Rattle.recording.specs.Reading.{Event, a_top, a_dip, a_crossing, an_upcrossing}
use Rattle.grammar.specs.Syntax.{Text, listed, lag}
use Rattle.grammar.specs.inner.Table.{leaf_texts}
use Rattle.grammar.specs.declared.Row.{Row}
use Rattle.meaning.specs.inner.Coded.{Coded, coded_times}
use Rattle.meaning.specs.inner.Truth.{among, truth}
use Rattle.leaves.specs.inner.Leaf.{leaf_of, times_of}

-- the text of a leaf of kind k
abbrev pub leaf_at : Row → ℕ → Text
leaf_at r k = slice_index_or (leaf_texts r) k (listed lag)

-- a row of kind k
pub by_kind : (Q : Text → Type 0) (r : Row) (k : ℕ) → r.kind ≡ k → Q (leaf_at r k) → Q (leaf_of r)
by_kind Q r k e = subst Q (ap (leaf_at r) (sym e))

-- past one kind more
pub past : {k : ℕ} (m : ℕ) → m ≤ k → (k ≢ m) → suc m ≤ k
past m h n = omega arith

-- between two
pub just : {k : ℕ} (m : ℕ) → m ≤ k → k < suc m → k ≡ m
just m h l = omega arith

-- the last one left
pub under : {k : ℕ} (m : ℕ) → k < suc m → (k ≢ m) → k < m
under m h n = omega arith

-- ---- questions for the times of an event

pub times_are : (e : Event) (r : List Coded) (n : ℕ) → truth (times_of e) r n ≡ among n (coded_times e r)
unfolding truth
times_are (a_top c) r n = refl
times_are (a_dip c) r n = refl
times_are a_crossing r n = refl
times_are an_upcrossing r n = refl
