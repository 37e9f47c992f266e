-- What p and r share always fits into the room for it.
use mathlib.Core.Path.{◌≡◌, refl, sym, ap, ap₂, subst, ◌∙◌}
use native.Mathlib.Omega.{arith}
use mathlib.Core.Bool.{Bool, ◌||◌, ◌&&◌}
use mathlib.Core.List.{List}
use Prim.Native.Nat.{ℕ, ◌+◌, ◌≤◌}
use lib.ListN.{length, take, length-take}
use lib.Seq.{length-take-le}
use Rattle.runs.specs.Set.{cuts_of, inside, member, shared_words, Canonical, Valid, Makes}
use Rattle.runs.specs.declared.TooManyRuns.{TooManyRuns}
use Rattle.std.specs.Prelude.{Result, Some}
use Rattle.std.specs.Option.{IsSome}
use Rattle.runs.proofs.laws.Set.{cuts-length, valid_short, makes_ext, makes_beside, makes_failed}
use Rattle.merge.proofs.laws.Made.{shared-fits, shared_there, shared-short, shared_canonical, shared-members}
use Rattle.runset.proofs.RunSet.or_and.Goals.{After-merge}
use Rattle.runset.proofs.RunSet.or_and.Goals as goal

few : (a b : List ℕ) → Valid a → Valid b → (p r : List ℕ) → cuts_of a ≡ p → cuts_of b ≡ r → length p + length r ≤ shared_words
few a b v w p r e g =
    let x : length p ≡ _ = ap length (sym e) ∙ cuts-length a v in
    let y : length r ≡ _ = ap length (sym g) ∙ cuts-length b w in
    omega (arith, v.few, w.few)

pub merge-requires : goal.merge-requires
merge-requires c =
    let p = sym c.cuts_of.ensures in
    let r = sym c.cuts_of-2.ensures in (
      subst Canonical p c.requires.1.canonical,
      subst Canonical r c.requires.2.canonical,
      subst (λ (l : List ℕ). length l ≤ shared_words) p (valid_short c.args.p.now c.requires.1),
      subst (λ (l : List ℕ). length l ≤ shared_words) r (valid_short c.args.r.now c.requires.2),
      omega (arith, c.requires.3),
    )

-- what p and r share has room, and what is written is its cuts
module _ (c : After-merge) where
  abbrev p : cuts_of c.args.p.now ≡ c.cuts_of.result.now
  p = sym c.cuts_of.ensures

  abbrev r : cuts_of c.args.r.now ≡ c.cuts_of-2.result.now
  r = sym c.cuts_of-2.ensures

  fits : IsSome c.merge.result
  fits =
      shared-fits _ _ c.args.shared.now c.merge.new.out (subst Canonical p c.requires.1.canonical) (subst Canonical r c.requires.2.canonical)
      (few _ _ c.requires.1 c.requires.2 _ _ p r) c.requires.3 _ c.merge.ensures

  module _ (n : ℕ) (e : c.merge.result ≡ Some n) where
    there : n ≤ length c.merge.new.out
    there =
        shared_there _ _ c.args.shared.now c.merge.new.out (subst Canonical p c.requires.1.canonical) (subst Canonical r c.requires.2.canonical)
        (few _ _ c.requires.1 c.requires.2 _ _ p r) c.requires.3 n (rw e at c.merge.ensures)

    short : n ≤ shared_words
    short =
        shared-short _ _ c.args.shared.now c.merge.new.out (subst Canonical p c.requires.1.canonical) (subst Canonical r c.requires.2.canonical)
        (few _ _ c.requires.1 c.requires.2 _ _ p r) c.requires.3 n (rw e at c.merge.ensures)

    canonical : Canonical (take n c.merge.new.out)
    canonical =
        shared_canonical _ _ c.args.shared.now c.merge.new.out (subst Canonical p c.requires.1.canonical) (subst Canonical r c.requires.2.canonical)
        (few _ _ c.requires.1 c.requires.2 _ _ p r) c.requires.3 n (rw e at c.merge.ensures)

    members : (v : ℕ) → inside (take n c.merge.new.out) v ≡ (member c.args.p.now v && member c.args.r.now v)
    unfolding member
    members v =
        shared-members _ _ c.args.shared.now c.merge.new.out (subst Canonical p c.requires.1.canonical) (subst Canonical r c.requires.2.canonical)
        (few _ _ c.requires.1 c.requires.2 _ _ p r) c.requires.3 n (rw e at c.merge.ensures) v ∙ (λ i. inside (sym p i) v && inside (sym r i) v)

pub unwrap-n-requires : goal.unwrap-n-requires
unwrap-n-requires c = fits (goal.at.unwrap-n-requires c).After-merge

pub slice_bounds-join-end : goal.slice_bounds-join-end
slice_bounds-join-end c = there (goal.at.slice_bounds-join-end c).After-merge _ c.unwrap-n.ensures

pub slice_bounds-join-end-2 : goal.slice_bounds-join-end-2
slice_bounds-join-end-2 c = sym (length-take-le _ _ (there (goal.at.slice_bounds-join-end-2 c).After-merge _ c.unwrap-n.ensures))

pub join-requires : goal.join-requires
join-requires c =
    let q = sym c.cuts_of-3.ensures in
    let m = (goal.at.join-requires c).After-merge in
    let s = short m _ c.unwrap-n.ensures in (
      subst Canonical q c.requires.0.canonical,
      canonical m _ c.unwrap-n.ensures,
      subst (λ (l : List ℕ). length l ≤ shared_words) q (valid_short c.args.q.now c.requires.0),
      simp length-take (omega arith),
      c.requires.4,
    )

-- the members, by those of the joined lists
made : {A : Type 0} (q k : List ℕ) (f : ℕ → Bool) (words : List ℕ) (r : Result A TooManyRuns) → k ≡ cuts_of q → (l : List ℕ) → ((v : ℕ) → inside l v ≡ f v)
    → Makes (λ v. inside k v || inside l v) words r → Makes (λ v. member q v || f v) words r
unfolding member
made q k f words r e l g m =
    makes_ext (λ v. inside k v || inside l v) _ words r (λ v h. ap₂ (λ (x : List ℕ) (b : Bool). inside x v || b) e (g v)) m

pub returns-in_err-join : goal.returns-in_err-join
returns-in_err-join c =
    makes_failed _ _ _ _
    (made c.args.q.now _ _ _ _ c.cuts_of-3.ensures _ (members (goal.at.returns-in_err-join c).After-merge _ c.unwrap-n.ensures) c.in_err-join.ensures.makes)
    c.from_residual.ensures.0

pub returns : goal.returns
returns c =
    makes_beside _ _ refl
    (made c.args.q.now _ _ _ _ c.cuts_of-3.ensures _ (members (goal.at.returns c).After-merge _ c.unwrap-n.ensures) c.in_ok-join.ensures.makes)
