-- What two sets share: from its cuts to words that hold a set, and to words that are lent for it.
use Rattle.std.specs.Prelude.{ℕ, ◌+◌, ◌*◌, ◌≤◌, ◌<◌, ◌≡◌, refl, Bool, false, ◌&&◌, List, ◌++◌, length, take, drop, set, Option, Some, None, Ok, Err}
use Rattle.std.proofs.Common.{sym, ap, ap₂, subst, ◌∙◌, true≢false, arith, length-append, length-drop, length-set, length-take-le, take_at, get_or-set_same, le-ltb, ltb-true, ltb-false}
use Rattle.std.proofs.lemmas.List.{take-set-le, take-append-le}
use Rattle.number.specs.Axis.{axis}
use Rattle.runs.specs.Runs.{most_runs}
use Rattle.runs.specs.Set.{slot_words, shared_words, inside, Canonical, Makes}
use Rattle.runs.proofs.laws.Set.{held, holds_makes, too_many}
use Rattle.merge.specs.inner.Merge.{merge_cuts, Merged}
use Rattle.merge.proofs.laws.Merge.{merged_inside, merged_canonical, merge_length}
use Rattle.runs.specs.declared.TooManyRuns.{TooManyRuns}
use Rattle.std.specs.Option.{is_none, IsSome}

-- what two lists of cuts share, its cuts put where there is room for mostRuns runs
module _ (a b before part : List ℕ) (ca : Canonical a) (cb : Canonical b) (size : length before ≡ slot_words) where
  abbrev m : List ℕ
  m = merge_cuts ◌&&◌ false false a b

  abbrev f : ℕ → Bool
  f v = inside a v && inside b v

  members : (v : ℕ) → v < axis → inside m v ≡ f v
  members v h = merged_inside ◌&&◌ refl a b ca cb v

  canonical : Canonical m
  canonical = merged_canonical ◌&&◌ refl a b ca cb

  room : length (take (2 * most_runs) before) ≡ 2 * most_runs
  room = length-take-le (2 * most_runs) before (omega arith)

  -- there is no room for them
  pub shared-over : Merged m (take (2 * most_runs) before) part None → (words : List ℕ) {x : TooManyRuns} → Makes {A = Unit {0}} f words (Err x)
  shared-over r words = too_many f m words canonical members (omega (arith, room, ltb-true (length (take (2 * most_runs) before)) (length m) (sym r.over)))

  -- there is
  module _ (n : ℕ) (r : Merged m (take (2 * most_runs) before) part (Some n)) where
    few : length m ≤ 2 * most_runs
    few = omega (arith, room, ltb-false (length (take (2 * most_runs) before)) (length m) (sym r.over))

    pub shared_few : n ≤ 2 * most_runs
    shared_few = omega (arith, r.count, few)

    pub shared-held : Makes f (set (part ++ drop (2 * most_runs) before) (2 * most_runs) n) (Ok (tt {0}))
    shared-held =
        holds_makes f _
        (held m (set (part ++ drop (2 * most_runs) before) (2 * most_runs) n) canonical few
        (length-set (part ++ drop (2 * most_runs) before) (2 * most_runs) n ∙ whole)
        (get_or-set_same (part ++ drop (2 * most_runs) before) (2 * most_runs) n 0 (omega (arith, whole)) ∙ r.count)
        (take-set-le (length m) (part ++ drop (2 * most_runs) before) (2 * most_runs) n few ∙ take-append-le (length m) part (drop (2 * most_runs) before) (omega (arith, few, long))
        ∙ ap (take (length m)) (r.filled refl) ∙ take_at m _ (length m) refl) f members)
      where
        long : length part ≡ 2 * most_runs
        long = ap length (r.filled refl) ∙ simp (length-append, length-drop) (omega (arith, room, few))

        whole : length (part ++ drop (2 * most_runs) before) ≡ slot_words
        whole = simp (length-append, length-drop) (omega (arith, long))

-- what two sets share, written where there is room for all its cuts
module _ (a b before after : List ℕ) (ca : Canonical a) (cb : Canonical b) (few : length a + length b ≤ shared_words) (room : length before ≡ shared_words) where
  abbrev both : List ℕ
  both = merge_cuts ◌&&◌ false false a b

  short : length both ≤ shared_words
  short = omega (arith, merge_length ◌&&◌ false false a b)

  pub shared-fits : (w : Option ℕ) → Merged both before after w → IsSome w
  shared-fits w r = some w (r.over ∙ le-ltb (length before) (length both) (omega (arith, short)))
    where
      some : (w : Option ℕ) → is_none w ≡ false → IsSome w
      some (Some n) e = refl
      some None e = absurd (true≢false e)

  module _ (n : ℕ) (r : Merged both before after (Some n)) where
    front : take n after ≡ both
    front = ap₂ take r.count (r.filled refl) ∙ take_at both (drop (length both) before) (length both) refl

    pub shared_there : n ≤ length after
    shared_there = omega (arith, r.count, simp length-append at (ap length (r.filled refl)))

    pub shared-short : n ≤ shared_words
    shared-short = omega (arith, r.count, short)

    pub shared_canonical : Canonical (take n after)
    shared_canonical = subst Canonical (sym front) (merged_canonical ◌&&◌ refl a b ca cb)

    pub shared-members : (v : ℕ) → inside (take n after) v ≡ (inside a v && inside b v)
    shared-members v = ap (λ (l : List ℕ). inside l v) front ∙ merged_inside ◌&&◌ refl a b ca cb v
