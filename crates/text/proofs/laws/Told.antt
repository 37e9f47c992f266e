-- What an answer with nodes says: none of 5, 6 and 7 meets the text, the tree is its one reading by the rules, and the nodes are counted.
use Rattle.std.specs.Prelude.{◌≡◌, refl, Bool, true, false, cond, List, [], ◌∷◌, ℕ, ◌-◌, ◌≤◌, ◌<◌, ltb, Ok}
use Rattle.std.proofs.Common.{ap, arith, ltb-false}
use Rattle.number.proofs.laws.Boolean.{none_left}
use Rattle.refusal.specs.Outcome.{result, refused, Line, judged, NoneMeets}
use Rattle.grammar.specs.Size.{nodes, most_nodes, too_deep}
use Rattle.grammar.specs.inner.Table.{tree_at}
use Rattle.grammar.specs.inner.Parse.{parsed}
use Rattle.parser.proofs.laws.Rows.{laid_above}
use Rattle.text.proofs.laws.Table.{held-nodes}
use Rattle.text.specs.Told.{text_lines, nodes_of, Told}

-- a result comes only where no line meets
judged_result : {R : Type 0} (ls : List Line) (r x : R) → result x ≡ judged ls r → NoneMeets ls
unfolding judged
judged_result [] r x e = tt
judged_result (l ∷ ls) r x e = go l.meets refl e (λ g. judged_result ls r x g)
  where
    go : (b : Bool) → l.meets ≡ b → result x ≡ cond b (refused l.number l.place) (judged ls r) → (result x ≡ judged ls r → NoneMeets ls) → (l.meets ≡ false) × NoneMeets ls
    go true q g k = let z : ◌≡◌ {A = ℕ} 0 1 = cc in absurd (omega arith)
    go false q g k = (q, k g)

module _ (s table : List ℕ) (n : ℕ) (h : Told s table (Ok n)) where
  pub none_meets : NoneMeets (text_lines s)
  none_meets = judged_result (text_lines s) (nodes_of (parsed s)) n h.outcome

  pub count : n ≡ nodes (tree_at table (n - 1))
  count = let x = held-nodes (h.tabled n refl).rows in omega arith

  pub some-node : 0 < n
  some-node = laid_above (h.tabled n refl).rows

  pub few : n ≤ most_nodes
  few =
      let x = ap nodes_of (h.tabled n refl).reads in
      let y = count in
      let z = ltb-false most_nodes (nodes_of (parsed s)) (none_left (ltb most_nodes (nodes_of (parsed s))) (too_deep s) none_meets.1.1.0) in
      omega arith
