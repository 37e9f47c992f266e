-- How far a call that read something went, and the rows that hold a tree.
use Rattle.std.specs.Prelude.{◌≡◌, Option, List, ℕ, ◌+◌, ◌≤◌, ◌<◌, length}
use Rattle.std.proofs.Common.{sym, ap, subst, ◌∙◌, arith}
use Rattle.parser.specs.declared.Got.{Got}
use Rattle.grammar.specs.declared.Row.{Row}
use Rattle.grammar.specs.Syntax.{Text}
use Rattle.grammar.specs.inner.Table.{unary_from}
use Rattle.grammar.specs.inner.Parse.{Task, row_text}
use Rattle.parser.specs.inner.Rows.{Same, Laid, leaf, unary, binary, got_upto, Ahead, Parses}

-- how far an answer reads
pub ahead_of : {s : List ℕ} {g : Task} {at n e m : ℕ} {T U : List ℕ} {r : Option Got} → Parses s g at n T U r → r ≡ got_upto e m → (at < e) × (e ≤ length s) × (n < m) × (m + at ≤ n + e)
ahead_of {s} {at = at} {n = n} x p = subst (Ahead (length s) at n) p x.ahead

-- a tree has a row
pub laid_above : {T : List ℕ} {b m : ℕ} {t : Text} → Laid T b m t → b < m
laid_above (leaf l e) = omega arith
laid_above (unary k a c h e) = let x = laid_above h in omega arith
laid_above (binary k a c h g e) = let x = laid_above h in let y = laid_above g in omega arith

-- rows that stay hold the same tree
pub laid_stays : {T U : List ℕ} {b m : ℕ} {t : Text} (n : ℕ) → m ≤ n → Same n T U → Laid T b m t → Laid U b m t
laid_stays {U = U} {b = b} n l x (leaf k e) =
    let r = x.row-at b (omega arith) in
    leaf (subst (λ (y : Row). y.kind < unary_from) (sym r) k) (ap row_text r ∙ e)
laid_stays n l x (unary {m = m} k a c h e) = unary k a c (laid_stays n (omega arith) x h) (x.row-at m (omega arith) ∙ e)
laid_stays n l x (binary {m = m} {n = j} k a c h g e) =
    let y = laid_above g in
    binary k a c (laid_stays n (omega arith) x h) (laid_stays n (omega arith) x g) (x.row-at j (omega arith) ∙ e)
