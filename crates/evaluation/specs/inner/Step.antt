-- Document 01: the value of a node, worked out from its children at this and the next record, and for F, G, U and W also from its own value at the next.
-- By the kinds of the node table; `last` says that this is the last record.
use Rattle.std.specs.Prelude.{ℕ, ◌-◌, Bool, not, cond, ◌||◌, ◌&&◌, [], ◌∷◌, get_or}
use Rattle.grammar.specs.inner.Table.{unary_from, binary_from}

-- `!`, X, F, G: p is the child, own the node at the next record, old the child at the next record
abbrev pub unary_of : ℕ → Bool → Bool → Bool → Bool → Bool
unary_of kind last p own old = get_or (not p ∷ cond last p old ∷ cond last p (p || own) ∷ cond last p (p && own) ∷ []) (kind - unary_from) p

-- `|`, `&`, U, W: p and q are the children, own the node at the next record
abbrev pub binary_of : ℕ → Bool → Bool → Bool → Bool → Bool
binary_of kind last p q own =
    get_or ((p || q) ∷ (p && q) ∷ cond last q (q || (p && own)) ∷ cond last (p || q) (q || (p && own)) ∷ []) (kind - binary_from) p
