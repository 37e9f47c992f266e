-- The reading of a text, found by computing: one function over what is to be read, with fuel.
use Rattle.std.specs.Prelude.{ℕ, zero, suc, ◌+◌, ◌*◌, ◌-◌, Bool, true, false, Option, Some, None, List, eqb, ltb, length}
use Rattle.grammar.specs.declared.Row.{Row}
use Rattle.grammar.specs.declared.Leaf.{Leaf}
use Rattle.grammar.specs.declared.Leaf.TheVariants.{Node, Open}
use Rattle.grammar.specs.Syntax.{Text, listed, lag}
use Rattle.grammar.specs.Size.{mixed}
use Rattle.grammar.specs.inner.Kinds.{NOT, OR, AND, BRACKET}
use Rattle.grammar.specs.inner.Table.{row, build, binary_from}
use Rattle.grammar.specs.inner.Lexer.{byte, leaf_at}

-- `|` and `&`
pub data Joiner : Type 0 where
  bars ampersands : Joiner

-- the byte of a joiner
abbrev pub sign : Joiner → ℕ
sign bars = 124
sign ampersands = 38

-- what is to be read, and from where
pub data Task : Type 0 where
  -- texts joined by the joiner
  chain : Joiner → ℕ → Task
  -- the text is read, and the joiner may stand here
  more : Joiner → Text → ℕ → Task
  not_at prim_at : ℕ → Task
  -- a whole text, and then the byte
  argument : ℕ → ℕ → Task

-- what a joiner joins
abbrev pub part : Joiner → ℕ → Task
part bars i = chain ampersands i
part ampersands i = not_at i

-- the kind of the node
abbrev pub join_kind : Joiner → ℕ
join_kind bars = OR
join_kind ampersands = AND

-- the tree of a leaf, and that of an operator over its children
abbrev pub row_text : Row → Text
row_text r = build r (listed lag) (listed lag)

abbrev pub node : ℕ → Text → Text → Text
node k p q = build (row k 0 0 0) p q

-- what was read and where reading stopped
pub data Out : Type 0 where
  got : Text → ℕ → Out
  unread : Out

-- what follows a part that was read
abbrev pub after : Out → (Text → ℕ → Out) → Out
after (got t j) k = k t j
after unread k = unread

-- the cases wait, each under its λ, so that computing goes one way only
abbrev pub pick {ℓ} : {A : Type ℓ} → Bool → (Unit {0} → A) → (Unit {0} → A) → A
pick true a b = a tt
pick false a b = b tt

-- behind the opening of kind k: a bracket, one text, or two
abbrev pub opened : ℕ → (ℕ → ℕ → Out) → ℕ → Out
opened k arg i =
    pick (eqb k BRACKET) (λ _. arg 41 i)
    (λ _. pick (ltb k binary_from) (λ _. after (arg 41 i) (λ p j. got (node k p p) j))
    (λ _. after (arg 44 i) (λ p j. after (arg 41 j) (λ q e. got (node k p q) e))))

-- what was read of a leaf, or behind an opening
abbrev pub begun : Option Leaf → (ℕ → ℕ → Out) → Out
begun (Some (Node r j)) arg = got (row_text r) j
begun (Some (Open k j)) arg = opened k arg j
begun None arg = unread

-- the text, if the byte b stands behind it
abbrev pub closed : List ℕ → ℕ → Text → ℕ → Out
closed s b t j = pick (eqb (byte s j) b) (λ _. got t (j + 1)) (λ _. unread)

-- what reading the task gives, with so much fuel
unfoldable pub parse : List ℕ → ℕ → Task → Out
parse s zero g = unread
parse s (suc f) (chain o i) = after (parse s f (part o i)) (λ t j. parse s f (more o t j))
parse s (suc f) (more o t i) =
    pick (eqb (byte s i) (sign o))
    (λ _. after (parse s f (part o (i + 1))) (λ u j. parse s f (more o (node (join_kind o) t u) j)))
    (λ _. got t i)
parse s (suc f) (not_at i) =
    pick (eqb (byte s i) 33)
    (λ _. after (parse s f (not_at (i + 1))) (λ t j. got (node NOT t t) j))
    (λ _. parse s f (prim_at i))
parse s (suc f) (prim_at i) = begun (leaf_at s i) (λ b j. parse s f (argument b j))
parse s (suc f) (argument b i) = after (parse s f (chain bars i)) (closed s b)

-- fuel above this is enough
abbrev pub rank : List ℕ → Task → ℕ
rank s (argument b i) = 5 * (length s - i) + 4
rank s (chain bars i) = 5 * (length s - i) + 3
rank s (chain ampersands i) = 5 * (length s - i) + 2
rank s (not_at i) = 5 * (length s - i) + 1
rank s (prim_at i) = 5 * (length s - i) + 0
rank s (more o t i) = 5 * (length s - i) + 0

-- the reading of a whole text
pub data Parsed : Type 0 where
  one : Text → Parsed
  none : Parsed

-- a listed name beside F, G, X, U or W has no reading
abbrev pub unmixed : Text → Parsed
unmixed t = pick (mixed t) (λ _. none) (λ _. one t)

abbrev pub at_end : List ℕ → Out → Parsed
at_end s (got t j) = pick (eqb j (length s)) (λ _. unmixed t) (λ _. none)
at_end s unread = none

unfoldable pub parsed : List ℕ → Parsed
parsed s = at_end s (parse s (5 * length s + 5) (chain bars 0))
