-- Whether a text is assured, as a test.
use Rattle.std.specs.Prelude.{ℕ, Bool, true, ◌&&◌, ◌||◌, not, List, [], ◌∷◌}
use Rattle.grammar.specs.Size.{temporal, after_times}
use Rattle.grammar.specs.Syntax.{Text}
use Rattle.marks.specs.Marks.{is_mark_index}
use Rattle.assured.specs.Assured.{lasts}

-- each is the index of a mark
abbrev pub all_marked : List ℕ → List ℕ → Bool
all_marked marks [] = true
all_marked marks (k ∷ ks) = is_mark_index marks k && all_marked marks ks

-- `Plain`
abbrev pub plainly : List ℕ → Text → Bool
plainly marks p = not (temporal p) && all_marked marks (after_times p)

-- `Assured`
abbrev pub is_assured : List ℕ → Text → Bool
is_assured marks p = plainly marks p || lasts marks p
