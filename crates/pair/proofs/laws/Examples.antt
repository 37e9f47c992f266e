-- Worked examples of the first pair: tops at 10, 20, 40 and 50.
use Rattle.std.specs.Prelude.{ℕ, ◌≡◌, refl, List, [], ◌∷◌, pos, negsuc}
use Rattle.pair.specs.Pair.{times, none, pairs_of, first_apart}

abbrev tops : List ℕ
tops = 10 ∷ 20 ∷ 40 ∷ 50 ∷ []

-- 10 and 40, not 20 and 50
pub thirty_apart : first_apart (pos 30) (pairs_of tops) ≡ times 10 40
thirty_apart = refl

-- 10 and 20, not 40 and 50
pub ten_apart : first_apart (pos 10) (pairs_of tops) ≡ times 10 20
ten_apart = refl

-- the only pair, from the second top to the third
pub twenty_apart : first_apart (pos 20) (pairs_of tops) ≡ times 20 40
twenty_apart = refl

pub five_apart : first_apart (pos 5) (pairs_of tops) ≡ none
five_apart = refl

-- no top is a pair with itself, nor with an earlier one: -10
pub none_at_zero : first_apart (pos 0) (pairs_of tops) ≡ none
none_at_zero = refl

pub none_below_zero : first_apart (negsuc 9) (pairs_of tops) ≡ none
none_below_zero = refl
