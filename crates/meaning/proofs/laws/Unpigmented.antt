-- A text that writes neither `P` nor `dose` means the same of a recording whose pigments are taken away.
use Rattle.std.specs.Prelude.{refl, List, map}
use Rattle.recording.specs.Reading.{Reading, A, B}
use Rattle.grammar.specs.Syntax.{Text}
use Rattle.meaning.specs.Named.{Channel, curve, additions, Names, SameChannel, Agree, SameMeaning}
use Rattle.meaning.specs.Unpigmented.{bare, Unpigmented}
use Rattle.meaning.proofs.laws.Named.{map_agreeing, agreeing_same}

-- taking the pigment away changes nothing else
bare_agrees : (N : Channel → Type 0) → ¬ N additions → (x : Reading) → Agree N x (bare x)
bare_agrees N h x = record { time = refl; same = same }
  where
    same : (n : Channel) → N n → SameChannel n x (bare x)
    same (curve A) k = (refl, refl)
    same (curve B) k = (refl, refl)
    same additions k = absurd (h k)

-- A TEXT WITHOUT `P` AND `dose` MEANS WHAT IT MEANT
pub unpigmented_same : (r : List Reading) (p : Text) → Unpigmented p → SameMeaning r (map bare r) p
unpigmented_same r p h = agreeing_same (map_agreeing (Names p) bare (bare_agrees (Names p) h) r) p (λ n k. k)
