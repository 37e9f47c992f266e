-- What is kept goes on standing for what is seen.
use Rattle.std.specs.Prelude.{ℕ, ◌+◌, ◌*◌, ◌%◌, ◌≤◌, ◌<◌, ◌≡◌, refl, List, [], ◌++◌, ◌↔◌, length, take, drop}
use Rattle.std.proofs.Common.{sym, ap, subst, ◌∙◌, ⊎_elim, arith, length-append, length-take-le, take_at, drop_at, lt-ltb, le-ltb}
use Rattle.number.proofs.laws.Order.{less_or_not}
use Rattle.page.specs.inner.Puts.{Puts}
use Rattle.page.specs.Intake.{spare, kept_length, StandsFor}

pub kept-over : (blocks n : ℕ) → 16 * blocks < n → kept_length blocks n ≡ 16 * blocks + 16 + n % 16
unfolding kept_length
kept-over blocks n h = rw (lt-ltb (16 * blocks) n h)

pub kept-within : (blocks n : ℕ) → n ≤ 16 * blocks → kept_length blocks n ≡ n
unfolding kept_length
kept-within blocks n h = rw (le-ltb (16 * blocks) n h)

-- past the limit exactly where n is
pub kept_limit : (blocks n : ℕ) → (16 * blocks < kept_length blocks n) ↔ (16 * blocks < n)
kept_limit blocks n = (
  λ l. ⊎_elim (λ h. h) (λ h. omega (arith, kept-within blocks n h)) (less_or_not (16 * blocks) n),
  λ h. omega (arith, kept-over blocks n h),
)

-- before anything is seen
pub stands_empty : (blocks : ℕ) (store : List ℕ) → StandsFor blocks [] store 0
stands_empty blocks store = record { count = sym (kept-within blocks 0 (omega arith)); same = λ h. refl }

-- what is kept has its place in the store
pub kept-fits : (blocks n : ℕ) → kept_length blocks n ≤ 16 * blocks + spare
kept-fits blocks n =
    ⊎_elim (λ h. omega (arith, kept-over blocks n h)) (λ h. omega (arith, kept-within blocks n h)) (less_or_not (16 * blocks) n)

module _ (blocks : ℕ) (seen piece store : List ℕ) (n : ℕ) (stands : StandsFor blocks seen store n) where
  both : length (seen ++ piece) ≡ length seen + length piece
  both = length-append seen piece

  -- past the limit only the length is kept
  pub stands_over : 16 * blocks < n + length piece → StandsFor blocks (seen ++ piece) store (16 * blocks + 16 + (n + length piece) % 16)
  stands_over h =
      record {
        count =
            ⊎_elim
            (λ g. omega (arith, both, stands.count, kept-over blocks (length seen) g, kept-over blocks (length (seen ++ piece)) (omega (arith, both))))
            (λ g. omega (arith, both, stands.count, kept-within blocks (length seen) g, kept-over blocks (length (seen ++ piece)) (omega (arith, both, stands.count, kept-within blocks (length seen) g))))
            (less_or_not (16 * blocks) (length seen));
        same = λ l. absurd (omega (arith, both, stands.count, kept-within blocks (length seen) (omega (arith, both))));
      }

  -- within the limit the piece is kept too
  pub stands_within : (new : List ℕ) (r : ℕ) → n + length piece ≤ 16 * blocks → n ≤ length store → Puts piece store n new r → StandsFor blocks (seen ++ piece) new r
  stands_within new r h room p =
      let within : length seen ≤ 16 * blocks =
      ⊎_elim (λ g. omega (arith, stands.count, kept-over blocks (length seen) g)) (λ g. g) (less_or_not (16 * blocks) (length seen)) in
      let same_count : n ≡ length seen = stands.count ∙ kept-within blocks (length seen) within in
      let reach : length (take n store ++ piece) ≡ r = length-append (take n store) piece ∙ ap (λ (k : ℕ). k + length piece) (length-take-le n store room) ∙ sym p.behind in
      record {
        count = omega (arith, both, p.behind, kept-within blocks (length (seen ++ piece)) (omega (arith, both)));
        same =
            λ l. ap (take r) p.output ∙ take_at (take n store ++ piece) (drop r store) r reach ∙ ap (λ (s : List ℕ). s ++ piece) (stands.same within);
      }

-- past the limit, which the store's length tells
pub intake_over : (blocks : ℕ) (seen piece store : List ℕ) (n limit : ℕ) → 16 * blocks + spare ≡ length store → StandsFor blocks seen store n → limit + spare ≡ length store
    → limit < n + length piece → StandsFor blocks (seen ++ piece) store (limit + 16 + (n + length piece) % 16)
intake_over blocks seen piece store n limit room s e h =
    let is : 16 * blocks ≡ limit = omega arith in
    subst (λ (k : ℕ). StandsFor blocks (seen ++ piece) store (k + 16 + (n + length piece) % 16)) is (stands_over blocks seen piece store n s (omega arith))

-- what is put into a store leaves what lies behind it
pub puts_behind : (piece store : List ℕ) (n : ℕ) (new : List ℕ) (r : ℕ) → n ≤ length store → Puts piece store n new r → drop r new ≡ drop r store
puts_behind piece store n new r room p =
    let reach : length (take n store ++ piece) ≡ r = length-append (take n store) piece ∙ ap (λ (k : ℕ). k + length piece) (length-take-le n store room) ∙ sym p.behind in
    ap (drop r) p.output ∙ drop_at (take n store ++ piece) (drop r store) r reach
